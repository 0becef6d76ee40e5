-- The two laws of a message's bytes, for the clauses of `decode`.
use Rattle.std.proofs.Common.{◌≡◌, true, List, [], ◌++◌, ℕ, length, Result, Ok, Err, refl, sym, ap, subst, ◌∙◌}
use Rattle.std.specs.Prelude.{◌==◌, IfOk}
use Rattle.std.proofs.lemmas.Bool.{eqb-true}
use Rattle.std.proofs.lemmas.List.{append-nil, nil_from_length}
use Rattle.tp_base.specs.Fields.{IsBytes, left}
use Rattle.tp_text.specs.Steps.{◌>>=◌}
use Rattle.tp_text.proofs.Stepped.{bind_ok, need_ok, ok_is}
use Rattle.tp_wire.specs.Meaning.{ended_at, fault_at, message_at, message_of, start}
use Rattle.tp_wire.specs.Ranges.{IsInRange}
use Rattle.tp_wire.specs.Reading.{Gives, IsReadAs}
use Rattle.tp_wire.specs.Spelling.{bytes_of}
use Rattle.tp_wire.specs.declared.fault.WireCause.TheVariants.{Trailing}
use Rattle.tp_wire.specs.declared.fault.WireError.{WireError}
use Rattle.tp_wire.specs.declared.fault.WireError.TheVariants as errors
use Rattle.tp_wire.specs.declared.fault.WireFault.{WireFault}
use Rattle.tp_wire.specs.declared.message.Message.{Message}
use Rattle.tp_wire.proofs.Messages.{message_field}

-- what is read is in range, and all of the bytes spell it
pub takes : (bytes : List ℕ) (m : Message) → IsBytes bytes → message_of bytes ≡ Ok m → (bytes ≡ bytes_of m) × IsInRange m
unfolding message_of ended_at
takes bytes m fits e =
    let step = bind_ok (message_at (start bytes)) (λ x. ended_at x.1 >>= λ _. Ok x.0) m e in
    let taken = message_field.takes (start bytes) step.0 fits step.1 in
    let end = need_ok (length (left step.0.1) == 0) (fault_at Trailing step.0.1) (Ok step.0.0) m step.2 in
    let nothing : left step.0.1 ≡ [] = nil_from_length (left step.0.1) (eqb-true _ _ end.0) in
    let all : bytes ≡ bytes_of step.0.0 = taken.0.parts ∙ ap (λ (t : List ℕ). bytes_of step.0.0 ++ t) nothing ∙ append-nil (bytes_of step.0.0) in
    subst (λ (x : Message). (bytes ≡ bytes_of x) × IsInRange x) (ok_is WireFault step.0.0 m end.1) (all, taken.1)

-- the bytes of a message in range are read as it
pub again : (m : Message) → IsInRange m → message_of (bytes_of m) ≡ Ok m
unfolding message_of ended_at
again m fits =
    let is = message_field.again (start (bytes_of m)) m [] fits (sym (append-nil (bytes_of m))) in
    let end : (length (left is.after) == 0) ≡ true = rw is.rest_is refl in
    rw (is.read, end) refl

-- ---- the clauses

pub is_found : (bytes : List ℕ) (r : Result Message WireError) → IsBytes bytes → Gives (λ m. m) r (message_of bytes) → IfOk r (λ m. IsInRange m × (bytes ≡ bytes_of m))
is_found bytes (Ok m) fits read = let law = takes bytes m fits read in (law.1, law.0)
is_found bytes (Err e) fits read = tt

pub is_only : (bytes : List ℕ) (r : Result Message WireError) → Gives (λ m. m) r (message_of bytes) → (m : Message) → IsInRange m → bytes ≡ bytes_of m → IsReadAs m r
is_only bytes r read m fits e = go r read
  where
    made : message_of bytes ≡ Ok m
    made = ap message_of e ∙ again m fits

    go : (r : Result Message WireError) → Gives (λ x. x) r (message_of bytes) → IsReadAs m r
    go (Ok x) read' = ok_is WireFault x m (sym read' ∙ made)
    go (Err errors.NoMemory) read' = tt
    go (Err (errors.Fault fault)) read' = let wrong = sym read' ∙ made in cc
