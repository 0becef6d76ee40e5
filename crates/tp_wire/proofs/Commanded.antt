-- Commands and answers.
use Rattle.std.proofs.Common.{ℕ, List, [], ◌∷◌, ◌++◌, length, refl, sym, ap, subst, arith}
use Rattle.std.specs.List.{flat_map}
use Rattle.std.proofs.lemmas.List.{append-nil}
use Rattle.tp_base.specs.Limits.{IsFrom}
use Rattle.tp_base.specs.Lists.{Each}
use Rattle.tp_ops.specs.Limits.{IsAnswer, IsCommand, IsKey, IsOp, IsValue}
use Rattle.tp_ops.specs.declared.operation.Answer.{Answer}
use Rattle.tp_ops.specs.declared.operation.Answer.TheVariants.{Missing, Value, Yes, No}
use Rattle.tp_ops.specs.declared.operation.Op.{Op}
use Rattle.tp_ops.specs.declared.operation.Op.TheVariants.{Get, Put, Del, Cas}
use Rattle.tp_wire.specs.Meaning.{Reader, answer_at, answers_at, cas_at, command_at, del_at, get_at, just, op_at, ops_at, put_at, text_at, value_answer_at}
use Rattle.tp_wire.specs.Spelling.{answer, answers, byte, command, id, joined, op, text}
use Rattle.tp_wire.specs.declared.fault.WireCause.TheVariants.{Range}
use Rattle.tp_wire.proofs.Chosen.{AreCases, IsChosen, case_of, choice_field}
use Rattle.tp_wire.proofs.Fielded.{IsField, IsMade, ends, last, then_field, whole}
use Rattle.tp_wire.proofs.Listed.{times_field}
use Rattle.tp_wire.proofs.Named.{id_field}
use Rattle.tp_wire.proofs.Numbered.{byte_field, text_field}

key_field : IsField (text_at 1 32) text IsKey
key_field = text_field 1 32 (omega arith)

value_field : IsField (text_at 0 64) text IsValue
value_field = text_field 0 64 (omega arith)

-- ---- operations

abbrev One : Type 0
One = List ℕ × Unit {0}

abbrev Two : Type 0
Two = List ℕ × (List ℕ × Unit {0})

abbrev Three : Type 0
Three = List ℕ × (List ℕ × (List ℕ × Unit {0}))

get_made : IsMade get_at (λ (p : One). Get p.0) (λ p. text p.0 ++ []) (λ p. IsKey p.0 × Unit {0})
unfolding get_at
get_made = then_field key_field (λ key _. ends (Get key))

put_made : IsMade put_at (λ (p : Two). Put p.0 p.1.0) (λ p. text p.0 ++ (text p.1.0 ++ [])) (λ p. IsKey p.0 × (IsValue p.1.0 × Unit {0}))
unfolding put_at
put_made = then_field key_field (λ key _. then_field value_field (λ value _. ends (Put key value)))

del_made : IsMade del_at (λ (p : One). Del p.0) (λ p. text p.0 ++ []) (λ p. IsKey p.0 × Unit {0})
unfolding del_at
del_made = then_field key_field (λ key _. ends (Del key))

cas_made : IsMade cas_at (λ (p : Three). Cas p.0 p.1.0 p.1.1.0) (λ p. text p.0 ++ (text p.1.0 ++ (text p.1.1.0 ++ []))) (λ p. IsKey p.0 × (IsValue p.1.0 × (IsValue p.1.1.0 × Unit {0})))
unfolding cas_at
cas_made = then_field key_field (λ key _. then_field value_field (λ old _. then_field value_field (λ new _. ends (Cas key old new))))

abbrev readers : List (Reader Op)
readers = get_at ∷ put_at ∷ del_at ∷ cas_at ∷ []

op_cases : AreCases op IsOp 1 readers
unfolding op
op_cases = (
  case_of get_made (λ p fits. (refl, fits.0)),
  (
    case_of put_made (λ p fits. (refl, (fits.0, fits.1.0))),
    (
      case_of del_made (λ p fits. (refl, fits.0)),
      (case_of cas_made (λ p fits. (refl, (fits.0, fits.1.0, fits.1.1.0))), tt),
    ),
  ),
)

op_chosen : (o : Op) → IsOp o → IsChosen op readers o
unfolding op
op_chosen (Get key) fits = record {
  n = 1;
  small = omega arith;
  reader = get_at;
  there = refl;
  rest = text key ++ [];
  spelled = refl;
  again = λ at behind e. get_made.again at (key, tt) behind (fits, tt) e;
}
op_chosen (Put key value) fits = record {
  n = 2;
  small = omega arith;
  reader = put_at;
  there = refl;
  rest = text key ++ (text value ++ []);
  spelled = refl;
  again = λ at behind e. put_made.again at (key, (value, tt)) behind (fits.0, (fits.1, tt)) e;
}
op_chosen (Del key) fits = record {
  n = 3;
  small = omega arith;
  reader = del_at;
  there = refl;
  rest = text key ++ [];
  spelled = refl;
  again = λ at behind e. del_made.again at (key, tt) behind (fits, tt) e;
}
op_chosen (Cas key old new) fits = record {
  n = 4;
  small = omega arith;
  reader = cas_at;
  there = refl;
  rest = text key ++ (text old ++ (text new ++ []));
  spelled = refl;
  again = λ at behind e. cas_made.again at (key, (old, (new, tt))) behind (fits.0, (fits.1, (fits.2, tt))) e;
}

op_field : IsField op_at op IsOp
unfolding op_at
op_field = choice_field Range readers op IsOp op_cases op_chosen

abbrev AreOps : List Op → Type 0
AreOps ops = IsFrom 1 16 (length ops) × Each IsOp ops

ops_field : IsField ops_at (λ ops. joined (byte (length ops) ∷ flat_map op ops ∷ [])) AreOps
unfolding ops_at
ops_field = whole
    (then_field (byte_field 1 16 (omega arith)) (λ count _. last (times_field op_at op IsOp op_field count)))
    (λ p fits. (ap (λ (n : ℕ). n ∷ (flat_map op p.1 ++ [])) fits.1.0, (subst (IsFrom 1 16) (sym fits.1.0) fits.0, fits.1.1)))
    (λ ops fits. ((length ops, ops), refl, (fits.0, (refl, fits.1))))

pub command_field : IsField command_at command IsCommand
unfolding command_at command
command_field = whole
    (then_field id_field (λ i _. then_field (byte_field 1 7 (omega arith)) (λ home _. then_field ops_field (λ ops _. ends (record { id = i; home = record { 0 = home }; ops = ops })))))
    (λ p fits. (ap (λ (t : List ℕ). id p.0 ++ p.1.0 ∷ length p.1.1.0 ∷ t) (sym (append-nil (flat_map op p.1.1.0 ++ []))), (fits.0, fits.1.0, fits.1.1.0.0, fits.1.1.0.1)))
    (λ c fits. ((c.id, (c.home.0, (c.ops, tt))), refl, (fits.0, (fits.1, ((fits.2, fits.3), tt)))))

-- ---- answers

value_made : IsMade value_answer_at (λ (p : One). Value p.0) (λ p. text p.0 ++ []) (λ p. IsValue p.0 × Unit {0})
unfolding value_answer_at
value_made = then_field value_field (λ value _. ends (Value value))

abbrev answer_readers : List (Reader Answer)
answer_readers = just Missing ∷ value_answer_at ∷ just Yes ∷ just No ∷ []

answer_cases : AreCases answer IsAnswer 1 answer_readers
unfolding answer
answer_cases = (
  case_of (ends Missing) (λ u _. (refl, tt)),
  (
    case_of value_made (λ p fits. (refl, fits.0)),
    (
      case_of (ends Yes) (λ u _. (refl, tt)),
      (case_of (ends No) (λ u _. (refl, tt)), tt),
    ),
  ),
)

answer_chosen : (a : Answer) → IsAnswer a → IsChosen answer answer_readers a
unfolding answer
answer_chosen Missing fits = record {
  n = 1;
  small = omega arith;
  reader = just Missing;
  there = refl;
  rest = [];
  spelled = refl;
  again = λ at behind e. (ends Missing).again at tt behind tt e;
}
answer_chosen (Value value) fits = record {
  n = 2;
  small = omega arith;
  reader = value_answer_at;
  there = refl;
  rest = text value ++ [];
  spelled = refl;
  again = λ at behind e. value_made.again at (value, tt) behind (fits, tt) e;
}
answer_chosen Yes fits = record {
  n = 3;
  small = omega arith;
  reader = just Yes;
  there = refl;
  rest = [];
  spelled = refl;
  again = λ at behind e. (ends Yes).again at tt behind tt e;
}
answer_chosen No fits = record {
  n = 4;
  small = omega arith;
  reader = just No;
  there = refl;
  rest = [];
  spelled = refl;
  again = λ at behind e. (ends No).again at tt behind tt e;
}

answer_field : IsField answer_at answer IsAnswer
unfolding answer_at
answer_field = choice_field Range answer_readers answer IsAnswer answer_cases answer_chosen

pub answers_field : IsField answers_at answers (λ as_told. IsFrom 1 16 (length as_told) × Each IsAnswer as_told)
unfolding answers_at answers
answers_field = whole
    (then_field (byte_field 1 16 (omega arith)) (λ count _. last (times_field answer_at answer IsAnswer answer_field count)))
    (λ p fits. (ap (λ (n : ℕ). n ∷ (flat_map answer p.1 ++ [])) fits.1.0, (subst (IsFrom 1 16) (sym fits.1.0) fits.0, fits.1.1)))
    (λ told fits. ((length told, told), refl, (fits.0, (refl, fits.1))))
