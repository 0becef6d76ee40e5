-- What an actor took was sent: to it, and before its last entry.
-- Used wherever a proof goes from a message that was taken to what its sender keeps.
use Rattle.std.proofs.Common.{◌≡◌, inl, inr, List, [], ◌∷◌, Some, ◌∙◌, subst}
use Rattle.std.proofs.Common.{◌≡◌, ℕ, suc, inl, inr, List, [], ◌∷◌, Option, Some, length, sym, subst, ◌∙◌}
use Rattle.std.proofs.lemmas.Bool.{cond_both}
use Rattle.std.specs.Prelude.{◌==◌}
use Rattle.tp_base.proofs.Each.{each_in}
use Rattle.tp_base.specs.Lists.{Each, IsIn}
use Rattle.tp_base.specs.Lists.{IsIn}
use Rattle.tp_base.specs.Tables.{nth}
use Rattle.tp_base.specs.declared.names.ActorName.{ActorName}
use Rattle.tp_rules.proofs.ActsMore.{acts_step, delivered_act}
use Rattle.tp_rules.proofs.lists.UpTo.{nth_in}
use Rattle.tp_rules.specs.Acts.{Act, Took, Did}
use Rattle.tp_rules.specs.Acts.{Act, Took}
use Rattle.tp_rules.specs.Journal.{act_of, acts, IsSent}
use Rattle.tp_rules.specs.Journal.{act_of, acts, output_at, IsSent}
use Rattle.tp_rules.specs.Runs.{IsFor, IsFreeHistory, MayHappen}
use Rattle.tp_rules.specs.Runs.{IsFreeHistory}
use Rattle.tp_rules.specs.declared.event.Entry.{Entry}
use Rattle.tp_rules.specs.declared.event.Event.TheVariants.{Deliver, Dropped, Inner as OfItself}
use Rattle.tp_rules.specs.declared.event.Event.{Event}
use Rattle.tp_script.specs.declared.script.Script.{Script}
use Rattle.tp_wire.specs.declared.message.Message.{Message}

-- an output in its place was sent
pub output_is_sent : (older : List Entry) (entry place : ℕ) (m : Message) → output_at older entry place ≡ Some m
    → IsSent older m
output_is_sent [] entry place m e = absurd cc
output_is_sent (x ∷ older) entry place m h =
    cond_both (entry == suc (length older)) (nth x.outputs place) (output_at older entry place)
    (λ (o : Option Message). o ≡ Some m → IsSent (x ∷ older) m)
    (λ y e. inl (nth_in x.outputs place m e)) (λ n e. inr (output_is_sent older entry place m e)) h

abbrev pub Takes : (Message → Type 0) → Act → Type 0
Takes P (Took m) = P m
Takes P (Did inner) = Unit {0}

act_was_sent : (P : Message → Type 0) (older : List Entry) (event : Event) (act : Act)
    → ((m : Message) → IsSent older m → P m)
    → act_of older event ≡ Some act → Takes P act
act_was_sent P older (Deliver entry place) act h e =
    let found = delivered_act older entry place act e in
    subst (Takes P) (let same = found.2 in sym same) (h found.0 (output_is_sent older entry place found.0 found.1))
act_was_sent P older (Dropped entry place) act h e = absurd cc
act_was_sent P older (OfItself inner) act h e = let same : Did inner ≡ act = cc in subst (Takes P) same tt

-- what holds of all that was sent holds of all that was taken
pub acts_were_sent : (P : Message → Type 0) (older : List Entry) (a : ActorName)
    → ((m : Message) → IsSent older m → P m) → Each (Takes P) (acts older a)
acts_were_sent P [] a h = tt
acts_were_sent P (e ∷ older) a h =
    let rest : Each (Takes P) (acts older a) = acts_were_sent P older a (λ m s. h m (inr s)) in
    acts_step (Each (Takes P)) older e a rest
    (λ act same is. (act_was_sent P older e.event act (λ m s. h m (inr s)) is, rest))

-- what was taken was sent
pub took_sent : (older : List Entry) (a : ActorName) (m : Message) → IsIn (Took m) (acts older a) → IsSent older m
took_sent older a m there =
    each_in (Takes (IsSent older)) (acts older a) (Took m) (acts_were_sent (IsSent older) older a (λ n sent. sent))
    there

-- the journal before its newest entry
abbrev pub behind : List Entry → List Entry
behind [] = []
behind (e ∷ older) = older

pub sent_behind : (older : List Entry) (m : Message) → IsSent (behind older) m → IsSent older m
sent_behind [] m h = h
sent_behind (e ∷ older) m h = inr h

delivered : (script : Script) (older : List Entry) (a : ActorName) (event : Event) (act : Act) (m : Message)
    → MayHappen script older a event
    → act_of older event ≡ Some act → Took m ≡ act → IsSent older m × (m.to ≡ a)
delivered script older a (Deliver entry place) act m may is same =
    let found = delivered_act older entry place act is in
    let it : found.0 ≡ m = (let e = found.2 in cc) in
    let to : found.0.to ≡ a = subst (IsFor a) found.1 may in (
      subst (IsSent older) it (output_is_sent older entry place found.0 found.1),
      subst (λ (n : Message). n.to ≡ a) it
          to,
    )
delivered script older a (Dropped entry place) act m may is same = absurd cc
delivered script older a (OfItself inner) act m may is same = absurd cc

-- what was taken was sent before the newest entry, and to the actor
pub sent_before : (script : Script) (older : List Entry) → IsFreeHistory script older → (a : ActorName) (m : Message)
    → IsIn (Took m) (acts older a)
    → IsSent (behind older) m × (m.to ≡ a)
sent_before script [] history a m there = absurd there
sent_before script (e ∷ older) history a m there =
    let rest : IsIn (Took m) (acts older a) → IsSent older m × (m.to ≡ a) =
    (λ h. let r = sent_before script older history.0 a m h in (sent_behind older m r.0, r.1)) in
    acts_step (λ (list : List Act). IsIn (Took m) list → IsSent older m × (m.to ≡ a)) older e a rest
    (λ act same is h. elim h [
      | inl itself ↦ let d = delivered script older e.actor e.event act m history.1.may is itself in (d.0, d.1 ∙ same)
      | inr later ↦ rest later
    ]) there
