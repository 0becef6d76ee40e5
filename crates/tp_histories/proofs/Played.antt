-- A run given by its steps alone: each sends what the rules say, so it is a free run where each step may be made.
-- Used for each whole run of this crate.
use Rattle.std.proofs.Common.{◌≡◌, ◌==◌, ◌&&◌, Bool, true, false, List, [], ◌∷◌, Option, Some, None, refl, ap, eqb-true}
use Rattle.std.proofs.lemmas.Bool.{and_parts}
use Rattle.tp_base.proofs.SameNames.{same_id_is, same_name_is}
use Rattle.tp_base.specs.Names.{same_id, same_name}
use Rattle.tp_base.specs.declared.names.ActorName.{ActorName}
use Rattle.tp_rules.specs.Acts.{Act, Identity, ProcessAt, ExecutorAt, SessionOf}
use Rattle.tp_rules.specs.Journal.{acts, identity_in, is_known, is_live, output_at}
use Rattle.tp_rules.specs.Rules.{IsOfProcess, MayMake, enabled}
use Rattle.tp_rules.specs.Runs.{FollowsRules, IsFor, IsFreeHistory, MayHappen, outputs_in}
use Rattle.tp_rules.specs.declared.event.Entry.{Entry}
use Rattle.tp_rules.specs.declared.event.Event.{Event}
use Rattle.tp_rules.specs.declared.event.Event.TheVariants.{Deliver, Dropped, Inner as OfItself}
use Rattle.tp_rules.specs.declared.event.Inner.{Inner}
use Rattle.tp_rules.specs.declared.event.Inner.TheVariants.{Submit, Announce, Declare, Execute, Recover, Crash}
use Rattle.tp_rules.specs.declared.event.Item.{Item}
use Rattle.tp_script.specs.declared.script.Script.{Script}
use Rattle.tp_wire.specs.declared.message.Message.{Message}

-- a step with what the rules say that it sends
abbrev pub made : Script → List Entry → Item → Entry
made script older it =
    record { actor = it.actor; event = it.event; outputs = outputs_in script older it.actor it.event }

-- the journal of some steps after others, the newest entry first
abbrev pub played_after : Script → List Entry → List Item → List Entry
played_after script older [] = older
played_after script older (it ∷ rest) = played_after script (made script older it ∷ older) rest

abbrev pub played : Script → List Item → List Entry
played script steps = played_after script [] steps

-- whether a message stands at a place, and this is its addressee
abbrev pub is_for : ActorName → Option Message → Bool
is_for actor None = false
is_for actor (Some m) = same_name m.to actor

abbrev pub same_inner : Inner → Inner → Bool
same_inner (Submit n) (Submit m) = n == m
same_inner Announce Announce = true
same_inner (Declare a) (Declare b) = same_id a b
same_inner (Execute a) (Execute b) = same_id a b
same_inner (Recover a) (Recover b) = same_id a b
same_inner Crash Crash = true
same_inner _ _ = false

abbrev pub is_enabled : Inner → Option Inner → Bool
is_enabled inner None = false
is_enabled inner (Some other) = same_inner other inner

abbrev pub is_process : Identity → Bool
is_process (ProcessAt shape me) = true
is_process (ExecutorAt shape me) = false
is_process (SessionOf shape client) = false

abbrev pub may_make : Identity → List Act → Inner → Bool
may_make actor acts (Recover id) = is_process actor
may_make actor acts Crash = is_process actor
may_make actor acts inner = is_enabled inner (enabled actor acts)

abbrev pub may_happen : Script → List Entry → ActorName → Event → Bool
may_happen script older actor (Deliver entry place) = is_for actor (output_at older entry place)
may_happen script older actor (Dropped entry place) = is_for actor (output_at older entry place)
may_happen script older actor (OfItself inner) = may_make (identity_in script actor) (acts older actor) inner

-- whether a step may be made: its actor is one of the script's and lives, and its event may happen
abbrev pub may_step : Script → List Entry → Item → Bool
may_step script older it =
    is_known script it.actor && (is_live older it.actor && may_happen script older it.actor it.event)

-- whether each step may be made after those before it
abbrev pub may_play : Script → List Entry → List Item → Bool
may_play script older [] = true
may_play script older (it ∷ rest) = may_step script older it && may_play script (made script older it ∷ older) rest

for_it : (actor : ActorName) (m : Option Message) → is_for actor m ≡ true → IsFor actor m
for_it actor None is = cc
for_it actor (Some m) is = same_name_is m.to actor is

pub inner_is : (a b : Inner) → same_inner a b ≡ true → a ≡ b
inner_is (Submit n) (Submit m) same = ap (λ k. Submit k) (eqb-true n m same)
inner_is Announce Announce same = refl
inner_is (Declare a) (Declare b) same = ap (λ k. Declare k) (same_id_is a b same)
inner_is (Execute a) (Execute b) same = ap (λ k. Execute k) (same_id_is a b same)
inner_is (Recover a) (Recover b) same = ap (λ k. Recover k) (same_id_is a b same)
inner_is Crash Crash same = refl
inner_is _ _ same = cc

enabled_is : (inner : Inner) (o : Option Inner) → is_enabled inner o ≡ true → o ≡ Some inner
enabled_is inner None is = cc
enabled_is inner (Some other) is = ap (λ k. Some k) (inner_is other inner is)

process_is : (actor : Identity) → is_process actor ≡ true → IsOfProcess actor
process_is (ProcessAt shape me) is = tt
process_is (ExecutorAt shape me) is = cc
process_is (SessionOf shape client) is = cc

makes : (actor : Identity) (acts : List Act) (inner : Inner) → may_make actor acts inner ≡ true →
    MayMake actor acts inner
makes actor acts (Recover id) may = process_is actor may
makes actor acts Crash may = process_is actor may
makes actor acts (Submit n) may = enabled_is (Submit n) (enabled actor acts) may
makes actor acts Announce may = enabled_is Announce (enabled actor acts) may
makes actor acts (Declare id) may = enabled_is (Declare id) (enabled actor acts) may
makes actor acts (Execute id) may = enabled_is (Execute id) (enabled actor acts) may

happens : (script : Script) (older : List Entry) (actor : ActorName) (event : Event) →
    may_happen script older actor event ≡ true →
    MayHappen script older actor event
happens script older actor (Deliver entry place) may = for_it actor (output_at older entry place) may
happens script older actor (Dropped entry place) may = for_it actor (output_at older entry place) may
happens script older actor (OfItself inner) may = makes (identity_in script actor) (acts older actor) inner may

pub follows : (script : Script) (older : List Entry) (it : Item) → may_step script older it ≡ true →
    FollowsRules script older (made script older it)
follows script older it may =
    let known = and_parts (is_known script it.actor) _ may in
    let live = and_parts (is_live older it.actor) (may_happen script older it.actor it.event) known.1 in
    record { known = known.0; live = live.0; may = happens script older it.actor it.event live.1; outputs = refl }

-- the steps go on a free history as a free history
pub free_on : (script : Script) (older : List Entry) (steps : List Item) → IsFreeHistory script older →
    may_play script older steps ≡ true → IsFreeHistory script (played_after script older steps)
free_on script older [] history may = history
free_on script older (it ∷ rest) history may =
    let both = and_parts (may_step script older it) (may_play script (made script older it ∷ older) rest) may in
    free_on script (made script older it ∷ older) rest (history, follows script older it both.0) both.1
