-- What the steps do to the views, and what they tell.
use Rattle.std.specs.Prelude.{◌≡◌, ◌==◌, ℕ, nat_le, true, false, cond, List, [], ◌∷◌, ◌++◌, Option, Some, None, MatchBool, drop, length}
use Rattle.atomic_table.specs.Table.{Me, Step}
use Rattle.tp_base.specs.Lists.{IsIn, IsPrefixOf}
use Rattle.tp_base.specs.declared.names.ActorName.{ActorName}
use Rattle.tp_base.specs.declared.names.ActorName.TheVariants.{Session}
use Rattle.tp_rules.specs.declared.event.Entry.{Entry}
use Rattle.tp_script.specs.declared.script.Script.{Script}
use Rattle.tp_shared.specs.Rule.{Made, Slot, Tells}
use Rattle.tp_shared.specs.declared.view.View.{View}

-- the desk has the turn, and has seen the whole journal
abbrev pub taking : View → List Entry → View
taking v journal = record { actor = v.actor; own = v.own; seen = journal; holds = true; spent = v.spent; listed = v.listed; kept = v.kept; heard = v.heard; opening = v.opening }

-- what was seen before is a beginning of the journal
pub record Wins (v : View) (journal : List Entry) : Type 0 where
  pub grows : IsPrefixOf v.seen journal
  pub shows : Tells v.opening journal v.actor v.own v.listed v.kept

-- the turn was won, and the slot has the journal
abbrev pub Won : View → Me Slot View → Type 0
Won v w = (w ≡ (taking v w.0.seen, (0, Some w.0.seen) ∷ [])) × Wins v w.0.seen

-- a try for the turn: where the word was 0 it is won, and otherwise nothing changes
abbrev pub Acquires : Step Slot → Me Slot View → ℕ → Me Slot View → Type 0
Acquires s v found w = MatchBool (found == 0) (Won v.0 w) (w ≡ v)

-- the journal in hand was put back with the desk's new entries
abbrev pub putting : View → List Entry → View
putting v journal = record { actor = v.actor; own = v.own ++ drop (length v.seen) journal; seen = journal; holds = false; spent = v.spent; listed = v.listed; kept = v.kept; heard = v.heard; opening = v.opening }

abbrev pub journal_or : Slot → List Entry
journal_or (Some journal) = journal
journal_or None = []

abbrev pub in_slot : List (ℕ × Slot) → List Entry
in_slot [] = []
in_slot (x ∷ xs) = journal_or x.1

abbrev pub Releases : Step Slot → Me Slot View → ℕ → Me Slot View → Type 0
Releases s v found w = w ≡ (putting v.0 (in_slot v.1), [])

-- what a look tells: the lists that were heard begin what was seen, but for those that are longer
pub record Looks (v : View) : Type 0 where
  pub shows : Tells v.opening v.seen v.actor v.own v.listed v.kept
  pub heard : (xs : List Entry) → IsIn xs v.heard → nat_le (length xs) (length v.seen) ≡ true → IsPrefixOf xs v.seen

abbrev pub Looked : Step Slot → Me Slot View → ℕ → Me Slot View → Type 0
Looked s v found w = (w ≡ v) × Looks v.0

-- the first desk lists the actor of a new one
abbrev pub listing : ActorName → View → View
listing a v = record { actor = v.actor; own = v.own; seen = v.seen; holds = v.holds; spent = v.spent; listed = a ∷ v.listed; kept = v.kept; heard = v.heard; opening = v.opening }

-- the new desk has seen the same, and made no entry
abbrev pub newcomer : ActorName → View → View
newcomer a v = record { actor = Some a; own = []; seen = v.seen; holds = false; spent = false; listed = []; kept = []; heard = []; opening = v.opening }

abbrev pub longer : List Entry → List Entry → List Entry
longer xs ys = cond (nat_le (length xs) (length ys)) ys xs

-- a desk's own list is kept under its actor's name
abbrev pub keeping : List Made → Option ActorName → List Entry → List Made
keeping kept (Some a) own = kept ++ (a, own) ∷ []
keeping kept None own = kept

-- the first desk takes in what another knows
abbrev pub both : View → View → View
both v w = record { actor = v.actor; own = v.own; seen = longer v.seen w.seen; holds = v.holds; spent = v.spent; listed = v.listed; kept = keeping v.kept w.actor w.own; heard = v.seen ∷ w.seen ∷ v.heard; opening = v.opening }

abbrev pub no_script : Script
no_script = record { topology = record { partitions = 0; replicas = 0; failures = 0 }; homes = []; commands = []; plan = []; picks = [] }

-- a desk that was joined
abbrev pub gone : View
gone = record { actor = None; own = []; seen = []; holds = false; spent = true; listed = []; kept = []; heard = []; opening = record { script = no_script; journal = [] } }

-- a name where there is none
abbrev pub nobody : ActorName
nobody = Session (record { 0 = 0 })
