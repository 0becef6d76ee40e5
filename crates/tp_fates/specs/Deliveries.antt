-- What is left of each output that was sent: its deliveries, or its loss.
use Rattle.std.specs.Prelude.{◌-◌, ◌==◌, ◌&&◌, not, Bool, true, false, cond, Option}
use Rattle.indexmap.specs.IndexMap.{get}
use Rattle.tp_fates.specs.declared.deliveries.Deliveries.{Deliveries}
use Rattle.tp_fates.specs.declared.deliveries.Left.{Left}
use Rattle.tp_fates.specs.declared.deliveries.Slot.{Slot}
use Rattle.tp_rules.specs.Plan.{Fate, Lost, Times, left_by}

abbrev pub loses : Fate → Bool
loses Lost = true
loses (Times n) = false

abbrev pub same_slot : Slot → Slot → Bool
same_slot a b = (a.entry == b.entry) && (a.place == b.place)

-- what is kept of an output by its place
abbrev pub left_in : Deliveries → Slot → Option Left
left_in kept slot = get same_slot kept.left slot

-- of an output that was just sent
abbrev pub first_left : Fate → Left
first_left fate = record { lost = loses fate; times = left_by fate 0 false }

-- whether the loss, or a delivery, is to come
abbrev pub is_of : Bool → Left → Bool
is_of loss left = cond loss left.lost (not left.lost)

-- after a loss or a delivery
abbrev pub taken : Bool → Left → Left
taken loss left = record { lost = left.lost; times = cond (is_of loss left) (left.times - 1) left.times }
