-- The outputs that are addressed to an actor.
use Rattle.std.specs.Prelude.{◌&&◌, ℕ, nat_lt, Bool, List, filter, reverse}
use Rattle.tp_base.specs.Names.{same_name}
use Rattle.tp_base.specs.declared.names.ActorName.{ActorName}
use Rattle.tp_rules.specs.Journal.{sent}
use Rattle.tp_rules.specs.declared.event.Entry.{Entry}
use Rattle.tp_rules.specs.declared.event.Parcel.{Parcel}

abbrev pub is_for : ActorName → Parcel → Bool
is_for a parcel = same_name parcel.message.to a

-- those of the entries behind a number, in order
abbrev pub parcels_for : ActorName → ℕ → List Entry → List Parcel
parcels_for a number journal = filter (λ parcel. nat_lt number parcel.entry && is_for a parcel) (sent (reverse journal))
