-- What a function that reads returned, seen by a view, is what the definition gives, unless memory ran out.
use Rattle.std.specs.Prelude.{◌≡◌, Result, Ok, Err}
use Rattle.tp_wire.specs.declared.fault.WireError.{WireError}
use Rattle.tp_wire.specs.declared.fault.WireError.TheVariants as errors
use Rattle.tp_wire.specs.declared.fault.WireFault.{WireFault}
use Rattle.tp_wire.specs.declared.message.Message.{Message}

abbrev pub Fails : {Y : Type 0} → WireError → Result Y WireFault → Type 0
Fails errors.NoMemory read = Unit {0}
Fails (errors.Fault fault) read = read ≡ Err fault

abbrev pub Gives : {X Y : Type 0} → (X → Y) → Result X WireError → Result Y WireFault → Type 0
Gives view (Ok x) read = read ≡ Ok (view x)
Gives view (Err e) read = Fails e read

-- the answer is this message, or memory ran out
abbrev pub IsReadAs : Message → Result Message WireError → Type 0
IsReadAs message (Ok read) = read ≡ message
IsReadAs message (Err errors.NoMemory) = Unit {0}
IsReadAs message (Err (errors.Fault fault)) = ⊥
