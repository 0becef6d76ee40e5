-- One store, and the stores of its partitions.
use Rattle.std.specs.Prelude.{ℕ, ◌≡◌, List, [], ◌∷◌}
use Rattle.tp_base.specs.Partition.{partition_number}
use Rattle.tp_base.specs.declared.names.CommandId.{CommandId}
use Rattle.tp_ops.specs.Parts.{ops_on}
use Rattle.tp_ops.specs.Store.{Contents, after_all}
use Rattle.tp_rules.specs.Outcome.{command_of, ops_of}
use Rattle.tp_script.specs.declared.script.Script.{Script}
use Rattle.tp_ops.specs.declared.operation.Op.{Op}

-- two stores have the same value at each key of a partition, of so many
abbrev pub AgreeOn : ℕ → ℕ → Contents → Contents → Type 0
AgreeOn partitions p f g = (key : List ℕ) → partition_number key partitions ≡ p → f key ≡ g key

-- a command's operations on a partition
abbrev pub partition_ops : Script → ℕ → CommandId → List Op
partition_ops script p id = ops_on script.topology.partitions p (ops_of (command_of script id))

-- the contents of a partition's store after its operations of commands, in order
abbrev pub partition_contents : Script → ℕ → List CommandId → Contents → Contents
partition_contents script p [] contents = contents
partition_contents script p (id ∷ ids) contents =
    partition_contents script p ids (after_all (partition_ops script p id) contents)
