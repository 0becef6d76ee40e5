-- The operations of a command that are on one partition, and the answers of its partitions merged.
use Rattle.std.specs.Prelude.{ℕ, ◌==◌, Bool, List, [], ◌∷◌, ◌++◌, cond, filter, Option, unwrap_or}
use Rattle.std.specs.List.{list_any}
use Rattle.tp_base.specs.Partition.{partition_number}
use Rattle.tp_base.specs.Tables.{kept_at}
use Rattle.tp_ops.specs.declared.command.Command.{Command}
use Rattle.tp_ops.specs.declared.operation.Answer.{Answer}
use Rattle.tp_ops.specs.declared.operation.Op.{Op}
use Rattle.tp_ops.specs.declared.operation.Op.TheVariants.{Get, Put, Del, Cas}

abbrev pub key_of : Op → List ℕ
key_of (Get key) = key
key_of (Put key value) = key
key_of (Del key) = key
key_of (Cas key old new) = key

-- whether an operation's key is on a partition, of so many
abbrev pub is_on : ℕ → ℕ → Op → Bool
is_on partitions p op = partition_number (key_of op) partitions == p

-- the operations on a partition, in order
unfoldable pub ops_on : ℕ → ℕ → List Op → List Op
ops_on partitions p ops = filter (is_on partitions p) ops

-- whether some operation of a command is on a partition
unfoldable pub is_accessed : ℕ → Command → ℕ → Bool
is_accessed partitions c p = list_any (is_on partitions p) c.ops

-- the first answer, if there is one
abbrev pub first_of : List Answer → List Answer
first_of [] = []
first_of (answer ∷ answers) = answer ∷ []

abbrev pub rest_of : List Answer → List Answer
rest_of [] = []
rest_of (answer ∷ answers) = answers

-- for each operation the next answer of its partition's answers
unfoldable pub merged : ℕ → List Op → (ℕ → List Answer) → List Answer
merged partitions [] parts = []
merged partitions (op ∷ ops) parts =
    let p = partition_number (key_of op) partitions in
    first_of (parts p) ++ merged partitions ops (λ q. cond (q == p) (rest_of (parts q)) (parts q))

-- in a table of the answers kept of each partition, from 1, those of one, none where there are none
abbrev pub answers_in : List (Option (List Answer)) → ℕ → List Answer
answers_in table p = unwrap_or (kept_at table p) []
