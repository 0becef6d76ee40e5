-- One sequential store: what each operation answers, and what it leaves.
use Rattle.std.specs.Prelude.{ℕ, Bool, true, false, cond, List, [], ◌∷◌, Option, Some, None, is_some}
use Rattle.std.specs.Str.{bytes_eq}
use Rattle.tp_ops.specs.declared.operation.Answer.{Answer}
use Rattle.tp_ops.specs.declared.operation.Answer.TheVariants.{Missing, Value, Yes, No}
use Rattle.tp_ops.specs.declared.operation.Op.{Op}
use Rattle.tp_ops.specs.declared.operation.Op.TheVariants.{Get, Put, Del, Cas}

-- the value of each key that is there
abbrev pub Contents : Type 0
Contents = List ℕ → Option (List ℕ)

abbrev pub empty : Contents
empty key = None

-- the contents with a key's value put or removed
abbrev pub with_value : List ℕ → Option (List ℕ) → Contents → Contents
with_value key value contents other = cond (bytes_eq key other) value (contents other)

-- the value that was there, or none
abbrev pub value_before : Option (List ℕ) → Answer
value_before None = Missing
value_before (Some value) = Value value

abbrev pub yes_or_no : Bool → Answer
yes_or_no true = Yes
yes_or_no false = No

-- whether a key is there with this value
abbrev pub holds : Option (List ℕ) → List ℕ → Bool
holds None value = false
holds (Some there) value = bytes_eq there value

abbrev pub answer_of : Op → Contents → Answer
answer_of (Get key) contents = value_before (contents key)
answer_of (Put key value) contents = value_before (contents key)
answer_of (Del key) contents = yes_or_no (is_some (contents key))
answer_of (Cas key old new) contents = yes_or_no (holds (contents key) old)

abbrev pub after : Op → Contents → Contents
after (Get key) contents = contents
after (Put key value) contents = with_value key (Some value) contents
after (Del key) contents = with_value key None contents
after (Cas key old new) contents = cond (holds (contents key) old) (with_value key (Some new) contents) contents

-- the contents after operations, in order
abbrev pub after_all : List Op → Contents → Contents
after_all [] contents = contents
after_all (op ∷ ops) contents = after_all ops (after op contents)

-- the answers of operations, in order
abbrev pub answers_of : List Op → Contents → List Answer
answers_of [] contents = []
answers_of (op ∷ ops) contents = answer_of op contents ∷ answers_of ops (after op contents)
