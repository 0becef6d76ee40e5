-- What operations answer, one after the other, and how the answers of two partitions are merged.
use Rattle.std.proofs.Common.{◌≡◌, ℕ, zero, suc, List, [], ◌∷◌, None, refl}
use Rattle.tp_ops.specs.Parts.{ops_on, merged}
use Rattle.tp_ops.specs.Store.{empty, after_all, answers_of}
use Rattle.tp_ops.specs.declared.operation.Answer.{Answer}
use Rattle.tp_ops.specs.declared.operation.Answer.TheVariants.{Missing, Value, Yes, No}
use Rattle.tp_ops.specs.declared.operation.Op.{Op}
use Rattle.tp_ops.specs.declared.operation.Op.TheVariants.{Get, Put, Del, Cas}

abbrev a : List ℕ
a = 97 ∷ []

abbrev b : List ℕ
b = 98 ∷ []

abbrev one : List ℕ
one = 49 ∷ []

abbrev two : List ℕ
two = 50 ∷ []

abbrev on_one_key : List Op
on_one_key = Cas a one two ∷ Put a one ∷ Cas a one two ∷ Get a ∷ Del a ∷ Del a ∷ []

answered : answers_of on_one_key empty ≡ No ∷ Missing ∷ Yes ∷ Value two ∷ Yes ∷ No ∷ []
answered = refl

all_gone : after_all on_one_key empty a ≡ None
all_gone = refl

-- of two partitions b is on the first, and a on the second
abbrev on_two : List Op
on_two = Get b ∷ Put a one ∷ Del a ∷ Get b ∷ []

on_first : ops_on 2 1 on_two ≡ Get b ∷ Get b ∷ []
unfolding ops_on
on_first = refl

on_second : ops_on 2 2 on_two ≡ Put a one ∷ Del a ∷ []
unfolding ops_on
on_second = refl

-- the answers of the first partition, and of any other
abbrev parts : ℕ → List Answer
parts zero = []
parts (suc zero) = Value one ∷ Value two ∷ []
parts (suc (suc n)) = Missing ∷ Yes ∷ []

in_order : merged 2 on_two parts ≡ Value one ∷ Missing ∷ Yes ∷ Value two ∷ []
unfolding merged
in_order = refl
