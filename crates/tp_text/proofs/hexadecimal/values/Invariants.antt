use Rattle.std.proofs.Common.{◌≡◌, ◌++◌, true, length}
use Rattle.std.specs.List.{list_all}
use Rattle.tp_text.specs.Hexadecimal.{is_hex, pair_values}
use Rattle.tp_text.proofs.hexadecimal.values.Given as goal

abbrev pub invariant-loop-rest : goal.invariant-loop-rest
invariant-loop-rest l = (l.bytes.items ++ pair_values l.rest ≡ pair_values l.word) × (list_all is_hex l.rest ≡ true)

abbrev pub decreases-loop-rest : goal.decreases-loop-rest
decreases-loop-rest l = length l.rest
