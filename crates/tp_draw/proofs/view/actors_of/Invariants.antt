use Rattle.std.proofs.Common.{◌≡◌, Some, map, take}
use Rattle.std.specs.Prelude.{string_bytes}
use Rattle.tp_draw.specs.Words.{actors_of}
use Rattle.tp_draw.proofs.view.actors_of.Given as goal

abbrev pub invariant-loop-word : goal.invariant-loop-word
invariant-loop-word l = actors_of (map string_bytes (take l.word-index l.words)) ≡ Some l.actors.items
