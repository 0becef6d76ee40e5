use Rattle.std.proofs.Common.{◌++◌, take, arith, length-append}
use Rattle.std.proofs.lemmas.List.{length-take}
use Rattle.std.proofs.KnownBytes.{Consumes-trans}
use Rattle.tp_outside.proofs.whole.read_to_limit.Goals as goal

pub returns-then-is_err-clause-taken : goal.returns-then-is_err-clause-taken
returns-then-is_err-clause-taken g c =
    let read = take c.in-Ok.count c.read.new.buf in (
      c.loop-chunk.bytes.items ++ read,
      omega (arith, length-append c.loop-chunk.bytes.items read, c.in-Ok.ensures.bound.0, c.in-Ok.ensures.bound.1, c.read.auto.buf, length-take c.min-room.result c.loop-chunk.chunk),
      Consumes-trans _ _ _ _ _ c.loop-chunk.invariant.0 c.in-Ok.ensures.bytes.0,
    )
