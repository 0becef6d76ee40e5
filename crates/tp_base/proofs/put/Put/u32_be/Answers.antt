use Rattle.std.proofs.Common.{◌++◌, List, ℕ, ap, ◌∙◌}
use Rattle.tp_base.specs.Fields.{big_endian}
use Rattle.tp_base.proofs.BigEndian.{to_be_bytes-32}
use Rattle.tp_base.proofs.put.Put.u32_be.Goals as goal

pub returns-clause-written : goal.returns-clause-written
returns-clause-written c =
    let same = to_be_bytes-32 c.args.v in
    let written = c.in_ok-extend_from_slice.ensures.items in
    written ∙ ap (λ (bytes : List ℕ). c.self.inside.bytes.items ++ bytes) (c.to_be_bytes.ensures ∙ same) ∙ ap (λ (bytes : List ℕ). bytes ++ big_endian 4 c.args.v) c.self.view_is
