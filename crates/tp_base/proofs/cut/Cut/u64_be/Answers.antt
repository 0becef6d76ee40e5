use Rattle.std.proofs.Common.{◌∙◌, sym, ap}
use Rattle.std.proofs.lemmas.Nat.{be_bytes_8}
use Rattle.tp_base.proofs.BigEndian.{to_be_bytes-64, value_of_bytes}
use Rattle.tp_base.specs.Fields.{big_endian_value}
use Rattle.tp_base.proofs.cut.Cut.u64_be.Goals as goal

pub returns-clause-value : goal.returns-clause-value
returns-clause-value c =
    let read = c.in_ok-bytes.ensures in
    let same = be_bytes_8 c.in_ok-bytes.bytes c.from_be_bytes.result read.bytes.0 read.bytes.1 c.from_be_bytes.ensures in
    value_of_bytes 8 _ _ same c.from_be_bytes.type_inv ∙ ap big_endian_value read.taken

pub returns-clause-taken : goal.returns-clause-taken
returns-clause-taken c =
    let read = c.in_ok-bytes.ensures in
    let same = be_bytes_8 c.in_ok-bytes.bytes c.from_be_bytes.result read.bytes.0 read.bytes.1 c.from_be_bytes.ensures in
    sym read.taken ∙ sym same ∙ to_be_bytes-64 c.from_be_bytes.result
