use Rattle.std.proofs.Common.{map, ◌∙◌, arith}
use Rattle.tp_bits.proofs.Sums.{ones_few}
use Rattle.tp_netbook.proofs.Marks.{many_kept}
use Rattle.tp_netbook.proofs.netbook.Netbook.count_deliveries.Goals as goal
use Rattle.tp_netbook.specs.Netbook.{is_ready, output_item}

pub returns-clause-count : goal.returns-clause-count
returns-clause-count c = λ are. c.count_ones.ensures _ are ∙ many_kept (is_ready c.args.self.now) output_item c.args.self.now.outputs.items

pub returns-clause-few : goal.returns-clause-few
returns-clause-few c = λ are.
    let bits = map (is_ready c.args.self.now) c.args.self.now.outputs.items in
    omega (arith, c.count_ones.ensures bits are, ones_few bits, are.counted.short)
