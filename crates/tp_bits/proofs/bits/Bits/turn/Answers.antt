use Rattle.std.proofs.Common.{◌≡◌, Bool, List, not, length, set, rules, sym, ap, subst, arith}
use Rattle.std.proofs.lemmas.List.{length-set}
use Rattle.tp_bits.proofs.Searches.{in_block, in_group, in_row}
use Rattle.tp_bits.proofs.Sums.{one_small, ones_few, ones_set}
use Rattle.tp_bits.proofs.Tallies.{counts_back}
use Rattle.tp_bits.proofs.bits.Bits.turn.Goals as goal
use Rattle.tp_bits.specs.Bits.{IsTally, one}

pub returns-clause-counted : goal.returns-clause-counted
returns-clause-counted c = λ bits are at.
    let blocks : c.args.self.now.blocks.len ≡ length c.count_turned.new.counts = omega (arith, c.args.self.now.blocks.ok.0, c.count_turned.ensures.length, ap length c.deref_mut.ensures.value) in
    let rows : c.args.self.now.rows.len ≡ length c.count_turned-2.new.counts = omega (arith, c.args.self.now.rows.ok.0, c.count_turned-2.ensures.length, ap length c.deref_mut-2.ensures.value) in
    let groups : c.args.self.now.groups.len ≡ length c.count_turned-3.new.counts = omega (arith, c.args.self.now.groups.ok.0, c.count_turned-3.ensures.length, ap length c.deref_mut-3.ensures.value) in
    record {
      items = ap (λ (l : List Bool). set l c.args.place c.args.bit) are.items;
      short = omega (arith, are.short, length-set bits c.args.place c.args.bit);
      blocks = counts_back 32 (set bits c.args.place c.args.bit) c.count_turned.new.counts _ _ blocks
          (c.count_turned.ensures.tally 32 bits c.args.place (subst (IsTally 32 bits) (sym c.deref_mut.ensures.value) are.blocks) (in_block c.args.place) at are.short);
      rows = counts_back 512 (set bits c.args.place c.args.bit) c.count_turned-2.new.counts _ _ rows
          (c.count_turned-2.ensures.tally 512 bits c.args.place (subst (IsTally 512 bits) (sym c.deref_mut-2.ensures.value) are.rows) (in_row c.args.place) at are.short);
      groups = counts_back 8192 (set bits c.args.place c.args.bit) c.count_turned-3.new.counts _ _ groups
          (c.count_turned-3.ensures.tally 8192 bits c.args.place (subst (IsTally 8192 bits) (sym c.deref_mut-3.ensures.value) are.groups) (in_group c.args.place) at are.short);
    }

pub returns-clause-ones : goal.returns-clause-ones
returns-clause-ones c = λ bits are at.
    let up : c.from.result ≡ one c.args.bit = search rules in
    let down : c.from-2.result ≡ one (not c.args.bit) = search rules in
    omega (arith, c.saturating_add-ones.ensures, c.saturating_sub-self.ensures, up, down, are.ones, ones_set bits c.args.place c.args.bit (not c.args.bit) at, ones_few bits, are.counted.short, one_small c.args.bit)
