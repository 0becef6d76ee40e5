use Rattle.std.proofs.Common.{◌≡◌, ◌<◌, Bool, List, Some, not, length, set, sym, ap, subst, ◌∙◌, arith}
use Rattle.std.proofs.lemmas.Option.{slice_get-get_or}
use Rattle.std.specs.Prelude.{slice_get}
use Rattle.tp_bits.proofs.Searches.{other_bit, same_bit}
use Rattle.tp_bits.proofs.Sums.{set_past, set_same}
use Rattle.tp_bits.proofs.bits.Bits.set.Goals as goal
use Rattle.tp_bits.specs.Bits.{AreBits, AreCounted}

pub returns-then-place-len : goal.returns-then-place-len
returns-then-place-len c = λ bits are.
    subst (λ l. AreBits l c.args.self.now) (sym (set_past bits c.args.place c.args.bit (omega (arith, c.if-place-len.true, c.len.ensures, ap length are.counted.items)))) are

pub returns-then-index-bit : goal.returns-then-index-bit
returns-then-index-bit c = λ bits are.
    let lt : c.args.place < length c.args.self.now.bits.items = omega (arith, c.if-place-len.false, c.len.ensures) in
    let at : slice_get bits c.args.place ≡ Some c.args.bit = ap (λ (l : List Bool). slice_get l c.args.place) (sym are.counted.items)
    ∙ slice_get-get_or c.args.self.now.bits.items c.args.place c.index.result.now lt ∙ ap (λ (b : Bool). Some b) (sym c.index.ensures ∙ same_bit c.index.result.now c.args.bit c.if-index-bit.true) in
    subst (λ l. AreBits l c.args.self.now) (sym (set_same bits c.args.place c.args.bit at)) are

pub returns : goal.returns
returns c = λ bits are.
    let lt : c.args.place < length c.args.self.now.bits.items = omega (arith, c.if-place-len.false, c.len.ensures) in
    let at : slice_get bits c.args.place ≡ Some (not c.args.bit) = ap (λ (l : List Bool). slice_get l c.args.place) (sym are.counted.items)
    ∙ slice_get-get_or c.args.self.now.bits.items c.args.place c.index.result.now lt ∙ ap (λ (b : Bool). Some b) (sym c.index.ensures ∙ other_bit c.index.result.now c.args.bit c.if-index-bit.false) in
    let now : AreCounted (set bits c.args.place c.args.bit) c.turn.new.self = c.turn.ensures.counted bits are.counted at in
    record {
      counted = record { items = now.items; short = now.short; blocks = now.blocks; rows = now.rows; groups = now.groups };
      ones = c.turn.ensures.ones bits are at;
      first = c.first_turned-self.ensures bits now at (c.turn.ensures.first ∙ are.first);
    }
