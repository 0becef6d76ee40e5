use Rattle.std.proofs.Common.{◌≡◌, ◌++◌, ◌∷◌, [], ◌/◌, length, Bool, List, rules, sym, ap, subst, ◌∙◌, arith}
use Rattle.tp_bits.proofs.Searches.{in_block, in_group, in_row}
use Rattle.tp_bits.proofs.Sums.{one_small, ones_few, ones_push}
use Rattle.tp_bits.proofs.bits.Bits.push.Goals as goal
use Rattle.tp_bits.specs.Bits.{IsBlockOf, one}

pub returns : goal.returns
returns c = λ bits are.
    let was = are.counted in
    let unit : c.from.result ≡ one c.args.bit = search rules in
    let place : c.len-place.result ≡ length bits = omega (arith, c.len-place.ensures, ap length was.items) in
    record {
      counted = record {
        items = c.in_ok-push.ensures.items ∙ ap (λ (l : List Bool). l ++ c.args.bit ∷ []) was.items;
        short = omega (arith, c.push.new.self.ok.0, c.push.new.self.ok.1, c.push.new.self.small, ap length c.in_ok-push.ensures.items, ap (λ (l : List Bool). length (l ++ c.args.bit ∷ [])) was.items);
        blocks = c.in_ok-count_new.ensures 32 bits was.blocks (subst (λ n. IsBlockOf 32 (length bits) (n / 32)) (sym place) (in_block (length bits))) was.short;
        rows = c.in_ok-count_new-2.ensures 512 bits was.rows (subst (λ n. IsBlockOf 512 (length bits) (n / 512)) (sym place) (in_row (length bits))) was.short;
        groups = c.in_ok-count_new-3.ensures 8192 bits was.groups (subst (λ n. IsBlockOf 8192 (length bits) (n / 8192)) (sym place) (in_group (length bits))) was.short;
      };
      ones = omega (arith, c.saturating_add-self.ensures, unit, are.ones, ones_push bits c.args.bit, ones_few bits, was.short, one_small c.args.bit);
      first = c.first_pushed-self.ensures bits are.first place;
    }
