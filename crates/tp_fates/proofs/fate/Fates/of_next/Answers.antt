use Rattle.std.proofs.Common.{ap}
use Rattle.std.proofs.lemmas.List.{nil_from_length}
use Rattle.std.specs.Map.{lookup}
use Rattle.tp_fates.proofs.NextFates.{tells_counted, tells_others}
use Rattle.tp_fates.proofs.fate.Fates.of_next.Goals as goal
use Rattle.tp_fates.specs.Fates.{same_passage}

pub returns-then-is_empty : goal.returns-then-is_empty
returns-then-is_empty c =
    tells_others c.args.self.now c.args.routes.now c.args.route
    (λ passage. ap (lookup (same_passage passage)) (nil_from_length c.args.self.now.named.entries (c.is_empty.ensures.0 c.if-is_empty.true)))

pub returns : goal.returns
returns c = tells_counted c.args.self.now c.args.routes.now c.count.new.self c.args.route c.in_ok-ordinal.ordinal c.of.result c.in_ok-ordinal.ensures c.of.ensures
