use Rattle.std.proofs.Common.{nat_lt, rules}
use Rattle.std.proofs.lemmas.Fn.{filter_same}
use Rattle.tp_promise.proofs.ranges.drop_passed.Goals as goal

pub returns : goal.returns
returns c = filter_same _ (λ r. nat_lt c.args.front r.hi) _ (λ x b f' k. search rules) _ _ c.retain.ensures.filtered
