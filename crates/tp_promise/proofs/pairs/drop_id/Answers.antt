use Rattle.std.proofs.Common.{not, rules}
use Rattle.std.proofs.lemmas.Fn.{filter_same}
use Rattle.tp_base.specs.Names.{same_id}
use Rattle.tp_promise.proofs.pairs.drop_id.Goals as goal

pub returns : goal.returns
returns c = filter_same _ (λ p. not (same_id p.id c.args.id)) _ (λ x b f' k. search rules) _ _ c.retain.ensures.filtered
