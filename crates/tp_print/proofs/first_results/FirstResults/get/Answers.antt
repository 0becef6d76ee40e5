use Rattle.std.proofs.Common.{ℕ, ◌-◌, ap, sym, ◌∙◌}
use Rattle.tp_base.specs.Tables.{kept_at}
use Rattle.tp_print.proofs.KeptFirst.{kept_here}
use Rattle.tp_print.proofs.first_results.FirstResults.get.Goals as goal

pub returns : goal.returns
returns c =
    sym (kept_here c.self.inside.answers c.args.p.0 (c.from.result - 1) c.index-kept-from.result c.requires.from
    c.requires.to
    c.self.invariant (ap (λ (n : ℕ). n - 1) c.from.ensures) c.index-kept-from.is)
    ∙ ap (λ table. kept_at table c.args.p.0) c.self.view_is
