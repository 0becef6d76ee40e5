use Rattle.std.proofs.Common.{◌≡◌, ℕ, ◌-◌, ◌==◌, Some, None, cond, is_some, true, false, ap, ◌∙◌}
use Rattle.std.specs.Option.{option_or}
use Rattle.tp_base.specs.Tables.{kept_at}
use Rattle.tp_print.proofs.KeptFirst.{kept_still, kept_with}
use Rattle.tp_print.proofs.first_results.FirstResults.put.Goals as goal

pub returns-then-is_some : goal.returns-then-is_some
returns-then-is_some c = λ q.
    let some : is_some c.index-kept-place.result ≡ true = cc in
    kept_still c.self.inside.answers c.args.p.0 (c.from-place.result - 1) c.index-kept-place.result c.requires.from
    c.requires.to
    c.self.invariant (ap (λ (n : ℕ). n - 1) c.from-place.ensures) c.index-kept-place.is c.args.answers.now some q
    ∙ ap (λ table. option_or (kept_at table q) (cond (c.args.p.0 == q) (Some c.args.answers.now) None)) c.self.view_is

pub returns : goal.returns
returns c = λ q.
    let none : is_some c.index-kept-place.result ≡ false = cc in
    kept_with c.self.inside.answers c.args.p.0 (c.from-place.result - 1) c.index-kept-place.result c.requires.from
    c.requires.to
    c.self.invariant (ap (λ (n : ℕ). n - 1) c.from-place.ensures) c.index-kept-place.is c.args.answers none q
    ∙ ap (λ table. option_or (kept_at table q) (cond (c.args.p.0 == q) (Some c.args.answers.now) None)) c.self.view_is
