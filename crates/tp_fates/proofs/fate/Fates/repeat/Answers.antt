use Rattle.std.proofs.Common.{◌≡◌, Bool, Some, refl, subst, sym, ap, ◌∙◌}
use Rattle.std.specs.Prelude.{cond, Option}
use Rattle.indexmap.specs.IndexMap.{get}
use Rattle.tp_fates.proofs.FateTables.{repeated_is, stays_lost}
use Rattle.tp_fates.proofs.SameRoutes.{passage_by_code}
use Rattle.tp_fates.proofs.fate.Fates.repeat.Goals as goal
use Rattle.tp_fates.specs.Fates.{named_in, same_passage}
use Rattle.tp_fates.specs.declared.fate.Fate.{Fate}
use Rattle.tp_fates.specs.declared.fate.Fate.TheVariants.{Times}
use Rattle.tp_fates.specs.declared.fate.Passage.{Passage}

pub returns-then-is_lost : goal.returns-then-is_lost
returns-then-is_lost c = stays_lost c.args.self.now c.args.passage c.args.times (sym c.is_lost.ensures ∙ c.if-is_lost.true)

pub returns : goal.returns
returns c = record {
  named = λ other. subst (λ (same : Passage → Passage → Bool). get same c.insert.new.self other ≡
      cond (same c.args.passage other) (Some (Times c.args.times)) (get same c.args.self.now.named other)) passage_by_code (c.in_ok-insert.ensures.updates.0 other)
      ∙ ap (λ (fate : Option Fate). cond (same_passage c.args.passage other) fate (named_in c.args.self.now other))
      (repeated_is (named_in c.args.self.now c.args.passage) c.args.times (sym c.is_lost.ensures ∙ c.if-is_lost.false));
  others = refl;
}
