use Rattle.std.proofs.Common.{◌≡◌, Bool, Some, refl, subst}
use Rattle.std.specs.Prelude.{cond}
use Rattle.indexmap.specs.IndexMap.{get}
use Rattle.tp_fates.proofs.SameRoutes.{passage_by_code}
use Rattle.tp_fates.proofs.fate.Fates.lose.Goals as goal
use Rattle.tp_fates.specs.declared.fate.Fate.TheVariants.{Lost}
use Rattle.tp_fates.specs.declared.fate.Passage.{Passage}

pub returns : goal.returns
returns c = record {
  named = λ other. subst (λ (same : Passage → Passage → Bool). get same c.insert.new.self other ≡
      cond (same c.args.passage other) (Some Lost) (get same c.args.self.now.named other)) passage_by_code (c.in_ok-insert.ensures.updates.0 other);
  others = refl;
}
