use Rattle.std.proofs.Common.{◌≡◌, Bool, Some, None, subst, sym}
use Rattle.indexmap.specs.IndexMap.{get}
use Rattle.tp_fates.proofs.FateTables.{fate_is, fate_of_others}
use Rattle.tp_fates.proofs.SameRoutes.{passage_by_code}
use Rattle.tp_fates.proofs.fate.Fates.of.Goals as goal
use Rattle.tp_fates.specs.declared.fate.Passage.{Passage}

pub returns-in-Some : goal.returns-in-Some
returns-in-Some c = λ plan are. fate_is plan c.args.self.now are c.args.passage c.in-Some.fate.now
    (subst (λ (same : Passage → Passage → Bool). get same c.args.self.now.named c.args.passage ≡ Some c.in-Some.fate.now) passage_by_code (sym c.in-Some.ensures.value))

pub returns-in-None : goal.returns-in-None
returns-in-None c = λ plan are. fate_of_others plan c.args.self.now are c.args.passage
    (subst (λ (same : Passage → Passage → Bool). get same c.args.self.now.named c.args.passage ≡ None) passage_by_code (sym c.in-None.ensures.value))
