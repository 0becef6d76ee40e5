use Rattle.std.proofs.Common.{◌≡◌, ◌+◌, ◌<◌, ◌^◌, ◌++◌, ◌∷◌, [], List, Option, Some, get_or, length, take, sym, ap, subst, ◌∙◌, arith}
use Rattle.std.proofs.lemmas.Option.{slice_get-get_or}
use Rattle.std.specs.Prelude.{IfSome, reverse, slice_get}
use Rattle.tp_check.proofs.Replays.{first_illegal, front_long, next_is, no_run, run_next}
use Rattle.tp_check.proofs.checker.replay.Goals as goal
use Rattle.tp_check.specs.Causes.{IsCause}
use Rattle.tp_check.specs.Verdicts.{IsFirstIllegal}
use Rattle.tp_check.specs.declared.verdict.EntryCause.{EntryCause}
use Rattle.tp_driver.specs.Cast.{AllStand}
use Rattle.tp_netbook.specs.Ledger.{IsLedger}
use Rattle.tp_rules.proofs.Journals.{run_none}
use Rattle.tp_rules.specs.Runs.{IsRun}
use Rattle.tp_rules.specs.declared.event.Entry.{Entry}

-- the entry at a place of the list
there : (journal : List Entry) (k : _) (e : Entry) → e ≡ get_or journal k e → k < length journal → slice_get journal k ≡ Some e
there journal k e is lt = slice_get-get_or journal k e lt ∙ ap (λ (x : Entry). Some x) (sym is)

pub loop-k-init : goal.loop-k-init
loop-k-init g c = record { run = run_none c.args.script.now; ledger = c.in_ok-ledger.ensures; cast = c.requires.cast }

pub returns-in-Some-clause-verdict : goal.returns-in-Some-clause-verdict
returns-in-Some-clause-verdict g c =
    let journal : List Entry = c.as_slice-journal.result.now in
    let e : Entry = c.index-journal-k.result in
    let at = there journal c.loop-k.k e c.index-journal-k.is c.loop-k-test.true in
    let why : IsCause c.args.script.now (reverse (take c.loop-k.k journal)) e c.in-Some.cause =
    subst (λ (o : Option EntryCause). IfSome o (IsCause c.args.script.now (reverse (take c.loop-k.k journal)) e)) c.in-Some.is c.in_ok-cause.ensures.cause in
    subst (λ (j : List Entry). IsFirstIllegal c.args.script.now j (c.loop-k.k + 1) c.in-Some.cause) c.as_slice-journal.ensures
    (first_illegal c.args.script.now journal c.loop-k.k e at c.in-Some.cause c.loop-k.invariant.run why)

pub returns-in-Some-clause-exact : goal.returns-in-Some-clause-exact
returns-in-Some-clause-exact g c = (
  (λ wrong. absurd wrong),
  no_run c.args.script.now c.args.entries.now (c.loop-k.k + 1) c.in-Some.cause (returns-in-Some-clause-verdict g c),
)

pub loop-k-preserved : goal.loop-k-preserved
loop-k-preserved g c =
    let journal : List Entry = c.as_slice-journal.result.now in
    let e : Entry = c.index-journal-k.result in
    let at = there journal c.loop-k.k e c.index-journal-k.is c.loop-k-test.true in
    let next : take c.loop-k.k journal ++ e ∷ [] ≡ take (c.loop-k.k + 1) journal = next_is c.args.script.now journal c.loop-k.k e at in
    let run : IsRun c.args.script.now (take c.loop-k.k journal ++ e ∷ []) =
    run_next c.args.script.now journal c.loop-k.k e at c.loop-k.invariant.run (c.in_ok-cause.ensures.legal c.in_default.is) in
    let short : length (take c.loop-k.k journal) + 1 < 2 ^ 64 = omega (arith, front_long c.args.script.now journal c.loop-k.k e at, c.loop-k-test.true, c.loop-k.auto.k-end) in
    record {
      run = subst (IsRun c.args.script.now) next run;
      ledger = subst (λ (j : List Entry). IsLedger c.args.script.now j c.entered.new.self) next
          (c.in_ok-entered.ensures c.args.script.now (take c.loop-k.k journal) c.loop-k.invariant.ledger c.requires.accepted run short);
      cast = subst (AllStand g.A.Actor.identity_of g.A.Actor.is_spent g.A.Actor.stands c.args.script.now c.cause_of.new.actors) next
          (c.in_ok-cause.ensures.cast c.in_default.is);
    }
