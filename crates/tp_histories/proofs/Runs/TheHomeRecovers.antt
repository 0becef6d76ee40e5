-- The run in which the home recovers its own put. All three replicas execute it at stamp 1, and the four laws hold.
use Rattle.std.proofs.Common.{◌≡◌, true, List, [], ◌∷◌, Some, refl, subst}
use Rattle.tp_ops.specs.declared.operation.Answer.TheVariants.{Missing}
use Rattle.tp_histories.proofs.LawTests.{lawful_by_tests, passes}
use Rattle.tp_histories.proofs.OnePut.Journal.{one_put}
use Rattle.tp_histories.proofs.Planned.{are_allowed, goes_on}
use Rattle.tp_histories.proofs.Played.{may_play, played}
use Rattle.tp_histories.proofs.Scheduled.{scheduled, scheduled_is_picked}
use Rattle.tp_histories.proofs.Words.{commit_at, process_at, executor_at, session_of, id, the_laws, the_plan, the_rules}
use Rattle.tp_rules.specs.Addresses.{site}
use Rattle.tp_rules.specs.Laws.{IsLawful}
use Rattle.tp_rules.specs.Outcome.{commits, executions, line, reply_to}
use Rattle.tp_rules.specs.Pending.{IsPickedHistory, item, pending}
use Rattle.tp_rules.specs.Runs.{IsHistory}
use Rattle.tp_rules.specs.declared.event.Entry.{Entry}
use Rattle.tp_rules.specs.declared.event.Event.TheVariants.{Deliver, Inner as OfItself}
use Rattle.tp_rules.specs.declared.event.Inner.TheVariants.{Submit, Announce, Execute, Recover}
use Rattle.tp_rules.specs.declared.event.Item.{Item}
use Rattle.tp_script.specs.declared.script.PlanLine.TheVariants.{Recover as RecoverLine}
use Rattle.tp_script.specs.declared.script.Script.{Script}

abbrev pub script : Script
script = record one_put { plan = RecoverLine (site 1 1) (id 1 1) 1 ∷ [] }

abbrev pub steps : List Item
steps =
    item (session_of 1) (OfItself (Submit 1)) ∷
    item (process_at 1 1) (Deliver 1 1) ∷
    item (process_at 1 1) (OfItself (Recover (id 1 1))) ∷
    item (process_at 1 2) (Deliver 2 1) ∷
    item (process_at 1 3) (Deliver 2 2) ∷
    item (process_at 1 1) (Deliver 3 1) ∷
    item (process_at 1 2) (Deliver 3 2) ∷
    item (process_at 1 3) (Deliver 3 3) ∷
    item (process_at 1 1) (Deliver 4 1) ∷
    item (process_at 1 1) (Deliver 6 1) ∷
    item (process_at 1 1) (Deliver 7 1) ∷
    item (process_at 1 1) (Deliver 8 1) ∷
    item (process_at 1 1) (Deliver 11 1) ∷
    item (process_at 1 2) (Deliver 11 2) ∷
    item (process_at 1 3) (Deliver 11 3) ∷
    item (process_at 1 1) (Deliver 13 1) ∷
    item (process_at 1 1) (Deliver 14 1) ∷
    item (process_at 1 1) (Deliver 15 1) ∷
    item (process_at 1 2) (Deliver 17 1) ∷
    item (process_at 1 3) (Deliver 17 2) ∷
    item (executor_at 1 1) (Deliver 17 3) ∷
    item (executor_at 1 2) (Deliver 19 1) ∷
    item (executor_at 1 3) (Deliver 20 1) ∷
    item (process_at 1 1) (OfItself Announce) ∷
    item (executor_at 1 1) (Deliver 24 1) ∷
    item (executor_at 1 2) (Deliver 24 2) ∷
    item (executor_at 1 3) (Deliver 24 3) ∷
    item (process_at 1 2) (OfItself Announce) ∷
    item (executor_at 1 1) (Deliver 28 1) ∷
    item (executor_at 1 2) (Deliver 28 2) ∷
    item (executor_at 1 3) (Deliver 28 3) ∷
    item (process_at 1 3) (OfItself Announce) ∷
    item (executor_at 1 1) (Deliver 32 1) ∷
    item (executor_at 1 2) (Deliver 32 2) ∷
    item (executor_at 1 3) (Deliver 32 3) ∷
    item (executor_at 1 1) (OfItself (Execute (id 1 1))) ∷
    item (session_of 1) (Deliver 36 1) ∷
    item (executor_at 1 2) (OfItself (Execute (id 1 1))) ∷
    item (session_of 1) (Deliver 38 1) ∷
    item (executor_at 1 3) (OfItself (Execute (id 1 1))) ∷
    item (session_of 1) (Deliver 40 1) ∷
    []

abbrev pub journal : List Entry
journal = played script steps

-- each step may be made, and the plan allows it

may : may_play script [] steps ≡ true
unfolding the_rules
may = refl

allowed : are_allowed script [] steps ≡ true
unfolding the_plan
allowed = refl

is_run : IsHistory script journal
is_run = goes_on script [] steps tt may allowed

-- it is the one that the script makes, to its end

is_scheduled : scheduled script 41 ≡ journal
unfolding the_plan
is_scheduled = refl

is_picked : IsPickedHistory script journal
is_picked = subst (IsPickedHistory script) is_scheduled (scheduled_is_picked script 41)

is_quiet : pending script journal ≡ []
unfolding the_plan
is_quiet = refl

-- what it comes to

committed : commits journal ≡
    commit_at 1 1 (id 1 1) 1 ∷
    commit_at 1 2 (id 1 1) 1 ∷
    commit_at 1 3 (id 1 1) 1 ∷
    []
unfolding the_rules
committed = refl

executed_at_1_1 : executions journal (site 1 1) ≡ id 1 1 ∷ []
executed_at_1_1 = refl

executed_at_1_2 : executions journal (site 1 2) ≡ id 1 1 ∷ []
executed_at_1_2 = refl

executed_at_1_3 : executions journal (site 1 3) ≡ id 1 1 ∷ []
executed_at_1_3 = refl

in_line : line journal ≡ id 1 1 ∷ []
in_line = refl

reply_1_1 : reply_to script journal (id 1 1) ≡ Some (Missing ∷ [])
unfolding the_rules
reply_1_1 = refl

tested : passes script journal ≡ true
unfolding the_laws
tested = refl

lawful : IsLawful script journal
unfolding the_laws
lawful = lawful_by_tests script journal tested ((refl, refl), tt)
