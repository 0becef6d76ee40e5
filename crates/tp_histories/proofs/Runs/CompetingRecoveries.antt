-- The run in which two replicas recover the put of a home that crashed. Both execute it at the stamp that the home
-- proposed, and the four laws hold.
use Rattle.std.proofs.Common.{◌≡◌, true, List, [], ◌∷◌, Some, refl, subst}
use Rattle.tp_ops.specs.declared.operation.Answer.TheVariants.{Missing}
use Rattle.tp_histories.proofs.LawTests.{lawful_by_tests, passes}
use Rattle.tp_histories.proofs.OnePut.Journal.{one_put}
use Rattle.tp_histories.proofs.Planned.{are_allowed, goes_on}
use Rattle.tp_histories.proofs.Played.{may_play, played}
use Rattle.tp_histories.proofs.Scheduled.{scheduled, scheduled_is_picked}
use Rattle.tp_histories.proofs.Words.{commit_at, process_at, executor_at, session_of, id, the_laws, the_plan, the_rules}
use Rattle.tp_rules.specs.Addresses.{site}
use Rattle.tp_rules.specs.Journal.{has_crashed}
use Rattle.tp_rules.specs.Laws.{IsLawful}
use Rattle.tp_rules.specs.Outcome.{commits, executions, line, reply_to}
use Rattle.tp_rules.specs.Pending.{IsPickedHistory, item, pending}
use Rattle.tp_rules.specs.Runs.{IsHistory}
use Rattle.tp_rules.specs.declared.event.Entry.{Entry}
use Rattle.tp_rules.specs.declared.event.Event.TheVariants.{Deliver, Inner as OfItself}
use Rattle.tp_rules.specs.declared.event.Inner.TheVariants.{Submit, Announce, Execute, Recover, Crash}
use Rattle.tp_rules.specs.declared.event.Item.{Item}
use Rattle.tp_script.specs.declared.script.PlanLine.TheVariants.{Crash as CrashLine, Recover as RecoverLine}
use Rattle.tp_script.specs.declared.script.Script.{Script}

-- the home crashes once it proposed, and the two others recover once they know the command
abbrev pub script : Script
script = record one_put {
  plan = CrashLine (site 1 1) 1 ∷ RecoverLine (site 1 2) (id 1 1) 1 ∷ RecoverLine (site 1 3) (id 1 1) 1 ∷ [];
}

abbrev pub steps : List Item
steps =
    item (session_of 1) (OfItself (Submit 1)) ∷
    item (process_at 1 1) (Deliver 1 1) ∷
    item (process_at 1 1) (OfItself Crash) ∷
    item (process_at 1 2) (Deliver 2 1) ∷
    item (process_at 1 2) (OfItself (Recover (id 1 1))) ∷
    item (process_at 1 3) (Deliver 2 2) ∷
    item (process_at 1 3) (OfItself (Recover (id 1 1))) ∷
    item (process_at 1 2) (Deliver 5 2) ∷
    item (process_at 1 3) (Deliver 5 3) ∷
    item (process_at 1 2) (Deliver 7 2) ∷
    item (process_at 1 3) (Deliver 7 3) ∷
    item (process_at 1 2) (Deliver 8 1) ∷
    item (process_at 1 2) (Deliver 9 1) ∷
    item (process_at 1 3) (Deliver 10 1) ∷
    item (process_at 1 3) (Deliver 11 1) ∷
    item (process_at 1 2) (Deliver 13 2) ∷
    item (process_at 1 3) (Deliver 13 3) ∷
    item (process_at 1 2) (Deliver 15 2) ∷
    item (process_at 1 3) (Deliver 15 3) ∷
    item (process_at 1 3) (Deliver 18 1) ∷
    item (process_at 1 3) (Deliver 19 1) ∷
    item (process_at 1 2) (Deliver 21 2) ∷
    item (executor_at 1 3) (Deliver 21 3) ∷
    item (executor_at 1 2) (Deliver 22 1) ∷
    item (process_at 1 2) (OfItself Announce) ∷
    item (executor_at 1 2) (Deliver 25 2) ∷
    item (executor_at 1 3) (Deliver 25 3) ∷
    item (process_at 1 3) (OfItself Announce) ∷
    item (executor_at 1 2) (Deliver 28 2) ∷
    item (executor_at 1 3) (Deliver 28 3) ∷
    item (executor_at 1 2) (OfItself (Execute (id 1 1))) ∷
    item (session_of 1) (Deliver 31 1) ∷
    item (executor_at 1 3) (OfItself (Execute (id 1 1))) ∷
    item (session_of 1) (Deliver 33 1) ∷
    []

abbrev pub journal : List Entry
journal = played script steps

-- each step may be made, and the plan allows it

may : may_play script [] steps ≡ true
unfolding the_rules
may = refl

allowed : are_allowed script [] steps ≡ true
unfolding the_plan
allowed = refl

is_run : IsHistory script journal
is_run = goes_on script [] steps tt may allowed

-- it is the one that the script makes, to its end

is_scheduled : scheduled script 34 ≡ journal
unfolding the_plan
is_scheduled = refl

is_picked : IsPickedHistory script journal
is_picked = subst (IsPickedHistory script) is_scheduled (scheduled_is_picked script 34)

is_quiet : pending script journal ≡ []
unfolding the_plan
is_quiet = refl

-- what it comes to

committed : commits journal ≡
    commit_at 1 3 (id 1 1) 1 ∷
    commit_at 1 2 (id 1 1) 1 ∷
    []
unfolding the_rules
committed = refl

crashed_1_1 : has_crashed journal (site 1 1) ≡ true
crashed_1_1 = refl

executed_at_1_1 : executions journal (site 1 1) ≡ []
executed_at_1_1 = refl

executed_at_1_2 : executions journal (site 1 2) ≡ id 1 1 ∷ []
executed_at_1_2 = refl

executed_at_1_3 : executions journal (site 1 3) ≡ id 1 1 ∷ []
executed_at_1_3 = refl

in_line : line journal ≡ id 1 1 ∷ []
in_line = refl

reply_1_1 : reply_to script journal (id 1 1) ≡ Some (Missing ∷ [])
unfolding the_rules
reply_1_1 = refl

tested : passes script journal ≡ true
unfolding the_laws
tested = refl

lawful : IsLawful script journal
unfolding the_laws
lawful = lawful_by_tests script journal tested ((refl, refl), tt)
