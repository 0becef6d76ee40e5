-- The run in which every site crashes before its process makes an entry: the put is submitted, and nobody takes it.
-- The four laws hold.
use Rattle.std.proofs.Common.{◌≡◌, true, List, [], ◌∷◌, None, refl, subst}
use Rattle.tp_histories.proofs.LawTests.{lawful_by_tests, passes}
use Rattle.tp_histories.proofs.OnePut.Journal.{one_put}
use Rattle.tp_histories.proofs.Planned.{are_allowed, goes_on}
use Rattle.tp_histories.proofs.Played.{may_play, played}
use Rattle.tp_histories.proofs.Scheduled.{scheduled, scheduled_is_picked}
use Rattle.tp_histories.proofs.Words.{process_at, session_of, id, the_laws, the_plan, the_rules}
use Rattle.tp_rules.specs.Addresses.{site}
use Rattle.tp_rules.specs.Journal.{has_crashed}
use Rattle.tp_rules.specs.Laws.{IsLawful}
use Rattle.tp_rules.specs.Outcome.{commits, executions, line, reply_to}
use Rattle.tp_rules.specs.Pending.{IsPickedHistory, item, pending}
use Rattle.tp_rules.specs.Runs.{IsHistory}
use Rattle.tp_rules.specs.declared.event.Entry.{Entry}
use Rattle.tp_rules.specs.declared.event.Event.TheVariants.{Inner as OfItself}
use Rattle.tp_rules.specs.declared.event.Inner.TheVariants.{Submit, Crash}
use Rattle.tp_rules.specs.declared.event.Item.{Item}
use Rattle.tp_script.specs.declared.script.PlanLine.TheVariants.{Crash as CrashLine}
use Rattle.tp_script.specs.declared.script.Script.{Script}

abbrev pub script : Script
script = record one_put { plan = CrashLine (site 1 1) 0 ∷ CrashLine (site 1 2) 0 ∷ CrashLine (site 1 3) 0 ∷ [] }

abbrev pub steps : List Item
steps =
    item (process_at 1 1) (OfItself Crash) ∷
    item (process_at 1 2) (OfItself Crash) ∷
    item (process_at 1 3) (OfItself Crash) ∷
    item (session_of 1) (OfItself (Submit 1)) ∷
    []

abbrev pub journal : List Entry
journal = played script steps

-- each step may be made, and the plan allows it

may : may_play script [] steps ≡ true
unfolding the_rules
may = refl

allowed : are_allowed script [] steps ≡ true
unfolding the_plan
allowed = refl

is_run : IsHistory script journal
is_run = goes_on script [] steps tt may allowed

-- it is the one that the script makes, to its end

is_scheduled : scheduled script 4 ≡ journal
unfolding the_plan
is_scheduled = refl

is_picked : IsPickedHistory script journal
is_picked = subst (IsPickedHistory script) is_scheduled (scheduled_is_picked script 4)

is_quiet : pending script journal ≡ []
unfolding the_plan
is_quiet = refl

-- at first the three lines and the submission are pending, in this order
first : pending script [] ≡
    item (process_at 1 1) (OfItself Crash) ∷
    item (process_at 1 2) (OfItself Crash) ∷
    item (process_at 1 3) (OfItself Crash) ∷
    item (session_of 1) (OfItself (Submit 1)) ∷
    []
unfolding the_plan
first = refl

-- what it comes to

committed : commits journal ≡ []
unfolding the_rules
committed = refl

crashed_1_1 : has_crashed journal (site 1 1) ≡ true
crashed_1_1 = refl

executed_at_1_1 : executions journal (site 1 1) ≡ []
executed_at_1_1 = refl

crashed_1_2 : has_crashed journal (site 1 2) ≡ true
crashed_1_2 = refl

executed_at_1_2 : executions journal (site 1 2) ≡ []
executed_at_1_2 = refl

crashed_1_3 : has_crashed journal (site 1 3) ≡ true
crashed_1_3 = refl

executed_at_1_3 : executions journal (site 1 3) ≡ []
executed_at_1_3 = refl

in_line : line journal ≡ []
in_line = refl

stays_open : reply_to script journal (id 1 1) ≡ None
unfolding the_rules
stays_open = refl

tested : passes script journal ≡ true
unfolding the_laws
tested = refl

lawful : IsLawful script journal
unfolding the_laws
lawful = lawful_by_tests script journal tested (tt, tt)
