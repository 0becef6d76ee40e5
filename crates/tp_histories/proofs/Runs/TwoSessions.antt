-- A free run of two partitions and two sessions: a put on both partitions, and once it is answered, a get on the second
-- by another session, which reads what was put. The four laws hold.
use Rattle.std.proofs.Common.{◌≡◌, true, List, [], ◌∷◌, Some, refl}
use Rattle.tp_ops.specs.declared.operation.Answer.TheVariants.{Missing, Value}
use Rattle.tp_ops.specs.declared.operation.Op.TheVariants.{Put, Get}
use Rattle.tp_ops.specs.declared.command.Command.{Command}
use Rattle.tp_histories.proofs.LawTests.{lawful_by_tests, passes}
use Rattle.tp_histories.proofs.Played.{free_on, may_play, played}
use Rattle.tp_histories.proofs.Words.{commit_at, process_at, executor_at, session_of, rank, id, command, the_laws, the_rules}
use Rattle.tp_rules.specs.Addresses.{site}
use Rattle.tp_rules.specs.Laws.{IsLawful}
use Rattle.tp_rules.specs.Outcome.{commits, executions, line, precedes, reply_to}
use Rattle.tp_rules.specs.Pending.{item}
use Rattle.tp_rules.specs.Runs.{IsFreeHistory}
use Rattle.tp_rules.specs.declared.event.Entry.{Entry}
use Rattle.tp_rules.specs.declared.event.Event.TheVariants.{Deliver, Inner as OfItself}
use Rattle.tp_rules.specs.declared.event.Inner.TheVariants.{Submit, Announce, Declare, Execute}
use Rattle.tp_rules.specs.declared.event.Item.{Item}
use Rattle.tp_script.specs.declared.script.Script.{Script}

-- put b 1 on partition 1 and put a 1 on partition 2, home rank 1
abbrev pub put_both : Command
put_both = command (id 1 1) 1 (Put (98 ∷ []) (49 ∷ []) ∷ Put (97 ∷ []) (49 ∷ []) ∷ [])

-- get a on partition 2, home rank 2
abbrev pub get_a : Command
get_a = command (id 2 1) 2 (Get (97 ∷ []) ∷ [])

abbrev pub script : Script
script = record {
  topology = record { partitions = 2; replicas = 3; failures = 1 };
  homes = rank 1 ∷ rank 2 ∷ [];
  commands = put_both ∷ get_a ∷ [];
  plan = [];
  picks = [];
}

abbrev pub steps : List Item
steps =
    item (session_of 1) (OfItself (Submit 1)) ∷
    item (process_at 1 1) (Deliver 1 1) ∷
    item (process_at 2 1) (Deliver 1 2) ∷
    item (process_at 1 2) (Deliver 2 1) ∷
    item (process_at 1 3) (Deliver 2 2) ∷
    item (process_at 2 1) (Deliver 2 3) ∷
    item (process_at 2 2) (Deliver 3 1) ∷
    item (process_at 2 3) (Deliver 3 2) ∷
    item (process_at 1 1) (Deliver 3 3) ∷
    item (process_at 1 1) (Deliver 4 1) ∷
    item (process_at 2 2) (Deliver 4 2) ∷
    item (process_at 2 1) (Deliver 7 1) ∷
    item (process_at 1 2) (Deliver 7 2) ∷
    item (process_at 1 2) (Deliver 10 1) ∷
    item (process_at 1 3) (Deliver 10 2) ∷
    item (process_at 2 1) (Deliver 10 3) ∷
    item (process_at 2 2) (Deliver 10 4) ∷
    item (process_at 2 3) (Deliver 10 5) ∷
    item (process_at 1 1) (Deliver 12 1) ∷
    item (process_at 1 2) (Deliver 12 2) ∷
    item (process_at 1 3) (Deliver 12 3) ∷
    item (process_at 2 2) (Deliver 12 4) ∷
    item (process_at 2 3) (Deliver 12 5) ∷
    item (executor_at 2 1) (Deliver 16 1) ∷
    item (executor_at 1 1) (Deliver 19 1) ∷
    item (executor_at 1 2) (Deliver 20 1) ∷
    item (executor_at 1 3) (Deliver 21 1) ∷
    item (executor_at 2 2) (Deliver 22 1) ∷
    item (executor_at 2 3) (Deliver 23 1) ∷
    item (process_at 1 1) (OfItself Announce) ∷
    item (executor_at 1 1) (Deliver 30 1) ∷
    item (executor_at 1 2) (Deliver 30 2) ∷
    item (executor_at 1 3) (Deliver 30 3) ∷
    item (process_at 1 2) (OfItself Announce) ∷
    item (executor_at 1 1) (Deliver 34 1) ∷
    item (executor_at 1 2) (Deliver 34 2) ∷
    item (executor_at 1 3) (Deliver 34 3) ∷
    item (process_at 1 3) (OfItself Announce) ∷
    item (executor_at 1 1) (Deliver 38 1) ∷
    item (executor_at 1 2) (Deliver 38 2) ∷
    item (executor_at 1 3) (Deliver 38 3) ∷
    item (process_at 2 1) (OfItself Announce) ∷
    item (executor_at 2 1) (Deliver 42 1) ∷
    item (executor_at 2 2) (Deliver 42 2) ∷
    item (executor_at 2 3) (Deliver 42 3) ∷
    item (process_at 2 2) (OfItself Announce) ∷
    item (executor_at 2 1) (Deliver 46 1) ∷
    item (executor_at 2 2) (Deliver 46 2) ∷
    item (executor_at 2 3) (Deliver 46 3) ∷
    item (process_at 2 3) (OfItself Announce) ∷
    item (executor_at 2 1) (Deliver 50 1) ∷
    item (executor_at 2 2) (Deliver 50 2) ∷
    item (executor_at 2 3) (Deliver 50 3) ∷
    item (executor_at 1 1) (OfItself (Declare (id 1 1))) ∷
    item (executor_at 2 1) (Deliver 54 1) ∷
    item (executor_at 2 2) (Deliver 54 2) ∷
    item (executor_at 2 3) (Deliver 54 3) ∷
    item (executor_at 1 2) (OfItself (Declare (id 1 1))) ∷
    item (executor_at 2 1) (Deliver 58 1) ∷
    item (executor_at 2 2) (Deliver 58 2) ∷
    item (executor_at 2 3) (Deliver 58 3) ∷
    item (executor_at 1 3) (OfItself (Declare (id 1 1))) ∷
    item (executor_at 2 1) (Deliver 62 1) ∷
    item (executor_at 2 2) (Deliver 62 2) ∷
    item (executor_at 2 3) (Deliver 62 3) ∷
    item (executor_at 2 1) (OfItself (Declare (id 1 1))) ∷
    item (executor_at 1 1) (Deliver 66 1) ∷
    item (executor_at 1 2) (Deliver 66 2) ∷
    item (executor_at 1 3) (Deliver 66 3) ∷
    item (executor_at 1 1) (OfItself (Execute (id 1 1))) ∷
    item (session_of 1) (Deliver 70 1) ∷
    item (executor_at 1 2) (OfItself (Execute (id 1 1))) ∷
    item (session_of 1) (Deliver 72 1) ∷
    item (executor_at 1 3) (OfItself (Execute (id 1 1))) ∷
    item (session_of 1) (Deliver 74 1) ∷
    item (executor_at 2 1) (OfItself (Execute (id 1 1))) ∷
    item (session_of 1) (Deliver 76 1) ∷
    item (session_of 2) (OfItself (Submit 1)) ∷
    item (process_at 2 2) (Deliver 78 1) ∷
    item (process_at 2 1) (Deliver 79 1) ∷
    item (process_at 2 3) (Deliver 79 2) ∷
    item (process_at 2 2) (Deliver 81 1) ∷
    item (process_at 2 1) (Deliver 82 1) ∷
    item (process_at 2 3) (Deliver 82 2) ∷
    item (executor_at 2 2) (Deliver 82 3) ∷
    item (executor_at 2 1) (Deliver 83 1) ∷
    item (executor_at 2 3) (Deliver 84 1) ∷
    item (process_at 2 1) (OfItself Announce) ∷
    item (executor_at 2 1) (Deliver 88 1) ∷
    item (executor_at 2 2) (Deliver 88 2) ∷
    item (executor_at 2 3) (Deliver 88 3) ∷
    item (process_at 2 2) (OfItself Announce) ∷
    item (executor_at 2 1) (Deliver 92 1) ∷
    item (executor_at 2 2) (Deliver 92 2) ∷
    item (executor_at 2 3) (Deliver 92 3) ∷
    item (process_at 2 3) (OfItself Announce) ∷
    item (executor_at 2 1) (Deliver 96 1) ∷
    item (executor_at 2 2) (Deliver 96 2) ∷
    item (executor_at 2 3) (Deliver 96 3) ∷
    item (executor_at 2 1) (OfItself (Execute (id 2 1))) ∷
    item (session_of 2) (Deliver 100 1) ∷
    item (executor_at 2 2) (OfItself (Declare (id 1 1))) ∷
    item (executor_at 1 1) (Deliver 102 1) ∷
    item (executor_at 1 2) (Deliver 102 2) ∷
    item (executor_at 1 3) (Deliver 102 3) ∷
    item (executor_at 2 2) (OfItself (Execute (id 1 1))) ∷
    item (session_of 1) (Deliver 106 1) ∷
    item (executor_at 2 2) (OfItself (Execute (id 2 1))) ∷
    item (session_of 2) (Deliver 108 1) ∷
    item (executor_at 2 3) (OfItself (Declare (id 1 1))) ∷
    item (executor_at 1 1) (Deliver 110 1) ∷
    item (executor_at 1 2) (Deliver 110 2) ∷
    item (executor_at 1 3) (Deliver 110 3) ∷
    item (executor_at 2 3) (OfItself (Execute (id 1 1))) ∷
    item (session_of 1) (Deliver 114 1) ∷
    item (executor_at 2 3) (OfItself (Execute (id 2 1))) ∷
    item (session_of 2) (Deliver 116 1) ∷
    []

abbrev pub journal : List Entry
journal = played script steps

may : may_play script [] steps ≡ true
unfolding the_rules
may = refl

is_free : IsFreeHistory script journal
is_free = free_on script [] steps tt may

-- what it comes to

committed : commits journal ≡
    commit_at 2 1 (id 1 1) 1 ∷
    commit_at 1 1 (id 1 1) 1 ∷
    commit_at 1 2 (id 1 1) 1 ∷
    commit_at 1 3 (id 1 1) 1 ∷
    commit_at 2 2 (id 1 1) 1 ∷
    commit_at 2 3 (id 1 1) 1 ∷
    commit_at 2 2 (id 2 1) 2 ∷
    commit_at 2 1 (id 2 1) 2 ∷
    commit_at 2 3 (id 2 1) 2 ∷
    []
unfolding the_rules
committed = refl

executed_at_1_1 : executions journal (site 1 1) ≡ id 1 1 ∷ []
executed_at_1_1 = refl

executed_at_1_2 : executions journal (site 1 2) ≡ id 1 1 ∷ []
executed_at_1_2 = refl

executed_at_1_3 : executions journal (site 1 3) ≡ id 1 1 ∷ []
executed_at_1_3 = refl

executed_at_2_1 : executions journal (site 2 1) ≡ id 1 1 ∷ id 2 1 ∷ []
executed_at_2_1 = refl

executed_at_2_2 : executions journal (site 2 2) ≡ id 1 1 ∷ id 2 1 ∷ []
executed_at_2_2 = refl

executed_at_2_3 : executions journal (site 2 3) ≡ id 1 1 ∷ id 2 1 ∷ []
executed_at_2_3 = refl

in_line : line journal ≡ id 1 1 ∷ id 2 1 ∷ []
in_line = refl

reply_1_1 : reply_to script journal (id 1 1) ≡ Some (Missing ∷ Missing ∷ [])
unfolding the_rules
reply_1_1 = refl

reply_2_1 : reply_to script journal (id 2 1) ≡ Some (Value (49 ∷ []) ∷ [])
unfolding the_rules
reply_2_1 = refl

-- the put was answered before the get was submitted
in_real_time : precedes script journal (id 1 1) (id 2 1) ≡ true
unfolding the_rules
in_real_time = refl

tested : passes script journal ≡ true
unfolding the_laws
tested = refl

lawful : IsLawful script journal
unfolding the_laws
lawful = lawful_by_tests script journal tested ((refl, refl), ((refl, refl), tt))
