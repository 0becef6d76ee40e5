-- The four laws of a journal by tests that compute. Used for each whole run of this crate.
use Rattle.std.proofs.Common.{◌≡◌, ℕ, ◌==◌, ◌≤◌, ◌&&◌, ◌||◌, not, inl, inr, Bool, true, false, List, [], ◌∷◌, ◌++◌, Option, Some, None, map, refl, sym, ap, subst, ◌∙◌, eqb-true}
use Rattle.std.proofs.lemmas.Bool.{and_from, and_parts, cases_Bool, cond-false, le-leb, leb-true, or_cases}
use Rattle.std.specs.List.{list_all, list_any}
use Rattle.std.specs.Prelude.{is_some}
use Rattle.tp_base.proofs.Each.{each_in}
use Rattle.tp_base.proofs.Members.{has_in}
use Rattle.tp_base.proofs.Ranges.{in_range, range_in}
use Rattle.tp_base.proofs.SameNames.{same_id_is}
use Rattle.tp_base.proofs.Tests.{all_in, found_in, some_in}
use Rattle.tp_base.specs.Limits.{is_from}
use Rattle.tp_base.specs.Lists.{Ascends, Each, has, IsIn, IsPrefixOf}
use Rattle.tp_base.specs.Names.{key_lt, same_id}
use Rattle.tp_base.specs.declared.names.CommandId.{CommandId}
use Rattle.tp_base.specs.declared.names.Key.{Key}
use Rattle.tp_base.specs.declared.names.Site.{Site}
use Rattle.tp_facts.proofs.Commands.{accesses_within}
use Rattle.tp_ops.specs.declared.command.Command.{Command}
use Rattle.tp_ops.specs.declared.operation.Answer.{Answer}
use Rattle.tp_rules.proofs.lists.UpTo.{in_up_to}
use Rattle.tp_rules.specs.Addresses.{site}
use Rattle.tp_rules.specs.Laws.{CommitsAgree, IsCommitted, IsLawful, IsShareOrdered, LineKeepsRealTime, LineOrders, RepliesAreSequential}
use Rattle.tp_rules.specs.Outcome.{Commit, accesses, command_of, commits, executions, first_result, is_submission_of, key_in, line, precedes, reply_from, reply_to, sequential_answers, share, stamp_in, those_before}
use Rattle.tp_rules.specs.declared.event.Entry.{Entry}
use Rattle.tp_script.specs.declared.script.Script.{Script}
use Rattle.tp_topology.specs.Counting.{up_to}
use Rattle.tp_topology.specs.Shape.{is_site_of}

-- agreement: each commit has the stamp of the first one of its command

abbrev pub commits_agree : List Entry → Bool
commits_agree older = list_all (λ c. c.stamp == stamp_in (commits older) c.id) (commits older)

agrees : (older : List Entry) → commits_agree older ≡ true → CommitsAgree older
unfolding CommitsAgree
agrees older test a b here there same =
    at_first a here ∙ ap (λ (id : CommandId). stamp_in (commits older) id) same ∙ sym (at_first b there)
  where
    at_first : (c : Commit) → IsIn c (commits older) → c.stamp ≡ stamp_in (commits older) c.id
    at_first c in_it =
        eqb-true c.stamp (stamp_in (commits older) c.id)
        (all_in (λ (d : Commit). d.stamp == stamp_in (commits older) d.id) (commits older) c test in_it)

-- the order: of each partition of the shape, since no command accesses another

abbrev pub is_prefix : List CommandId → List CommandId → Bool
is_prefix [] ys = true
is_prefix (x ∷ xs) [] = false
is_prefix (x ∷ xs) (y ∷ ys) = same_id x y && is_prefix xs ys

prefix_is : (xs ys : List CommandId) → is_prefix xs ys ≡ true → IsPrefixOf xs ys
prefix_is [] ys test = (ys, refl)
prefix_is (x ∷ xs) [] test = absurd cc
prefix_is (x ∷ xs) (y ∷ ys) test =
    let both = and_parts (same_id x y) (is_prefix xs ys) test in
    let rest = prefix_is xs ys both.1 in
    let head : x ≡ y = same_id_is x y both.0 in
    let tail : xs ++ rest.0 ≡ ys = rest.1 in
    (rest.0, cc)

abbrev pub ascends : List Key → Bool
ascends [] = true
ascends (k ∷ ks) = list_all (key_lt k) ks && ascends ks

each_passes : {X : Type 0} (test : X → Bool) (xs : List X) → list_all test xs ≡ true → Each (λ x. test x ≡ true) xs
each_passes test [] h = tt
each_passes test (x ∷ xs) h = let both = and_parts (test x) (list_all test xs) h in (both.0, each_passes test xs both.1)

ascends_is : (ks : List Key) → ascends ks ≡ true → Ascends key_lt ks
ascends_is [] test = tt
ascends_is (k ∷ ks) test =
    let both = and_parts (list_all (key_lt k) ks) (ascends ks) test in
    (each_passes (key_lt k) ks both.0, ascends_is ks both.1)

abbrev pub is_committed : List Entry → CommandId → Bool
is_committed older id = list_any (λ c. same_id c.id id) (commits older)

committed_is : (older : List Entry) (id : CommandId) → is_committed older id ≡ true → IsCommitted older id
committed_is older id test =
    let found = some_in (λ (c : Commit). same_id c.id id) (commits older) test in
    (found.0, found.1, same_id_is found.0.id id found.2)

abbrev pub begins_share : Script → List Entry → ℕ → ℕ → Bool
begins_share script older p rank = is_prefix (executions older (site p rank)) (share script p (line older))

abbrev pub is_share_ordered : Script → List Entry → ℕ → Bool
is_share_ordered script older p =
    list_all (begins_share script older p) (up_to script.topology.replicas)
    && (list_all (is_committed older) (share script p (line older))
    && ascends (map (key_in (commits older)) (share script p (line older))))

abbrev pub line_orders : Script → List Entry → Bool
line_orders script older =
    is_from 1 script.topology.partitions 1
    && list_all (is_share_ordered script older) (up_to script.topology.partitions)

within : (script : Script) (older : List Entry) (p : ℕ) → is_share_ordered script older p ≡ true →
    IsShareOrdered script older p
within script older p test =
    let replicas = and_parts (list_all (begins_share script older p) (up_to script.topology.replicas)) _ test in
    let ids = and_parts (list_all (is_committed older) (share script p (line older))) _ replicas.1 in
    record {
      prefixes = λ s known is. prefix s known is replicas.0;
      committed =
          λ id there. committed_is older id (all_in (is_committed older) (share script p (line older)) id ids.0 there);
      ascending = ascends_is (map (key_in (commits older)) (share script p (line older))) ids.1;
    }
  where
    prefix : (s : Site) → is_site_of script.topology s ≡ true → s.partition.0 ≡ p →
        list_all (begins_share script older p) (up_to script.topology.replicas) ≡ true →
        IsPrefixOf (executions older s) (share script p (line older))
    prefix s known is each =
        let both = and_parts (is_from 1 script.topology.partitions s.partition.0)
        (is_from 1 script.topology.replicas s.rank.0) known in
        let rank = in_range 1 script.topology.replicas s.rank.0 both.1 in
        subst (λ (q : ℕ). IsPrefixOf (executions older (site q s.rank.0)) (share script p (line older))) (sym is)
        (prefix_is (executions older (site p s.rank.0)) (share script p (line older))
        (all_in (begins_share script older p) (up_to script.topology.replicas) s.rank.0 each
        (in_up_to script.topology.replicas s.rank.0 rank.0 rank.1)))

-- no command accesses a partition that the shape has not
nothing_outside : (script : Script) → 1 ≤ script.topology.partitions → (p : ℕ) →
    is_from 1 script.topology.partitions p ≡ false →
    (ids : List CommandId) → share script p ids ≡ []
unfolding share
nothing_outside script some p apart [] = refl
nothing_outside script some p apart (id ∷ ids) =
    let accessed : ℕ → Bool = λ q. accesses script q (command_of script id) in
    elim (cases_Bool (accessed p)) [
      | inl t ↦
          let both = accesses_within script some p (command_of script id) t in
          let inside : is_from 1 script.topology.partitions p ≡ true =
          range_in 1 script.topology.partitions p both in
          absurd cc
      | inr f ↦ cond-false (accessed p) _ _ f ∙ nothing_outside script some p apart ids
    ]

outside : (script : Script) (older : List Entry) → 1 ≤ script.topology.partitions → (p : ℕ) →
    is_from 1 script.topology.partitions p ≡ false → IsShareOrdered script older p
outside script older some p apart =
    let empty = nothing_outside script some p apart (line older) in
    record {
      prefixes = λ s known is. absurd (not_known s known is);
      committed = λ id there. absurd (subst (IsIn id) empty there);
      ascending = subst (λ (ids : List CommandId). Ascends key_lt (map (key_in (commits older)) ids)) (sym empty) tt;
    }
  where
    not_known : (s : Site) → is_site_of script.topology s ≡ true → s.partition.0 ≡ p → ⊥
    not_known s known is =
        let both = and_parts (is_from 1 script.topology.partitions s.partition.0)
        (is_from 1 script.topology.replicas s.rank.0) known in
        let inside : is_from 1 script.topology.partitions p ≡ true =
        subst (λ (q : ℕ). is_from 1 script.topology.partitions q ≡ true) is both.0 in
        cc

orders : (script : Script) (older : List Entry) → line_orders script older ≡ true → LineOrders script older
unfolding LineOrders
orders script older test p =
    let both = and_parts (is_from 1 script.topology.partitions 1) _ test in
    let some = in_range 1 script.topology.partitions 1 both.0 in
    elim (cases_Bool (is_from 1 script.topology.partitions p)) [
      | inl inside ↦
          let from = in_range 1 script.topology.partitions p inside in
          within script older p
          (all_in (is_share_ordered script older) (up_to script.topology.partitions) p both.1
          (in_up_to script.topology.partitions p from.0 from.1))
      | inr apart ↦ outside script older some.1 p apart
    ]

-- a command that was answered is one of the script

answered_is : (script : Script) (parts : ℕ → Option (List Answer)) (o : Option Command) →
    is_some (reply_from script parts o) ≡ true → is_some o ≡ true
answered_is script parts None is = cc
answered_is script parts (Some c) is = refl

command_there : (script : Script) (id : CommandId) (o : Option Command) → command_of script id ≡ o → is_some o ≡ true →
    (c : Command) × IsIn c script.commands × (c.id ≡ id)
command_there script id None e is = absurd cc
command_there script id (Some c) e is =
    let found = found_in (λ (d : Command). same_id d.id id) script.commands c e in
    (c, found.0, same_id_is c.id id found.1)

answered_there : (script : Script) (older : List Entry) (id : CommandId) → is_some (reply_to script older id) ≡ true →
    (c : Command) × IsIn c script.commands × (c.id ≡ id)
answered_there script older id is =
    command_there script id (command_of script id) refl
    (answered_is script (first_result older id) (command_of script id) is)

-- real time: each command of the script, and each of the line

abbrev pub stands_before : CommandId → CommandId → List CommandId → Bool
stands_before c d ids = has same_id c (those_before d ids)

abbrev pub keeps_order : Script → List Entry → CommandId → CommandId → Bool
keeps_order script older c d = not (precedes script older c d) || stands_before c d (line older)

abbrev pub keeps_real_time : Script → List Entry → Bool
keeps_real_time script older = list_all (λ c. list_all (keeps_order script older c.id) (line older)) script.commands

preceding_there : (script : Script) (older : List Entry) (c d : CommandId) → precedes script older c d ≡ true →
    (x : Command) × IsIn x script.commands × (x.id ≡ c)
preceding_there script [] c d h = absurd cc
preceding_there script (e ∷ older) c d h =
    elim (or_cases (is_submission_of d e && is_some (reply_to script older c)) (precedes script older c d) h) [
      | inl now ↦
          answered_there script older c (and_parts (is_submission_of d e) (is_some (reply_to script older c)) now).1
      | inr before ↦ preceding_there script older c d before
    ]

real_time_is : (script : Script) (older : List Entry) → keeps_real_time script older ≡ true →
    LineKeepsRealTime script older
unfolding LineKeepsRealTime
real_time_is script older test c d before there =
    let x = preceding_there script older c d before in
    let in_line : IsIn d (line older) = has_in same_id same_id_is d (line older) there in
    let of_x =
    all_in (λ (y : Command). list_all (keeps_order script older y.id) (line older)) script.commands x.0 test x.1 in
    let kept : keeps_order script older x.0.id d ≡ true =
    all_in (keeps_order script older x.0.id) (line older) d of_x in_line in
    ordered (precedes script older c d) (stands_before c d (line older)) before
    (subst (λ (id : CommandId). keeps_order script older id d ≡ true) x.2 kept)
  where
    ordered : (a b : Bool) → a ≡ true → not a || b ≡ true → b ≡ true
    ordered true b e f = f
    ordered false b e f = absurd cc

-- replies: each command of the script that was answered

abbrev pub IsSequentialIfAny : Script → List Entry → CommandId → Option (List Answer) → Type 0
IsSequentialIfAny script older id None = Unit {0}
IsSequentialIfAny script older id (Some answers) =
    (has same_id id (line older) ≡ true) × (answers ≡ sequential_answers script (line older) id)

abbrev pub AreSequential : Script → List Entry → Type 0
AreSequential script older =
    Each (λ c. IsSequentialIfAny script older c.id (reply_to script older c.id)) script.commands

replies_are : (script : Script) (older : List Entry) → AreSequential script older → RepliesAreSequential script older
unfolding RepliesAreSequential
replies_are script older each id answers reply =
    let c = answered_there script older id (ap (λ (o : Option (List Answer)). is_some o) reply) in
    let of_c = each_in (λ (d : Command). IsSequentialIfAny script older d.id (reply_to script older d.id))
    script.commands c.0 each c.1 in
    subst (IsSequentialIfAny script older id) reply
    (subst (λ (x : CommandId). IsSequentialIfAny script older x (reply_to script older x)) c.2 of_c)

-- agreement, order and real time by their tests
abbrev pub passes : Script → List Entry → Bool
passes script older = commits_agree older && (line_orders script older && keeps_real_time script older)

-- a journal that passes them, and whose replies are sequential, keeps the four laws
pub lawful_by_tests : (script : Script) (older : List Entry) → passes script older ≡ true →
    AreSequential script older → IsLawful script older
lawful_by_tests script older test replies =
    let agreement = and_parts (commits_agree older) _ test in
    let order = and_parts (line_orders script older) (keeps_real_time script older) agreement.1 in
    record {
      agreement = agrees older agreement.0;
      order = orders script older order.0;
      real_time = real_time_is script older order.1;
      replies = replies_are script older replies;
    }
