-- What the run of one put comes to: each replica executes it at stamp 1, there was no value before, and the laws hold.
use Rattle.std.proofs.Common.{◌≡◌, true, [], ◌∷◌, Some, refl}
use Rattle.std.specs.Prelude.{reverse}
use Rattle.tp_ops.specs.declared.operation.Answer.TheVariants.{Missing}
use Rattle.tp_histories.proofs.LawTests.{lawful_by_tests, passes}
use Rattle.tp_histories.proofs.OnePut.Journal.{one_put, one_put_journal}
use Rattle.tp_histories.proofs.Words.{commit_at, id, the_laws, the_rules}
use Rattle.tp_rules.specs.Addresses.{site}
use Rattle.tp_rules.specs.Laws.{KeepsLaws}
use Rattle.tp_rules.specs.Outcome.{commits, executions, line, reply_to, sequential_answers}

one_put_commits : commits (reverse one_put_journal) ≡
    commit_at 1 1 (id 1 1) 1 ∷
    commit_at 1 2 (id 1 1) 1 ∷
    commit_at 1 3 (id 1 1) 1 ∷
    []
one_put_commits = refl

one_put_at_1 : executions (reverse one_put_journal) (site 1 1) ≡ id 1 1 ∷ []
one_put_at_1 = refl

one_put_at_2 : executions (reverse one_put_journal) (site 1 2) ≡ id 1 1 ∷ []
one_put_at_2 = refl

one_put_at_3 : executions (reverse one_put_journal) (site 1 3) ≡ id 1 1 ∷ []
one_put_at_3 = refl

one_put_line : line (reverse one_put_journal) ≡ id 1 1 ∷ []
one_put_line = refl

one_put_reply : reply_to one_put (reverse one_put_journal) (id 1 1) ≡ Some (Missing ∷ [])
unfolding the_rules
one_put_reply = refl

one_put_sequential : sequential_answers one_put (line (reverse one_put_journal)) (id 1 1) ≡ Missing ∷ []
unfolding sequential_answers
one_put_sequential = refl

tested : passes one_put (reverse one_put_journal) ≡ true
unfolding the_laws
tested = refl

one_put_is_lawful : KeepsLaws one_put one_put_journal
unfolding the_laws
one_put_is_lawful = lawful_by_tests one_put (reverse one_put_journal) tested ((refl, refl), tt)
