-- How a session's fields go on with the state of the rules.
use Rattle.std.proofs.Common.{◌≡◌, ◌≢◌, ℕ, suc, ◌+◌, ◌-◌, ◌≤◌, inl, inr, Bool, true, false, not, ◌&&◌, cond, List, [], ◌∷◌, ◌++◌, length, set, take, replicate, Some, None, refl, sym, ap, subst, ◌∙◌, arith}
use Rattle.std.specs.Prelude.{◌==◌, nat_le}
use Rattle.std.proofs.lemmas.Bool.{and_parts, cases_eq, cond-true, cond-false, eq-eqb, leb-true, ne_eqb, not_from_true, not_from_false}
use Rattle.std.proofs.lemmas.List.{length-set, length_push}
use Rattle.tp_base.proofs.Tables.{take-with_nth}
use Rattle.tp_base.specs.Tables.{nth, with_nth}
use Rattle.tp_base.specs.declared.names.CommandId.{CommandId}
use Rattle.tp_ops.specs.declared.command.Command.{Command}
use Rattle.tp_ops.specs.declared.operation.Answer.{Answer}
use Rattle.tp_rules.specs.Acts.{Client}
use Rattle.tp_rules.specs.Session.{Step, SessionState, is_awaited, is_whole, on_result, on_submit, open_count}
use Rattle.tp_topology.specs.Counting.{count_up_to}
use Rattle.tp_topology.specs.Shape.{Shape}
use Rattle.tp_session.specs.declared.session.Session.{Session}
use Rattle.tp_session.specs.States.{IsState, client, identity, parts_at, table}
use Rattle.tp_session.proofs.Tables.{Table, awaited_open, awaited_some, parts_at-push, parts_at-set_other, parts_at-set_same}
use Rattle.tp_topology.proofs.Passing.{count_next, count_same, count_with_one}

-- whether a command's number is not answered
abbrev is_open : Shape → (ℕ → Table) → List Command → ℕ → Bool
is_open shape kept commands k = not (is_whole shape (kept k) (nth commands k))

same_topology : (s s' : Session) → identity s' ≡ identity s → s'.topology ≡ s.topology
same_topology s s' same = cc

same_client : (s s' : Session) → identity s' ≡ identity s → client s' ≡ client s
same_client s s' same = cc

open_same : (s s' : Session) (state : SessionState) → identity s' ≡ identity s
    → open_count s'.topology (client s') state ≡ open_count s.topology (client s) state
open_same s s' state same =
    ap (λ (shape : Shape). open_count shape (client s') state) (same_topology s s' same)
    ∙ ap (λ (x : Client). open_count s.topology x state) (same_client s s' same)

swapped : (b : Bool) (u : ℕ) → cond b u (u + 1) ≡ cond (not b) (u + 1) u
swapped true u = refl
swapped false u = refl

-- one more command is submitted
pub submitted : (s s' : Session) (n : ℕ) → identity s' ≡ identity s → n ≡ length s.kept.items + 1
    → s'.kept.items ≡ s.kept.items ++ replicate 4 None ∷ []
    → s'.unanswered ≡ cond (is_whole s.topology (table s' n) (nth s.commands n)) s.unanswered (s.unanswered + 1)
    → (state : SessionState) → IsState s state → IsState s' (on_submit s.topology (client s) n state).0
submitted s s' n same next kept unanswered state st =
    let tables : (k : ℕ) → table s' k ≡ state.kept k = λ k.
    ap (λ (shape : Shape). take shape.partitions (parts_at s'.kept.items k)) (same_topology s s' same)
    ∙ ap (λ (items : List Table). take s.topology.partitions (parts_at items k)) kept
    ∙ ap (take s.topology.partitions) (parts_at-push s.kept.items k)
    ∙ st.kept k in
    let at : n ≡ state.submitted + 1 = next ∙ ap (λ (m : ℕ). m + 1) st.submitted in
    record {
      submitted = ap (λ (items : List Table). length items) kept ∙ length_push s.kept.items (replicate 4 None) ∙ sym next;
      kept = tables;
      unanswered =
          unanswered
          ∙ ap (λ (parts : Table). cond (is_whole s.topology parts (nth s.commands n)) s.unanswered (s.unanswered + 1)) (tables n)
          ∙ swapped (is_whole s.topology (state.kept n) (nth s.commands n)) s.unanswered
          ∙ ap (λ (k : ℕ). cond (is_open s.topology state.kept s.commands k) (s.unanswered + 1) s.unanswered) at
          ∙ ap (λ (u : ℕ). cond (is_open s.topology state.kept s.commands (state.submitted + 1)) (u + 1) u) st.unanswered
          ∙ sym (count_next (is_open s.topology state.kept s.commands) state.submitted)
          ∙ ap (count_up_to (is_open s.topology state.kept s.commands)) (sym at)
          ∙ sym (open_same s s' (on_submit s.topology (client s) n state).0 same);
    }

-- whether answers are awaited, by the session's fields and by the state
abbrev pub test_of : Session → CommandId → ℕ → List Answer → Bool
test_of s id q answers =
    (id.session.0 == s.id.0) && nat_le id.number (length s.kept.items) && is_awaited s.topology q answers (table s id.number) (nth s.commands id.number)

abbrev test_in : Session → CommandId → ℕ → List Answer → SessionState → Bool
test_in s id q answers state =
    (id.session.0 == s.id.0) && nat_le id.number state.submitted && is_awaited s.topology q answers (state.kept id.number) (nth s.commands id.number)

same_test : (s : Session) (id : CommandId) (q : ℕ) (answers : List Answer) (state : SessionState) → IsState s state → test_of s id q answers ≡ test_in s id q answers state
same_test s id q answers state st =
    ap (λ (m : ℕ). (id.session.0 == s.id.0) && nat_le id.number m && is_awaited s.topology q answers (table s id.number) (nth s.commands id.number)) st.submitted
    ∙ ap (λ (parts : Table). (id.session.0 == s.id.0) && nat_le id.number state.submitted && is_awaited s.topology q answers parts (nth s.commands id.number)) (st.kept id.number)

-- what isn't awaited changes nothing
pub refused : (s : Session) (id : CommandId) (q : ℕ) (answers : List Answer) → test_of s id q answers ≡ false
    → (state : SessionState) → IsState s state → IsState s (on_result s.topology (client s) id q answers state).0
refused s id q answers fails state st =
    let out : test_in s id q answers state ≡ false = sym (same_test s id q answers state st) ∙ fails in
    subst (λ (b : Bool). IsState s (cond {A = Step} b (record { submitted = state.submitted; kept = λ n. cond (n == id.number) (with_nth (state.kept n) q (Some answers)) (state.kept n) }, []) (state, [])).0) (sym out) st

-- how many are open, where one that was open may be answered now
counts : (s : Session) (state : SessionState) (new : ℕ → Table) (n : ℕ) → IsState s state → 1 ≤ n → n ≤ state.submitted
    → is_open s.topology state.kept s.commands n ≡ true
    → ((k : ℕ) → k ≢ n → is_open s.topology state.kept s.commands k ≡ is_open s.topology new s.commands k)
    → (b : Bool) → is_whole s.topology (new n) (nth s.commands n) ≡ b
    → cond b (s.unanswered - 1) s.unanswered ≡ count_up_to (is_open s.topology new s.commands) state.submitted
counts s state new n st some most was others true whole =
    let less : count_up_to (is_open s.topology state.kept s.commands) state.submitted ≡ suc (count_up_to (is_open s.topology new s.commands) state.submitted) =
    count_with_one (is_open s.topology new s.commands) (is_open s.topology state.kept s.commands) state.submitted n some most (not_from_true _ whole) was others in
    omega (arith, st.unanswered, less)
counts s state new n st some most was others false part =
    st.unanswered ∙ count_same (is_open s.topology state.kept s.commands) (is_open s.topology new s.commands) state.submitted (λ k low high. elim (cases_eq k n) [
      | inl e ↦ subst (λ (j : ℕ). is_open s.topology state.kept s.commands j ≡ is_open s.topology new s.commands j) (sym e) (was ∙ sym (not_from_false _ part))
      | inr apart ↦ others k apart
    ])

-- the first answers of a partition, to one of the session's commands
pub received : (s s' : Session) (id : CommandId) (q : ℕ) (answers : List Answer) → identity s' ≡ identity s
    → 1 ≤ q → q ≤ s.topology.partitions → test_of s id q answers ≡ true
    → s'.kept.items ≡ set s.kept.items (id.number - 1) (with_nth (parts_at s.kept.items id.number) q (Some answers))
    → s'.unanswered ≡ cond (is_whole s.topology (table s' id.number) (nth s.commands id.number)) (s.unanswered - 1) s.unanswered
    → (state : SessionState) → IsState s state → IsState s' (on_result s.topology (client s) id q answers state).0
received s s' id q answers same low high passes kept unanswered state st =
    let n = id.number in
    let m = s.topology.partitions in
    let parts = parts_at s.kept.items n in
    let within = and_parts ((id.session.0 == s.id.0) && nat_le n (length s.kept.items)) (is_awaited s.topology q answers (table s n) (nth s.commands n)) passes in
    let some : 1 ≤ n = awaited_some s.topology q answers (table s n) s.commands n within.1 in
    let few : n ≤ length s.kept.items = leb-true n (length s.kept.items) (and_parts (id.session.0 == s.id.0) (nat_le n (length s.kept.items)) within.0).1 in
    let new : ℕ → Table = λ k. cond (k == n) (with_nth (state.kept k) q (Some answers)) (state.kept k) in
    let moved : (k : ℕ) → table s' k ≡ take m (parts_at (set s.kept.items (n - 1) (with_nth parts q (Some answers))) k) = λ k.
    ap (λ (shape : Shape). take shape.partitions (parts_at s'.kept.items k)) (same_topology s s' same)
    ∙ ap (λ (items : List Table). take m (parts_at items k)) kept in
    let here : table s' n ≡ with_nth (state.kept n) q (Some answers) =
    moved n
    ∙ ap (take m) (parts_at-set_same s.kept.items (with_nth parts q (Some answers)) n some few)
    ∙ take-with_nth m parts q (Some answers)
    ∙ ap (λ (old : Table). with_nth old q (Some answers)) (st.kept n) in
    let tables : (k : ℕ) → table s' k ≡ new k = λ k. elim (cases_eq k n) [
      | inl e ↦ subst (λ (j : ℕ). table s' j ≡ new j) (sym e) (here ∙ sym (cond-true (n == n) (with_nth (state.kept n) q (Some answers)) (state.kept n) (eq-eqb n n refl)))
      | inr apart ↦
          moved k
          ∙ ap (take m) (parts_at-set_other s.kept.items (with_nth parts q (Some answers)) n k some apart)
          ∙ st.kept k
          ∙ sym (cond-false (k == n) (with_nth (state.kept k) q (Some answers)) (state.kept k) (ne_eqb k n apart))
    ] in
    let others : (k : ℕ) → k ≢ n → is_open s.topology state.kept s.commands k ≡ is_open s.topology new s.commands k = λ k apart.
    ap (λ (old : Table). not (is_whole s.topology old (nth s.commands k))) (sym (cond-false (k == n) (with_nth (state.kept k) q (Some answers)) (state.kept k) (ne_eqb k n apart))) in
    let was : is_open s.topology state.kept s.commands n ≡ true =
    not_from_false _ (ap (λ (old : Table). is_whole s.topology old (nth s.commands n)) (sym (st.kept n)) ∙ awaited_open s.topology q answers (table s n) (nth s.commands n) low high within.1) in
    let to_state : is_whole s.topology (table s' n) (nth s.commands n) ≡ is_whole s.topology (new n) (nth s.commands n) = ap (λ (now : Table). is_whole s.topology now (nth s.commands n)) (tables n) in
    let most : n ≤ state.submitted = subst (λ (k : ℕ). n ≤ k) st.submitted few in
    let counted : (b : Bool) → is_whole s.topology (new n) (nth s.commands n) ≡ b → cond b (s.unanswered - 1) s.unanswered ≡ count_up_to (is_open s.topology new s.commands) state.submitted =
    counts s state new n st some most was others in
    let after : IsState s' (record { submitted = state.submitted; kept = new }) = record {
      submitted = ap (λ (items : List Table). length items) kept ∙ length-set s.kept.items (n - 1) (with_nth parts q (Some answers)) ∙ st.submitted;
      kept = tables;
      unanswered =
          unanswered
          ∙ ap (λ (b : Bool). cond b (s.unanswered - 1) s.unanswered) to_state
          ∙ counted (is_whole s.topology (new n) (nth s.commands n)) refl
          ∙ sym (open_same s s' (record { submitted = state.submitted; kept = new }) same);
    } in
    subst (λ (b : Bool). IsState s' (cond {A = Step} b (record { submitted = state.submitted; kept = new }, []) (state, [])).0) (sym (sym (same_test s id q answers state st) ∙ passes)) after
