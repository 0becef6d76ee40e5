-- What a line that was read adds: the script so far stays accepted, and its text grows by the line.
use Rattle.std.proofs.Common.{◌≡◌, ◌==◌, ◌&&◌, ℕ, zero, suc, ◌+◌, ◌-◌, ◌<◌, ◌≤◌, Bool, true, false, cond, leb, ltb, List, [], ◌∷◌, ◌++◌, length, map, Option, Some, None, Result, Ok, refl, sym, ap, subst, ◌∙◌, arith, length-append, append_assoc}
use Rattle.std.specs.List.{filter, slice_get}
use Rattle.std.specs.Prelude.{codes}
use Rattle.std.specs.Fmt.{decimal}
use Rattle.std.proofs.lemmas.Bool.{and_parts, eqb-true, leb-true, ltb-true}
use Rattle.std.proofs.lemmas.List.{append-nil, map_push}
use Rattle.std.proofs.lemmas.List.Elements.{filter-append}
use Rattle.std.proofs.lemmas.Option.{slice_get_within}
use Rattle.tp_base.proofs.Ranges.{in_range}
use Rattle.tp_base.specs.Limits.{IsFrom, is_from}
use Rattle.tp_base.specs.Lists.{Each}
use Rattle.tp_base.specs.declared.names.Rank.{Rank}
use Rattle.tp_base.proofs.Each.{each_in, each_push}
use Rattle.tp_base.proofs.Members.{in_get}
use Rattle.tp_base.specs.Tables.{nth}
use Rattle.tp_base.proofs.Tests.{filter_length}
use Rattle.tp_ops.specs.Limits.{IsOp}
use Rattle.tp_ops.specs.declared.command.Command.{Command}
use Rattle.tp_ops.specs.declared.operation.Op.{Op}
use Rattle.tp_script.specs.Accepted.{AreNumbered, IsAccepted, IsCommandOf, IsHome, commands_by}
use Rattle.tp_script.specs.Grammar.{command_line, declared, next_command, next_number, ops_and_count, room, session_line}
use Rattle.tp_script.specs.Kinds.{IsSaid, Kind, Said, AllSaid, count, kinds, row, take_word}
use Rattle.tp_script.specs.Print.{body, command_words, ops_words, session_lines, session_words}
use Rattle.tp_script.specs.declared.fault.ScriptCause.{ScriptCause}
use Rattle.tp_script.specs.declared.fault.ScriptCause.TheVariants.{Limit, Session}
use Rattle.tp_script.specs.declared.script.Script.{Script}
use Rattle.tp_script.proofs.Kinded.{IsKind, laws}
use Rattle.tp_script.proofs.OpsWritten.{counted_take}
use Rattle.tp_text.specs.Rows.{words_of_row}
use Rattle.tp_text.specs.Steps.{◌>>=◌, need}
use Rattle.tp_text.proofs.Rowed.{AreSaid, row_takes, taken}
use Rattle.tp_text.proofs.Stepped.{bind_ok, need_ok, ok_is}
use Rattle.tp_topology.specs.Counting.{up_to}

abbrev pub Words : Type 0
Words = List (List ℕ)

-- the script so far grew by a line
pub record Grows (before after : Script) (words : Words) : Type 0 where
  pub shape : after.topology ≡ before.topology
  pub accepted : IsAccepted after
  pub text : body after ≡ body before ++ words ∷ []

-- what a row's words are
pub row_is : (ks : List Kind) → Each IsKind ks → (words : Words) (said : AllSaid ks) → row ks words ≡ Ok said → (words ≡ words_of_row kinds ks said) × AreSaid {Said = Said} IsSaid ks said
row_is ks fit words said e = row_takes kinds IsKind IsSaid laws ks fit words said e

pub one_longer : {X : Type 0} (xs : List X) (x : X) → length (xs ++ x ∷ []) ≡ suc (length xs)
one_longer xs x = omega (arith, length-append xs (x ∷ []))

-- ---- sessions

session_push : (n : ℕ) (homes : List Rank) (home : Rank) → session_lines n (homes ++ home ∷ []) ≡ session_lines n homes ++ session_words (n + length homes) home ∷ []
session_push n [] home = let same : n ≡ n + 0 = omega arith in ap (λ (k : ℕ). session_words k home ∷ []) same
session_push n (h ∷ homes) home =
    let same : suc n + length homes ≡ n + suc (length homes) = omega arith in
    ap (λ (x : List Words). session_words n h ∷ x) (session_push (suc n) homes home ∙ ap (λ (k : ℕ). session_lines (suc n) homes ++ session_words k home ∷ []) same)

abbrev pub with_home : Script → ℕ → Script
with_home script home = record script { homes = script.homes ++ record { 0 = home } ∷ [] }

session_body : (script : Script) (home : ℕ) → script.commands ≡ [] → script.plan ≡ [] → script.picks ≡ []
    → body (with_home script home) ≡ body script ++ session_words (suc (length script.homes)) (record { 0 = home }) ∷ []
session_body script home c p k =
    let next : 1 + length script.homes ≡ suc (length script.homes) = omega arith in
    rw (c, p, k) (append-nil (session_lines 1 (script.homes ++ record { 0 = home } ∷ [])) ∙ session_push 1 script.homes (record { 0 = home }) ∙ ap (λ (n : ℕ). session_lines 1 script.homes ++ session_words n (record { 0 = home }) ∷ []) next ∙ ap (λ (x : List Words). x ++ session_words (suc (length script.homes)) (record { 0 = home }) ∷ []) (sym (append-nil (session_lines 1 script.homes))))

session_accepted : (script : Script) (home : ℕ) → IsAccepted script → script.commands ≡ [] → script.plan ≡ [] → length script.homes < 16 → IsFrom 1 script.topology.replicas home → IsAccepted (with_home script home)
session_accepted script home ok c p few range = record {
  shape = ok.shape;
  sessions = omega (arith, one_longer script.homes (record { 0 = home }));
  homes = each_push (λ (h : Rank). IsFrom 1 script.topology.replicas h.0) script.homes (record { 0 = home }) ok.homes range;
  count = ok.count;
  commands = rw c tt;
  numbered = ok.numbered;
  lines = ok.lines;
  plan = rw p tt;
  doubles = ok.doubles;
  few_picks = ok.few_picks;
  picks = ok.picks;
}

pub two_counts : Each IsKind (count ∷ count ∷ [])
two_counts = (omega arith, (omega arith, tt))

pub session_grows : (script after : Script) (words : Words) → IsAccepted script → script.commands ≡ [] → script.plan ≡ [] → script.picks ≡ [] → session_line script words ≡ Ok after
    → Grows script after (codes "session" ∷ words) × (after.commands ≡ []) × (after.plan ≡ []) × (after.picks ≡ [])
unfolding session_line
session_grows script after words ok c p k e =
    let a = bind_ok (row (count ∷ count ∷ []) words) (λ said. need ((said.0 == suc (length script.homes)) && is_from 1 script.topology.replicas said.1.0) Session >>= λ _. room (length script.homes) 16 >>= λ _. Ok (with_home script said.1.0)) after e in
    let w = row_is (count ∷ count ∷ []) two_counts words a.0 a.1 in
    let t = need_ok ((a.0.0 == suc (length script.homes)) && is_from 1 script.topology.replicas a.0.1.0) Session (room (length script.homes) 16 >>= λ _. Ok (with_home script a.0.1.0)) after a.2 in
    let r = need_ok (ltb (length script.homes) 16) (Limit 17 16) (Ok (with_home script a.0.1.0)) after t.1 in
    let parts = and_parts (a.0.0 == suc (length script.homes)) (is_from 1 script.topology.replicas a.0.1.0) t.0 in
    let line : codes "session" ∷ words ≡ session_words (suc (length script.homes)) (record { 0 = a.0.1.0 }) = ap (λ (x : Words). codes "session" ∷ x) w.0 ∙ ap (λ (n : ℕ). codes "session" ∷ decimal n ∷ decimal a.0.1.0 ∷ []) (eqb-true _ _ parts.0) in
    let grown : Grows script (with_home script a.0.1.0) (codes "session" ∷ words) = record {
      shape = refl;
      accepted = session_accepted script a.0.1.0 ok c p (ltb-true _ _ r.0) (in_range 1 script.topology.replicas a.0.1.0 parts.1);
      text = session_body script a.0.1.0 c p k ∙ ap (λ (x : Words). body script ++ x ∷ []) (sym line);
    } in
    subst (λ (s : Script). Grows script s (codes "session" ∷ words) × (s.commands ≡ []) × (s.plan ≡ []) × (s.picks ≡ [])) (ok_is ScriptCause (with_home script a.0.1.0) after r.1) (grown, c, p, k)

-- ---- commands

abbrev pub is_by : ℕ → Command → Bool
is_by s c = c.id.session.0 == s

numbered_after : (s : ℕ) (commands : List Command) (c : Command) (b : Bool) → is_by s c ≡ b → AreNumbered commands s → (b ≡ true → c.id.number ≡ suc (length (commands_by s commands)))
    → map (λ (x : Command). x.id.number) (filter (is_by s) commands ++ cond b (c ∷ []) []) ≡ up_to (length (filter (is_by s) commands ++ cond b (c ∷ []) []))
numbered_after s commands c true same are next =
    map_push (λ (x : Command). x.id.number) (filter (is_by s) commands) c
    ∙ ap (λ (x : List ℕ). x ++ c.id.number ∷ []) are
    ∙ ap (λ (n : ℕ). up_to (length (filter (is_by s) commands)) ++ n ∷ []) (next refl)
    ∙ ap up_to (sym (one_longer (filter (is_by s) commands) c))
numbered_after s commands c false same are next = rw (append-nil (filter (is_by s) commands)) are

numbered_push : (commands : List Command) (c : Command) → ((s : ℕ) → AreNumbered commands s) → c.id.number ≡ next_number commands c.id.session.0 → (s : ℕ) → AreNumbered (commands ++ c ∷ []) s
unfolding next_number
numbered_push commands c are next s =
    let whole : filter (is_by s) (commands ++ c ∷ []) ≡ filter (is_by s) commands ++ cond (is_by s c) (c ∷ []) [] = filter-append (is_by s) commands (c ∷ []) in
    let here : is_by s c ≡ true → c.id.number ≡ suc (length (commands_by s commands)) = λ e. next ∙ ap (λ (k : ℕ). suc (length (commands_by k commands))) (eqb-true _ _ e) in
    rw whole (numbered_after s commands c (is_by s c) refl (are s) here)

abbrev with_command : Script → ℕ → List Op → Rank → Script
with_command script s ops home = record script { commands = script.commands ++ next_command script.commands s home ops ∷ [] }

command_body : (script : Script) (s : ℕ) (ops : List Op) (home : Rank) → script.plan ≡ [] → script.picks ≡ []
    → body (with_command script s ops home) ≡ body script ++ command_words (next_command script.commands s home ops) ∷ []
command_body script s ops home p k =
    let c : Command = next_command script.commands s home ops in
    rw (p, k) (ap (λ (x : List Words). session_lines 1 script.homes ++ x) (append-nil (map command_words (script.commands ++ c ∷ [])) ∙ map_push command_words script.commands c)
    ∙ sym (append_assoc (session_lines 1 script.homes) (map command_words script.commands) (command_words c ∷ []))
    ∙ ap (λ (x : List Words). (session_lines 1 script.homes ++ x) ++ command_words c ∷ []) (sym (append-nil (map command_words script.commands))))

declared_is : (o : Option Rank) (home : Rank) → declared o ≡ Ok home → o ≡ Some home
declared_is None home e = let wrong : ⊥ = cc in absurd wrong
declared_is (Some h) home e = ap (λ (x : Rank). Some x) (ok_is ScriptCause h home e)

-- a session that has a home
pub record IsDeclared (homes : List Rank) (s : ℕ) (home : Rank) : Type 0 where
  pub range : IsFrom 1 (length homes) s
  pub there : IsHome (slice_get homes (s - 1)) home.0
  pub place : slice_get homes (s - 1) ≡ Some home

home_there : (homes : List Rank) (s : ℕ) (home : Rank) → nth homes s ≡ Some home → IsDeclared homes s home
home_there homes zero home e = let wrong : ⊥ = cc in absurd wrong
home_there homes (suc s) home e =
    let same : suc s - 1 ≡ s = omega arith in
    let place : slice_get homes (suc s - 1) ≡ Some home = ap (slice_get homes) same ∙ e in
    record { range = (omega arith, omega (arith, slice_get_within homes s home e)); there = subst (λ (o : Option Rank). IsHome o home.0) (sym place) refl; place = place }

new_command : (script : Script) (s : ℕ) (ops : List Op) (home : Rank) → IsAccepted script → IsDeclared script.homes s home → length script.commands < 1000 → IsFrom 1 16 (length ops) → Each IsOp ops
    → IsCommandOf script.homes (next_command script.commands s home ops)
unfolding next_number
new_command script s ops home ok declared' few some fit =
    let least = filter_length (is_by s) script.commands in
    let rank = each_in (λ (h : Rank). IsFrom 1 script.topology.replicas h.0) script.homes home ok.homes (in_get script.homes (s - 1) home declared'.place) in
    let id' : IsFrom 1 16 s × IsFrom 1 1000 (suc (length (commands_by s script.commands))) = ((declared'.range.0, omega (arith, declared'.range.1, ok.sessions)), (omega arith, omega (arith, least, few))) in
    ((id', (rank.0, omega (arith, rank.1, ok.shape.few_replicas)), some, fit), declared'.range, declared'.there)

command_accepted : (script : Script) (s : ℕ) (ops : List Op) (home : Rank) → IsAccepted script → script.plan ≡ [] → IsDeclared script.homes s home → length script.commands < 1000 → IsFrom 1 16 (length ops) → Each IsOp ops
    → IsAccepted (with_command script s ops home)
command_accepted script s ops home ok p declared' few some fit =
    let c : Command = next_command script.commands s home ops in
    record {
      shape = ok.shape;
      sessions = ok.sessions;
      homes = ok.homes;
      count = omega (arith, one_longer script.commands c);
      commands = each_push (IsCommandOf script.homes) script.commands c ok.commands (new_command script s ops home ok declared' few some fit);
      numbered = numbered_push script.commands c ok.numbered refl;
      lines = ok.lines;
      plan = rw p tt;
      doubles = ok.doubles;
      few_picks = ok.few_picks;
      picks = ok.picks;
    }

abbrev checked : Script → ℕ → List Op × ℕ → Rank → Result Script ScriptCause
checked script s ops home = need (leb ops.1 16) (Limit ops.1 16) >>= λ _. room (length script.commands) 1000 >>= λ _. Ok (with_command script s ops.0 home)

abbrev housed : Script → ℕ → List Op × ℕ → Result Script ScriptCause
housed script s ops = declared (nth script.homes s) >>= λ home. checked script s ops home

pub command_grows : (script after : Script) (words : Words) → IsAccepted script → script.plan ≡ [] → script.picks ≡ [] → command_line script words ≡ Ok after
    → Grows script after (codes "command" ∷ words) × (after.plan ≡ []) × (after.picks ≡ [])
unfolding command_line
command_grows script after words ok p k e =
    let a = bind_ok (take_word count words) (λ session. ops_and_count session.1 >>= λ ops. housed script session.0 ops) after e in
    let t = taken kinds IsKind IsSaid laws count (omega arith) words a.0 a.1 in
    let b = bind_ok (ops_and_count a.0.1) (λ ops. housed script a.0.0 ops) after a.2 in
    let h = bind_ok (declared (nth script.homes a.0.0)) (λ home. checked script a.0.0 b.0 home) after b.2 in
    let n = need_ok (leb b.0.1 16) (Limit b.0.1 16) (room (length script.commands) 1000 >>= λ _. Ok (with_command script a.0.0 b.0.0 h.0)) after h.2 in
    let r = need_ok (ltb (length script.commands) 1000) (Limit 1001 1000) (Ok (with_command script a.0.0 b.0.0 h.0)) after n.1 in
    let few : b.0.1 ≤ 16 = leb-true _ _ n.0 in
    let o = counted_take a.0.1 b.0 b.1 few in
    let line : codes "command" ∷ words ≡ codes "command" ∷ decimal a.0.0 ∷ ops_words b.0.0 = ap (λ (x : Words). codes "command" ∷ x) (t.0 ∙ ap (λ (x : Words). decimal a.0.0 ∷ x) o.0.0) in
    let grown : Grows script (with_command script a.0.0 b.0.0 h.0) (codes "command" ∷ words) = record {
      shape = refl;
      accepted = command_accepted script a.0.0 b.0.0 h.0 ok p (home_there script.homes a.0.0 h.0 (declared_is (nth script.homes a.0.0) h.0 h.1)) (ltb-true _ _ r.0) (o.0.1, omega (arith, o.1, few)) o.0.2;
      text = command_body script a.0.0 b.0.0 h.0 p k ∙ ap (λ (x : Words). body script ++ x ∷ []) (sym line);
    } in
    subst (λ (x : Script). Grows script x (codes "command" ∷ words) × (x.plan ≡ []) × (x.picks ≡ [])) (ok_is ScriptCause (with_command script a.0.0 b.0.0 h.0) after r.1) (grown, p, k)
