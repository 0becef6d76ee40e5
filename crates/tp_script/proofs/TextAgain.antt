-- The text of an accepted script is read as the script, whatever stands behind it.
use Rattle.std.proofs.Common.{◌≡◌, ℕ, suc, ◌+◌, ◌<◌, ◌≤◌, false, List, [], ◌∷◌, ◌++◌, length, map, Ok, refl, sym, ap, subst, arith, append_assoc}
use Rattle.std.specs.List.{join_with_byte}
use Rattle.std.specs.Prelude.{codes}
use Rattle.std.proofs.lemmas.List.{append-nil}
use Rattle.tp_base.specs.Limits.{IsFrom}
use Rattle.tp_base.specs.Lists.{Each}
use Rattle.tp_base.specs.declared.names.Rank.{Rank}
use Rattle.tp_base.proofs.Each.{each_append, each_weaker}
use Rattle.tp_ops.specs.declared.command.Command.{Command}
use Rattle.tp_script.specs.Accepted.{AreNumbered, HasNoDoubles, IsAccepted, IsCommandOf, IsCount, IsPlanLineOf}
use Rattle.tp_script.specs.Kinds.{AllSaid, IsSaid, Kind, Said, kinds}
use Rattle.tp_script.specs.Meaning.{begun, causes, in_group, line_of, script_at, script_from, shape_begun, shaped}
use Rattle.tp_script.specs.Print.{body, command_words, pick_words, plan_words, script_lines, session_lines, shape_words}
use Rattle.tp_script.specs.declared.draft.Draft.{Draft}
use Rattle.tp_script.specs.declared.fault.ScriptCause.TheVariants.{Missing}
use Rattle.tp_script.specs.declared.script.PlanLine.{PlanLine}
use Rattle.tp_script.specs.declared.script.PlanLine.TheVariants.{Crash, Recover, Lose, Repeat, RepeatAll}
use Rattle.tp_script.specs.declared.script.Script.{Script}
use Rattle.tp_script.proofs.Grown.{Words, one_longer, with_home}
use Rattle.tp_script.proofs.Kinded.{IsKind, laws}
use Rattle.tp_script.proofs.LinesAgain.{command_read, line_read, no_double, number_next, pick_read, session_read, shape_written, so_far, with_next}
use Rattle.tp_script.proofs.OpsWritten.{ops_plain}
use Rattle.tp_script.proofs.PlanGrown.{IsBase, actor_in, base_of, crash_fit, crash_kinds, drop_fit, drop_kinds, recover_fit, recover_kinds, repeat_fit, repeat_kinds, same_line, with_line, with_pick}
use Rattle.tp_text.specs.Framing.{end_words}
use Rattle.tp_text.specs.Rows.{no_more, words_of_row}
use Rattle.tp_text.proofs.Joined.{IsPlain}
use Rattle.tp_text.proofs.LinesAgain as again
use Rattle.tp_text.proofs.LinesAgain.{IsLine, end_plain, header_again, header_plain, line_again, run_again, some_others}
use Rattle.tp_text.proofs.LinesFound.{joined}
use Rattle.tp_text.proofs.Plain.{decimal_plain, plain_by}
use Rattle.tp_text.proofs.Rowed.{AreSaid, row_plain}
use Rattle.tp_topology.specs.Shape.{IsShape, Shape as StoreShape}

-- ---- lines that are read one after the other

-- from a group and a script so far, lines up to the group g lead to a script
abbrev Runs : ℕ → ℕ → Script → List Words → Script → Type 0
Runs g k s [] t = (s ≡ t) × (k ≤ g)
Runs g k s (words ∷ lines) t = (j : ℕ) × (mid : Script) × (line_of (so_far k s) words ≡ Ok (in_group j mid)) × Runs g j mid lines t

runs_then : (g h k : ℕ) (s t u : Script) (xs ys : List Words) → Runs g k s xs t → ((j : ℕ) → j ≤ g → Runs h j t ys u) → Runs h k s (xs ++ ys) u
runs_then g h k s t u [] ys run others = subst (λ (z : Script). Runs h k z ys u) (sym run.0) (others k run.1)
runs_then g h k s t u (words ∷ xs) ys run others = (run.0, run.1, run.2, runs_then g h run.0 run.1 t u xs ys run.3 others)

sessions_run : (k : ℕ) (script : Script) (homes : List Rank) → k ≤ 1 → IsShape script.topology → length script.homes + length homes ≤ 16 → Each (λ home. IsFrom 1 script.topology.replicas home.0) homes
    → Runs 1 k script (session_lines (suc (length script.homes)) homes) (record script { homes = script.homes ++ homes })
sessions_run k script [] le valid few fit = (ap (λ (hs : List Rank). let s : Script = record script { homes = hs } in s) (sym (append-nil script.homes)), le)
sessions_run k script (home ∷ homes) le valid few fit =
    let mid : Script = with_home script home.0 in
    let len : suc (length mid.homes) ≡ suc (suc (length script.homes)) = ap suc (one_longer script.homes home) in
    let rest = sessions_run 1 mid homes (omega arith) valid (omega (arith, len)) fit.1 in
    let same : (script.homes ++ home ∷ []) ++ homes ≡ script.homes ++ home ∷ homes = append_assoc script.homes (home ∷ []) homes in
    let lines : Runs 1 1 mid (session_lines (suc (suc (length script.homes))) homes) (record script { homes = (script.homes ++ home ∷ []) ++ homes }) = subst (λ (n : ℕ). Runs 1 1 mid (session_lines n homes) (record script { homes = (script.homes ++ home ∷ []) ++ homes })) len rest in
    (1, mid, session_read k script home le valid (omega arith) fit.0, subst (λ (hs : List Rank). Runs 1 1 mid (session_lines (suc (suc (length script.homes))) homes) (record script { homes = hs })) same lines)

commands_run : (k : ℕ) (script : Script) (commands : List Command) → k ≤ 2 → length script.homes ≤ 16 → length script.commands + length commands ≤ 1000 → Each (IsCommandOf script.homes) commands → ((s : ℕ) → AreNumbered (script.commands ++ commands) s)
    → Runs 2 k script (map command_words commands) (record script { commands = script.commands ++ commands })
commands_run k script [] le sessions few fit are = (ap (λ (cs : List Command). let s : Script = record script { commands = cs } in s) (sym (append-nil script.commands)), le)
commands_run k script (c ∷ commands) le sessions few fit are =
    let mid : Script = with_next script c in
    let same : (script.commands ++ c ∷ []) ++ commands ≡ script.commands ++ c ∷ commands = append_assoc script.commands (c ∷ []) commands in
    let are-mid : (s : ℕ) → AreNumbered (mid.commands ++ commands) s = λ s. subst (λ (cs : List Command). AreNumbered cs s) (sym same) (are s) in
    let rest = commands_run 2 mid commands (omega arith) sessions (omega (arith, one_longer script.commands c)) fit.1 are-mid in
    let next = number_next script.commands commands c (are c.id.session.0) in
    (2, mid, command_read k script c le fit.0 sessions next (omega arith), subst (λ (cs : List Command). Runs 2 2 mid (map command_words commands) (record script { commands = cs })) same rest)

base_with : (script : Script) (line : PlanLine) → IsBase script → IsBase (with_line script line)
base_with script line base = record { shape = base.shape; sessions = base.sessions; commands = base.commands }

fit_with : (script : Script) (line : PlanLine) (lines : List PlanLine) → Each (IsPlanLineOf script) lines → Each (IsPlanLineOf (with_line script line)) lines
fit_with script line lines fit =
    each_weaker (IsPlanLineOf script) (IsPlanLineOf (with_line script line))
    (λ l h. same_line script.topology script.homes script.commands script.plan (script.plan ++ line ∷ []) script.picks script.picks l h) lines fit

plan_run : (k : ℕ) (script : Script) (lines : List PlanLine) → k ≤ 3 → IsBase script → length script.plan + length lines ≤ 1000 → Each (IsPlanLineOf script) lines → HasNoDoubles (script.plan ++ lines)
    → Runs 3 k script (map plan_words lines) (record script { plan = script.plan ++ lines })
plan_run k script [] le base few fit none = (ap (λ (ls : List PlanLine). let s : Script = record script { plan = ls } in s) (sym (append-nil script.plan)), le)
plan_run k script (line ∷ lines) le base few fit none =
    let mid : Script = with_line script line in
    let same : (script.plan ++ line ∷ []) ++ lines ≡ script.plan ++ line ∷ lines = append_assoc script.plan (line ∷ []) lines in
    let rest = plan_run 3 mid lines (omega arith) (base_with script line base) (omega (arith, one_longer script.plan line)) (fit_with script line lines fit.1) (subst HasNoDoubles (sym same) none) in
    (3, mid, line_read k script line le base fit.0 (no_double script.plan line lines none) (omega arith), subst (λ (ls : List PlanLine). Runs 3 3 mid (map plan_words lines) (record script { plan = ls })) same rest)

picks_run : (k : ℕ) (script : Script) (picks : List ℕ) → k ≤ 4 → length script.picks + length picks ≤ 100000 → Each IsCount picks → Runs 4 k script (map pick_words picks) (record script { picks = script.picks ++ picks })
picks_run k script [] le few fit = (ap (λ (ps : List ℕ). let s : Script = record script { picks = ps } in s) (sym (append-nil script.picks)), le)
picks_run k script (pick ∷ picks) le few fit =
    let mid : Script = with_pick script pick in
    let same : (script.picks ++ pick ∷ []) ++ picks ≡ script.picks ++ pick ∷ picks = append_assoc script.picks (pick ∷ []) picks in
    let rest = picks_run 4 mid picks (omega arith) (omega (arith, one_longer script.picks pick)) fit.1 in
    (4, mid, pick_read k script pick le fit.0 (omega arith), subst (λ (ps : List ℕ). Runs 4 4 mid (map pick_words picks) (record script { picks = ps })) same rest)

-- the script so far behind each group
abbrev with_homes : Script → Script
with_homes s = record { topology = s.topology; homes = s.homes; commands = []; plan = []; picks = [] }

abbrev with_commands : Script → Script
with_commands s = record { topology = s.topology; homes = s.homes; commands = s.commands; plan = []; picks = [] }

abbrev with_lines : Script → Script
with_lines s = record { topology = s.topology; homes = s.homes; commands = s.commands; plan = s.plan; picks = [] }

behind_plan : (s : Script) (k : ℕ) → k ≤ 3 → IsAccepted s → Runs 4 k (with_lines s) (map pick_words s.picks) s
behind_plan s k le ok = picks_run k (with_lines s) s.picks (omega arith) (omega (arith, ok.few_picks)) ok.picks

behind_commands : (s : Script) (k : ℕ) → k ≤ 2 → IsAccepted s → Runs 4 k (with_commands s) (map plan_words s.plan ++ map pick_words s.picks) s
behind_commands s k le ok =
    let fit : Each (IsPlanLineOf (with_commands s)) s.plan = each_weaker (IsPlanLineOf s) (IsPlanLineOf (with_commands s)) (λ l h. same_line s.topology s.homes s.commands s.plan [] s.picks [] l h) s.plan ok.plan in
    let base : IsBase (with_commands s) = record { shape = ok.shape; sessions = ok.sessions; commands = ok.commands } in
    runs_then 3 4 k (with_commands s) (with_lines s) s (map plan_words s.plan) (map pick_words s.picks) (plan_run k (with_commands s) s.plan (omega arith) base (omega (arith, ok.lines)) fit ok.doubles) (λ j below. behind_plan s j below ok)

behind_sessions : (s : Script) (k : ℕ) → k ≤ 1 → IsAccepted s → Runs 4 k (with_homes s) (map command_words s.commands ++ (map plan_words s.plan ++ map pick_words s.picks)) s
behind_sessions s k le ok =
    runs_then 2 4 k (with_homes s) (with_commands s) s (map command_words s.commands) (map plan_words s.plan ++ map pick_words s.picks) (commands_run k (with_homes s) s.commands (omega arith) ok.sessions (omega (arith, ok.count)) ok.commands ok.numbered) (λ j below. behind_commands s j below ok)

body_runs : (s : Script) → IsAccepted s → Runs 4 0 (shaped s.topology).script (body s) s
body_runs s ok =
    runs_then 1 4 0 (shaped s.topology).script (with_homes s) s (session_lines 1 s.homes) (map command_words s.commands ++ (map plan_words s.plan ++ map pick_words s.picks)) (sessions_run 0 (shaped s.topology).script s.homes (omega arith) ok.shape (omega (arith, ok.sessions)) ok.homes) (λ j below. behind_sessions s j below ok)

-- ---- no spaces in the words of a line

row_words : (ks : List Kind) → Each IsKind ks → (said : AllSaid ks) → AreSaid {Said = Said} IsSaid ks said → Each IsPlain (words_of_row kinds ks said)
row_words ks fit said fits = row_plain kinds IsKind IsSaid laws ks fit said fits

sessions_plain : (n : ℕ) (shape : StoreShape) (homes : List Rank) → n + length homes ≤ 100 → IsShape shape → Each (λ home. IsFrom 1 shape.replicas home.0) homes → Each IsLine (session_lines n homes)
sessions_plain n shape [] few valid fit = tt
sessions_plain n shape (home ∷ homes) few valid fit =
    (((plain_by (codes "session") refl, (decimal_plain n (omega arith), (decimal_plain home.0 (omega (arith, fit.0.1, valid.few_replicas)), tt))), omega arith), sessions_plain (suc n) shape homes (omega arith) valid fit.1)

commands_plain : (homes : List Rank) (commands : List Command) → length homes ≤ 16 → Each (IsCommandOf homes) commands → Each IsLine (map command_words commands)
commands_plain homes [] few fit = tt
commands_plain homes (c ∷ commands) few fit =
    (((plain_by (codes "command") refl, (decimal_plain c.id.session.0 (omega (arith, fit.0.1.1, few)), ops_plain c.ops fit.0.0.3)), omega arith), commands_plain homes commands few fit.1)

line_plain : (script : Script) (line : PlanLine) → IsBase script → IsPlanLineOf script line → IsLine (plan_words line)
line_plain script (Crash s n) base fits =
    ((plain_by (codes "crash") refl, row_words (crash_kinds script) (crash_fit script base) (s, (tt, (n, tt))) (fits.0, (tt, ((omega arith, omega (arith, fits.1)), tt)))), omega arith)
line_plain script (Recover s i n) base fits =
    ((plain_by (codes "recover") refl, row_words (recover_kinds script) (recover_fit script base) (s, (i, (tt, (n, tt)))) (fits.0, (fits.1, (tt, ((omega arith, omega (arith, fits.2)), tt))))), omega arith)
line_plain script (Lose from to n) base fits =
    ((plain_by (codes "drop") refl, row_words (drop_kinds script) (drop_fit script base) (from, (to, (n, tt))) (actor_in script from fits.0, (actor_in script to fits.1, ((fits.2, omega (arith, fits.3)), tt)))), omega arith)
line_plain script (Repeat from to n k) base fits =
    ((plain_by (codes "repeat") refl, row_words (repeat_kinds script) (repeat_fit script base) (from, (to, (n, (k, tt)))) (actor_in script from fits.0, (actor_in script to fits.1, ((fits.2, omega (arith, fits.3)), (fits.4, tt))))), omega arith)
line_plain script (RepeatAll k) base fits =
    ((plain_by (codes "repeat") refl, (plain_by (codes "all") refl, (decimal_plain k (omega (arith, fits.1)), tt))), omega arith)

plan_plain : (script : Script) (lines : List PlanLine) → IsBase script → Each (IsPlanLineOf script) lines → Each IsLine (map plan_words lines)
plan_plain script [] base fit = tt
plan_plain script (line ∷ lines) base fit = (line_plain script line base fit.0, plan_plain script lines base fit.1)

picks_plain : (picks : List ℕ) → Each IsCount picks → Each IsLine (map pick_words picks)
picks_plain [] fit = tt
picks_plain (pick ∷ picks) fit = (((plain_by (codes "pick") refl, (decimal_plain pick (omega (arith, fit.0)), tt)), omega arith), picks_plain picks fit.1)

body_plain : (s : Script) → IsAccepted s → Each IsLine (body s)
body_plain s ok =
    each_append IsLine (session_lines 1 s.homes) (map command_words s.commands ++ (map plan_words s.plan ++ map pick_words s.picks)) (sessions_plain 1 s.topology s.homes (omega (arith, ok.sessions)) ok.shape ok.homes)
    (each_append IsLine (map command_words s.commands) (map plan_words s.plan ++ map pick_words s.picks) (commands_plain s.homes s.commands ok.sessions ok.commands)
    (each_append IsLine (map plan_words s.plan) (map pick_words s.picks) (plan_plain s s.plan (base_of s ok) ok.plan) (picks_plain s.picks ok.picks)))

shape_plain : (s : StoreShape) → IsShape s → IsLine (shape_words s)
shape_plain s valid =
    ((plain_by (codes "shape") refl, (decimal_plain s.partitions (omega (arith, valid.few_partitions)), (decimal_plain s.replicas (omega (arith, valid.few_replicas)), (decimal_plain s.failures (omega (arith, valid.minority, valid.few_replicas)), tt)))), omega arith)

pub script_plain : (s : Script) → IsAccepted s → Each IsLine (script_lines s)
script_plain s ok =
    (header_plain (codes "tempo") (plain_by (codes "tempo") refl), (shape_plain s.topology ok.shape, each_append IsLine (body s) (end_words ∷ []) (body_plain s ok) (end_plain, tt)))

-- ---- the lines are read

end_read : (d : Draft) → line_of d end_words ≡ Ok (false, d)
unfolding line_of begun no_more
end_read d = refl

-- the drafts that lead to a script
draft_runs : (g k : ℕ) (s t : Script) (lines : List Words) → Runs g k s lines t → (j : ℕ) × again.Runs line_of (so_far k s) lines (so_far j t)
draft_runs g k s t [] run = (k, ap (so_far k) run.0)
draft_runs g k s t (words ∷ lines) run =
    let rest = draft_runs g run.0 run.1 t lines run.3 in
    (rest.0, (so_far run.0 run.1, run.2, rest.1))

shape_read : (s : StoreShape) → IsShape s → shape_begun (shape_words s) ≡ Ok s
unfolding shape_begun
shape_read s valid = shape_written s valid

body_again : (n : ℕ) (s : Script) (rest : Words) → IsAccepted s → 0 < length rest → script_from n s.topology (joined (body s ++ end_words ∷ []) ++ rest) ≡ Ok (s, rest)
unfolding script_from
body_again n s rest ok some =
    let run = draft_runs 4 0 (shaped s.topology).script s (body s) (body_runs s ok) in
    let end : Draft = so_far run.0 s in
    rw (run_again Missing line_of end_words n (shaped s.topology) end (body s) rest some end_plain (end_read end) run.1 (body_plain s ok)) refl

pub script_again : (n : ℕ) (s : Script) (rest : Words) → IsAccepted s → 0 < length rest → script_at n (joined (script_lines s) ++ rest) ≡ Ok (s, rest)
unfolding script_at
script_again n s rest ok some =
    let others : Words = joined (body s ++ end_words ∷ []) ++ rest in
    let header = header_again (codes "tempo") causes n (join_with_byte 32 (shape_words s.topology) ∷ others) (plain_by (codes "tempo") refl) (omega arith) in
    let shape = line_again (n + 1) Missing shape_begun (shape_words s.topology) others s.topology (shape_plain s.topology ok.shape) (some_others (body s) end_words rest) (shape_read s.topology ok.shape) in
    rw (header, shape) (body_again (n + 2) s rest ok some)
