-- A line of an accepted script's text is read as what it says, behind the lines before it.
use Rattle.std.proofs.Common.{◌≡◌, ◌==◌, ◌&&◌, ℕ, zero, suc, ◌-◌, ◌/◌, ◌<◌, ◌≤◌, inl, inr, true, false, eq-eqb, List, [], ◌∷◌, ◌++◌, length, map, Option, Some, None, Result, Ok, refl, sym, ap, subst, ◌∙◌, arith, length-append}
use Rattle.std.specs.Fmt.{decimal}
use Rattle.std.specs.List.{filter, list_any, slice_get}
use Rattle.std.specs.Prelude.{codes}
use Rattle.std.specs.Str.{bytes_eq}
use Rattle.std.proofs.lemmas.Bool.{cases_lt, le-leb, lt-ltb}
use Rattle.std.proofs.lemmas.List.Elements.{filter-append}
use Rattle.std.proofs.lemmas.List.Folds.{list_any-append}
use Rattle.tp_base.proofs.Ends.{slice_get_left, slice_get_push}
use Rattle.tp_base.proofs.Ranges.{range_in}
use Rattle.tp_base.specs.Limits.{IsFrom, is_from}
use Rattle.tp_base.specs.Lists.{Each}
use Rattle.tp_base.specs.Tables.{nth}
use Rattle.tp_base.specs.declared.names.ActorName.{ActorName}
use Rattle.tp_base.specs.declared.names.ActorName.TheVariants.{Process, Executor, Session as SessionOf}
use Rattle.tp_base.specs.declared.names.CommandId.{CommandId}
use Rattle.tp_base.specs.declared.names.Rank.{Rank}
use Rattle.tp_base.specs.declared.names.Site.{Site}
use Rattle.tp_ops.specs.declared.command.Command.{Command}
use Rattle.tp_script.specs.Accepted.{AreNumbered, HasNoDoubles, IsCommandOf, IsCount, IsHome, IsPlanLineOf, is_double}
use Rattle.tp_script.specs.Grammar.{command_line, crash_line, drop_line, has_double, is_shape, next_command, next_number, ops_and_count, pick_line, recover_line, repeat_all, repeat_line, repeat_one, room, session_line, shape_line, with_plan}
use Rattle.tp_script.specs.Kinds.{AllSaid, IsSaid, Kind, Said, count, kinds, row, take_word, times}
use Rattle.tp_script.specs.Meaning.{begun, in_group, into_plan, line_of}
use Rattle.tp_script.specs.Print.{command_words, ops_words, pick_words, plan_words, session_words}
use Rattle.tp_script.specs.declared.draft.Draft.{Draft}
use Rattle.tp_script.specs.declared.fault.ScriptCause.{ScriptCause}
use Rattle.tp_script.specs.declared.fault.ScriptCause.TheVariants.{Session, Shape}
use Rattle.tp_script.specs.declared.script.PlanLine.{PlanLine}
use Rattle.tp_script.specs.declared.script.PlanLine.TheVariants.{Crash, Recover, Lose, Repeat, RepeatAll}
use Rattle.tp_script.specs.declared.script.Script.{Script}
use Rattle.tp_script.proofs.Grown.{is_by, two_counts, with_home}
use Rattle.tp_script.proofs.Kinded.{IsKind, laws}
use Rattle.tp_script.proofs.OpsWritten.{counted_again}
use Rattle.tp_script.proofs.PlanGrown.{IsBase, actor_in, crash_fit, crash_kinds, drop_fit, drop_kinds, or_both, recover_fit, recover_kinds, repeat_fit, repeat_kinds, three_counts, with_line, with_pick}
use Rattle.tp_text.specs.Names.{actor_word, id_word, site_word}
use Rattle.tp_text.specs.Rows.{words_of_row}
use Rattle.tp_text.specs.Steps.{◌>>=◌, need}
use Rattle.tp_text.proofs.Rowed.{AreSaid, row_again, word_again}
use Rattle.tp_topology.proofs.UpTo.{get_up_to}
use Rattle.tp_topology.specs.Counting.{up_to}
use Rattle.tp_topology.specs.Shape.{IsShape, Shape as StoreShape}

row_written : (ks : List Kind) → Each IsKind ks → (said : AllSaid ks) → AreSaid {Said = Said} IsSaid ks said → row ks (words_of_row kinds ks said) ≡ Ok said
row_written ks fit said fits = row_again kinds IsKind IsSaid laws ks fit said fits

-- the lines so far, of a group
abbrev pub so_far : ℕ → Script → Draft
so_far group script = record { group = group; script = script }

-- ---- the shape

is_shape_of : (s : StoreShape) → IsShape s → is_shape s.partitions s.replicas s.failures ≡ true
is_shape_of s valid =
    rw (range_in 1 4 s.partitions (valid.some_partition, valid.few_partitions), range_in 3 7 s.replicas (valid.some_replicas, valid.few_replicas), range_in 1 ((s.replicas - 1) / 2) s.failures (valid.some_failure, valid.minority)) refl

pub shape_written : (s : StoreShape) → IsShape s → shape_line (decimal s.partitions ∷ decimal s.replicas ∷ decimal s.failures ∷ []) ≡ Ok s
unfolding shape_line
shape_written s valid =
    let fits : AreSaid {Said = Said} IsSaid (count ∷ count ∷ count ∷ []) (s.partitions, (s.replicas, (s.failures, tt))) = ((omega arith, omega (arith, valid.few_partitions)), ((omega arith, omega (arith, valid.few_replicas)), ((omega arith, omega (arith, valid.minority, valid.few_replicas)), tt))) in
    ap (λ (r : Result (AllSaid (count ∷ count ∷ count ∷ [])) ScriptCause). r >>= λ said. need (is_shape said.0 said.1.0 said.1.1.0) Shape >>= λ _. Ok (record { partitions = said.0; replicas = said.1.0; failures = said.1.1.0 }))
    (row_written (count ∷ count ∷ count ∷ []) three_counts (s.partitions, (s.replicas, (s.failures, tt))) fits)
    ∙ rw (is_shape_of s valid) refl

-- ---- sessions

session_written : (script : Script) (home : Rank) → IsShape script.topology → length script.homes < 16 → IsFrom 1 script.topology.replicas home.0
    → session_line script (decimal (suc (length script.homes)) ∷ decimal home.0 ∷ []) ≡ Ok (with_home script home.0)
unfolding session_line
session_written script home valid few range =
    let n : ℕ = suc (length script.homes) in
    let fits : AreSaid {Said = Said} IsSaid (count ∷ count ∷ []) (n, (home.0, tt)) = ((omega arith, omega (arith, few)), ((omega arith, omega (arith, range.1, valid.few_replicas)), tt)) in
    ap (λ (r : Result (AllSaid (count ∷ count ∷ [])) ScriptCause). r >>= λ said. need ((said.0 == suc (length script.homes)) && is_from 1 script.topology.replicas said.1.0) Session >>= λ _. room (length script.homes) 16 >>= λ _. Ok (with_home script said.1.0))
    (row_written (count ∷ count ∷ []) two_counts (n, (home.0, tt)) fits)
    ∙ rw (eq-eqb (suc (length script.homes)) (suc (length script.homes)) refl, range_in 1 script.topology.replicas home.0 range, lt-ltb (length script.homes) 16 few) refl

pub session_read : (group : ℕ) (script : Script) (home : Rank) → group ≤ 1 → IsShape script.topology → length script.homes < 16 → IsFrom 1 script.topology.replicas home.0
    → line_of (so_far group script) (session_words (suc (length script.homes)) home) ≡ Ok (in_group 1 (with_home script home.0))
unfolding line_of begun
session_read group script home le valid few range = rw (le-leb group 1 le, session_written script home valid few range) refl

-- ---- commands

get_mapped : (f : Command → ℕ) (xs : List Command) (c : Command) (ys : List Command) → slice_get (map f (xs ++ c ∷ ys)) (length xs) ≡ Some (f c)
get_mapped f [] c ys = refl
get_mapped f (x ∷ xs) c ys = get_mapped f xs c ys

pub number_next : (before after : List Command) (c : Command) → AreNumbered (before ++ c ∷ after) c.id.session.0 → c.id.number ≡ next_number before c.id.session.0
unfolding next_number
number_next before after c are =
    let s : ℕ = c.id.session.0 in
    let xs : List Command = filter (is_by s) before in
    let ys : List Command = filter (is_by s) after in
    let here : filter (is_by s) (c ∷ after) ≡ c ∷ ys = rw (eq-eqb s s refl) refl in
    let whole : filter (is_by s) (before ++ c ∷ after) ≡ xs ++ c ∷ ys = filter-append (is_by s) before (c ∷ after) ∙ ap (λ (z : List Command). xs ++ z) here in
    let numbers : map (λ (x : Command). x.id.number) (xs ++ c ∷ ys) ≡ up_to (length (xs ++ c ∷ ys)) = rw (← whole) are in
    let first : Some c.id.number ≡ slice_get (map (λ (x : Command). x.id.number) (xs ++ c ∷ ys)) (length xs) = sym (get_mapped (λ (x : Command). x.id.number) xs c ys) in
    let second : slice_get (up_to (length (xs ++ c ∷ ys))) (length xs) ≡ Some (suc (length xs)) = get_up_to (length (xs ++ c ∷ ys)) (length xs) (omega (arith, length-append xs (c ∷ ys))) in
    let both : Some c.id.number ≡ Some (suc (length xs)) = first ∙ ap (λ (l : List ℕ). slice_get l (length xs)) numbers ∙ second in
    cc

abbrev pub with_next : Script → Command → Script
with_next script c = record script { commands = script.commands ++ c ∷ [] }

home_is : (homes : List Rank) (s : ℕ) (home : Rank) → 1 ≤ s → IsHome (slice_get homes (s - 1)) home.0 → nth homes s ≡ Some home
home_is homes zero home some is = absurd (omega arith)
home_is homes (suc s) home some is =
    let same : suc s - 1 ≡ s = omega arith in
    go (slice_get homes s) (subst (λ (k : ℕ). IsHome (slice_get homes k) home.0) same is)
  where
    go : (o : Option Rank) → IsHome o home.0 → o ≡ Some home
    go None h = absurd h
    go (Some rank) h = let ranks : rank ≡ home = ap (λ (n : ℕ). let r : Rank = record { 0 = n } in r) h in ap (λ (r : Rank). Some r) ranks

abbrev answer : Script → Result Script ScriptCause
answer script = Ok script

command_written : (script : Script) (c : Command) → IsCommandOf script.homes c → length script.homes ≤ 16 → c.id.number ≡ next_number script.commands c.id.session.0 → length script.commands < 1000
    → command_line script (decimal c.id.session.0 ∷ ops_words c.ops) ≡ Ok (with_next script c)
unfolding command_line
command_written script c is sessions next few =
    let s : ℕ = c.id.session.0 in
    let session : take_word count (decimal s ∷ ops_words c.ops) ≡ Ok (s, ops_words c.ops) = word_again kinds IsKind IsSaid laws count (omega arith) s (ops_words c.ops) (omega arith, omega (arith, is.1.1, sessions)) in
    let ops : ops_and_count (ops_words c.ops) ≡ Ok (c.ops, length c.ops) = counted_again c.ops is.0.2.1 is.0.2.0 is.0.3 in
    let home : nth script.homes s ≡ Some c.home = home_is script.homes s c.home is.1.0 is.2 in
    let made : next_command script.commands s c.home c.ops ≡ c = ap (λ (n : ℕ). let x : Command = record { id = record { session = record { 0 = s }; number = n }; home = c.home; ops = c.ops } in x) (sym next) in
    let done : Ok (record script { commands = script.commands ++ next_command script.commands s c.home c.ops ∷ [] }) ≡ answer (with_next script c) = ap (λ (x : Command). answer (with_next script x)) made in
    rw (session, ops, home, le-leb (length c.ops) 16 is.0.2.1, lt-ltb (length script.commands) 1000 few) done

pub command_read : (group : ℕ) (script : Script) (c : Command) → group ≤ 2 → IsCommandOf script.homes c → length script.homes ≤ 16 → c.id.number ≡ next_number script.commands c.id.session.0 → length script.commands < 1000
    → line_of (so_far group script) (command_words c) ≡ Ok (in_group 2 (with_next script c))
unfolding line_of begun
command_read group script c le is sessions next few = rw (le-leb group 2 le, command_written script c is sessions next few) refl

-- ---- plan lines

crash_written : (script : Script) (s : Site) (n : ℕ) → IsBase script → IsPlanLineOf script (Crash s n) → crash_line script (site_word s ∷ codes "after" ∷ decimal n ∷ []) ≡ Ok (Crash s n)
unfolding crash_line
crash_written script s n base fits =
    let said : AreSaid {Said = Said} IsSaid (crash_kinds script) (s, (tt, (n, tt))) = (fits.0, (tt, ((omega arith, omega (arith, fits.1)), tt))) in
    ap (λ (r : Result (AllSaid (crash_kinds script)) ScriptCause). r >>= λ x. Ok (Crash x.0 x.1.1.0)) (row_written (crash_kinds script) (crash_fit script base) (s, (tt, (n, tt))) said)

recover_written : (script : Script) (s : Site) (i : CommandId) (n : ℕ) → IsBase script → IsPlanLineOf script (Recover s i n) → recover_line script (site_word s ∷ id_word i ∷ codes "after" ∷ decimal n ∷ []) ≡ Ok (Recover s i n)
unfolding recover_line
recover_written script s i n base fits =
    let said : AreSaid {Said = Said} IsSaid (recover_kinds script) (s, (i, (tt, (n, tt)))) = (fits.0, (fits.1, (tt, ((omega arith, omega (arith, fits.2)), tt)))) in
    ap (λ (r : Result (AllSaid (recover_kinds script)) ScriptCause). r >>= λ x. Ok (Recover x.0 x.1.0 x.1.1.1.0)) (row_written (recover_kinds script) (recover_fit script base) (s, (i, (tt, (n, tt)))) said)

drop_written : (script : Script) (from to : ActorName) (n : ℕ) → IsBase script → IsPlanLineOf script (Lose from to n) → drop_line script (actor_word from ∷ actor_word to ∷ decimal n ∷ []) ≡ Ok (Lose from to n)
unfolding drop_line
drop_written script from to n base fits =
    let said : AreSaid {Said = Said} IsSaid (drop_kinds script) (from, (to, (n, tt))) = (actor_in script from fits.0, (actor_in script to fits.1, ((fits.2, omega (arith, fits.3)), tt))) in
    ap (λ (r : Result (AllSaid (drop_kinds script)) ScriptCause). r >>= λ x. Ok (Lose x.0 x.1.0 x.1.1.0)) (row_written (drop_kinds script) (drop_fit script base) (from, (to, (n, tt))) said)

not_all : (a : ActorName) → bytes_eq (actor_word a) (codes "all") ≡ false
not_all (Process s) = refl
not_all (Executor s) = refl
not_all (SessionOf s) = refl

repeat_written : (script : Script) (from to : ActorName) (n k : ℕ) → IsBase script → IsPlanLineOf script (Repeat from to n k) → repeat_line script (actor_word from ∷ actor_word to ∷ decimal n ∷ decimal k ∷ []) ≡ Ok (Repeat from to n k)
unfolding repeat_line repeat_one
repeat_written script from to n k base fits =
    let said : AreSaid {Said = Said} IsSaid (repeat_kinds script) (from, (to, (n, (k, tt)))) = (actor_in script from fits.0, (actor_in script to fits.1, ((fits.2, omega (arith, fits.3)), (fits.4, tt)))) in
    rw (not_all from) (ap (λ (r : Result (AllSaid (repeat_kinds script)) ScriptCause). r >>= λ x. Ok (Repeat x.0 x.1.0 x.1.1.0 x.1.1.1.0)) (row_written (repeat_kinds script) (repeat_fit script base) (from, (to, (n, (k, tt)))) said))

all_written : (script : Script) (k : ℕ) → IsFrom 2 9 k → repeat_line script (codes "all" ∷ decimal k ∷ []) ≡ Ok (RepeatAll k)
unfolding repeat_line repeat_all
all_written script k range =
    ap (λ (r : Result (AllSaid (times ∷ [])) ScriptCause). r >>= λ x. Ok (RepeatAll x.0)) (row_written (times ∷ []) (omega arith, tt) (k, tt) (range, tt))

pub no_double : (before : List PlanLine) (line : PlanLine) (after : List PlanLine) → HasNoDoubles (before ++ line ∷ after) → list_any (λ earlier. is_double earlier line) before ≡ false
no_double [] line after none = refl
no_double (b ∷ before) line after none =
    let apart = or_both (list_any (is_double b) before) (list_any (is_double b) (line ∷ after)) (sym (list_any-append (is_double b) before (line ∷ after)) ∙ none.0) in
    let new = or_both (is_double b line) (list_any (is_double b) after) apart.1 in
    rw new.0 (no_double before line after none.1)

with_plan_is : (script : Script) (line : PlanLine) → list_any (λ earlier. is_double earlier line) script.plan ≡ false → length script.plan < 1000 → with_plan script line ≡ Ok (with_line script line)
unfolding with_plan has_double
with_plan_is script line new few = rw (new, lt-ltb (length script.plan) 1000 few) refl

planned : (script : Script) (line : PlanLine) (read : Result PlanLine ScriptCause) (group : ℕ) → read ≡ Ok line → with_plan script line ≡ Ok (with_line script line) → into_plan (so_far group script) read ≡ Ok (in_group 3 (with_line script line))
planned script line read group first second = rw (first, second) refl

pub line_read : (group : ℕ) (script : Script) (line : PlanLine) → group ≤ 3 → IsBase script → IsPlanLineOf script line → list_any (λ earlier. is_double earlier line) script.plan ≡ false → length script.plan < 1000
    → line_of (so_far group script) (plan_words line) ≡ Ok (in_group 3 (with_line script line))
unfolding line_of begun
line_read group script (Crash s n) le base fits new few = rw (le-leb group 3 le) (planned script (Crash s n) (crash_line script (site_word s ∷ codes "after" ∷ decimal n ∷ [])) group (crash_written script s n base fits) (with_plan_is script (Crash s n) new few))
line_read group script (Recover s i n) le base fits new few = rw (le-leb group 3 le) (planned script (Recover s i n) (recover_line script (site_word s ∷ id_word i ∷ codes "after" ∷ decimal n ∷ [])) group (recover_written script s i n base fits) (with_plan_is script (Recover s i n) new few))
line_read group script (Lose from to n) le base fits new few = rw (le-leb group 3 le) (planned script (Lose from to n) (drop_line script (actor_word from ∷ actor_word to ∷ decimal n ∷ [])) group (drop_written script from to n base fits) (with_plan_is script (Lose from to n) new few))
line_read group script (Repeat from to n k) le base fits new few = rw (le-leb group 3 le) (planned script (Repeat from to n k) (repeat_line script (actor_word from ∷ actor_word to ∷ decimal n ∷ decimal k ∷ [])) group (repeat_written script from to n k base fits) (with_plan_is script (Repeat from to n k) new few))
line_read group script (RepeatAll k) le base fits new few = rw (le-leb group 3 le) (planned script (RepeatAll k) (repeat_line script (codes "all" ∷ decimal k ∷ [])) group (all_written script k fits) (with_plan_is script (RepeatAll k) new few))

-- ---- picks

pick_written : (script : Script) (pick : ℕ) → IsCount pick → length script.picks < 100000 → pick_line script (decimal pick ∷ []) ≡ Ok (with_pick script pick)
unfolding pick_line
pick_written script pick fits few =
    ap (λ (r : Result (AllSaid (count ∷ [])) ScriptCause). r >>= λ said. room (length script.picks) 100000 >>= λ _. Ok (with_pick script said.0)) (row_written (count ∷ []) (omega arith, tt) (pick, tt) ((omega arith, omega (arith, fits)), tt))
    ∙ rw (lt-ltb (length script.picks) 100000 few) refl

pub pick_read : (group : ℕ) (script : Script) (pick : ℕ) → group ≤ 4 → IsCount pick → length script.picks < 100000
    → line_of (so_far group script) (pick_words pick) ≡ Ok (in_group 4 (with_pick script pick))
unfolding line_of begun
pick_read group script pick le fits few = rw (le-leb group 4 le, pick_written script pick fits few) refl
