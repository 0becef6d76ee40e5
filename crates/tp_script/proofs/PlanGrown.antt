-- What a plan line or a pick that was read adds to the script so far, and what the shape's line says.
use Rattle.std.proofs.Common.{◌≡◌, ◌&&◌, ◌||◌, ℕ, ◌-◌, ◌/◌, ◌<◌, ◌≤◌, inl, inr, Bool, true, false, not, ltb, List, [], ◌∷◌, ◌++◌, length, map, Ok, refl, sym, ap, subst, ◌∙◌, arith, append_assoc}
use Rattle.std.specs.List.{list_any}
use Rattle.std.specs.Prelude.{codes}
use Rattle.std.specs.Str.{bytes_eq}
use Rattle.std.proofs.lemmas.Bool.{and_parts, ltb-true}
use Rattle.std.proofs.lemmas.List.{append-nil, map_push}
use Rattle.std.proofs.lemmas.List.Folds.{list_any-append}
use Rattle.tp_base.proofs.Ranges.{in_range}
use Rattle.tp_base.specs.Limits.{IsId, is_from}
use Rattle.tp_base.specs.Lists.{Each}
use Rattle.tp_base.specs.declared.names.ActorName.{ActorName}
use Rattle.tp_base.specs.declared.names.ActorName.TheVariants.{Process, Executor, Session as SessionOf}
use Rattle.tp_base.specs.declared.names.Rank.{Rank}
use Rattle.tp_base.proofs.Each.{each_push, each_weaker}
use Rattle.tp_ops.specs.declared.command.Command.{Command}
use Rattle.tp_script.specs.Accepted.{HasNoDoubles, IsAccepted, IsActorOf, IsCommandOf, IsCount, IsPlanLineOf, is_double}
use Rattle.tp_script.specs.Grammar.{crash_line, drop_line, has_double, is_shape, pick_line, recover_line, repeat_all, repeat_line, repeat_one, room, shape_line, with_plan}
use Rattle.tp_script.specs.Kinds.{IsActorIn, Kind, actor, count, id, literal, ordinal, row, site, times}
use Rattle.tp_script.specs.Print.{body, command_words, pick_words, plan_words, session_lines, shape_words}
use Rattle.tp_script.specs.declared.fault.ScriptCause.{ScriptCause}
use Rattle.tp_script.specs.declared.fault.ScriptCause.TheVariants.{Duplicate, Limit, Shape}
use Rattle.tp_script.specs.declared.script.PlanLine.{PlanLine}
use Rattle.tp_script.specs.declared.script.PlanLine.TheVariants.{Crash, Recover, Lose, Repeat, RepeatAll}
use Rattle.tp_script.specs.declared.script.Script.{Script}
use Rattle.tp_script.proofs.Grown.{Grows, Words, one_longer, row_is}
use Rattle.tp_script.proofs.Kinded.{IsKind}
use Rattle.tp_text.specs.Steps.{◌>>=◌, need}
use Rattle.tp_text.proofs.Plain.{plain_by, same_bytes}
use Rattle.tp_text.proofs.Stepped.{bind_ok, chosen, need_ok, ok_is}
use Rattle.tp_topology.specs.Shape.{IsShape, Shape as StoreShape}

-- ---- the kinds of a plan line's words

pub actor_of : (script : Script) (a : ActorName) → IsActorIn script.topology (length script.homes) a → IsActorOf script a
actor_of script (Process s) fits = fits
actor_of script (Executor s) fits = fits
actor_of script (SessionOf s) fits = fits

pub actor_in : (script : Script) (a : ActorName) → IsActorOf script a → IsActorIn script.topology (length script.homes) a
actor_in script (Process s) fits = fits
actor_in script (Executor s) fits = fits
actor_in script (SessionOf s) fits = fits

ids_of : (homes : List Rank) (commands : List Command) → Each (IsCommandOf homes) commands → Each (λ c. IsId c.id) commands
ids_of homes commands fit = each_weaker (IsCommandOf homes) (λ (c : Command). IsId c.id) (λ c h. h.0.0) commands fit

-- what the kinds of a plan line's words stand on
pub record IsBase (script : Script) : Type 0 where
  pub shape : IsShape script.topology
  pub sessions : length script.homes ≤ 16
  pub commands : Each (IsCommandOf script.homes) script.commands

pub base_of : (script : Script) → IsAccepted script → IsBase script
base_of script ok = record { shape = ok.shape; sessions = ok.sessions; commands = ok.commands }

abbrev pub crash_kinds : Script → List Kind
crash_kinds script = site script.topology ∷ literal (codes "after") ∷ count ∷ []

abbrev pub recover_kinds : Script → List Kind
recover_kinds script = site script.topology ∷ id script.commands ∷ literal (codes "after") ∷ count ∷ []

abbrev pub actor_kind : Script → Kind
actor_kind script = actor script.topology (length script.homes)

abbrev pub drop_kinds : Script → List Kind
drop_kinds script = actor_kind script ∷ actor_kind script ∷ ordinal ∷ []

abbrev pub repeat_kinds : Script → List Kind
repeat_kinds script = actor_kind script ∷ actor_kind script ∷ ordinal ∷ times ∷ []

pub crash_fit : (script : Script) → IsBase script → Each IsKind (crash_kinds script)
crash_fit script ok = (ok.shape, (plain_by (codes "after") refl, (omega arith, tt)))

pub recover_fit : (script : Script) → IsBase script → Each IsKind (recover_kinds script)
recover_fit script ok = (ok.shape, (ids_of script.homes script.commands ok.commands, (plain_by (codes "after") refl, (omega arith, tt))))

pub drop_fit : (script : Script) → IsBase script → Each IsKind (drop_kinds script)
drop_fit script ok = ((ok.shape, ok.sessions), ((ok.shape, ok.sessions), (omega arith, tt)))

pub repeat_fit : (script : Script) → IsBase script → Each IsKind (repeat_kinds script)
repeat_fit script ok = ((ok.shape, ok.sessions), ((ok.shape, ok.sessions), (omega arith, (omega arith, tt))))

-- ---- a plan line that was read is written so, and is one of the script

-- the line that the words say behind their first word
pub record Says (script : Script) (name : List ℕ) (words : Words) (line : PlanLine) : Type 0 where
  pub written : name ∷ words ≡ plan_words line
  pub fits : IsPlanLineOf script line

pub crash_says : (script : Script) (words : Words) (line : PlanLine) → IsAccepted script → crash_line script words ≡ Ok line → Says script (codes "crash") words line
unfolding crash_line
crash_says script words line ok e =
    let a = bind_ok (row (crash_kinds script) words) (λ said. Ok (Crash said.0 said.1.1.0)) line e in
    let w = row_is (crash_kinds script) (crash_fit script (base_of script ok)) words a.0 a.1 in
    subst (Says script (codes "crash") words) (ok_is ScriptCause (Crash a.0.0 a.0.1.1.0) line a.2) (record {
      written = ap (λ (x : Words). codes "crash" ∷ x) w.0;
      fits = (w.1.0, omega (arith, w.1.1.1.0.1));
    })

pub recover_says : (script : Script) (words : Words) (line : PlanLine) → IsAccepted script → recover_line script words ≡ Ok line → Says script (codes "recover") words line
unfolding recover_line
recover_says script words line ok e =
    let a = bind_ok (row (recover_kinds script) words) (λ said. Ok (Recover said.0 said.1.0 said.1.1.1.0)) line e in
    let w = row_is (recover_kinds script) (recover_fit script (base_of script ok)) words a.0 a.1 in
    subst (Says script (codes "recover") words) (ok_is ScriptCause (Recover a.0.0 a.0.1.0 a.0.1.1.1.0) line a.2) (record {
      written = ap (λ (x : Words). codes "recover" ∷ x) w.0;
      fits = (w.1.0, w.1.1.0, omega (arith, w.1.1.1.1.0.1));
    })

pub drop_says : (script : Script) (words : Words) (line : PlanLine) → IsAccepted script → drop_line script words ≡ Ok line → Says script (codes "drop") words line
unfolding drop_line
drop_says script words line ok e =
    let a = bind_ok (row (drop_kinds script) words) (λ said. Ok (Lose said.0 said.1.0 said.1.1.0)) line e in
    let w = row_is (drop_kinds script) (drop_fit script (base_of script ok)) words a.0 a.1 in
    subst (Says script (codes "drop") words) (ok_is ScriptCause (Lose a.0.0 a.0.1.0 a.0.1.1.0) line a.2) (record {
      written = ap (λ (x : Words). codes "drop" ∷ x) w.0;
      fits = (actor_of script a.0.0 w.1.0, actor_of script a.0.1.0 w.1.1.0, w.1.1.1.0.0, omega (arith, w.1.1.1.0.1));
    })

one_says : (script : Script) (words : Words) (line : PlanLine) → IsAccepted script → repeat_one script words ≡ Ok line → Says script (codes "repeat") words line
unfolding repeat_one
one_says script words line ok e =
    let a = bind_ok (row (repeat_kinds script) words) (λ said. Ok (Repeat said.0 said.1.0 said.1.1.0 said.1.1.1.0)) line e in
    let w = row_is (repeat_kinds script) (repeat_fit script (base_of script ok)) words a.0 a.1 in
    subst (Says script (codes "repeat") words) (ok_is ScriptCause (Repeat a.0.0 a.0.1.0 a.0.1.1.0 a.0.1.1.1.0) line a.2) (record {
      written = ap (λ (x : Words). codes "repeat" ∷ x) w.0;
      fits = (actor_of script a.0.0 w.1.0, actor_of script a.0.1.0 w.1.1.0, w.1.1.1.0.0, omega (arith, w.1.1.1.0.1), w.1.1.1.1.0);
    })

all_says : (script : Script) (words : Words) (line : PlanLine) → repeat_all words ≡ Ok line → Says script (codes "repeat") (codes "all" ∷ words) line
unfolding repeat_all
all_says script words line e =
    let a = bind_ok (row (times ∷ []) words) (λ said. Ok (RepeatAll said.0)) line e in
    let w = row_is (times ∷ []) (omega arith, tt) words a.0 a.1 in
    subst (Says script (codes "repeat") (codes "all" ∷ words)) (ok_is ScriptCause (RepeatAll a.0.0) line a.2) (record {
      written = ap (λ (x : Words). codes "repeat" ∷ codes "all" ∷ x) w.0;
      fits = w.1.0;
    })

pub repeat_says : (script : Script) (words : Words) (line : PlanLine) → IsAccepted script → repeat_line script words ≡ Ok line → Says script (codes "repeat") words line
unfolding repeat_line
repeat_says script [] line ok e = let wrong : ⊥ = cc in absurd wrong
repeat_says script (word ∷ words) line ok e = elim (chosen (bytes_eq word (codes "all")) (repeat_all words) (repeat_one script (word ∷ words)) (Ok line) e) [
  | inl p ↦ subst (λ (w : List ℕ). Says script (codes "repeat") (w ∷ words) line) (sym (same_bytes word (codes "all") p.0)) (all_says script words line p.1)
  | inr q ↦ one_says script (word ∷ words) line ok q.1
]

-- ---- it is added

not_false : (b : Bool) → not b ≡ true → b ≡ false
not_false true e = let wrong : ⊥ = cc in absurd wrong
not_false false e = refl

or_none : (a b : Bool) → a ≡ false → b ≡ false → (a || b) ≡ false
or_none true b e f = e
or_none false b e f = f

pub or_both : (a b : Bool) → (a || b) ≡ false → (a ≡ false) × (b ≡ false)
or_both true b e = let wrong : ⊥ = cc in absurd wrong
or_both false b e = (refl, e)

doubles_push : (lines : List PlanLine) (line : PlanLine) → HasNoDoubles lines → list_any (λ earlier. is_double earlier line) lines ≡ false → HasNoDoubles (lines ++ line ∷ [])
doubles_push [] line none new = (refl, tt)
doubles_push (l ∷ lines) line none new =
    let parts = or_both (is_double l line) (list_any (λ earlier. is_double earlier line) lines) new in
    let later : list_any (is_double l) (lines ++ line ∷ []) ≡ false = list_any-append (is_double l) lines (line ∷ []) ∙ or_none (list_any (is_double l) lines) (list_any (is_double l) (line ∷ [])) none.0 (or_none (is_double l line) false parts.0 refl) in
    (later, doubles_push lines line none.1 parts.1)

abbrev pub with_line : Script → PlanLine → Script
with_line script line = record script { plan = script.plan ++ line ∷ [] }

abbrev pub with_pick : Script → ℕ → Script
with_pick script pick = record script { picks = script.picks ++ pick ∷ [] }

same_actor : (shape : StoreShape) (homes : List Rank) (commands : List Command) (plan plan' : List PlanLine) (picks picks' : List ℕ) (a : ActorName)
    → IsActorOf (record { topology = shape; homes = homes; commands = commands; plan = plan; picks = picks }) a
    → IsActorOf (record { topology = shape; homes = homes; commands = commands; plan = plan'; picks = picks' }) a
same_actor shape homes commands plan plan' picks picks' (Process s) fits = fits
same_actor shape homes commands plan plan' picks picks' (Executor s) fits = fits
same_actor shape homes commands plan plan' picks picks' (SessionOf s) fits = fits

-- a script's plan lines are judged by its shape, homes and commands
pub same_line : (shape : StoreShape) (homes : List Rank) (commands : List Command) (plan plan' : List PlanLine) (picks picks' : List ℕ) (line : PlanLine)
    → IsPlanLineOf (record { topology = shape; homes = homes; commands = commands; plan = plan; picks = picks }) line
    → IsPlanLineOf (record { topology = shape; homes = homes; commands = commands; plan = plan'; picks = picks' }) line
same_line shape homes commands plan plan' picks picks' (Crash s n) fits = fits
same_line shape homes commands plan plan' picks picks' (Recover s i n) fits = fits
same_line shape homes commands plan plan' picks picks' (Lose from to n) fits =
    (same_actor shape homes commands plan plan' picks picks' from fits.0, same_actor shape homes commands plan plan' picks picks' to fits.1, fits.2, fits.3)
same_line shape homes commands plan plan' picks picks' (Repeat from to n k) fits =
    (same_actor shape homes commands plan plan' picks picks' from fits.0, same_actor shape homes commands plan plan' picks picks' to fits.1, fits.2, fits.3, fits.4)
same_line shape homes commands plan plan' picks picks' (RepeatAll k) fits = fits

same_plan : (script : Script) (plan' : List PlanLine) (picks' : List ℕ) → Each (IsPlanLineOf script) script.plan
    → Each (IsPlanLineOf (record script { plan = plan'; picks = picks' })) script.plan
same_plan script plan' picks' fit =
    each_weaker (IsPlanLineOf script) (IsPlanLineOf (record script { plan = plan'; picks = picks' }))
    (λ line h. same_line script.topology script.homes script.commands script.plan plan' script.picks picks' line h) script.plan fit

line_accepted : (script : Script) (line : PlanLine) → IsAccepted script → IsPlanLineOf script line → list_any (λ earlier. is_double earlier line) script.plan ≡ false → length script.plan < 1000 → IsAccepted (with_line script line)
line_accepted script line ok fits new few = record {
  shape = ok.shape;
  sessions = ok.sessions;
  homes = ok.homes;
  count = ok.count;
  commands = ok.commands;
  numbered = ok.numbered;
  lines = omega (arith, one_longer script.plan line);
  plan = each_push (IsPlanLineOf (with_line script line)) script.plan line (same_plan script (script.plan ++ line ∷ []) script.picks ok.plan)
      (same_line script.topology script.homes script.commands script.plan (script.plan ++ line ∷ []) script.picks script.picks line fits);
  doubles = doubles_push script.plan line ok.doubles new;
  few_picks = ok.few_picks;
  picks = ok.picks;
}

line_body : (script : Script) (line : PlanLine) → script.picks ≡ [] → body (with_line script line) ≡ body script ++ plan_words line ∷ []
line_body script line k =
    let homes : List Words = session_lines 1 script.homes in
    let commands : List Words = map command_words script.commands in
    let lines : List Words = map plan_words script.plan in
    rw k (ap (λ (x : List Words). homes ++ (commands ++ x)) (append-nil (map plan_words (script.plan ++ line ∷ [])) ∙ map_push plan_words script.plan line)
    ∙ ap (λ (x : List Words). homes ++ x) (sym (append_assoc commands lines (plan_words line ∷ [])))
    ∙ sym (append_assoc homes (commands ++ lines) (plan_words line ∷ []))
    ∙ ap (λ (x : List Words). (homes ++ (commands ++ x)) ++ plan_words line ∷ []) (sym (append-nil lines)))

pub line_grows : (script after : Script) (name : List ℕ) (words : Words) (line : PlanLine) → IsAccepted script → script.picks ≡ [] → Says script name words line → with_plan script line ≡ Ok after
    → Grows script after (name ∷ words) × (after.picks ≡ [])
unfolding with_plan has_double
line_grows script after name words line ok k says e =
    let n = need_ok (not (has_double script.plan line)) Duplicate (room (length script.plan) 1000 >>= λ _. Ok (with_line script line)) after e in
    let r = need_ok (ltb (length script.plan) 1000) (Limit 1001 1000) (Ok (with_line script line)) after n.1 in
    let grown : Grows script (with_line script line) (name ∷ words) = record {
      shape = refl;
      accepted = line_accepted script line ok says.fits (not_false (has_double script.plan line) n.0) (ltb-true _ _ r.0);
      text = line_body script line k ∙ ap (λ (x : Words). body script ++ x ∷ []) (sym says.written);
    } in
    subst (λ (x : Script). Grows script x (name ∷ words) × (x.picks ≡ [])) (ok_is ScriptCause (with_line script line) after r.1) (grown, k)

-- ---- picks

pick_accepted : (script : Script) (pick : ℕ) → IsAccepted script → IsCount pick → length script.picks < 100000 → IsAccepted (with_pick script pick)
pick_accepted script pick ok fits few = record {
  shape = ok.shape;
  sessions = ok.sessions;
  homes = ok.homes;
  count = ok.count;
  commands = ok.commands;
  numbered = ok.numbered;
  lines = ok.lines;
  plan = same_plan script script.plan (script.picks ++ pick ∷ []) ok.plan;
  doubles = ok.doubles;
  few_picks = omega (arith, one_longer script.picks pick);
  picks = each_push IsCount script.picks pick ok.picks fits;
}

pick_body : (script : Script) (pick : ℕ) → body (with_pick script pick) ≡ body script ++ pick_words pick ∷ []
pick_body script pick =
    let homes : List Words = session_lines 1 script.homes in
    let commands : List Words = map command_words script.commands in
    let lines : List Words = map plan_words script.plan in
    let picks : List Words = map pick_words script.picks in
    ap (λ (x : List Words). homes ++ (commands ++ (lines ++ x))) (map_push pick_words script.picks pick)
    ∙ ap (λ (x : List Words). homes ++ (commands ++ x)) (sym (append_assoc lines picks (pick_words pick ∷ [])))
    ∙ ap (λ (x : List Words). homes ++ x) (sym (append_assoc commands (lines ++ picks) (pick_words pick ∷ [])))
    ∙ sym (append_assoc homes (commands ++ (lines ++ picks)) (pick_words pick ∷ []))

pub pick_grows : (script after : Script) (words : Words) → IsAccepted script → pick_line script words ≡ Ok after → Grows script after (codes "pick" ∷ words)
unfolding pick_line
pick_grows script after words ok e =
    let a = bind_ok (row (count ∷ []) words) (λ said. room (length script.picks) 100000 >>= λ _. Ok (with_pick script said.0)) after e in
    let w = row_is (count ∷ []) (omega arith, tt) words a.0 a.1 in
    let r = need_ok (ltb (length script.picks) 100000) (Limit 100001 100000) (Ok (with_pick script a.0.0)) after a.2 in
    let grown : Grows script (with_pick script a.0.0) (codes "pick" ∷ words) = record {
      shape = refl;
      accepted = pick_accepted script a.0.0 ok (omega (arith, w.1.0.1)) (ltb-true _ _ r.0);
      text = pick_body script a.0.0 ∙ ap (λ (x : Words). body script ++ (codes "pick" ∷ x) ∷ []) (sym w.0);
    } in
    subst (λ (x : Script). Grows script x (codes "pick" ∷ words)) (ok_is ScriptCause (with_pick script a.0.0) after r.1) grown

-- ---- the shape

shape_is : (p r f : ℕ) → is_shape p r f ≡ true → IsShape (record { partitions = p; replicas = r; failures = f })
shape_is p r f e =
    let a = and_parts (is_from 1 4 p && is_from 3 7 r) (is_from 1 ((r - 1) / 2) f) e in
    let b = and_parts (is_from 1 4 p) (is_from 3 7 r) a.0 in
    let x = in_range 1 4 p b.0 in
    let y = in_range 3 7 r b.1 in
    let z = in_range 1 ((r - 1) / 2) f a.1 in
    record { some_partition = x.0; few_partitions = x.1; some_replicas = y.0; few_replicas = y.1; some_failure = z.0; minority = z.1 }

pub three_counts : Each IsKind (count ∷ count ∷ count ∷ [])
three_counts = (omega arith, (omega arith, (omega arith, tt)))

pub shape_says : (words : Words) (shape : StoreShape) → shape_line words ≡ Ok shape → (codes "shape" ∷ words ≡ shape_words shape) × IsShape shape
unfolding shape_line
shape_says words shape e =
    let a = bind_ok (row (count ∷ count ∷ count ∷ []) words) (λ said. need (is_shape said.0 said.1.0 said.1.1.0) Shape >>= λ _. Ok (record { partitions = said.0; replicas = said.1.0; failures = said.1.1.0 })) shape e in
    let w = row_is (count ∷ count ∷ count ∷ []) three_counts words a.0 a.1 in
    let made : StoreShape = record { partitions = a.0.0; replicas = a.0.1.0; failures = a.0.1.1.0 } in
    let t = need_ok (is_shape a.0.0 a.0.1.0 a.0.1.1.0) Shape (Ok made) shape a.2 in
    subst (λ (s : StoreShape). (codes "shape" ∷ words ≡ shape_words s) × IsShape s) (ok_is ScriptCause made shape t.1) (ap (λ (x : Words). codes "shape" ∷ x) w.0, shape_is a.0.0 a.0.1.0 a.0.1.1.0 t.0)
