-- What was read as a script is its text: each line that was read is the next line of the text.
use Rattle.std.proofs.Common.{◌≡◌, ℕ, ◌+◌, ◌≤◌, inl, inr, Bool, true, false, cond, leb, List, [], ◌∷◌, ◌++◌, Result, Ok, Err, refl, sym, ap, subst, ◌∙◌, arith}
use Rattle.std.specs.List.{join_with_byte}
use Rattle.std.specs.Prelude.{codes}
use Rattle.std.specs.Str.{bytes_eq}
use Rattle.std.proofs.lemmas.Bool.{and_parts, leb-true}
use Rattle.tp_script.specs.Accepted.{IsAccepted}
use Rattle.tp_script.specs.Grammar.{command_line, crash_line, drop_line, pick_line, recover_line, repeat_line, session_line, shape_line, with_plan}
use Rattle.tp_script.specs.Kinds.{no_word}
use Rattle.tp_script.specs.Meaning.{begun, causes, in_group, into_group, into_plan, line_of, script_at, script_from, shape_begun, shaped, stands}
use Rattle.tp_script.specs.Print.{body, script_lines, shape_words}
use Rattle.tp_script.specs.declared.draft.Draft.{Draft}
use Rattle.tp_script.specs.declared.fault.ScriptCause.{ScriptCause}
use Rattle.tp_script.specs.declared.fault.ScriptCause.TheVariants.{Missing, Word}
use Rattle.tp_script.specs.declared.script.PlanLine.{PlanLine}
use Rattle.tp_script.specs.declared.script.Script.{Script}
use Rattle.tp_script.proofs.Grown.{Grows, Words, command_grows, row_is, session_grows}
use Rattle.tp_script.proofs.PlanGrown.{Says, crash_says, drop_says, line_grows, pick_grows, recover_says, repeat_says, shape_says}
use Rattle.tp_text.specs.Framing.{end_words, header_at, header_words, line_at, lines_from}
use Rattle.tp_text.specs.Steps.{◌>>=◌}
use Rattle.tp_text.specs.declared.fault.TextFault.{TextFault}
use Rattle.tp_text.proofs.LinesFound as framed
use Rattle.tp_text.proofs.LinesFound.{header_found, joined, line_found, lines_found}
use Rattle.tp_text.proofs.Plain.{same_bytes}
use Rattle.tp_text.proofs.Stepped.{bind_ok, chosen, ok_is}
use Rattle.tp_topology.specs.Shape.{IsShape, Shape as StoreShape}

-- ---- the lines so far

-- the groups behind the last line are empty
abbrev AreEmpty : ℕ → Script → Type 0
AreEmpty group script = (group ≤ 1 → script.commands ≡ []) × (group ≤ 2 → script.plan ≡ []) × (group ≤ 3 → script.picks ≡ [])

pub record IsDraft (d : Draft) : Type 0 where
  pub accepted : IsAccepted d.script
  pub empty : AreEmpty d.group d.script

-- what a line that was read did: it grew the script so far, or it is `end`
data Begun (d : Draft) (words : Words) (x : Bool × Draft) : Type 0 where
  grew : (group : ℕ) (script : Script) → in_group group script ≡ x → Grows d.script script words → AreEmpty group script → Begun d words x
  ended : (false, d) ≡ x → words ≡ end_words → Begun d words x

record IsPlace (d : Draft) (group : ℕ) (word name : List ℕ) : Type 0 where
  named : word ≡ name
  behind : d.group ≤ group

place_is : (d : Draft) (group : ℕ) (name word : List ℕ) → stands d group name word ≡ true → IsPlace d group word name
place_is d group name word e =
    let parts = and_parts (bytes_eq word name) (leb d.group group) e in
    record { named = same_bytes word name parts.0; behind = leb-true _ _ parts.1 }

renamed : (word name : List ℕ) (words : Words) (a b : Script) → word ≡ name → Grows a b (name ∷ words) → Grows a b (word ∷ words)
renamed word name words a b same grown = subst (λ (w : List ℕ). Grows a b (w ∷ words)) (sym same) grown

abbrev Answer : Type 0
Answer = Result (Bool × Draft) ScriptCause

abbrev from_end : Draft → List ℕ → Words → Answer
from_end d word words = cond (bytes_eq word (codes "end")) (no_word words >>= λ _. Ok (false, d)) (Err Word)

abbrev from_pick : Draft → List ℕ → Words → Answer
from_pick d word words = cond (stands d 4 (codes "pick") word) (into_group 4 (pick_line d.script words)) (from_end d word words)

abbrev from_repeat : Draft → List ℕ → Words → Answer
from_repeat d word words = cond (stands d 3 (codes "repeat") word) (into_plan d (repeat_line d.script words)) (from_pick d word words)

abbrev from_drop : Draft → List ℕ → Words → Answer
from_drop d word words = cond (stands d 3 (codes "drop") word) (into_plan d (drop_line d.script words)) (from_repeat d word words)

abbrev from_recover : Draft → List ℕ → Words → Answer
from_recover d word words = cond (stands d 3 (codes "recover") word) (into_plan d (recover_line d.script words)) (from_drop d word words)

abbrev from_crash : Draft → List ℕ → Words → Answer
from_crash d word words = cond (stands d 3 (codes "crash") word) (into_plan d (crash_line d.script words)) (from_recover d word words)

abbrev from_command : Draft → List ℕ → Words → Answer
from_command d word words = cond (stands d 2 (codes "command") word) (into_group 2 (command_line d.script words)) (from_crash d word words)

at_end : (d : Draft) (word : List ℕ) (words : Words) (x : Bool × Draft) → from_end d word words ≡ Ok x → Begun d (word ∷ words) x
at_end d word words x e = elim (chosen (bytes_eq word (codes "end")) (no_word words >>= λ _. Ok (false, d)) (Err Word) (Ok x) e) [
  | inl p ↦
      let a = bind_ok (no_word words) (λ _. Ok (false, d)) x p.1 in
      let none : words ≡ [] = (row_is [] tt words a.0 a.1).0 in
      ended (ok_is ScriptCause (false, d) x a.2) (ap (λ (w : List ℕ). w ∷ words) (same_bytes word (codes "end") p.0) ∙ ap (λ (ws : Words). codes "end" ∷ ws) none)
  | inr z ↦ let wrong : ⊥ = cc in absurd wrong
]

-- a plan line that was read and added
planned : (d : Draft) (group : ℕ) (word name : List ℕ) (words : Words) (x : Bool × Draft) (read : Result PlanLine ScriptCause) → IsDraft d → IsPlace d 3 word name
    → ((line : PlanLine) → read ≡ Ok line → Says d.script name words line) → into_plan d read ≡ Ok x → Begun d (word ∷ words) x
planned d group word name words x read is place says e =
    let a = bind_ok read (λ line. into_group 3 (with_plan d.script line)) x e in
    let b = bind_ok (with_plan d.script a.0) (λ script. Ok (in_group 3 script)) x a.2 in
    let g = line_grows d.script b.0 name words a.0 is.accepted (is.empty.2 place.behind) (says a.0 a.1) b.1 in
    grew 3 b.0 (ok_is ScriptCause (in_group 3 b.0) x b.2) (renamed word name words d.script b.0 place.named g.0) (λ le. absurd (omega arith), λ le. absurd (omega arith), λ le. g.1)

at_pick : (d : Draft) (word : List ℕ) (words : Words) (x : Bool × Draft) → IsDraft d → from_pick d word words ≡ Ok x → Begun d (word ∷ words) x
at_pick d word words x is e = elim (chosen (stands d 4 (codes "pick") word) (into_group 4 (pick_line d.script words)) (from_end d word words) (Ok x) e) [
  | inl p ↦
      let place = place_is d 4 (codes "pick") word p.0 in
      let a = bind_ok (pick_line d.script words) (λ script. Ok (in_group 4 script)) x p.1 in
      grew 4 a.0 (ok_is ScriptCause (in_group 4 a.0) x a.2) (renamed word (codes "pick") words d.script a.0 place.named (pick_grows d.script a.0 words is.accepted a.1)) (λ le. absurd (omega arith), λ le. absurd (omega arith), λ le. absurd (omega arith))
  | inr q ↦ at_end d word words x q.1
]

at_repeat : (d : Draft) (word : List ℕ) (words : Words) (x : Bool × Draft) → IsDraft d → from_repeat d word words ≡ Ok x → Begun d (word ∷ words) x
at_repeat d word words x is e = elim (chosen (stands d 3 (codes "repeat") word) (into_plan d (repeat_line d.script words)) (from_pick d word words) (Ok x) e) [
  | inl p ↦ planned d 3 word (codes "repeat") words x (repeat_line d.script words) is (place_is d 3 (codes "repeat") word p.0) (λ line h. repeat_says d.script words line is.accepted h) p.1
  | inr q ↦ at_pick d word words x is q.1
]

at_drop : (d : Draft) (word : List ℕ) (words : Words) (x : Bool × Draft) → IsDraft d → from_drop d word words ≡ Ok x → Begun d (word ∷ words) x
at_drop d word words x is e = elim (chosen (stands d 3 (codes "drop") word) (into_plan d (drop_line d.script words)) (from_repeat d word words) (Ok x) e) [
  | inl p ↦ planned d 3 word (codes "drop") words x (drop_line d.script words) is (place_is d 3 (codes "drop") word p.0) (λ line h. drop_says d.script words line is.accepted h) p.1
  | inr q ↦ at_repeat d word words x is q.1
]

at_recover : (d : Draft) (word : List ℕ) (words : Words) (x : Bool × Draft) → IsDraft d → from_recover d word words ≡ Ok x → Begun d (word ∷ words) x
at_recover d word words x is e = elim (chosen (stands d 3 (codes "recover") word) (into_plan d (recover_line d.script words)) (from_drop d word words) (Ok x) e) [
  | inl p ↦ planned d 3 word (codes "recover") words x (recover_line d.script words) is (place_is d 3 (codes "recover") word p.0) (λ line h. recover_says d.script words line is.accepted h) p.1
  | inr q ↦ at_drop d word words x is q.1
]

at_crash : (d : Draft) (word : List ℕ) (words : Words) (x : Bool × Draft) → IsDraft d → from_crash d word words ≡ Ok x → Begun d (word ∷ words) x
at_crash d word words x is e = elim (chosen (stands d 3 (codes "crash") word) (into_plan d (crash_line d.script words)) (from_recover d word words) (Ok x) e) [
  | inl p ↦ planned d 3 word (codes "crash") words x (crash_line d.script words) is (place_is d 3 (codes "crash") word p.0) (λ line h. crash_says d.script words line is.accepted h) p.1
  | inr q ↦ at_recover d word words x is q.1
]

at_command : (d : Draft) (word : List ℕ) (words : Words) (x : Bool × Draft) → IsDraft d → from_command d word words ≡ Ok x → Begun d (word ∷ words) x
at_command d word words x is e = elim (chosen (stands d 2 (codes "command") word) (into_group 2 (command_line d.script words)) (from_crash d word words) (Ok x) e) [
  | inl p ↦
      let place = place_is d 2 (codes "command") word p.0 in
      let a = bind_ok (command_line d.script words) (λ script. Ok (in_group 2 script)) x p.1 in
      let g = command_grows d.script a.0 words is.accepted (is.empty.1 place.behind) (is.empty.2 (omega (arith, place.behind))) a.1 in
      grew 2 a.0 (ok_is ScriptCause (in_group 2 a.0) x a.2) (renamed word (codes "command") words d.script a.0 place.named g.0) (λ le. absurd (omega arith), λ le. g.1, λ le. g.2)
  | inr q ↦ at_crash d word words x is q.1
]

begun_is : (d : Draft) (word : List ℕ) (words : Words) (x : Bool × Draft) → IsDraft d → begun d word words ≡ Ok x → Begun d (word ∷ words) x
unfolding begun
begun_is d word words x is e = elim (chosen (stands d 1 (codes "session") word) (into_group 1 (session_line d.script words)) (from_command d word words) (Ok x) e) [
  | inl p ↦
      let place = place_is d 1 (codes "session") word p.0 in
      let a = bind_ok (session_line d.script words) (λ script. Ok (in_group 1 script)) x p.1 in
      let g = session_grows d.script a.0 words is.accepted (is.empty.0 place.behind) (is.empty.1 (omega (arith, place.behind))) (is.empty.2 (omega (arith, place.behind))) a.1 in
      grew 1 a.0 (ok_is ScriptCause (in_group 1 a.0) x a.2) (renamed word (codes "session") words d.script a.0 place.named g.0) (λ le. g.1, λ le. g.2, λ le. g.3)
  | inr q ↦ at_command d word words x is q.1
]

line_is : (d : Draft) (words : Words) (x : Bool × Draft) → IsDraft d → line_of d words ≡ Ok x → Begun d words x
unfolding line_of
line_is d [] x is e = let wrong : ⊥ = cc in absurd wrong
line_is d (word ∷ words) x is e = begun_is d word words x is e

-- ---- all lines

-- the shape is this one, and the lines so far are those of an accepted script
abbrev IsDraftOf : StoreShape → Draft → Type 0
IsDraftOf shape d = (d.script.topology ≡ shape) × IsDraft d

abbrev body_of : Draft → List Words
body_of d = body d.script

line_grows_text : (shape : StoreShape) (d : Draft) (words : Words) (x : Bool × Draft) → IsDraftOf shape d → line_of d words ≡ Ok x → framed.Begun (IsDraftOf shape) body_of end_words d words x
line_grows_text shape d words x is e = go (line_is d words x is.1 e)
  where
    go : Begun d words x → framed.Begun (IsDraftOf shape) body_of end_words d words x
    go (grew group script same grown empty) = framed.grew (in_group group script).1 same (grown.shape ∙ is.0, record { accepted = grown.accepted; empty = empty }) grown.text
    go (ended same word) = framed.ended same word

shape_begun_is : (words : Words) (shape : StoreShape) → shape_begun words ≡ Ok shape → (words ≡ shape_words shape) × IsShape shape
unfolding shape_begun
shape_begun_is [] shape e = let wrong : ⊥ = cc in absurd wrong
shape_begun_is (word ∷ words) shape e = elim (chosen (bytes_eq word (codes "shape")) (shape_line words) (Err Word) (Ok shape) e) [
  | inl p ↦
      let s = shape_says words shape p.1 in
      (ap (λ (w : List ℕ). w ∷ words) (same_bytes word (codes "shape") p.0) ∙ s.0, s.1)
  | inr z ↦ let wrong : ⊥ = cc in absurd wrong
]

shaped_is : (shape : StoreShape) → IsShape shape → IsDraft (shaped shape)
shaped_is shape valid = record {
  accepted = record { shape = valid; sessions = omega arith; homes = tt; count = omega arith; commands = tt; numbered = λ s. refl; lines = omega arith; plan = tt; doubles = tt; few_picks = omega arith; picks = tt };
  empty = (λ le. refl, λ le. refl, λ le. refl);
}

body_found : (n : ℕ) (shape : StoreShape) (lines : Words) (x : Script × Words) → IsShape shape → script_from n shape lines ≡ Ok x
    → (x.0.topology ≡ shape) × IsAccepted x.0 × (lines ≡ joined (body x.0 ++ end_words ∷ []) ++ x.1)
unfolding script_from
body_found n shape lines x valid e =
    let a = bind_ok (lines_from Missing line_of n (shaped shape) lines) (λ read. Ok (read.0.script, read.1)) x e in
    let are = lines_found Missing line_of (IsDraftOf shape) body_of end_words (line_grows_text shape) n (shaped shape) lines a.0 (refl, shaped_is shape valid) a.1 in
    let stood : lines ≡ joined (body a.0.0.script ++ end_words ∷ []) ++ a.0.1 = are.stood ∙ ap (λ (ls : List Words). joined (ls ++ end_words ∷ []) ++ a.0.1) (sym are.text) in
    subst (λ (y : Script × Words). (y.0.topology ≡ shape) × IsAccepted y.0 × (lines ≡ joined (body y.0 ++ end_words ∷ []) ++ y.1)) (ok_is (TextFault ScriptCause) (a.0.0.script, a.0.1) x a.2)
    (are.draft.0, are.draft.1.accepted, stood)

-- what was read is an accepted script, and the lines are those of its text
pub script_found : (n : ℕ) (lines : Words) (x : Script × Words) → script_at n lines ≡ Ok x → IsAccepted x.0 × (lines ≡ joined (script_lines x.0) ++ x.1)
unfolding script_at
script_found n lines x e =
    let a = bind_ok (header_at (codes "tempo") causes n lines) (λ first. line_at (n + 1) Missing shape_begun first.1 >>= λ second. script_from (n + 2) second.0 second.1) x e in
    let b = bind_ok (line_at (n + 1) Missing shape_begun a.0.1) (λ second. script_from (n + 2) second.0 second.1) x a.2 in
    let taken = line_found (n + 1) Missing shape_begun a.0.1 b.0 b.1 in
    let shape = shape_begun_is taken.words b.0.0 taken.says in
    let others = body_found (n + 2) b.0.0 b.0.1 x shape.1 b.2 in
    let words : taken.words ≡ shape_words x.0.topology = shape.0 ∙ ap shape_words (sym others.0) in
    let second : a.0.1 ≡ join_with_byte 32 (shape_words x.0.topology) ∷ (joined (body x.0 ++ end_words ∷ []) ++ x.1) = taken.first ∙ ap (λ (ws : Words). join_with_byte 32 ws ∷ b.0.1) words ∙ ap (λ (ls : Words). join_with_byte 32 (shape_words x.0.topology) ∷ ls) others.2 in
    (others.1, header_found (codes "tempo") causes n lines a.0 a.1 ∙ ap (λ (ls : Words). join_with_byte 32 (header_words (codes "tempo")) ∷ ls) second)
