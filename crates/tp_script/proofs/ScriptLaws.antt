-- The laws of a script's text, for the clauses of the function that reads it and of the one that prints it.
use Rattle.std.proofs.Common.{◌≡◌, ℕ, ◌+◌, false, List, [], ◌∷◌, ◌++◌, length, map, Result, Ok, sym, ap, ◌∙◌}
use Rattle.std.specs.Prelude.{IfOk, OnOk, codes}
use Rattle.tp_script.specs.Accepted.{IsAccepted}
use Rattle.tp_script.specs.Meaning.{script_at}
use Rattle.tp_script.specs.Print.{body, command_words, pick_words, plan_words, script_lines, session_lines, shape_words, text_of}
use Rattle.tp_script.specs.declared.fault.ScriptCause.{ScriptCause}
use Rattle.tp_script.specs.declared.script.Script.{Script}
use Rattle.tp_script.proofs.Found.{script_found}
use Rattle.tp_script.proofs.Grown.{Words}
use Rattle.tp_script.proofs.TextAgain.{script_again, script_plain}
use Rattle.tp_text.specs.Framing.{end_words, header_words}
use Rattle.tp_text.specs.Lines.{Input, lines_of}
use Rattle.tp_text.specs.Reading.{IsReadAs, Reads, all_lines}
use Rattle.tp_text.specs.Writing.{Written, ended, with_lines, with_words}
use Rattle.tp_text.specs.declared.fault.TextError.{TextError}
use Rattle.tp_text.proofs.LinesAgain as framed
use Rattle.tp_text.proofs.LinesAgain.{IsReader}
use Rattle.tp_text.proofs.Spelled.{lines_written, with_lines-append}

-- what is read from a first line with the number n is an accepted script, of which these are the lines
pub laws : (n : ℕ) → IsReader (script_at n) IsAccepted script_lines
laws n = record { found = script_found n; again = script_again n; plain = script_plain }

pub is_found : (n : ℕ) (old new : List ℕ) (r : Result Script (TextError ScriptCause)) → Reads (λ s. (s, lines_of new)) r (script_at n (lines_of old)) → IfOk r (λ s. IsAccepted s × (old ≡ text_of s ++ new))
unfolding text_of
is_found n old new r read = framed.is_found (script_at n) IsAccepted script_lines (laws n) old new r read

pub is_only : (n : ℕ) (old new : List ℕ) (r : Result Script (TextError ScriptCause)) → Reads (λ s. (s, lines_of new)) r (script_at n (lines_of old)) → (s : Script) (rest : List ℕ) → IsAccepted s → old ≡ text_of s ++ rest → IsReadAs s rest new r
unfolding text_of
is_only n old new r read s rest ok e = framed.is_only (script_at n) IsAccepted script_lines (laws n) old new r read s rest ok e

pub is_counted : (n : ℕ) (old new : Input) (r : Result Script (TextError ScriptCause)) → Reads (λ s. (s, lines_of new.left)) r (script_at n (lines_of old.left)) → OnOk r (all_lines new ≡ all_lines old) → IfOk r (λ s. new.count ≡ old.count + length (script_lines s))
is_counted n old new r read all = framed.is_counted (script_at n) IsAccepted script_lines (laws n) old new r read all

-- the text of an accepted script is read as it, whatever stands behind
pub text_again : (n : ℕ) (s : Script) (rest : List ℕ) → IsAccepted s → script_at n (lines_of (text_of s ++ rest)) ≡ Ok (s, lines_of rest)
unfolding text_of
text_again n s rest ok = framed.text_again (script_at n) IsAccepted script_lines (laws n) s rest ok

-- the writer behind each part of a script
pub record IsPrinted (s : Script) (t0 t1 t2 t3 t4 t5 t6 t7 : Written) : Type 0 where
  pub start : t0 ≡ record { bytes = []; begun = false }
  pub header : t1 ≡ ended (with_words t0 (header_words (codes "tempo")))
  pub shape : t2 ≡ ended (with_words t1 (shape_words s.topology))
  pub sessions : t3 ≡ with_lines t2 (session_lines 1 s.homes)
  pub commands : t4 ≡ with_lines t3 (map command_words s.commands)
  pub plan : t5 ≡ with_lines t4 (map plan_words s.plan)
  pub picks : t6 ≡ with_lines t5 (map pick_words s.picks)
  pub end : t7 ≡ ended (with_words t6 end_words)

pub text_is : (s : Script) (t0 t1 t2 t3 t4 t5 t6 t7 : Written) → IsPrinted s t0 t1 t2 t3 t4 t5 t6 t7 → t7.bytes ≡ text_of s
unfolding text_of
text_is s t0 t1 t2 t3 t4 t5 t6 t7 is =
    let sessions : List Words = session_lines 1 s.homes in
    let commands : List Words = map command_words s.commands in
    let plan : List Words = map plan_words s.plan in
    let picks : List Words = map pick_words s.picks in
    let six : t6 ≡ with_lines t4 (plan ++ picks) = is.picks ∙ ap (λ (t : Written). with_lines t picks) is.plan ∙ sym (with_lines-append t4 plan picks) in
    let five : t6 ≡ with_lines t3 (commands ++ (plan ++ picks)) = six ∙ ap (λ (t : Written). with_lines t (plan ++ picks)) is.commands ∙ sym (with_lines-append t3 commands (plan ++ picks)) in
    let four : t6 ≡ with_lines t2 (body s) = five ∙ ap (λ (t : Written). with_lines t (commands ++ (plan ++ picks))) is.sessions ∙ sym (with_lines-append t2 sessions (commands ++ (plan ++ picks))) in
    let three : t7 ≡ with_lines t2 (body s ++ end_words ∷ []) = is.end ∙ ap (λ (t : Written). ended (with_words t end_words)) four ∙ sym (with_lines-append t2 (body s) (end_words ∷ [])) in
    let two : t2 ≡ ended (with_words (ended (with_words t0 (header_words (codes "tempo")))) (shape_words s.topology)) = is.shape ∙ ap (λ (t : Written). ended (with_words t (shape_words s.topology))) is.header in
    let one : t7 ≡ with_lines t0 (script_lines s) = three ∙ ap (λ (t : Written). with_lines t (body s ++ end_words ∷ [])) two in
    ap (λ (t : Written). t.bytes) (one ∙ ap (λ (t : Written). with_lines t (script_lines s)) is.start) ∙ lines_written [] (script_lines s)
