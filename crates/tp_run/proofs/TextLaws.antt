-- A whole text and its script: each is the other's.
use Rattle.std.proofs.Common.{◌≡◌, ℕ, ◌+◌, ◌≤◌, ◌<◌, nat_le, nat_lt, take, min, Bool, true, false, List, [], ◌∷◌, ◌++◌, Some, None, Result, Ok, Err, refl, sym, subst, ◌∙◌, ap, arith, length, append-nil}
use Rattle.std.proofs.lemmas.List.{length-take, take_all}
use Rattle.tp_run.specs.declared.finished.Cause.TheVariants.{Script as Faulty, Input}
use Rattle.tp_run.specs.Texts.{INPUT_MOST, IsTextOf, cause_of, cause_of_read, is_end, read_to_end, script_of}
use Rattle.tp_script.proofs.Found.{script_found}
use Rattle.tp_script.proofs.ScriptLaws.{text_again}
use Rattle.tp_script.specs.Meaning.{script_at}
use Rattle.tp_script.specs.Print.{script_lines, text_of}
use Rattle.tp_script.specs.declared.fault.ScriptCause.{ScriptCause}
use Rattle.tp_script.specs.declared.fault.ScriptCause.TheVariants.{Word}
use Rattle.tp_script.specs.declared.script.Script.{Script}
use Rattle.tp_text.proofs.Joined.{same_left, some_piece, text_taken}
use Rattle.tp_text.proofs.Stepped.{bind_ok, ok_is, tested}
use Rattle.tp_text.specs.Framing.{fault_at}
use Rattle.tp_text.specs.Lines.{Input as Lines, end_fault, lines_of}
use Rattle.tp_text.specs.Reading.{FailsAt}
use Rattle.tp_text.specs.declared.fault.TextError.{TextError}
use Rattle.tp_text.specs.declared.fault.TextError.TheVariants as errors
use Rattle.tp_text.specs.declared.fault.TextFault.{TextFault}
use Rattle.tp_text.specs.declared.lines.LineFault.TheVariants.{AtEnd, Unended}

end_is : (lines : List (List ℕ)) → is_end lines ≡ true → lines ≡ [] ∷ []
end_is ([] ∷ []) e = refl
end_is [] e = absurd cc
end_is ((b ∷ bytes) ∷ []) e = absurd cc
end_is ([] ∷ line ∷ lines) e = absurd cc
end_is ((b ∷ bytes) ∷ line ∷ lines) e = absurd cc

-- nothing is left where the last piece alone is left, and it is empty
pub nothing_left : (left : List ℕ) → is_end (lines_of left) ≡ true → left ≡ []
nothing_left left e = same_left left [] (end_is (lines_of left) e)

-- a text that says a script is that script's
pub text_is : (text : List ℕ) (s : Script) → script_of text ≡ Ok s → IsTextOf text s
unfolding script_of text_of
text_is text s e =
    let read = bind_ok (script_at 1 (lines_of text)) read_to_end s e in
    let ended = tested (is_end read.0.1) (fault_at (length (script_lines read.0.0) + 1) Word) (Ok read.0.0) s read.2 in
    let same : read.0.0 ≡ s = ok_is (TextFault ScriptCause) read.0.0 s ended.1 in
    let found = script_found 1 (lines_of text) read.0 read.1 in
    let rest : read.0.1 ≡ [] ∷ [] = end_is read.0.1 ended.0 in
    let taken : text ≡ text_of read.0.0 ++ [] = text_taken text [] (script_lines read.0.0) (rw (← rest) found.1) in
    subst (λ x. IsTextOf text x) same (found.0, taken ∙ append-nil (text_of read.0.0))

-- a script's text says it
pub read_again : (text : List ℕ) (s : Script) → IsTextOf text s → script_of text ≡ Ok s
unfolding script_of
read_again text s is =
    let lines : lines_of text ≡ lines_of (text_of s ++ []) = ap lines_of (is.1 ∙ sym (append-nil (text_of s))) in
    let read : script_at 1 (lines_of text) ≡ Ok (s, lines_of []) = ap (script_at 1) lines ∙ text_again 1 s [] is.0 in
    rw read refl

more_is_no_end : (line : List ℕ) (lines : List (List ℕ)) → 0 < length lines → is_end (line ∷ lines) ≡ false
more_is_no_end [] [] some = absurd (omega (arith, some))
more_is_no_end (b ∷ bytes) [] some = absurd (omega (arith, some))
more_is_no_end [] (next ∷ lines) some = refl
more_is_no_end (b ∷ bytes) (next ∷ lines) some = refl

-- behind a line that was taken something is left
pub line_is_no_end : (line old new : List ℕ) → lines_of old ≡ line ∷ lines_of new → is_end (lines_of old) ≡ false
line_is_no_end line old new e = rw e (more_is_no_end line (lines_of new) (some_piece 10 new))

pub unended_is_no_end : (left : List ℕ) → Unended ≡ end_fault left → lines_of left ≡ left ∷ [] → is_end (lines_of left) ≡ false
unended_is_no_end [] fault last = absurd cc
unended_is_no_end (b ∷ bytes) fault last = rw last refl

pub at_end_is_end : (left : List ℕ) → AtEnd ≡ end_fault left → is_end (lines_of left) ≡ true
at_end_is_end [] fault = refl
at_end_is_end (b ∷ bytes) fault = absurd cc

-- the text's meaning goes on behind a script that was read
pub read_on : (text : List ℕ) (input : Lines) (x : Script × List (List ℕ)) → input ≡ record { left = text; count = 0 }
    → script_at (input.count + 1) (lines_of input.left) ≡ Ok x → script_of text ≡ read_to_end x
unfolding script_of
read_on text input x is e =
    let read : script_at 1 (lines_of text) ≡ Ok x = subst (λ i. script_at (i.count + 1) (lines_of i.left) ≡ Ok x) is e in
    rw read refl

pub fails_on : (text : List ℕ) (input : Lines) (error : TextError ScriptCause) → input ≡ record { left = text; count = 0 }
    → FailsAt error (script_at (input.count + 1) (lines_of input.left)) → FailsAt error (script_of text)
unfolding script_of
fails_on text input errors.NoMemory is e = tt
fails_on text input (errors.Fault fault) is e =
    let read : script_at 1 (lines_of text) ≡ Err fault = subst (λ i. script_at (i.count + 1) (lines_of i.left) ≡ Err fault) is e in
    rw read refl

-- the cause of a text that isn't too long
pub short_cause : (text : List ℕ) (read : Result Script (TextFault ScriptCause)) → length text ≤ INPUT_MOST → script_of text ≡ read → cause_of text ≡ cause_of_read read
unfolding cause_of
short_cause text read few e =
    let short : nat_lt INPUT_MOST (length text) ≡ false = grind (arith, few) in
    rw (short, e) refl

-- the text of an accepted script is not refused
pub unrefused_text : (text : List ℕ) (s : Script) → length text ≤ INPUT_MOST → IsTextOf text s → cause_of text ≡ None
unrefused_text text s few is = short_cause text (Ok s) few (read_again text s is)

pub faulty_cause : (text : List ℕ) (error : TextError ScriptCause) (fault : TextFault ScriptCause) → length text ≤ INPUT_MOST → error ≡ errors.Fault fault
    → FailsAt error (script_of text) → cause_of text ≡ Some (Faulty fault)
faulty_cause text error fault few is e = short_cause text (Err fault) few (subst (λ x. FailsAt x (script_of text)) is e)

pub long_cause : (text : List ℕ) → INPUT_MOST < length text → cause_of text ≡ Some (Input (INPUT_MOST + 1) INPUT_MOST)
unfolding cause_of
long_cause text many =
    let long : nat_lt INPUT_MOST (length text) ≡ true = grind (arith, many) in
    rw long refl

pub at_most : (n most : ℕ) → nat_le n most ≡ true → n ≤ most
at_most n most e = grind (arith, e)

pub above : (n most : ℕ) → nat_le n most ≡ false → most < n
above n most e = grind (arith, e)

-- what was taken of a text is the whole text where it is shorter than what might have been taken
pub whole : (most : ℕ) (text bytes : List ℕ) → bytes ≡ take (most + 1) text → length bytes ≤ most → bytes ≡ text
whole most text bytes is few =
    let count : length bytes ≡ min (most + 1) (length text) = ap length is ∙ length-take (most + 1) text in
    let short : length text ≤ most + 1 = omega (arith, count, few) in
    is ∙ take_all (most + 1) text short

-- the cause of a text is that of its front, of which one byte more than an input may have is enough
pub front_cause : (text front : List ℕ) → front ≡ take (INPUT_MOST + 1) text → cause_of front ≡ cause_of text
front_cause text front is = go (nat_le (length front) INPUT_MOST) refl
  where
    count : length front ≡ min (INPUT_MOST + 1) (length text)
    count = ap length is ∙ length-take (INPUT_MOST + 1) text

    go : (b : Bool) → nat_le (length front) INPUT_MOST ≡ b → cause_of front ≡ cause_of text
    go true few =
        let short : length front ≤ INPUT_MOST = at_most (length front) INPUT_MOST few in
        ap cause_of (whole INPUT_MOST text front is short)
    go false many =
        let long : INPUT_MOST < length front = above (length front) INPUT_MOST many in
        let longer : INPUT_MOST < length text = omega (arith, count, long) in
        long_cause front long ∙ sym (long_cause text longer)
