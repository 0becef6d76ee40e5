-- The text of a verdict that was written. Used where it is printed.
use Rattle.std.proofs.Common.{◌≡◌, ℕ, false, List, [], ◌∷◌, ap, ◌∙◌}
use Rattle.tp_check.specs.Print.{text_of, verdict_words}
use Rattle.tp_check.specs.declared.verdict.Verdict.{Verdict}
use Rattle.tp_text.proofs.Spelled.{lines_written}
use Rattle.tp_text.specs.Writing.{Written, ended, with_words}

pub text_is : (verdict : Verdict) (start text : Written) → start ≡ record { bytes = []; begun = false } → text ≡ ended (with_words start (verdict_words verdict))
    → text.bytes ≡ text_of verdict
unfolding text_of
text_is verdict start text empty put =
    ap (λ (t : Written). t.bytes) (put ∙ ap (λ (t : Written). ended (with_words t (verdict_words verdict))) empty) ∙ lines_written [] (verdict_words verdict ∷ [])
