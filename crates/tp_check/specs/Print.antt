-- A verdict as a line of words.
use Rattle.std.specs.Fmt.{decimal}
use Rattle.std.specs.Prelude.{ℕ, List, [], ◌∷◌, codes}
use Rattle.tp_check.specs.declared.verdict.EntryCause.{EntryCause}
use Rattle.tp_check.specs.declared.verdict.EntryCause.TheVariants.{Stranger, Dead, Message, Addressee, Plan, NotEnabled, Outputs}
use Rattle.tp_check.specs.declared.verdict.Verdict.{Verdict}
use Rattle.tp_check.specs.declared.verdict.Verdict.TheVariants.{Run, No}
use Rattle.tp_text.specs.Writing.{lines_text}

abbrev pub cause_words : EntryCause → List (List ℕ)
cause_words Stranger = codes "stranger" ∷ []
cause_words Dead = codes "dead" ∷ []
cause_words Message = codes "message" ∷ []
cause_words Addressee = codes "addressee" ∷ []
cause_words Plan = codes "plan" ∷ []
cause_words NotEnabled = codes "notenabled" ∷ []
cause_words (Outputs place) = codes "outputs" ∷ decimal place ∷ []

abbrev pub verdict_words : Verdict → List (List ℕ)
verdict_words (Run entries) = codes "yes" ∷ decimal entries ∷ []
verdict_words (No entry cause) = codes "no" ∷ decimal entry ∷ cause_words cause

-- its one text
unfoldable pub text_of : Verdict → List ℕ
text_of verdict = lines_text (verdict_words verdict ∷ [])
