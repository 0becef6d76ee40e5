-- What is due to the program that draws. Used for its top call.
use Rattle.std.proofs.Common.{◌≡◌, ℕ, ◌⊎◌, inl, inr, List, refl, sym, ap, subst, ◌∙◌, Option, Some, None, Result, Ok, Err, IfSome}
use Rattle.tp_draw.specs.TopCall.{IsDrawn, IsDue, IsDueFor, IsInputFor, IsRefusal}
use Rattle.tp_picture.specs.declared.view.View.{View}
use Rattle.tp_rules.specs.declared.event.Entry.{Entry}
use Rattle.tp_run.proofs.BothLaws.{checked_again}
use Rattle.tp_run.specs.Both.{checked_of}
use Rattle.tp_run.specs.TopCall.{IsUnchecked}
use Rattle.tp_run.specs.declared.finished.Cause.{Cause}
use Rattle.tp_run.specs.declared.finished.Cause.TheVariants.{Words, Script as FaultyScript, Journal as FaultyJournal, Input, Read, Write, Memory, Verdict}
use Rattle.tp_script.specs.declared.script.Script.{Script}

-- the cause of a text's refusal is due
text_due : (view : View) (left : Option (List ℕ)) (cause : Cause) → IfSome left (λ text. checked_of text ≡ Err cause) → IsDue (Some view) left (Some cause)
text_due view None cause refused = tt
text_due view (Some text) cause refused = subst (λ (read : Result (Script × List Entry) Cause). IsDueFor read (Some cause)) (sym refused) refl

-- so is any cause of a refusal, but for a failed read and want of memory
unchecked_due : (view : View) (left : Option (List ℕ)) (cause : Cause) → IsUnchecked left cause → ¬ (Some cause ≡ Some Read)
    → IsDue (Some view) left (Some cause) ⊎ (Some cause ≡ Some Memory)
unchecked_due view left (FaultyScript fault) refused read = inl (text_due view left (FaultyScript fault) refused)
unchecked_due view left (FaultyJournal fault) refused read = inl (text_due view left (FaultyJournal fault) refused)
unchecked_due view left (Input got limit) refused read = inl (text_due view left (Input got limit) refused)
unchecked_due view left Words refused read = absurd refused
unchecked_due view left Write refused read = absurd refused
unchecked_due view left (Verdict entry why) refused read = absurd refused
unchecked_due view left Read refused read = absurd (read refl)
unchecked_due view left Memory refused read = inr refl

pub refused_due : (choice : Option View) (view : View) (left : Option (List ℕ)) (cause : Cause) (told : Option Cause) → choice ≡ Some view → told ≡ Some cause
    → IsUnchecked left cause → ¬ (told ≡ Some Read) → IsDue choice left told ⊎ (told ≡ Some Memory)
refused_due choice view left cause told chosen is refused read =
    subst (λ (o : Option Cause). IsDue choice left o ⊎ (o ≡ Some Memory)) (sym is)
    (subst (λ (v : Option View). IsDue v left (Some cause) ⊎ (Some cause ≡ Some Memory)) (sym chosen) (unchecked_due view left cause refused (λ e. read (is ∙ e))))

-- a picture is due of a text of a script and a journal
picture_due : (view : View) (left : Option (List ℕ)) (s : Script) (j : List Entry) → IfSome left (λ text. checked_of text ≡ Ok (s, j)) → IsDue (Some view) left None
picture_due view None s j checked = tt
picture_due view (Some text) s j checked = subst (λ (read : Result (Script × List Entry) Cause). IsDueFor read None) (sym checked) refl

pub drawn_due : (choice : Option View) (view : View) (left : Option (List ℕ)) (s : Script) (j : List Entry) (told : Option Cause) (before now : Option (List ℕ))
    → choice ≡ Some view → IfSome left (λ text. checked_of text ≡ Ok (s, j))
    → IsDrawn (Some view) s j told before now ⊎ (told ≡ Some Write) ⊎ (told ≡ Some Memory)
    → ¬ (told ≡ Some Write) → IsDue choice left told ⊎ (told ≡ Some Memory)
drawn_due choice view left s j told before now chosen checked (inr (inl failed)) unfailed = absurd (unfailed failed)
drawn_due choice view left s j told before now chosen checked (inr (inr memory)) unfailed = inr memory
drawn_due choice view left s j told before now chosen checked (inl drawn) unfailed =
    inl (subst (λ (o : Option Cause). IsDue choice left o) (sym drawn.0) (subst (λ (v : Option View). IsDue v left None) (sym chosen) (picture_due view left s j checked)))

-- an input of a script and a journal is drawn
pub served : (choice : Option View) (left : Option (List ℕ)) (told : Option Cause) → IsInputFor choice left
    → IsDue choice left told ⊎ (told ≡ Some Memory) → (told ≡ None) ⊎ (told ≡ Some Memory)
served choice left told input (inr memory) = inr memory
served None left told input (inl due) = absurd input
served (Some view) left told input (inl due) =
    let all = subst (λ (l : Option (List ℕ)). IsDue (Some view) l told) input.told due in
    inl (subst (λ (read : Result (Script × List Entry) Cause). IsDueFor read told) (checked_again input.text input.script input.journal input.short input.said) all)

-- nothing but the cause of the refusal is told
pub told_words : (choice : Option View) (left : Option (List ℕ)) (told : Option Cause) → choice ≡ None → told ≡ Some Words → IsDue choice left told ⊎ (told ≡ Some Memory)
told_words choice left told none is = inl (subst (λ (v : Option View). IsDue v left told) (sym none) is)
