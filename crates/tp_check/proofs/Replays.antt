-- A journal is replayed entry by entry: what stands after one more, and where the first illegal one is. Used by the checker.
use Rattle.std.proofs.Common.{◌≡◌, ℕ, ◌+◌, List, [], ◌∷◌, ◌++◌, drop, length, take, Some, sym, ap, subst, ◌∙◌, append_assoc, arith}
use Rattle.std.proofs.lemmas.List.{length-take-le, reverse-append, take-append-drop}
use Rattle.std.proofs.lemmas.Option.{slice_get_within}
use Rattle.std.specs.Prelude.{reverse, slice_get}
use Rattle.tp_base.proofs.Ends.{reverse_push}
use Rattle.tp_check.proofs.Flaws.{legal_flawless}
use Rattle.tp_check.specs.Causes.{IsCause}
use Rattle.tp_check.specs.Verdicts.{IsFirstIllegal}
use Rattle.tp_check.specs.declared.verdict.EntryCause.{EntryCause}
use Rattle.tp_netbook.proofs.Rosters.{take_next}
use Rattle.tp_rules.proofs.Journals.{run_more}
use Rattle.tp_rules.specs.Runs.{IsHistory, IsLegal, IsRun}
use Rattle.tp_rules.specs.declared.event.Entry.{Entry}
use Rattle.tp_script.specs.declared.script.Script.{Script}

module _ (script : Script) where
  older_history : (xs ys : List Entry) → IsHistory script (xs ++ ys) → IsHistory script ys
  older_history [] ys h = h
  older_history (x ∷ xs) ys h = older_history xs ys h.0

  run_front : (xs ys : List Entry) → IsRun script (xs ++ ys) → IsRun script xs
  unfolding IsRun
  run_front xs ys run = older_history (reverse ys) (reverse xs) (subst (IsHistory script) (reverse-append xs ys) run)

  legal_last : (xs : List Entry) (e : Entry) → IsRun script (xs ++ e ∷ []) → IsLegal script (reverse xs) e
  unfolding IsRun
  legal_last xs e run = (subst (IsHistory script) (reverse_push xs e) run).1

  -- each entry of a run is legal after those before it
  pub legal_at : (journal before after : List Entry) (e : Entry) → journal ≡ before ++ e ∷ after → IsRun script journal → IsLegal script (reverse before) e
  legal_at journal before after e whole run =
      legal_last before e (run_front (before ++ e ∷ []) after (subst (IsRun script) (whole ∙ sym (append_assoc before (e ∷ []) after)) run))

  pub no_run : (journal : List Entry) (number : ℕ) (cause : EntryCause) → IsFirstIllegal script journal number cause → ¬ IsRun script journal
  no_run journal number cause illegal run =
      legal_flawless script (reverse illegal.before) illegal.e (legal_at journal illegal.before illegal.after illegal.e illegal.whole run) cause illegal.why.flaw

  module _ (journal : List Entry) (k : ℕ) (e : Entry) (at : slice_get journal k ≡ Some e) where
    pub next_is : take k journal ++ e ∷ [] ≡ take (k + 1) journal
    next_is = sym (take_next journal k e at)

    pub whole_is : journal ≡ take k journal ++ e ∷ drop (k + 1) journal
    whole_is =
        sym (take-append-drop (k + 1) journal) ∙ ap (λ (l : List Entry). l ++ drop (k + 1) journal) (take_next journal k e at)
        ∙ append_assoc (take k journal) (e ∷ []) (drop (k + 1) journal)

    pub front_long : length (take k journal) ≡ k
    front_long = length-take-le k journal (omega (arith, slice_get_within journal k e at))

    -- one more entry, or the first illegal one

    pub run_next : IsRun script (take k journal) → IsLegal script (reverse (take k journal)) e → IsRun script (take k journal ++ e ∷ [])
    run_next run legal = run_more script (take k journal) e run legal

    pub first_illegal : (cause : EntryCause) → IsRun script (take k journal) → IsCause script (reverse (take k journal)) e cause
        → IsFirstIllegal script journal (k + 1) cause
    first_illegal cause run why = record {
      before = take k journal;
      e = e;
      after = drop (k + 1) journal;
      whole = whole_is;
      place = ap (λ (n : ℕ). n + 1) (sym front_long);
      run = run;
      why = why;
    }
