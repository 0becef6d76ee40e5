-- What a verdict says of a journal.
use Rattle.std.specs.Prelude.{ℕ, ◌≡◌, ◌+◌, List, ◌∷◌, ◌++◌, length, reverse}
use Rattle.tp_check.specs.Causes.{IsCause}
use Rattle.tp_check.specs.declared.verdict.EntryCause.{EntryCause}
use Rattle.tp_check.specs.declared.verdict.Verdict.{Verdict}
use Rattle.tp_check.specs.declared.verdict.Verdict.TheVariants.{Run, No}
use Rattle.tp_rules.specs.Runs.{IsRun}
use Rattle.tp_rules.specs.declared.event.Entry.{Entry}
use Rattle.tp_script.specs.declared.script.Script.{Script}

-- a journal has an entry of this number that is illegal, for this cause, after entries that are a run
pub record IsFirstIllegal (script : Script) (journal : List Entry) (number : ℕ) (cause : EntryCause) : Type 0 where
  pub before : List Entry
  pub e : Entry
  pub after : List Entry
  pub whole : journal ≡ before ++ e ∷ after
  pub place : number ≡ length before + 1
  pub run : IsRun script before
  pub why : IsCause script (reverse before) e cause

abbrev pub IsVerdict : Script → List Entry → Verdict → Type 0
IsVerdict script journal (Run entries) = IsRun script journal × (entries ≡ length journal)
IsVerdict script journal (No entry cause) = IsFirstIllegal script journal entry cause

abbrev pub SaysRun : Verdict → Type 0
SaysRun (Run entries) = Unit {0}
SaysRun (No entry cause) = ⊥

-- no entry has a cause after those before it
abbrev pub HasNoCause : Script → List Entry → Type 0
HasNoCause script journal = (before : List Entry) (e : Entry) (after : List Entry) (cause : EntryCause) → journal ≡ before ++ e ∷ after
    → ¬ IsCause script (reverse before) e cause
