-- What the top call's clauses say of a call that was served, or refused, from what its parts did.
use Rattle.std.proofs.Common.{◌≡◌, ◌≢◌, ℕ, ◌+◌, ◌⊎◌, inl, inr, true, false, List, [], refl, sym, ◌∙◌, ap, subst, Option, Some, None, is_some, Result, Ok, Err, IfOk, IfSome, OnErr, OnOk, is_ok, arith}
use Rattle.std.proofs.KnownBytes.{Consumes-nil, Keeps-refl}
use Rattle.std.specs.Io.KnownBytes.{Appends, IsAtEnd, Keeps}
use Rattle.tp_check.specs.declared.verdict.Verdict.{Verdict}
use Rattle.tp_check.specs.declared.verdict.Verdict.TheVariants.{Run as IsOne, No}
use Rattle.tp_outside.specs.Bytes.{AppendsFront, TakesAtMost, TakesFewer}
use Rattle.tp_outside.specs.Causes.{Rose}
use Rattle.tp_quiet.proofs.Finishes.{quiet_finished}
use Rattle.tp_quiet.specs.Finished.{IsHarmless}
use Rattle.tp_rules.specs.Pending.{IsPickedRun, IsQuiet}
use Rattle.tp_rules.specs.Runs.{IsRun}
use Rattle.tp_rules.specs.declared.event.Entry.{Entry}
use Rattle.tp_run.proofs.NoneOpen.{none_open}
use Rattle.tp_run.proofs.TopCalls.{exact_done, exact_refused, kept_in_range, kept_laws, served_due}
use Rattle.tp_run.specs.Calls.{checks, picks, reads, runs}
use Rattle.tp_run.specs.Texts.{INPUT_MOST}
use Rattle.tp_run.specs.TopCall.{HasFinished, HasFront, IsAnswer, IsDone, IsDue, IsFaultOf, IsInputFor, IsKept, IsRead, IsRefusal, IsScriptOf, IsServed, IsWritten, answer_of}
use Rattle.tp_run.specs.declared.call.Call.{Call}
use Rattle.tp_run.specs.declared.call.Call.TheVariants.{Run, Trace, Step, Check, Gen, Load}
use Rattle.tp_run.specs.declared.finished.Cause.{Cause}
use Rattle.tp_run.specs.declared.finished.Cause.TheVariants.{Words, Read, Write, Memory}
use Rattle.tp_run.specs.declared.finished.Finished.{Finished}
use Rattle.tp_run.specs.declared.serving.Answer.{Answer}
use Rattle.tp_script.specs.Accepted.{IsAccepted}
use Rattle.tp_script.specs.declared.script.Script.{Script}

-- a call was served: it has a script, which came from what was read, a journal and an answer, which was written

pub record Serving {E : Type 0} (c : Call) (left rest : Option (List ℕ)) (ended : Type 0) (failed fails : ℕ) (before now : Option (List ℕ)) (wrote writes : ℕ)
    (script : Script) (given journal : List Entry) (answer : Result Answer E) (told : Finished) : Type 0 where
  pub accepted : IsAccepted script
  pub of : IsScriptOf (Some c) left script given
  pub to_end : reads (Some c) ≡ true → ended × IsAtEnd rest
  pub unread : reads (Some c) ≡ false → (rest ≡ left) × (fails ≡ failed)
  pub taken : TakesAtMost (INPUT_MOST + 1) left rest
  pub unfailed : fails ≡ failed
  pub due : (a : Option Cause) (output : List ℕ) → IsAnswer (Some c) script given a output → IsDue (Some c) left a
  pub empty : checks (Some c) ≡ false → given ≡ []
  pub run : runs (Some c) ≡ true → IsRun script journal
  pub picked : picks (Some c) ≡ true → IsPickedRun script journal
  pub unrun : runs (Some c) ≡ false → journal ≡ given
  pub quiet : OnOk answer (runs (Some c) ≡ true → IsQuiet script journal)
  pub right : IfOk answer (λ a. IsAnswer (Some c) script journal a.cause a.output)
  pub has_script : told.script ≡ Some script
  pub has_journal : told.journal ≡ journal
  pub memory : told.cause ≢ Some Memory → is_ok answer ≡ true
  pub all : IfOk answer (λ a. ((told.cause ≡ a.cause) × Appends before now a.output) ⊎ (told.cause ≡ Some Write) ⊎ (told.cause ≡ Some Memory))
  pub none : OnErr answer (told.cause ≡ Some Memory)
  pub front : IfOk answer (λ a. AppendsFront before now a.output)
  pub unwritten : OnErr answer (Keeps before now)
  pub fault : IsFaultOf Write wrote writes told.cause

-- a call that is served answers neither that its words are refused nor that a read failed

unfound : (verdict : Verdict) (cause : Cause) → (cause ≡ Words) ⊎ (cause ≡ Read) → answer_of verdict ≡ Some cause → ⊥
unfound (IsOne entries) cause which e = absurd cc
unfound (No entry why) cause (inl words) e = absurd cc
unfound (No entry why) cause (inr read) e = absurd cc

answers : (call : Option Call) (script : Script) (journal : List Entry) (told : Option Cause) (output : List ℕ) (cause : Cause) → (cause ≡ Words) ⊎ (cause ≡ Read)
    → IsAnswer call script journal told output → told ≡ Some cause → ⊥
answers None script journal told output cause which right e = right
answers (Some Run) script journal told output cause which right e = absurd (let no : None ≡ Some cause = sym right.0 ∙ e in cc)
answers (Some Trace) script journal told output cause which right e = absurd (let no : None ≡ Some cause = sym right.0 ∙ e in cc)
answers (Some Step) script journal told output cause which right e = absurd (let no : None ≡ Some cause = sym right.0 ∙ e in cc)
answers (Some Check) script journal told output cause which right e = unfound right.0 cause which (sym right.1.said ∙ e)
answers (Some (Gen n)) script journal told output cause which right e = absurd (let no : None ≡ Some cause = sym right.0 ∙ e in cc)
answers (Some (Load n)) script journal told output cause which right e = absurd (let no : None ≡ Some cause = sym right.0 ∙ e in cc)

other : (cause by : Cause) (told : Option Cause) → (cause ≡ Words) ⊎ (cause ≡ Read) → (by ≡ Write) ⊎ (by ≡ Memory) → told ≡ Some by → told ≡ Some cause → ⊥
other cause by told (inl a) (inl b) e f = absurd cc
other cause by told (inl a) (inr b) e f = absurd cc
other cause by told (inr a) (inl b) e f = absurd cc
other cause by told (inr a) (inr b) e f = absurd cc

-- a call's script is the same one with the journal that is kept
script_kept : (c : Call) (left : Option (List ℕ)) (script : Script) (given journal : List Entry) → (runs (Some c) ≡ false → journal ≡ given)
    → IsScriptOf (Some c) left script given → IsScriptOf (Some c) left script journal
script_kept Run left script given journal same of = of
script_kept Trace left script given journal same of = of
script_kept Step left script given journal same of = of
script_kept Check left script given journal same of = subst (IsScriptOf (Some Check) left script) (sym (same refl)) of
script_kept (Gen n) left script given journal same of = of
script_kept (Load n) left script given journal same of = of

picks_runs : (c : Call) → picks (Some c) ≡ true → runs (Some c) ≡ true
picks_runs Run e = refl
picks_runs Trace e = refl
picks_runs Step e = refl
picks_runs Check e = absurd cc
picks_runs (Gen n) e = absurd cc
picks_runs (Load n) e = refl

module _ {E : Type 0} (c : Call) (left rest : Option (List ℕ)) (ended : Type 0) (failed fails : ℕ) (before now : Option (List ℕ)) (wrote writes : ℕ)
    (script : Script) (given journal : List Entry) (answer : Result Answer E) (told : Finished)
    (s : Serving c left rest ended failed fails before now wrote writes script given journal answer told) where
  ended_by : IsDone (Some c) script told.journal told.cause before now ⊎ (told.cause ≡ Some Write) ⊎ (told.cause ≡ Some Memory)
  ended_by = by answer s.right s.all s.none
    where
      by : (r : Result Answer E) → IfOk r (λ a. IsAnswer (Some c) script journal a.cause a.output)
          → IfOk r (λ a. ((told.cause ≡ a.cause) × Appends before now a.output) ⊎ (told.cause ≡ Some Write) ⊎ (told.cause ≡ Some Memory))
          → OnErr r (told.cause ≡ Some Memory) → IsDone (Some c) script told.journal told.cause before now ⊎ (told.cause ≡ Some Write) ⊎ (told.cause ≡ Some Memory)
      by (Err e) right all none = inr (inr none)
      by (Ok a) right (inr failure) none = inr failure
      by (Ok a) right (inl whole) none = inl (record {
        output = a.output;
        right = subst (λ (p : List Entry × Option Cause). IsAnswer (Some c) script p.0 p.1 a.output) (λ i. (sym s.has_journal i, sym whole.0 i)) right;
        written = whole.1;
      })

  begun : HasFront (Some c) script told.journal before now
  begun = by answer s.right s.front s.unwritten
    where
      by : (r : Result Answer E) → IfOk r (λ a. IsAnswer (Some c) script journal a.cause a.output) → IfOk r (λ a. AppendsFront before now a.output)
          → OnErr r (Keeps before now) → HasFront (Some c) script told.journal before now
      by (Err e) right front unwritten = inl unwritten
      by (Ok a) right front unwritten = inr (record {
        answer = a.cause;
        output = a.output;
        right = subst (λ (j : List Entry). IsAnswer (Some c) script j a.cause a.output) (sym s.has_journal) right;
        front = front;
      })

  not_so : (cause : Cause) → (cause ≡ Words) ⊎ (cause ≡ Read) → told.cause ≡ Some cause → ⊥
  not_so cause which e = elim ended_by [
    | inl done ↦ answers (Some c) script told.journal told.cause done.output cause which done.right e
    | inr failure ↦ elim failure [
      | inl write ↦ other cause Write told.cause which (inl refl) write e
      | inr memory ↦ other cause Memory told.cause which (inr refl) memory e
    ]
  ]

  of_script : (P : Script → Type 0) → P script → IfSome told.script P
  of_script P p = subst (λ (o : Option Script). IfSome o P) (sym s.has_script) p

  some_script : told.script ≡ None → ⊥
  some_script e = let no : Some script ≡ None = sym s.has_script ∙ e in absurd cc

  no_refusal : (P : Cause → Type 0) (o : Option Cause) → IfSome o (λ cause. told.script ≡ None → P cause)
  no_refusal P None = tt
  no_refusal P (Some cause) = λ e. absurd (some_script e)

  pub served_read : IsRead (Some c) left rest ended failed fails told
  served_read = record {
    words = (λ none. absurd cc, λ e. absurd (not_so Words (inl refl) e));
    unread = s.unread;
    taken = s.taken;
    below = λ e. absurd (not_so Read (inr refl) e);
    refused = no_refusal (IsRefusal (Some c) left) told.cause;
    script = of_script _ (subst (IsScriptOf (Some c) left script) (sym s.has_journal) (script_kept c left script given journal s.unrun s.of));
    to_end = of_script _ s.to_end;
    answered = λ e. ap (λ (o : Option Script). is_some o) s.has_script;
    fault = record { rose = λ e. absurd (not_so Read (inr refl) e); kept = λ e. s.unfailed };
  }

  kept_run : runs (Some c) ≡ true → IsRun script told.journal
  kept_run r = subst (IsRun script) (sym s.has_journal) (s.run r)

  kept_quiet : runs (Some c) ≡ true → told.cause ≢ Some Memory → IsQuiet script told.journal
  kept_quiet r unfailed = subst (IsQuiet script) (sym s.has_journal) (by answer (s.memory unfailed) s.quiet)
    where
      by : (r : Result Answer E) → is_ok r ≡ true → OnOk r (runs (Some c) ≡ true → IsQuiet script journal) → IsQuiet script journal
      by (Ok a) e quiet = quiet r
      by (Err f) e quiet = absurd cc

  kept_finished : runs (Some c) ≡ true → told.cause ≢ Some Memory → IsHarmless script → HasFinished script told.journal
  kept_finished r unfailed harmless =
      let done = quiet_finished script told.journal s.accepted (kept_run r) (kept_quiet r unfailed) harmless in
      (done, none_open script told.journal s.accepted done)

  pub served_kept : IsKept (Some c) told
  served_kept = record {
    run = λ r. of_script _ (kept_run r);
    legal = λ r. kept_laws told.script script told.journal s.has_script s.accepted (kept_run r);
    ranges = λ r. kept_in_range told.script script told.journal s.has_script s.accepted (kept_run r);
    picked = λ p. of_script _ (subst (IsPickedRun script) (sym s.has_journal) (s.picked p));
    quiet = λ r. of_script _ (kept_quiet r);
    finished = λ r. of_script _ (kept_finished r);
    unrun = λ r k. s.has_journal ∙ s.unrun r ∙ s.empty k;
    unkept = λ e. absurd (some_script e);
  }

  pub served_written : IsWritten (Some c) before now wrote writes told
  served_written = record {
    written = of_script _ ended_by;
    front = of_script _ begun;
    unwritten = λ e. absurd (some_script e);
    fault = s.fault;
  }

  pub served_exact : ¬ Rose failed fails → ¬ Rose wrote writes → IsDue (Some c) left told.cause ⊎ (told.cause ≡ Some Memory)
  served_exact read write =
      exact_done (Some c) left script given told.journal before now told.cause s.due (λ r. s.has_journal ∙ s.unrun r) ended_by (λ e. write (s.fault.rose e))

  pub served_complete : IsInputFor (Some c) left → ¬ Rose failed fails → ¬ Rose wrote writes → IsServed (Some c) told.cause ⊎ (told.cause ≡ Some Memory)
  served_complete input read write = served_due (Some c) left told.cause input (served_exact read write)

-- without a script

module _ (told : Finished) (no_script : told.script ≡ None) where
  nothing : (P : Script → Type 0) → IfSome told.script P
  nothing P = subst (λ (o : Option Script). IfSome o P) (sym no_script) tt

  pub nothing_kept : (call : Option Call) → told.journal ≡ [] → IsKept call told
  nothing_kept call no_journal = record {
    run = λ x. nothing _;
    legal = λ x. nothing _;
    ranges = λ x. nothing _;
    picked = λ x. nothing _;
    quiet = λ x. nothing _;
    finished = λ x. nothing _;
    unrun = λ x y. no_journal;
    unkept = λ e. no_journal;
  }

  pub nothing_written : (call : Option Call) (before : Option (List ℕ)) (wrote : ℕ) → (told.cause ≡ Some Write → ⊥) → IsWritten call before before wrote wrote told
  nothing_written call before wrote unfailed = record {
    written = nothing _;
    front = nothing _;
    unwritten = λ e. Keeps-refl before;
    fault = record { rose = λ e. absurd (unfailed e); kept = λ e. refl };
  }

  -- the words are no call
  module _ (words : told.cause ≡ Some Words) where
    not_words : (cause : Cause) → (Words ≡ cause → ⊥) → told.cause ≡ Some cause → ⊥
    not_words cause differs e = let same : Some Words ≡ Some cause = sym words ∙ e in differs cc

    pub none_read : (left : Option (List ℕ)) (ended : Type 0) (failed : ℕ) → IsRead None left left ended failed failed told
    none_read left ended failed = record {
      words = (λ e. words, λ e. refl);
      unread = λ e. (refl, refl);
      taken = ([], omega arith, Consumes-nil left);
      below = λ e. absurd (not_words Read (λ k. cc) e);
      refused = subst (λ (o : Option Cause). IfSome o (λ cause. told.script ≡ None → IsRefusal None left cause)) (sym words) (λ e. refl);
      script = nothing _;
      to_end = nothing _;
      answered = λ e. absurd (let no : Some Words ≡ None = sym words ∙ e in cc);
      fault = record { rose = λ e. absurd (not_words Read (λ k. cc) e); kept = λ e. refl };
    }

    pub none_written : (before : Option (List ℕ)) (wrote : ℕ) → IsWritten None before before wrote wrote told
    none_written before wrote = nothing_written None before wrote (not_words Write (λ k. cc))

-- a call was refused

unasked : (c : Call) (left : Option (List ℕ)) → IsRefusal (Some c) left Words → ⊥
unasked Run left refused = refused
unasked Trace left refused = refused
unasked Step left refused = refused
unasked Check left refused = refused
unasked (Gen n) left refused = absurd cc
unasked (Load n) left refused = absurd cc

unwritten_by : (c : Call) (left : Option (List ℕ)) → IsRefusal (Some c) left Write → ⊥
unwritten_by Run left refused = refused
unwritten_by Trace left refused = refused
unwritten_by Step left refused = refused
unwritten_by Check left refused = refused
unwritten_by (Gen n) left refused = absurd cc
unwritten_by (Load n) left refused = absurd cc

pub record Refusing (c : Call) (left rest : Option (List ℕ)) (failed fails : ℕ) (cause : Cause) (told : Finished) : Type 0 where
  pub refused : IsRefusal (Some c) left cause
  pub unread : reads (Some c) ≡ false → (rest ≡ left) × (fails ≡ failed)
  pub taken : TakesAtMost (INPUT_MOST + 1) left rest
  pub below : cause ≡ Read → TakesFewer (INPUT_MOST + 1) left rest
  pub rose : cause ≡ Read → Rose failed fails
  pub same : cause ≢ Read → fails ≡ failed
  pub has_cause : told.cause ≡ Some cause
  pub no_script : told.script ≡ None
  pub no_journal : told.journal ≡ []

module _ (c : Call) (left rest : Option (List ℕ)) (ended : Type 0) (failed fails : ℕ) (cause : Cause) (told : Finished)
    (r : Refusing c left rest failed fails cause told) where
  is_cause : {x : Cause} → told.cause ≡ Some x → cause ≡ x
  is_cause {x} e = let same : Some cause ≡ Some x = sym r.has_cause ∙ e in cc

  pub refused_read : IsRead (Some c) left rest ended failed fails told
  refused_read = record {
    words = (λ none. absurd cc, λ e. absurd (unasked c left (subst (IsRefusal (Some c) left) (is_cause e) r.refused)));
    unread = r.unread;
    taken = r.taken;
    below = λ e. r.below (is_cause e);
    refused = subst (λ (o : Option Cause). IfSome o (λ x. told.script ≡ None → IsRefusal (Some c) left x)) (sym r.has_cause) (λ e. r.refused);
    script = nothing told r.no_script _;
    to_end = nothing told r.no_script _;
    answered = λ e. let no : Some cause ≡ None = sym r.has_cause ∙ e in absurd cc;
    fault = record { rose = λ e. r.rose (is_cause e); kept = λ e. r.same (λ same. e (r.has_cause ∙ ap (λ (x : Cause). Some x) same)) };
  }

  pub refused_written : (before : Option (List ℕ)) (wrote : ℕ) → IsWritten (Some c) before before wrote wrote told
  refused_written before wrote =
      nothing_written told r.no_script (Some c) before wrote (λ e. unwritten_by c left (subst (IsRefusal (Some c) left) (is_cause e) r.refused))

  pub refused_exact : ¬ Rose failed fails → IsDue (Some c) left told.cause ⊎ (told.cause ≡ Some Memory)
  refused_exact read = exact_refused (Some c) left cause told.cause r.has_cause r.refused (λ e. read (r.rose (is_cause e)))

  pub refused_complete : IsInputFor (Some c) left → ¬ Rose failed fails → IsServed (Some c) told.cause ⊎ (told.cause ≡ Some Memory)
  refused_complete input read = served_due (Some c) left told.cause input (refused_exact read)
