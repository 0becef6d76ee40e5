-- How the sheets go on with the state of the rules, as a rank answers a recovery.
use Rattle.std.proofs.Common.{◌≡◌, ℕ, ◌<◌, Bool, true, false, ◌&&◌, cond, List, [], Option, Some, None, refl, sym, ap, subst, ◌∙◌}
use Rattle.std.proofs.lemmas.Bool.{cond-true}
use Rattle.indexmap.specs.IndexMap.{IndexMap}
use Rattle.tp_base.specs.Limits.{STAMP_LIMIT, is_from}
use Rattle.tp_base.specs.declared.names.ActorName.TheVariants.{Process}
use Rattle.tp_base.specs.declared.names.CommandId.{CommandId}
use Rattle.tp_base.specs.declared.names.Pair.{Pair}
use Rattle.tp_base.specs.declared.names.Rank.{Rank}
use Rattle.tp_base.specs.declared.names.Site.{Site}
use Rattle.tp_choice.specs.Choosing.{recovery_choice}
use Rattle.tp_choice.specs.declared.answer.RecoveryAnswer.{RecoveryAnswer}
use Rattle.tp_ops.specs.declared.command.Command.{Command}
use Rattle.tp_process.proofs.Gathering.{Quiet, kept_only, refused}
use Rattle.tp_process.proofs.Learning.{changed, put_back}
use Rattle.tp_process.proofs.LowStamps.{putting_low, recovery_low, with_answer_low}
use Rattle.tp_process.specs.Sheets.{ChangesSheet, sheet_at}
use Rattle.tp_process.specs.State.{Agrees, IsHomed, IsLow, site_sheet}
use Rattle.tp_quorum.specs.Choice.{present}
use Rattle.tp_rules.specs.Addresses.{site as site_of}
use Rattle.tp_rules.specs.Process.{Step, ProcessState, on_rec_ack, put_recovered, put_to_vote, with_sheet}
use Rattle.tp_rules.specs.Sheet.{Sheet, can_answer, is_recovered, putting, ring_rule, with_answer}
use Rattle.tp_sheet.specs.SiteSheet.{SiteSheet, home_within, putting_at, choice_after_answer, recovery_of, with_answer_of}
use Rattle.tp_topology.specs.Shape.{Shape, in_ring}

-- the row of the rules for a rank of the shape
abbrev pub counted_answer : Shape → Site → RecoveryAnswer → CommandId → ℕ → ProcessState → Step
counted_answer shape me a id b s = on_rec_ack (ring_rule shape) me (Process (site_of 0 a.rank.0)) id a.stamp.0 a.made a.accepted b s

-- by whether the rank is one, its answer counts, and a quorum has answered with it, for the command that is kept
module _ (shape : Shape) (me : Site) (id : CommandId) (ballot : ℕ) (sheet answers : Sheet) (s : ProcessState) where
  abbrev choice_if : Bool → Bool → Option Command → Option ℕ
  choice_if b f o = cond b (cond f (recovery_of shape answers (home_within shape o)) None) None

  abbrev sheet_if : Bool → Bool → Option Command → Sheet
  sheet_if b f o = cond b (putting_at shape ballot (choice_if b f o) answers) sheet

  abbrev row_if : Bool → Bool → Option Command → Step
  row_if b f o = cond {A = Step} b (cond {A = Step} f (put_recovered (ring_rule shape) me id ballot o answers s) (with_sheet id answers s, [])) (s, [])

  abbrev chosen : Command → ℕ
  chosen c = recovery_choice (in_ring shape c.home.0) c.home.0 (present answers.answers)

  -- what a command whose home is in the shape leads to
  choice_is : (c : Command) → IsHomed shape (Some c) → recovery_of shape answers (home_within shape (Some c)) ≡ Some (chosen c)
  choice_is c homed = ap (λ (home : Option Rank). recovery_of shape answers home) (cond-true (is_from 1 shape.replicas c.home.0) (Some c.home) None homed)

  some_if : (w b f : Bool) (o : Option Command) (t : ℕ) → w ≡ true → IsHomed shape o → choice_if (w && b) f o ≡ Some t
      → (row_if b f o ≡ (with_sheet id (putting shape ballot t answers) s, put_to_vote shape me ballot t o))
      × (sheet_if (w && b) f o ≡ putting shape ballot t answers)
      × ((home : ℕ) × (recovery_choice (in_ring shape home) home (present answers.answers) ≡ t))
  some_if true true true (Some c) t within homed e =
      let both : Some (chosen c) ≡ Some t = sym (choice_is c homed) ∙ e in
      let same : chosen c ≡ t = cc in (
        ap (λ (n : ℕ). let moved : Step = (with_sheet id (putting shape ballot n answers) s, put_to_vote shape me ballot n (Some c)) in moved) same,
        ap (λ (o : Option ℕ). putting_at shape ballot o answers) e,
        (c.home.0, same),
      )
  some_if true true true None t within homed e = absurd cc
  some_if true true false o t within homed e = absurd cc
  some_if true false f o t within homed e = absurd cc
  some_if false b f o t within homed e = absurd cc

  none_if : (w b f : Bool) (o : Option Command) → w ≡ true → IsHomed shape o → choice_if (w && b) f o ≡ None
      → Quiet shape me id sheet answers s (row_if b f o) (sheet_if (w && b) f o)
  none_if true true true (Some c) within homed e = absurd (let both : Some (chosen c) ≡ None = sym (choice_is c homed) ∙ e in cc)
  none_if true true true None within homed e = kept_only
  none_if true true false o within homed e = kept_only
  none_if true false f o within homed e = refused
  none_if false b f o within homed e = absurd cc

module _ {S : Type 0} (shape : Shape) (me : Site) (clock told : ℕ) (pairs : List Pair) (sheets new : IndexMap CommandId SiteSheet S)
    (a : RecoveryAnswer) (b : ℕ) (id : CommandId) (s : ProcessState)
    (change : ChangesSheet shape me sheets new id (with_answer_of a b (sheet_at shape me sheets id)))
    (h : Agrees shape me clock told pairs sheets s) (within : is_from 1 shape.replicas a.rank.0 ≡ true) (below : a.stamp.0 < STAMP_LIMIT) where
  abbrev old : Sheet
  old = s.sheets id

  abbrev answers : Sheet
  answers = with_answer a old

  abbrev can : Bool
  can = can_answer me.partition.0 b a.rank.0 old

  low : IsLow shape answers
  low = with_answer_low a old below (h.low id)

  by_sheet : (o : Option ℕ) → choice_after_answer a b (sheet_at shape me sheets id) ≡ o → choice_after_answer a b (site_sheet shape me old) ≡ o
  by_sheet o e = ap (λ (kept : SiteSheet). choice_after_answer a b kept) (sym (h.sheets_are id)) ∙ e

  -- what is kept now
  keeps_now : (sheet : Sheet) → with_answer_of a b (site_sheet shape me old) ≡ site_sheet shape me sheet → IsLow shape sheet
      → Agrees shape me clock told pairs new (with_sheet id sheet s)
  keeps_now sheet is_kept is_low =
      changed shape me clock told pairs sheets new id (with_answer_of a b (sheet_at shape me sheets id)) sheet s change
      (ap (λ (kept : SiteSheet). with_answer_of a b kept) (h.sheets_are id) ∙ is_kept) is_low h

  pub answers_some : (t : ℕ) → choice_after_answer a b (sheet_at shape me sheets id) ≡ Some t
      → (counted_answer shape me a id b s ≡ (with_sheet id (putting shape b t answers) s, put_to_vote shape me b t answers.command))
      × Agrees shape me clock told pairs new (with_sheet id (putting shape b t answers) s)
  answers_some t e =
      let all = some_if shape me id b old answers s (is_from 1 shape.replicas a.rank.0) can (is_recovered shape answers) answers.command t within low.home (by_sheet (Some t) e) in
      let lt : t < STAMP_LIMIT = subst (λ (n : ℕ). n < STAMP_LIMIT) all.2.1 (recovery_low (in_ring shape all.2.0) all.2.0 answers.answers low.answers) in (
        all.0,
        keeps_now (putting shape b t answers) (ap (λ (kept : Sheet). site_sheet shape me kept) all.1) (putting_low shape b t answers lt low),
      )

  quietly : (moved : Step) (sheet : Sheet) → Quiet shape me id old answers s moved sheet → with_answer_of a b (site_sheet shape me old) ≡ site_sheet shape me sheet
      → (moved.1 ≡ []) × Agrees shape me clock told pairs new moved.0
  quietly moved sheet kept_only e = (refl, keeps_now answers e low)
  quietly moved sheet refused e = (refl, put_back shape me clock told pairs new id s (keeps_now old e (h.low id)))

  pub answers_none : choice_after_answer a b (sheet_at shape me sheets id) ≡ None
      → ((counted_answer shape me a id b s).1 ≡ []) × Agrees shape me clock told pairs new (counted_answer shape me a id b s).0
  answers_none e =
      quietly (counted_answer shape me a id b s) (with_answer_of a b (site_sheet shape me old)).sheet
      (none_if shape me id b old answers s (is_from 1 shape.replicas a.rank.0) can (is_recovered shape answers) answers.command within low.home (by_sheet None e)) refl
