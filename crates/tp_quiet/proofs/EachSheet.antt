-- Where a step leads to: what holds of the sheet that it changes, and of those that it leaves, holds of each.
-- Used for what each step keeps (Onward, Counts, AllStanding), and for what a rule makes (Serving).
use Rattle.std.proofs.Common.{◌≡◌, ℕ, true, false, cond, List, [], Option, Some, None, is_some, subst}
use Rattle.std.proofs.lemmas.Bool.{both_ways, cond_both}
use Rattle.tp_base.proofs.SameNames.{same_id_is, same_id_refl}
use Rattle.tp_base.specs.Names.{same_id}
use Rattle.tp_base.specs.declared.names.CommandId.{CommandId}
use Rattle.tp_base.specs.declared.names.Site.{Site}
use Rattle.tp_facts.proofs.StepCases.{SheetStep, ProcessStep, does_nothing, bumps_clock, announces, passes_commit_on, changes_sheet, attaches_proposal}
use Rattle.tp_ops.specs.declared.command.Command.{Command}
use Rattle.tp_rules.specs.Acts.{Act}
use Rattle.tp_rules.specs.Process.{Step, ProcessState, finished, learned, with_sheet}
use Rattle.tp_rules.specs.Sheet.{QuorumRule, Sheet, final_stamp, stamp_of, with_stamp}
use Rattle.tp_wire.specs.declared.message.Message.{Message}

-- by cases on what a step does
pub each_sheet : (P : List Message → CommandId → Sheet → Type 0) (s : QuorumRule) (me : Site) (act : Act)
    (state : ProcessState) (moved : Step) → ProcessStep s me act state moved
    → ((id : CommandId) (new : Sheet) (out : List Message) → SheetStep s me act id (state.sheets id) new out
    → P out id new)
    → ((out : List Message) (id : CommandId) → P out id (state.sheets id))
    → (id : CommandId) → P moved.1 id (moved.0.sheets id)
each_sheet P s me act state moved (changes_sheet {id = i} {new = new} {out = out} clock le step same) change leave id =
    cond_both (same_id i id) new (state.sheets id) (P out id)
    (λ y. subst (λ (x : CommandId). P out x new) (same_id_is i id y) (change i new out step)) (λ n. leave out id)
each_sheet P s me act state moved
    (attaches_proposal {id = i} {new = new} {out = out} t made lt step none some) change leave id =
    cond_both (same_id i id) new (state.sheets id) (P out id)
    (λ y. subst (λ (x : CommandId). P out x new) (same_id_is i id y) (change i new out step)) (λ n. leave out id)
each_sheet P s me act state moved does_nothing change leave id = leave [] id
each_sheet P s me act state moved (bumps_clock clock le) change leave id = leave [] id
each_sheet P s me act state moved announces change leave id = leave _ id
each_sheet P s me act state moved (passes_commit_on c b t by e known) change leave id = leave _ id

-- the sheet of an identifier after one sheet was changed
module _ (P : Sheet → Type 0) (id other : CommandId) (state : ProcessState)
    (left : same_id id other ≡ false → P (state.sheets other)) where
  pub sheet_leads : (sheet : Sheet) → P sheet → P (cond (same_id id other) sheet (state.sheets other))
  sheet_leads sheet h = cond_both (same_id id other) sheet (state.sheets other) P (λ y. h) left

  finished_leads : (me : Site) (sheet : Sheet) (o : Option Command) (last : Option ℕ) → P sheet
      → P ((finished me id sheet o last state).0.sheets other)
  finished_leads me sheet None last h = sheet_leads sheet h
  finished_leads me sheet (Some c) None h = sheet_leads sheet h
  finished_leads me sheet (Some c) (Some t) h = sheet_leads sheet h

  pub learned_leads : (s : QuorumRule) (me : Site) (q t : ℕ) (sheet : Sheet)
      → (is_some (stamp_of sheet q) ≡ true → P sheet) → P (with_stamp q t sheet)
      → P ((learned s.shape me id q t sheet state).0.sheets other)
  learned_leads s me q t sheet known new =
      let next : Sheet = with_stamp q t sheet in
      cond_both (is_some (stamp_of sheet q)) (with_sheet id sheet state, [])
      (finished me id next next.command (final_stamp s.shape next next.command) state)
      (λ (moved : Step). P (moved.0.sheets other))
      (λ y. sheet_leads sheet (known y))
      (λ n. finished_leads me next next.command (final_stamp s.shape next next.command) new)

-- a changed sheet is none that is left
pub itself : (P : Sheet → Type 0) (id : CommandId) (state : ProcessState) → same_id id id ≡ false → P (state.sheets id)
itself P id state apart = absurd (both_ways (same_id id id) apart (same_id_refl id))
