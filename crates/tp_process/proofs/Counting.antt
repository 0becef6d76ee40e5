-- How the sheets go on with the state of the rules, as a rank acknowledges.
use Rattle.std.proofs.Common.{◌≡◌, ℕ, ◌<◌, true, List, [], Option, Some, None, refl, sym, ap, ◌∙◌}
use Rattle.indexmap.specs.IndexMap.{IndexMap}
use Rattle.tp_base.specs.Limits.{STAMP_LIMIT, is_from}
use Rattle.tp_base.specs.declared.names.CommandId.{CommandId}
use Rattle.tp_base.specs.declared.names.Pair.{Pair}
use Rattle.tp_base.specs.declared.names.Site.{Site}
use Rattle.tp_base.specs.declared.names.Stamp.{Stamp}
use Rattle.tp_process.proofs.Gathering.{Quiet, counted, counted_fast, counted_none, counted_slow, kept_only, refused}
use Rattle.tp_process.proofs.Learning.{changed, put_back}
use Rattle.tp_process.proofs.LowStamps.{acknowledged_low, putting_low}
use Rattle.tp_process.specs.Sheets.{ChangesSheet, sheet_at}
use Rattle.tp_process.specs.State.{Agrees, IsLow, site_sheet}
use Rattle.tp_quorum.specs.declared.choice.FastChoice.{FastChoice}
use Rattle.tp_quorum.specs.declared.choice.FastChoice.TheVariants.{Fast, Slow}
use Rattle.tp_rules.specs.Process.{Step, ProcessState, decided, put_to_vote, with_sheet}
use Rattle.tp_rules.specs.Sheet.{Sheet, acknowledged, putting}
use Rattle.tp_sheet.specs.SiteSheet.{SiteSheet, choice_after_ack, with_acknowledgement}
use Rattle.tp_topology.specs.Shape.{Shape}

module _ {S : Type 0} (shape : Shape) (me : Site) (clock told : ℕ) (pairs : List Pair) (sheets new : IndexMap CommandId SiteSheet S)
    (rank t : ℕ) (id : CommandId) (s : ProcessState)
    (change : ChangesSheet shape me sheets new id (with_acknowledgement rank t (sheet_at shape me sheets id)))
    (h : Agrees shape me clock told pairs sheets s) (within : is_from 1 shape.replicas rank ≡ true) (below : t < STAMP_LIMIT) where
  abbrev acked : Sheet
  acked = acknowledged rank t (s.sheets id)

  low : IsLow shape acked
  low = acknowledged_low rank t (s.sheets id) below (h.low id)

  by_sheet : (o : Option FastChoice) → choice_after_ack rank t (sheet_at shape me sheets id) ≡ o → choice_after_ack rank t (site_sheet shape me (s.sheets id)) ≡ o
  by_sheet o e = ap (λ (kept : SiteSheet). choice_after_ack rank t kept) (sym (h.sheets_are id)) ∙ e

  -- what is kept now
  keeps_now : (sheet : Sheet) → with_acknowledgement rank t (site_sheet shape me (s.sheets id)) ≡ site_sheet shape me sheet → IsLow shape sheet
      → Agrees shape me clock told pairs new (with_sheet id sheet s)
  keeps_now sheet is_kept is_low =
      changed shape me clock told pairs sheets new id (with_acknowledgement rank t (sheet_at shape me sheets id)) sheet s change
      (ap (λ (kept : SiteSheet). with_acknowledgement rank t kept) (h.sheets_are id) ∙ is_kept) is_low h

  pub counts_fast : (top : Stamp) → choice_after_ack rank t (sheet_at shape me sheets id) ≡ Some (Fast top)
      → (counted shape me rank id t s ≡ decided shape me id top.0 acked s) × Agrees shape me clock told pairs new (with_sheet id acked s) × (top.0 < STAMP_LIMIT)
  counts_fast top e =
      let all = counted_fast shape me rank t id s within top (by_sheet (Some (Fast top)) e) in
      (all.0, keeps_now acked all.1 low, all.2 low)

  pub counts_slow : (top : Stamp) → choice_after_ack rank t (sheet_at shape me sheets id) ≡ Some (Slow top)
      → (counted shape me rank id t s ≡ (with_sheet id (putting shape me.rank.0 top.0 acked) s, put_to_vote shape me me.rank.0 top.0 acked.command))
      × Agrees shape me clock told pairs new (with_sheet id (putting shape me.rank.0 top.0 acked) s)
  counts_slow top e =
      let all = counted_slow shape me rank t id s within top (by_sheet (Some (Slow top)) e) in
      (all.0, keeps_now (putting shape me.rank.0 top.0 acked) all.1 (putting_low shape me.rank.0 top.0 acked (all.2 low) low))

  quietly : (moved : Step) (sheet : Sheet) → Quiet shape me id (s.sheets id) acked s moved sheet → with_acknowledgement rank t (site_sheet shape me (s.sheets id)) ≡ site_sheet shape me sheet
      → (moved.1 ≡ []) × Agrees shape me clock told pairs new moved.0
  quietly moved sheet kept_only e = (refl, keeps_now acked e low)
  quietly moved sheet refused e = (refl, put_back shape me clock told pairs new id s (keeps_now (s.sheets id) e (h.low id)))

  pub counts_none : choice_after_ack rank t (sheet_at shape me sheets id) ≡ None
      → ((counted shape me rank id t s).1 ≡ []) × Agrees shape me clock told pairs new (counted shape me rank id t s).0
  counts_none e =
      quietly (counted shape me rank id t s) (with_acknowledgement rank t (site_sheet shape me (s.sheets id))).sheet
      (counted_none shape me rank t id s within (by_sheet None e)) refl
