-- What a rank's acknowledgement leads to, by the sheet and by the rules.
use Rattle.std.proofs.Common.{◌≡◌, ℕ, ◌<◌, Bool, true, false, ◌&&◌, cond, List, [], Option, Some, None, refl, ap, subst}
use Rattle.std.proofs.lemmas.Bool.{cond_both}
use Rattle.tp_base.specs.Limits.{STAMP_LIMIT, is_from}
use Rattle.tp_base.specs.declared.names.ActorName.TheVariants.{Process}
use Rattle.tp_base.specs.declared.names.CommandId.{CommandId}
use Rattle.tp_base.specs.declared.names.Site.{Site}
use Rattle.tp_base.specs.declared.names.Stamp.{Stamp}
use Rattle.tp_process.proofs.LowStamps.{greatest_low}
use Rattle.tp_process.specs.State.{AreLow, IsLow, site_sheet}
use Rattle.tp_quorum.specs.Choice.{fast_choice, greatest, is_fast, present}
use Rattle.tp_quorum.specs.declared.choice.FastChoice.{FastChoice}
use Rattle.tp_quorum.specs.declared.choice.FastChoice.TheVariants.{Fast, Slow}
use Rattle.tp_rules.specs.Addresses.{site as site_of}
use Rattle.tp_rules.specs.Process.{Step, ProcessState, follow_choice, decided, on_propose_ack, put_to_vote, with_sheet}
use Rattle.tp_rules.specs.Sheet.{Sheet, acknowledged, can_acknowledge, is_full, putting, ring_rule}
use Rattle.tp_sheet.specs.SiteSheet.{choice_after_ack, put_by, with_acknowledgement}
use Rattle.tp_topology.specs.Shape.{Shape}

-- the row of the rules for a rank of the shape
abbrev pub counted : Shape → Site → ℕ → CommandId → ℕ → ProcessState → Step
counted shape me rank id t s = on_propose_ack (ring_rule shape) me (Process (site_of 0 rank)) id t s

module _ (shape : Shape) (me : Site) (id : CommandId) (sheet acked : Sheet) (s : ProcessState) where
  abbrev choice_if : Bool → Bool → FastChoice → Option FastChoice
  choice_if b f choice = cond b (cond f (Some choice) None) None

  abbrev sheet_if : Bool → Bool → FastChoice → Sheet
  sheet_if b f choice = cond b (put_by shape me.rank.0 (choice_if b f choice) acked) sheet

  abbrev row_if : Bool → Bool → FastChoice → Step
  row_if b f choice = cond {A = Step} b (cond {A = Step} f (follow_choice (ring_rule shape) me id choice acked s) (with_sheet id acked s, [])) (s, [])

  fast_if : (w b f : Bool) (choice : FastChoice) (top : Stamp) → w ≡ true → choice_if (w && b) f choice ≡ Some (Fast top)
      → (row_if b f choice ≡ decided shape me id top.0 acked s) × (sheet_if (w && b) f choice ≡ acked) × (choice ≡ Fast top)
  fast_if true true true (Fast t) top within e =
      let same : t ≡ top = cc in
      (ap (λ (n : Stamp). decided shape me id n.0 acked s) same, refl, ap (λ (n : Stamp). Fast n) same)
  fast_if true true true (Slow t) top within e = absurd cc
  fast_if true true false choice top within e = absurd cc
  fast_if true false f choice top within e = absurd cc
  fast_if false b f choice top within e = absurd cc

  slow_if : (w b f : Bool) (choice : FastChoice) (top : Stamp) → w ≡ true → choice_if (w && b) f choice ≡ Some (Slow top)
      → (row_if b f choice ≡ (with_sheet id (putting shape me.rank.0 top.0 acked) s, put_to_vote shape me me.rank.0 top.0 acked.command))
      × (sheet_if (w && b) f choice ≡ putting shape me.rank.0 top.0 acked)
      × (choice ≡ Slow top)
  slow_if true true true (Slow t) top within e =
      let same : t ≡ top = cc in (
        ap (λ (n : Stamp). let moved : Step = (with_sheet id (putting shape me.rank.0 n.0 acked) s, put_to_vote shape me me.rank.0 n.0 acked.command) in moved) same,
        ap (λ (n : Stamp). putting shape me.rank.0 n.0 acked) same,
        ap (λ (n : Stamp). Slow n) same,
      )
  slow_if true true true (Fast t) top within e = absurd cc
  slow_if true true false choice top within e = absurd cc
  slow_if true false f choice top within e = absurd cc
  slow_if false b f choice top within e = absurd cc

  -- what a rank's acknowledgement comes to without a choice: it is kept, or it doesn't count
  pub data Quiet : Step → Sheet → Type 0 where
    kept_only : Quiet (with_sheet id acked s, []) acked
    refused : Quiet (s, []) sheet

  quiet_if : (w b f : Bool) (choice : FastChoice) → w ≡ true → choice_if (w && b) f choice ≡ None
      → Quiet (row_if b f choice) (sheet_if (w && b) f choice)
  quiet_if true true true choice within e = absurd cc
  quiet_if true true false choice within e = kept_only
  quiet_if true false f choice within e = refused
  quiet_if false b f choice within e = absurd cc

top_low : (shape : Shape) (table : List (Option ℕ)) (top : Stamp) → AreLow table → fast_choice shape (present table) ≡ Fast top → top.0 < STAMP_LIMIT
unfolding fast_choice
top_low shape table top low = cond_both {A = FastChoice} (is_fast shape (present table)) (Fast best) (Slow best) (λ choice. choice ≡ Fast top → top.0 < STAMP_LIMIT)
    (λ t e. let same : best ≡ top = cc in subst (λ (n : Stamp). n.0 < STAMP_LIMIT) same (greatest_low table low))
    (λ f e. absurd cc)
  where
    best : Stamp
    best = record { 0 = greatest (present table) }

slow_top_low : (shape : Shape) (table : List (Option ℕ)) (top : Stamp) → AreLow table → fast_choice shape (present table) ≡ Slow top → top.0 < STAMP_LIMIT
unfolding fast_choice
slow_top_low shape table top low = cond_both {A = FastChoice} (is_fast shape (present table)) (Fast best) (Slow best) (λ choice. choice ≡ Slow top → top.0 < STAMP_LIMIT)
    (λ t e. absurd cc)
    (λ f e. let same : best ≡ top = cc in subst (λ (n : Stamp). n.0 < STAMP_LIMIT) same (greatest_low table low))
  where
    best : Stamp
    best = record { 0 = greatest (present table) }

module _ (shape : Shape) (me : Site) (rank t : ℕ) (id : CommandId) (s : ProcessState) (within : is_from 1 shape.replicas rank ≡ true) where
  abbrev sheet : Sheet
  sheet = s.sheets id

  abbrev acked : Sheet
  acked = acknowledged rank t sheet

  abbrev can : Bool
  can = can_acknowledge (ring_rule shape) me.partition.0 me.rank.0 rank sheet

  abbrev best : FastChoice
  best = fast_choice shape (present acked.acknowledged)

  pub counted_fast : (top : Stamp) → choice_after_ack rank t (site_sheet shape me sheet) ≡ Some (Fast top)
      → (counted shape me rank id t s ≡ decided shape me id top.0 acked s)
      × (with_acknowledgement rank t (site_sheet shape me sheet) ≡ site_sheet shape me acked)
      × (IsLow shape acked → top.0 < STAMP_LIMIT)
  counted_fast top e =
      let all = fast_if shape me id sheet acked s (is_from 1 shape.replicas rank) can (is_full shape acked) best top within e in
      (all.0, ap (λ (kept : Sheet). site_sheet shape me kept) all.1, λ low. top_low shape acked.acknowledged top low.acknowledged all.2)

  pub counted_slow : (top : Stamp) → choice_after_ack rank t (site_sheet shape me sheet) ≡ Some (Slow top)
      → (counted shape me rank id t s ≡ (with_sheet id (putting shape me.rank.0 top.0 acked) s, put_to_vote shape me me.rank.0 top.0 acked.command))
      × (with_acknowledgement rank t (site_sheet shape me sheet) ≡ site_sheet shape me (putting shape me.rank.0 top.0 acked))
      × (IsLow shape acked → top.0 < STAMP_LIMIT)
  counted_slow top e =
      let all = slow_if shape me id sheet acked s (is_from 1 shape.replicas rank) can (is_full shape acked) best top within e in
      (all.0, ap (λ (kept : Sheet). site_sheet shape me kept) all.1, λ low. slow_top_low shape acked.acknowledged top low.acknowledged all.2)

  pub counted_none : choice_after_ack rank t (site_sheet shape me sheet) ≡ None
      → Quiet shape me id sheet acked s (counted shape me rank id t s) (with_acknowledgement rank t (site_sheet shape me sheet)).sheet
  counted_none e = quiet_if shape me id sheet acked s (is_from 1 shape.replicas rank) can (is_full shape acked) best within e
