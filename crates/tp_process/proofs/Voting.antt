-- How the sheets go on with the state of the rules, as a rank votes.
use Rattle.std.proofs.Common.{◌≡◌, ℕ, ◌<◌, Bool, true, false, ◌&&◌, cond, List, [], Option, Some, None, refl, sym, ap, ◌∙◌}
use Rattle.indexmap.specs.IndexMap.{IndexMap}
use Rattle.tp_base.specs.Limits.{STAMP_LIMIT, is_from}
use Rattle.tp_base.specs.declared.names.ActorName.TheVariants.{Process}
use Rattle.tp_base.specs.declared.names.CommandId.{CommandId}
use Rattle.tp_base.specs.declared.names.Pair.{Pair}
use Rattle.tp_base.specs.declared.names.Site.{Site}
use Rattle.tp_process.proofs.Gathering.{Quiet, kept_only, refused}
use Rattle.tp_process.proofs.Learning.{changed, put_back}
use Rattle.tp_process.proofs.LowStamps.{decided_low, with_vote_low}
use Rattle.tp_process.specs.Sheets.{ChangesSheet, sheet_at}
use Rattle.tp_process.specs.State.{Agrees, IsLow, site_sheet}
use Rattle.tp_rules.specs.Addresses.{site as site_of}
use Rattle.tp_rules.specs.Process.{Step, ProcessState, decided, on_consensus_ack, voted, with_sheet}
use Rattle.tp_rules.specs.Sheet.{Sheet, can_vote, ring_rule, stamp_decided, with_vote}
use Rattle.tp_sheet.specs.SiteSheet.{SiteSheet, decision_after_vote, with_vote_of}
use Rattle.tp_topology.specs.Shape.{Shape}

-- the row of the rules for a rank of the shape
abbrev pub counted_vote : Shape → Site → ℕ → CommandId → ℕ → ProcessState → Step
counted_vote shape me rank id b s = on_consensus_ack (ring_rule shape) me (Process (site_of 0 rank)) id b s

-- by whether the rank is one, its vote counts, and what is decided with it
module _ (shape : Shape) (me : Site) (id : CommandId) (sheet votes : Sheet) (s : ProcessState) where
  abbrev decision_if : Bool → Option ℕ → Option ℕ
  decision_if b o = cond b o None

  abbrev row_if : Bool → Option ℕ → Step
  row_if b o = cond {A = Step} b (voted (ring_rule shape) me id o votes s) (s, [])

  some_if : (w b : Bool) (o : Option ℕ) (t : ℕ) → w ≡ true → decision_if (w && b) o ≡ Some t
      → (row_if b o ≡ decided shape me id t votes s) × (cond (w && b) votes sheet ≡ votes) × (o ≡ Some t)
  some_if true true o t within e = (ap (λ (x : Option ℕ). voted (ring_rule shape) me id x votes s) e, refl, e)
  some_if true false o t within e = absurd cc
  some_if false b o t within e = absurd cc

  none_if : (w b : Bool) (o : Option ℕ) → w ≡ true → decision_if (w && b) o ≡ None → Quiet shape me id sheet votes s (row_if b o) (cond (w && b) votes sheet)
  none_if true true None within e = kept_only
  none_if true true (Some t) within e = absurd cc
  none_if true false o within e = refused
  none_if false b o within e = absurd cc

module _ {S : Type 0} (shape : Shape) (me : Site) (clock told : ℕ) (pairs : List Pair) (sheets new : IndexMap CommandId SiteSheet S)
    (rank b : ℕ) (id : CommandId) (s : ProcessState)
    (change : ChangesSheet shape me sheets new id (with_vote_of rank b (sheet_at shape me sheets id)))
    (h : Agrees shape me clock told pairs sheets s) (within : is_from 1 shape.replicas rank ≡ true) where
  abbrev old : Sheet
  old = s.sheets id

  abbrev votes : Sheet
  votes = with_vote rank old

  abbrev can : Bool
  can = can_vote me.partition.0 b old

  low : IsLow shape votes
  low = with_vote_low rank old (h.low id)

  by_sheet : (o : Option ℕ) → decision_after_vote rank b (sheet_at shape me sheets id) ≡ o → decision_after_vote rank b (site_sheet shape me old) ≡ o
  by_sheet o e = ap (λ (kept : SiteSheet). decision_after_vote rank b kept) (sym (h.sheets_are id)) ∙ e

  -- what is kept now
  keeps_now : (sheet : Sheet) → with_vote_of rank b (site_sheet shape me old) ≡ site_sheet shape me sheet → IsLow shape sheet
      → Agrees shape me clock told pairs new (with_sheet id sheet s)
  keeps_now sheet is_kept is_low =
      changed shape me clock told pairs sheets new id (with_vote_of rank b (sheet_at shape me sheets id)) sheet s change
      (ap (λ (kept : SiteSheet). with_vote_of rank b kept) (h.sheets_are id) ∙ is_kept) is_low h

  pub votes_some : (t : ℕ) → decision_after_vote rank b (sheet_at shape me sheets id) ≡ Some t
      → (counted_vote shape me rank id b s ≡ decided shape me id t votes s) × Agrees shape me clock told pairs new (with_sheet id votes s) × (t < STAMP_LIMIT)
  votes_some t e =
      let all = some_if shape me id old votes s (is_from 1 shape.replicas rank) can (stamp_decided shape votes) t within (by_sheet (Some t) e) in (
        all.0,
        keeps_now votes (ap (λ (kept : Sheet). site_sheet shape me kept) all.1) low,
        decided_low shape votes.put t low.put all.2,
      )

  quietly : (moved : Step) (sheet : Sheet) → Quiet shape me id old votes s moved sheet → with_vote_of rank b (site_sheet shape me old) ≡ site_sheet shape me sheet
      → (moved.1 ≡ []) × Agrees shape me clock told pairs new moved.0
  quietly moved sheet kept_only e = (refl, keeps_now votes e low)
  quietly moved sheet refused e = (refl, put_back shape me clock told pairs new id s (keeps_now old e (h.low id)))

  pub votes_none : decision_after_vote rank b (sheet_at shape me sheets id) ≡ None
      → ((counted_vote shape me rank id b s).1 ≡ []) × Agrees shape me clock told pairs new (counted_vote shape me rank id b s).0
  votes_none e =
      quietly (counted_vote shape me rank id b s) (with_vote_of rank b (site_sheet shape me old)).sheet
      (none_if shape me id old votes s (is_from 1 shape.replicas rank) can (stamp_decided shape votes) within (by_sheet None e)) refl
