-- How a stamp that is accepted goes on with the state of the rules.
use Rattle.std.proofs.Common.{◌≡◌, ℕ, ◌<◌, ◌≤◌, Bool, true, false, ◌&&◌, cond, List, [], refl, sym, ap, subst, ◌∙◌}
use Rattle.std.specs.Prelude.{nat_lt}
use Rattle.std.proofs.lemmas.Bool.{cond-true, cond-false, le-ltb, lt-ltb}
use Rattle.indexmap.specs.IndexMap.{IndexMap}
use Rattle.tp_base.proofs.SameNames.{same_id_refl}
use Rattle.tp_base.specs.Limits.{STAMP_LIMIT}
use Rattle.tp_base.specs.Names.{same_id}
use Rattle.tp_base.specs.declared.names.ActorName.{ActorName}
use Rattle.tp_base.specs.declared.names.CommandId.{CommandId}
use Rattle.tp_base.specs.declared.names.Pair.{Pair}
use Rattle.tp_base.specs.declared.names.Site.{Site}
use Rattle.tp_ops.specs.declared.command.Command.{Command}
use Rattle.tp_process.proofs.Learning.{changed, changed_again, put_back}
use Rattle.tp_process.proofs.LowStamps.{with_accepted_low}
use Rattle.tp_process.proofs.Proposing.{keeps}
use Rattle.tp_process.specs.Sheets.{ChangesSheet, sheet_at}
use Rattle.tp_process.specs.State.{Agrees, site_sheet}
use Rattle.tp_rules.specs.Addresses.{is_command_at}
use Rattle.tp_rules.specs.Process.{Step, ProcessState, accept_and_vote, on_consensus, with_sheet}
use Rattle.tp_rules.specs.Sheet.{Sheet, can_accept, with_command, with_accepted}
use Rattle.tp_sheet.specs.SiteSheet.{SiteSheet, with_acceptance, with_sheet as keeping}
use Rattle.tp_topology.specs.Shape.{Shape}

-- the command is kept beside what its sheet has become
pub kept_too : {S : Type 0} (shape : Shape) (site : Site) (clock told : ℕ) (pairs : List Pair) (mid new : IndexMap CommandId SiteSheet S)
    (c copy : Command) (sheet : Sheet) (s : ProcessState) → is_command_at shape site.partition.0 c ≡ true → copy ≡ c
    → ChangesSheet shape site mid new copy.id (keeping (with_command copy (sheet_at shape site mid copy.id).sheet) (sheet_at shape site mid copy.id))
    → Agrees shape site clock told pairs mid (with_sheet c.id sheet s)
    → Agrees shape site clock told pairs new (with_sheet c.id (with_command c sheet) s)
kept_too shape site clock told pairs mid new c copy sheet s homed same change h =
    changed_again shape site clock told pairs new c.id sheet (with_command c sheet) s
    (subst (λ (x : Sheet). Agrees shape site clock told pairs new (with_sheet c.id (with_command c x) (with_sheet c.id sheet s)))
    (cond-true (same_id c.id c.id) sheet (s.sheets c.id) (same_id_refl c.id))
    (keeps shape site clock told pairs mid c (with_sheet c.id sheet s) h new copy homed same change))

-- no ballot at or past the limit is taken

over_limit : (can : Bool) (b : ℕ) → STAMP_LIMIT ≤ b → (can && nat_lt b STAMP_LIMIT) ≡ false
over_limit true b over = le-ltb b STAMP_LIMIT over
over_limit false b over = refl

pub consensus_over : (site : Site) (from : ActorName) (c : Command) (t b : ℕ) (s : ProcessState) → STAMP_LIMIT ≤ b → on_consensus site from c t b s ≡ (s, [])
consensus_over site from c t b s over =
    cond-false {A = Step} (can_accept site.partition.0 b (s.sheets c.id) && nat_lt b STAMP_LIMIT) (accept_and_vote site from c t b (s.sheets c.id) s) (s, [])
    (over_limit (can_accept site.partition.0 b (s.sheets c.id)) b over)

module _ {S : Type 0} (shape : Shape) (site : Site) (clock told : ℕ) (pairs : List Pair) (sheets mid : IndexMap CommandId SiteSheet S)
    (c : Command) (t b : ℕ) (s : ProcessState)
    (change : ChangesSheet shape site sheets mid c.id (with_acceptance t b (sheet_at shape site sheets c.id)))
    (h : Agrees shape site clock told pairs sheets s) where
  -- whether the sheet accepts at the ballot, by the table and by the state
  abbrev pub accepts : Bool
  accepts = can_accept (sheet_at shape site sheets c.id).site.partition.0 b (sheet_at shape site sheets c.id).sheet

  abbrev accepts_in : Bool
  accepts_in = can_accept site.partition.0 b (s.sheets c.id)

  same_test : (can : Bool) → accepts ≡ can → accepts_in ≡ can
  same_test can e = sym (ap (λ (x : SiteSheet). can_accept x.site.partition.0 b x.sheet) (h.sheets_are c.id)) ∙ e

  abbrev after : Bool → Sheet
  after can = cond can (with_accepted b t (s.sheets c.id)) (s.sheets c.id)

  is_after : (can : Bool) → accepts ≡ can → with_acceptance t b (sheet_at shape site sheets c.id) ≡ site_sheet shape site (after can)
  is_after can e =
      ap (λ (x : SiteSheet). with_acceptance t b x) (h.sheets_are c.id)
      ∙ ap (λ (a : Bool). site_sheet shape site (after a)) (same_test can e)

  pub consensus_refused : (from : ActorName) → accepts ≡ false → (on_consensus site from c t b s ≡ (s, [])) × Agrees shape site clock told pairs mid s
  consensus_refused from e = (
    cond-false {A = Step} (accepts_in && nat_lt b STAMP_LIMIT) (accept_and_vote site from c t b (s.sheets c.id) s) (s, [])
        (ap (λ (can : Bool). can && nat_lt b STAMP_LIMIT) (same_test false e)),
    put_back shape site clock told pairs mid c.id s
        (changed shape site clock told pairs sheets mid c.id (with_acceptance t b (sheet_at shape site sheets c.id)) (s.sheets c.id) s change
        (is_after false e) (h.low c.id) h),
  )

  pub consensus_taken : (from : ActorName) → accepts ≡ true → b < STAMP_LIMIT → on_consensus site from c t b s ≡ accept_and_vote site from c t b (s.sheets c.id) s
  consensus_taken from e low =
      cond-true {A = Step} (accepts_in && nat_lt b STAMP_LIMIT) (accept_and_vote site from c t b (s.sheets c.id) s) (s, [])
      (ap (λ (can : Bool). can && nat_lt b STAMP_LIMIT) (same_test true e) ∙ lt-ltb b STAMP_LIMIT low)

  pub accepts_now : accepts ≡ true → Agrees shape site clock told pairs mid (with_sheet c.id (with_accepted b t (s.sheets c.id)) s)
  accepts_now e =
      changed shape site clock told pairs sheets mid c.id (with_acceptance t b (sheet_at shape site sheets c.id)) (with_accepted b t (s.sheets c.id)) s change
      (is_after true e) (with_accepted_low b t (s.sheets c.id) (h.low c.id)) h
