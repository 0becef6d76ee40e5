-- How a proposal goes on with the state of the rules.
use Rattle.std.proofs.Common.{◌≡◌, ℕ, ◌+◌, ◌-◌, ◌<◌, ◌≤◌, Bool, true, false, ◌&&◌, cond, List, [], inl, inr, max, refl, sym, ap, subst, ◌∙◌, arith}
use Rattle.std.specs.Prelude.{◌==◌, nat_lt}
use Rattle.std.proofs.lemmas.Bool.{cond_both, cond-true, cond-false, lt-ltb, le-ltb, ltb-true, ltb-false, and_parts}
use Rattle.indexmap.specs.IndexMap.{IndexMap}
use Rattle.tp_base.specs.Limits.{STAMP_LIMIT}
use Rattle.tp_base.specs.Promises.{proposed_stamp}
use Rattle.tp_base.specs.declared.names.ActorName.{ActorName}
use Rattle.tp_base.specs.declared.names.CommandId.{CommandId}
use Rattle.tp_base.specs.declared.names.Made.TheVariants.{Proposal}
use Rattle.tp_base.specs.declared.names.Pair.{Pair}
use Rattle.tp_base.specs.declared.names.Site.{Site}
use Rattle.tp_ops.specs.declared.command.Command.{Command}
use Rattle.tp_process.proofs.Learning.{changed}
use Rattle.tp_process.proofs.LowStamps.{acknowledged_low, kept_low, max_cases, with_proposal_low}
use Rattle.tp_process.proofs.Unheeded.{both_same}
use Rattle.tp_process.specs.Sheets.{ChangesSheet, sheet_at}
use Rattle.tp_process.specs.State.{Agrees, IsLow}
use Rattle.tp_rules.specs.Addresses.{is_command_at}
use Rattle.tp_rules.specs.Process.{Step, ProcessState, next_stamp, on_propose, on_submit, propose_and_acknowledge, submitted, with_room, with_sheet}
use Rattle.tp_rules.specs.Sheet.{Sheet, acknowledged, acknowledged_own, can_acknowledge, is_fresh, with_command, ring_rule, with_proposal}
use Rattle.tp_sheet.specs.SiteSheet.{SiteSheet, with_own_ack, with_sheet as keeping}
use Rattle.tp_topology.specs.Shape.{Shape}

-- a step that is taken where a test passes, and has room where another one does
pub room_taken : (s : ProcessState) (moved : Step) (b r : Bool) → (b && r) ≡ true → nat_lt moved.0.clock STAMP_LIMIT ≡ r → with_room s (cond {A = Step} b moved (s, [])) ≡ moved
room_taken s moved true true e room = cond-true {A = Step} (nat_lt moved.0.clock STAMP_LIMIT) moved (s, []) room
room_taken s moved true false e room = absurd cc
room_taken s moved false r e room = absurd cc

pub room_refused : (s : ProcessState) (moved : Step) (b r : Bool) → (b && r) ≡ false → nat_lt moved.0.clock STAMP_LIMIT ≡ r → with_room s (cond {A = Step} b moved (s, [])) ≡ (s, [])
room_refused s moved true true e room = absurd cc
room_refused s moved true false e room = cond-false {A = Step} (nat_lt moved.0.clock STAMP_LIMIT) moved (s, []) room
room_refused s moved false r e room = both_same {X = Step} (nat_lt s.clock STAMP_LIMIT) (s, [])

and_three : (a b c : Bool) → (a && (b && c)) ≡ ((a && b) && c)
and_three true b c = refl
and_three false b c = refl

pub later : (floor clock : ℕ) → clock < proposed_stamp floor clock
later floor clock = elim (max_cases floor (clock + 1)) [
  | inl e ↦ let low : clock + 1 ≤ max floor (clock + 1) = at_least floor (clock + 1) in omega (arith, low)
  | inr e ↦ omega (arith, e)
]
  where
    at_least : (m n : ℕ) → n ≤ max m n
    at_least m n = grind arith

-- a proposal's stamp is below the limit just where the clock is below the last number under it
pub stamp_low : (floor clock : ℕ) → floor < STAMP_LIMIT → nat_lt clock (STAMP_LIMIT - 1) ≡ true → proposed_stamp floor clock < STAMP_LIMIT
stamp_low floor clock low room = elim (max_cases floor (clock + 1)) [
  | inl e ↦ omega (arith, e, low)
  | inr e ↦ let under = ltb-true clock (STAMP_LIMIT - 1) room in omega (arith, e, under)
]

stamp_high : (floor clock : ℕ) → nat_lt clock (STAMP_LIMIT - 1) ≡ false → STAMP_LIMIT ≤ proposed_stamp floor clock
stamp_high floor clock full =
    let over = ltb-false clock (STAMP_LIMIT - 1) full in
    let more = later floor clock in
    omega (arith, over, more)

pub same_room : (floor clock : ℕ) → floor < STAMP_LIMIT → nat_lt (proposed_stamp floor clock) STAMP_LIMIT ≡ nat_lt clock (STAMP_LIMIT - 1)
same_room floor clock low = go (nat_lt clock (STAMP_LIMIT - 1)) refl
  where
    go : (b : Bool) → nat_lt clock (STAMP_LIMIT - 1) ≡ b → nat_lt (proposed_stamp floor clock) STAMP_LIMIT ≡ b
    go true e = lt-ltb (proposed_stamp floor clock) STAMP_LIMIT (stamp_low floor clock low e)
    go false e = le-ltb (proposed_stamp floor clock) STAMP_LIMIT (stamp_high floor clock e)

module _ {S : Type 0} (shape : Shape) (site : Site) (clock told : ℕ) (pairs : List Pair) (sheets : IndexMap CommandId SiteSheet S) (c : Command) (s : ProcessState)
    (h : Agrees shape site clock told pairs sheets s) where
  -- whether the process proposes, by its fields and by the state
  abbrev pub proposes : Bool
  proposes = is_fresh (sheet_at shape site sheets c.id).site.partition.0 (sheet_at shape site sheets c.id).sheet && nat_lt clock (STAMP_LIMIT - 1)

  abbrev proposes_in : Bool
  proposes_in = is_fresh site.partition.0 (s.sheets c.id) && nat_lt s.clock (STAMP_LIMIT - 1)

  same_test : proposes ≡ proposes_in
  same_test =
      ap (λ (x : SiteSheet). is_fresh x.site.partition.0 x.sheet && nat_lt clock (STAMP_LIMIT - 1)) (h.sheets_are c.id)
      ∙ ap (λ (n : ℕ). is_fresh site.partition.0 (s.sheets c.id) && nat_lt n (STAMP_LIMIT - 1)) h.clock_is

  pub submit_refused : ((c.home.0 == site.rank.0) && proposes) ≡ false → with_room s (on_submit (ring_rule shape) site c s) ≡ (s, [])
  submit_refused e =
      room_refused s (submitted (ring_rule shape) site c (next_stamp 0 s) (s.sheets c.id) s) ((c.home.0 == site.rank.0) && is_fresh site.partition.0 (s.sheets c.id)) (nat_lt s.clock (STAMP_LIMIT - 1))
      (sym (and_three (c.home.0 == site.rank.0) (is_fresh site.partition.0 (s.sheets c.id)) (nat_lt s.clock (STAMP_LIMIT - 1))) ∙ ap (λ (b : Bool). (c.home.0 == site.rank.0) && b) (sym same_test) ∙ e)
      (same_room 0 s.clock (omega arith))

  pub propose_refused : (from : ActorName) (floor : ℕ) → floor < STAMP_LIMIT → proposes ≡ false → with_room s (on_propose (ring_rule shape) site from c floor s) ≡ (s, [])
  propose_refused from floor low e =
      room_refused s (propose_and_acknowledge (ring_rule shape) site from c (next_stamp floor s) (s.sheets c.id) s) (is_fresh site.partition.0 (s.sheets c.id)) (nat_lt s.clock (STAMP_LIMIT - 1))
      (sym same_test ∙ e)
      (same_room floor s.clock low)

  -- where it proposes, its stamp is above the clock, and below the limit
  pub stamp_fits : (floor t : ℕ) → floor < STAMP_LIMIT → t ≡ proposed_stamp floor clock → proposes ≡ true → (s.clock < t) × (t < STAMP_LIMIT)
  stamp_fits floor t low is_stamp e =
      let same : proposed_stamp floor s.clock ≡ t = ap (λ (n : ℕ). proposed_stamp floor n) (sym h.clock_is) ∙ sym is_stamp in
      let room : nat_lt s.clock (STAMP_LIMIT - 1) ≡ true = (and_parts (is_fresh site.partition.0 (s.sheets c.id)) (nat_lt s.clock (STAMP_LIMIT - 1)) (sym same_test ∙ e)).1 in
      (subst (λ (n : ℕ). s.clock < n) same (later floor s.clock), subst (λ (n : ℕ). n < STAMP_LIMIT) same (stamp_low floor s.clock low room))

  pub submit_taken : (t : ℕ) → t ≡ proposed_stamp 0 clock → ((c.home.0 == site.rank.0) && proposes) ≡ true
      → with_room s (on_submit (ring_rule shape) site c s) ≡ submitted (ring_rule shape) site c t (s.sheets c.id) s
  submit_taken t is_stamp e =
      room_taken s (submitted (ring_rule shape) site c (next_stamp 0 s) (s.sheets c.id) s) ((c.home.0 == site.rank.0) && is_fresh site.partition.0 (s.sheets c.id)) (nat_lt s.clock (STAMP_LIMIT - 1))
      (sym (and_three (c.home.0 == site.rank.0) (is_fresh site.partition.0 (s.sheets c.id)) (nat_lt s.clock (STAMP_LIMIT - 1))) ∙ ap (λ (b : Bool). (c.home.0 == site.rank.0) && b) (sym same_test) ∙ e)
      (same_room 0 s.clock (omega arith))
      ∙ ap (λ (n : ℕ). submitted (ring_rule shape) site c n (s.sheets c.id) s) (ap (λ (n : ℕ). proposed_stamp 0 n) (sym h.clock_is) ∙ sym is_stamp)

  pub propose_taken : (from : ActorName) (floor t : ℕ) → floor < STAMP_LIMIT → t ≡ proposed_stamp floor clock → proposes ≡ true
      → with_room s (on_propose (ring_rule shape) site from c floor s) ≡ propose_and_acknowledge (ring_rule shape) site from c t (s.sheets c.id) s
  propose_taken from floor t low is_stamp e =
      room_taken s (propose_and_acknowledge (ring_rule shape) site from c (next_stamp floor s) (s.sheets c.id) s) (is_fresh site.partition.0 (s.sheets c.id)) (nat_lt s.clock (STAMP_LIMIT - 1))
      (sym same_test ∙ e)
      (same_room floor s.clock low)
      ∙ ap (λ (n : ℕ). propose_and_acknowledge (ring_rule shape) site from c n (s.sheets c.id) s) (ap (λ (n : ℕ). proposed_stamp floor n) (sym h.clock_is) ∙ sym is_stamp)

  -- the sheet of a command that is kept, with the own proposal, and acknowledged at its home
  pub keeps : (new : IndexMap CommandId SiteSheet S) (copy : Command) → is_command_at shape site.partition.0 c ≡ true → copy ≡ c
      → ChangesSheet shape site sheets new copy.id (keeping (with_command copy (sheet_at shape site sheets copy.id).sheet) (sheet_at shape site sheets copy.id))
      → Agrees shape site clock told pairs new (with_sheet c.id (with_command c (s.sheets c.id)) s)
  keeps new copy homed same change =
      let now : ChangesSheet shape site sheets new c.id (keeping (with_command c (sheet_at shape site sheets c.id).sheet) (sheet_at shape site sheets c.id)) =
      subst (λ (k : Command). ChangesSheet shape site sheets new k.id (keeping (with_command k (sheet_at shape site sheets k.id).sheet) (sheet_at shape site sheets k.id))) same change in
      changed shape site clock told pairs sheets new c.id _ (with_command c (s.sheets c.id)) s now
      (ap (λ (old : SiteSheet). keeping (with_command c old.sheet) old) (h.sheets_are c.id)) (kept_low site.partition.0 c (s.sheets c.id) homed (h.low c.id)) h

  abbrev pub with_own_proposal : ℕ → Command → Sheet → Sheet
  with_own_proposal t k sheet = with_proposal t Proposal (with_command k sheet)

  proposal_low : (t : ℕ) (sheet : Sheet) → is_command_at shape site.partition.0 c ≡ true → IsLow shape sheet → IsLow shape (with_own_proposal t c sheet)
  proposal_low t sheet homed low = with_proposal_low t Proposal (with_command c sheet) (kept_low site.partition.0 c sheet homed low)

  pub proposes_now : (new : IndexMap CommandId SiteSheet S) (copy : Command) (t : ℕ) → is_command_at shape site.partition.0 c ≡ true → copy ≡ c
      → ChangesSheet shape site sheets new copy.id (keeping (with_own_proposal t copy (sheet_at shape site sheets copy.id).sheet) (sheet_at shape site sheets copy.id))
      → Agrees shape site clock told pairs new (with_sheet c.id (with_own_proposal t c (s.sheets c.id)) s)
  proposes_now new copy t homed same change =
      let now : ChangesSheet shape site sheets new c.id (keeping (with_own_proposal t c (sheet_at shape site sheets c.id).sheet) (sheet_at shape site sheets c.id)) =
      subst (λ (k : Command). ChangesSheet shape site sheets new k.id (keeping (with_own_proposal t k (sheet_at shape site sheets k.id).sheet) (sheet_at shape site sheets k.id))) same change in
      changed shape site clock told pairs sheets new c.id _ (with_own_proposal t c (s.sheets c.id)) s now
      (ap (λ (old : SiteSheet). keeping (with_own_proposal t c old.sheet) old) (h.sheets_are c.id)) (proposal_low t (s.sheets c.id) homed (h.low c.id)) h

  abbrev own_sheet : ℕ → Sheet
  own_sheet t = acknowledged_own (ring_rule shape) site.partition.0 site.rank.0 t (with_own_proposal t c (s.sheets c.id))

  own_low : (t : ℕ) → is_command_at shape site.partition.0 c ≡ true → t < STAMP_LIMIT → IsLow shape (own_sheet t)
  own_low t homed lt =
      let sheet = with_own_proposal t c (s.sheets c.id) in
      let low = proposal_low t (s.sheets c.id) homed (h.low c.id) in
      cond_both (can_acknowledge (ring_rule shape) site.partition.0 site.rank.0 site.rank.0 sheet) (acknowledged site.rank.0 t sheet) sheet (IsLow shape)
      (λ yes_it_can. acknowledged_low site.rank.0 t sheet lt low) (λ it_cannot. low)

  pub submits_now : (new : IndexMap CommandId SiteSheet S) (copy : Command) (t : ℕ) → is_command_at shape site.partition.0 c ≡ true → copy ≡ c → t < STAMP_LIMIT
      → ChangesSheet shape site sheets new copy.id (with_own_ack t (keeping (with_own_proposal t copy (sheet_at shape site sheets copy.id).sheet) (sheet_at shape site sheets copy.id)))
      → Agrees shape site clock told pairs new (with_sheet c.id (own_sheet t) s)
  submits_now new copy t homed same lt change =
      let now : ChangesSheet shape site sheets new c.id (with_own_ack t (keeping (with_own_proposal t c (sheet_at shape site sheets c.id).sheet) (sheet_at shape site sheets c.id))) =
      subst (λ (k : Command). ChangesSheet shape site sheets new k.id (with_own_ack t (keeping (with_own_proposal t k (sheet_at shape site sheets k.id).sheet) (sheet_at shape site sheets k.id)))) same change in
      changed shape site clock told pairs sheets new c.id _ (own_sheet t) s now
      (ap (λ (old : SiteSheet). with_own_ack t (keeping (with_own_proposal t c old.sheet) old)) (h.sheets_are c.id)) (own_low t homed lt) h
