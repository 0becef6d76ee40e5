-- How a recovery goes on with the state of the rules: the ballot that is tried, and what is told to those who try one.
use Rattle.std.proofs.Common.{◌≡◌, ℕ, ◌-◌, ◌<◌, Bool, true, false, ◌&&◌, cond, List, [], Option, Some, None, is_some, refl, sym, ap, subst, ◌∙◌, arith}
use Rattle.std.proofs.lemmas.Bool.{and_parts, cond-true, cond-false, lt-ltb}
use Rattle.std.proofs.lemmas.Option.{cond_some}
use Rattle.std.specs.Prelude.{is_none, nat_lt}
use Rattle.indexmap.specs.IndexMap.{IndexMap}
use Rattle.tp_base.specs.Limits.{STAMP_LIMIT}
use Rattle.tp_base.specs.Promises.{proposed_stamp}
use Rattle.tp_base.specs.declared.names.ActorName.{ActorName}
use Rattle.tp_base.specs.declared.names.CommandId.{CommandId}
use Rattle.tp_base.specs.declared.names.Made.TheVariants.{Recovery}
use Rattle.tp_base.specs.declared.names.Pair.{Pair}
use Rattle.tp_base.specs.declared.names.Site.{Site}
use Rattle.tp_choice.specs.declared.answer.RecoveryAnswer.{RecoveryAnswer}
use Rattle.tp_ops.specs.declared.command.Command.{Command}
use Rattle.tp_process.proofs.Learning.{changed, put_back}
use Rattle.tp_process.proofs.LowStamps.{kept_low, trying_low, with_ballot_low, with_proposal_low}
use Rattle.tp_process.proofs.Proposing.{later, stamp_low}
use Rattle.tp_process.specs.Sheets.{ChangesSheet, sheet_at}
use Rattle.tp_process.specs.State.{Agrees, agreed_above, site_sheet}
use Rattle.tp_rules.specs.Addresses.{is_command_at}
use Rattle.tp_rules.specs.Process.{Step, ProcessState, answer_with_old_proposal, has_next, answer_recovery, next_stamp, on_rec_by_stamp, on_recover, propose_and_answer, recovering, with_room, with_sheet}
use Rattle.tp_rules.specs.Sheet.{Sheet, is_fresh, is_untouched, with_command, ring_rule, stamp_of, trying, with_ballot, with_proposal}
use Rattle.tp_sheet.specs.SiteSheet.{SiteSheet, answer_of, ballot_by, promise_by, trying_at, with_promise, with_sheet as keeping, with_try}
use Rattle.tp_topology.specs.Ballots.{next_ballot}
use Rattle.tp_topology.specs.Shape.{Shape}

-- the ballot that is tried

module _ (shape : Shape) (me : Site) (id : CommandId) (next : ℕ) (sheet : Sheet) (s : ProcessState) where
  abbrev ballot_if : Bool → Option ℕ
  ballot_if can = cond can (Some next) None

  abbrev row_if : Bool → Step
  row_if can = cond {A = Step} can (recovering shape me id next sheet s) (s, [])

  some_if : (can : Bool) (b : ℕ) → ballot_if can ≡ Some b
      → (row_if can ≡ recovering shape me id b sheet s) × (trying_at shape (ballot_if can) sheet ≡ trying shape b sheet)
  some_if true b e =
      let same : next ≡ b = cc in
      (ap (λ (n : ℕ). recovering shape me id n sheet s) same, ap (λ (n : ℕ). trying shape n sheet) same)
  some_if false b e = absurd cc

  none_if : (can : Bool) → ballot_if can ≡ None → (row_if can ≡ (s, [])) × (trying_at shape (ballot_if can) sheet ≡ sheet)
  none_if true e = absurd cc
  none_if false e = (refl, refl)

module _ {S : Type 0} (shape : Shape) (me : Site) (clock told : ℕ) (pairs : List Pair) (sheets new : IndexMap CommandId SiteSheet S)
    (id : CommandId) (s : ProcessState) (change : ChangesSheet shape me sheets new id (with_try (sheet_at shape me sheets id)))
    (h : Agrees shape me clock told pairs sheets s) where
  abbrev old : Sheet
  old = s.sheets id

  abbrev next : ℕ
  next = next_ballot shape me.rank.0 old.ballot old.tried

  abbrev can : Bool
  can = is_some old.command && is_none (stamp_of old me.partition.0) && has_next old

  by_sheet : (o : Option ℕ) → ballot_by (sheet_at shape me sheets id) ≡ o → ballot_by (site_sheet shape me old) ≡ o
  by_sheet o e = ap (λ (kept : SiteSheet). ballot_by kept) (sym (h.sheets_are id)) ∙ e

  pub recovers_some : (b : ℕ) → ballot_by (sheet_at shape me sheets id) ≡ Some b
      → (on_recover shape me id s ≡ recovering shape me id b old s) × Agrees shape me clock told pairs new (with_sheet id (trying shape b old) s)
  recovers_some b e =
      let all = some_if shape me id next old s can b (by_sheet (Some b) e) in (
        all.0,
        changed shape me clock told pairs sheets new id (with_try (sheet_at shape me sheets id)) (trying shape b old) s change
            (ap (λ (kept : SiteSheet). with_try kept) (h.sheets_are id) ∙ ap (λ (kept : Sheet). site_sheet shape me kept) all.1)
            (trying_low shape b old (h.low id)) h,
      )

  pub recovers_none : ballot_by (sheet_at shape me sheets id) ≡ None
      → (on_recover shape me id s ≡ (s, [])) × Agrees shape me clock told pairs new s
  recovers_none e =
      let all = none_if shape me id next old s can (by_sheet None e) in (
        all.0,
        put_back shape me clock told pairs new id s
            (changed shape me clock told pairs sheets new id (with_try (sheet_at shape me sheets id)) old s change
            (ap (λ (kept : SiteSheet). with_try kept) (h.sheets_are id) ∙ ap (λ (kept : Sheet). site_sheet shape me kept) all.1)
            (h.low id) h),
      )

-- what is told to a recovery

-- a sheet without the partition's stamp is fresh just where it is untouched
pub fresh_is : (p : ℕ) (sheet : Sheet) (t : Bool) → stamp_of sheet p ≡ None → is_fresh p sheet ≡ t → is_untouched sheet ≡ t
fresh_is p sheet t unknown e = grind (arith, unknown, e)

abbrev pub proposed_at : ℕ → Command → SiteSheet → SiteSheet
proposed_at t k old = keeping (with_proposal t Recovery (with_command k old.sheet)) old

promises : (b : ℕ) (x : SiteSheet) → nat_lt x.sheet.ballot b ≡ true → with_promise b x ≡ keeping (with_ballot b x.sheet) x
promises b x above = ap (λ (a : Bool). keeping (cond a (with_ballot b x.sheet) x.sheet) x) above

module _ {S : Type 0} (shape : Shape) (site : Site) (clock told : ℕ) (pairs : List Pair) (sheets : IndexMap CommandId SiteSheet S) (c : Command) (s : ProcessState)
    (h : Agrees shape site clock told pairs sheets s) where
  abbrev sheet : Sheet
  sheet = s.sheets c.id

  has_room : (moved : Step) → moved.0.clock ≡ s.clock → with_room s moved ≡ moved
  has_room moved same =
      cond-true {A = Step} (nat_lt moved.0.clock STAMP_LIMIT) moved (s, []) (lt-ltb moved.0.clock STAMP_LIMIT (subst (λ (n : ℕ). n < STAMP_LIMIT) (sym same) h.room))

  -- whether the process answers at a ballot, by its fields and by the state
  abbrev takes : ℕ → Bool
  takes b = nat_lt (sheet_at shape site sheets c.id).sheet.ballot b && nat_lt b STAMP_LIMIT

  abbrev takes_in : ℕ → Bool
  takes_in b = nat_lt sheet.ballot b && nat_lt b STAMP_LIMIT

  same_test : (b : ℕ) → takes_in b ≡ takes b
  same_test b = sym (ap (λ (kept : SiteSheet). nat_lt kept.sheet.ballot b && nat_lt b STAMP_LIMIT) (h.sheets_are c.id))

  abbrev joining : ActorName → ℕ → Step
  joining from b = answer_recovery (ring_rule shape) site from c b sheet s

  join_refused : (from : ActorName) (b : ℕ) → takes b ≡ false → with_room s (on_rec_by_stamp (ring_rule shape) site from c b None s) ≡ (s, [])
  join_refused from b e =
      ap (λ (moved : Step). with_room s moved) (cond-false {A = Step} (takes_in b) (joining from b) (s, []) (same_test b ∙ e))
      ∙ has_room (s, []) refl

  join_taken : (from : ActorName) (b : ℕ) → takes b ≡ true
      → with_room s (on_rec_by_stamp (ring_rule shape) site from c b None s) ≡ with_room s (joining from b)
  join_taken from b e = ap (λ (moved : Step). with_room s moved) (cond-true {A = Step} (takes_in b) (joining from b) (s, []) (same_test b ∙ e))

  untouched_in : (t : Bool) → is_untouched (sheet_at shape site sheets c.id).sheet ≡ t → is_untouched sheet ≡ t
  untouched_in t e = sym (ap (λ (kept : SiteSheet). is_untouched kept.sheet) (h.sheets_are c.id)) ∙ e

  abbrev late : ActorName → ℕ → Step
  late from b = propose_and_answer (ring_rule shape) site from c b (next_stamp 0 s) sheet s

  abbrev agreeing : ActorName → ℕ → Step
  agreeing from b = answer_with_old_proposal site from c b sheet s

  -- where there is something to tell
  pub join_agrees : (from : ActorName) (b : ℕ) → (nat_lt 0 b && nat_lt b STAMP_LIMIT) ≡ true → is_untouched (sheet_at shape site sheets c.id).sheet ≡ false
      → with_room s (on_rec_by_stamp (ring_rule shape) site from c b None s) ≡ agreed_above site from c b s
  join_agrees from b tried touched = go (nat_lt sheet.ballot b) refl
    where
      low : nat_lt b STAMP_LIMIT ≡ true
      low = (and_parts (nat_lt 0 b) (nat_lt b STAMP_LIMIT) tried).1

      there : (above : Bool) → nat_lt sheet.ballot b ≡ above → takes b ≡ (above && true)
      there above e = sym (same_test b) ∙ ap (λ (x : Bool). x && nat_lt b STAMP_LIMIT) e ∙ ap (λ (x : Bool). above && x) low

      go : (above : Bool) → nat_lt sheet.ballot b ≡ above
          → with_room s (on_rec_by_stamp (ring_rule shape) site from c b None s) ≡ cond {A = Step} above (agreeing from b) (s, [])
      go true e =
          join_taken from b (there true e)
          ∙ ap (λ (moved : Step). with_room s moved) (cond-false {A = Step} (is_untouched sheet) (late from b) (agreeing from b) (untouched_in false touched))
          ∙ has_room (agreeing from b) refl
      go false e = join_refused from b (there false e)

  -- the stamp of the proposal is that of the rules, above the clock and below the limit
  pub late_stamp : (t : ℕ) → t ≡ proposed_stamp 0 clock → next_stamp 0 s ≡ t
  late_stamp t is_stamp = ap (λ (n : ℕ). proposed_stamp 0 n) (sym h.clock_is) ∙ sym is_stamp

  pub late_fits : (t : ℕ) → t ≡ proposed_stamp 0 clock → nat_lt clock (STAMP_LIMIT - 1) ≡ true → (s.clock < t) × (t < STAMP_LIMIT)
  late_fits t is_stamp room =
      let same = late_stamp t is_stamp in
      let below : nat_lt s.clock (STAMP_LIMIT - 1) ≡ true = ap (λ (n : ℕ). nat_lt n (STAMP_LIMIT - 1)) (sym h.clock_is) ∙ room in (
        subst (λ (n : ℕ). s.clock < n) same (later 0 s.clock),
        subst (λ (n : ℕ). n < STAMP_LIMIT) same (stamp_low 0 s.clock (omega arith) below),
      )

  abbrev late_sheet : ℕ → ℕ → Command → Sheet → Sheet
  late_sheet b t k old = with_ballot b (with_proposal t Recovery (with_command k old))

  -- the sheet of a command that is kept, with the proposal and the ballot agreed to
  pub proposes_late_now : (new : IndexMap CommandId SiteSheet S) (copy : Command) (b t : ℕ) → is_command_at shape site.partition.0 c ≡ true → copy ≡ c
      → nat_lt (sheet_at shape site sheets c.id).sheet.ballot b ≡ true
      → ChangesSheet shape site sheets new copy.id (with_promise b (proposed_at t copy (sheet_at shape site sheets copy.id)))
      → Agrees shape site clock told pairs new (with_sheet c.id (late_sheet b t c sheet) s)
  proposes_late_now new copy b t homed same above change =
      let now : ChangesSheet shape site sheets new c.id (with_promise b (proposed_at t c (sheet_at shape site sheets c.id))) =
      subst (λ (k : Command). ChangesSheet shape site sheets new k.id (with_promise b (proposed_at t k (sheet_at shape site sheets k.id)))) same change in
      changed shape site clock told pairs sheets new c.id _ (late_sheet b t c sheet) s now
      (promises b (proposed_at t c (sheet_at shape site sheets c.id)) above
      ∙ ap (λ (old : SiteSheet). keeping (late_sheet b t c old.sheet) old) (h.sheets_are c.id))
      (with_ballot_low b (with_proposal t Recovery (with_command c sheet))
      (with_proposal_low t Recovery (with_command c sheet) (kept_low site.partition.0 c sheet homed (h.low c.id)))) h

-- agreed to a ballot above the one agreed to before

module _ {S : Type 0} (shape : Shape) (site : Site) (clock told : ℕ) (pairs : List Pair) (sheets mid : IndexMap CommandId SiteSheet S)
    (c : Command) (b : ℕ) (s : ProcessState)
    (change : ChangesSheet shape site sheets mid c.id (with_promise b (sheet_at shape site sheets c.id)))
    (h : Agrees shape site clock told pairs sheets s) where
  abbrev own : Sheet
  own = s.sheets c.id

  by_own : (o : Option RecoveryAnswer) → promise_by b (sheet_at shape site sheets c.id) ≡ o → promise_by b (site_sheet shape site own) ≡ o
  by_own o e = ap (λ (x : SiteSheet). promise_by b x) (sym (h.sheets_are c.id)) ∙ e

  is_promised : (above : Bool) → nat_lt own.ballot b ≡ above
      → with_promise b (sheet_at shape site sheets c.id) ≡ site_sheet shape site (cond above (with_ballot b own) own)
  is_promised above e =
      ap (λ (x : SiteSheet). with_promise b x) (h.sheets_are c.id)
      ∙ ap (λ (a : Bool). site_sheet shape site (cond a (with_ballot b own) own)) e

  -- what is told, the row of the rules, and the sheet
  pub agrees_some : (told_now : RecoveryAnswer) → promise_by b (sheet_at shape site sheets c.id) ≡ Some told_now
      → ((from : ActorName) → agreed_above site from c b s ≡ answer_with_old_proposal site from c b own s)
      × (answer_of (site_sheet shape site own) ≡ told_now)
      × Agrees shape site clock told pairs mid (with_sheet c.id (with_ballot b own) s)
  agrees_some told_now e =
      let all = cond_some (nat_lt own.ballot b) (answer_of (site_sheet shape site own)) told_now (by_own (Some told_now) e) in (
        λ from. cond-true {A = Step} (nat_lt own.ballot b) (answer_with_old_proposal site from c b own s) (s, []) all.0,
        all.1,
        changed shape site clock told pairs sheets mid c.id (with_promise b (sheet_at shape site sheets c.id)) (with_ballot b own) s change
            (is_promised true all.0) (with_ballot_low b own (h.low c.id)) h,
      )

  below : (above : Bool) (a : RecoveryAnswer) → cond above (Some a) None ≡ None → above ≡ false
  below true a e = absurd cc
  below false a e = refl

  pub agrees_none : promise_by b (sheet_at shape site sheets c.id) ≡ None
      → ((from : ActorName) → agreed_above site from c b s ≡ (s, [])) × Agrees shape site clock told pairs mid s
  agrees_none e =
      let under = below (nat_lt own.ballot b) (answer_of (site_sheet shape site own)) (by_own None e) in (
        λ from. cond-false {A = Step} (nat_lt own.ballot b) (answer_with_old_proposal site from c b own s) (s, []) under,
        put_back shape site clock told pairs mid c.id s
            (changed shape site clock told pairs sheets mid c.id (with_promise b (sheet_at shape site sheets c.id)) own s change
            (is_promised false under) (h.low c.id) h),
      )
