-- In each run no stamp is above the count of the proposals that were made, and these are few: each step of a process
-- has room.
-- Used for what a process takes in a run in which nothing is pending.
use Rattle.std.proofs.Common.{◌≡◌, ℕ, ◌+◌, ◌≤◌, inl, inr, true, List, [], ◌∷◌, length, map, Some, refl, sym, subst, arith}
use Rattle.std.specs.Prelude.{nat_lt}
use Rattle.tp_base.proofs.Each.{each_append, each_in, each_weaker}
use Rattle.tp_base.specs.Limits.{IsFrom, STAMP_LIMIT}
use Rattle.tp_base.specs.Lists.{Each, IsIn}
use Rattle.tp_base.specs.declared.names.ActorName.TheVariants.{Process}
use Rattle.tp_base.specs.declared.names.CommandId.{CommandId}
use Rattle.tp_base.specs.declared.names.Pair.{Pair}
use Rattle.tp_base.specs.declared.names.Site.{Site}
use Rattle.tp_facts.proofs.ActSteps.{step_of_act}
use Rattle.tp_facts.proofs.Deliveries.{sent_before}
use Rattle.tp_facts.proofs.Facts.{sent_by}
use Rattle.tp_facts.proofs.Senders.{IsOfProcess, sender_of, sent_by_process}
use Rattle.tp_facts.proofs.StepCases.{ProcessStep, does_nothing, bumps_clock, announces, passes_commit_on, changes_sheet, attaches_proposal}
use Rattle.tp_ops.specs.declared.command.Command.{Command}
use Rattle.tp_rules.proofs.ActsMore.{acts_step, acts_then}
use Rattle.tp_rules.proofs.lists.Distinct.{distinct_within}
use Rattle.tp_rules.proofs.sent.EachSent.{acts_pass, history_passes}
use Rattle.tp_rules.proofs.fit.Messages.{IsFit, site_known}
use Rattle.tp_rules.proofs.fit.Choices.{ring_has_fast_size}
use Rattle.tp_rules.proofs.fit.Processes.{IsProcessSound, ids_of}
use Rattle.tp_rules.proofs.fit.Rules.{process_sound}
use Rattle.tp_rules.proofs.fit.InRange.{fit_handed_on}
use Rattle.tp_rules.proofs.lists.Selections.{each_image, each_spread, each_up_to}
use Rattle.tp_rules.proofs.lists.Tallies.{lower_total, total_bound}
use Rattle.tp_rules.proofs.ends.Unannounced.{site_listed, sites_few}
use Rattle.tp_rules.proofs.lists.UpTo.{map_length}
use Rattle.tp_rules.specs.Acts.{Act, Took, Did}
use Rattle.tp_rules.specs.Addresses.{site}
use Rattle.tp_rules.specs.Journal.{IsSent, act_of, acts, ranks_of}
use Rattle.tp_rules.specs.Left.{total}
use Rattle.tp_rules.specs.Pending.{sites_of}
use Rattle.tp_rules.specs.Process.{ProcessState, Step, on_body, react, state_after}
use Rattle.tp_rules.specs.Runs.{IsFreeHistory}
use Rattle.tp_rules.specs.Sheet.{QuorumRule, ring_rule}
use Rattle.tp_rules.specs.declared.event.Entry.{Entry}
use Rattle.tp_script.specs.Accepted.{IsAccepted}
use Rattle.tp_script.specs.declared.script.Script.{Script}
use Rattle.tp_topology.specs.Counting.{up_to}
use Rattle.tp_topology.specs.Shape.{is_site_of}
use Rattle.tp_wire.specs.declared.message.Body.{Body}
use Rattle.tp_wire.specs.declared.message.Body.TheVariants.{MSubmit, MStable, MResult}
use Rattle.tp_wire.specs.declared.message.Message.{Message}
use Rattle.tp_quiet.proofs.ClockRises.{act_rises, has_room}
use Rattle.tp_quiet.proofs.LowProcesses.{IsLowState, act_more, body_more, low_state, start_low, state_more}
use Rattle.tp_quiet.proofs.LowStamps.{IsLowAct, IsLowBody}

-- where nothing falls, a total rises by what one item rises at least
total_rises : {X : Type 0} (f g : X → ℕ) (xs : List X) (y : X) → ((x : X) → f x ≤ g x) → IsIn y xs
    → total (map f xs) + g y ≤ total (map g xs) + f y
total_rises f g [] y more there = absurd there
total_rises f g (x ∷ xs) y more (inl same) =
    let rest = lower_total g f xs (λ z k. more z) in
    subst (λ (z : _). total (map f (x ∷ xs)) + g z ≤ total (map g (x ∷ xs)) + f z) (sym same) (omega (arith, rest))
total_rises f g (x ∷ xs) y more (inr there) =
    let rest = total_rises f g xs y more there in omega (arith, rest, more x)

-- a process's promises are only added to
attached_grow : {s : QuorumRule} {me : Site} {act : Act} {state : ProcessState} {moved : Step}
    → ProcessStep s me act state moved → length state.attached ≤ length moved.0.attached
attached_grow does_nothing = omega arith
attached_grow (bumps_clock clock le) = omega arith
attached_grow announces = omega arith
attached_grow (passes_commit_on c b t by e known) = omega arith
attached_grow (changes_sheet clock le step same) = omega arith
attached_grow (attaches_proposal t made lt step none is) = omega arith

module _ (script : Script) (accepted : IsAccepted script) where
  abbrev rule : QuorumRule
  rule = ring_rule script.topology

  abbrev pub process_at : List Entry → Site → ProcessState
  process_at older k = state_after rule k (acts older (Process k))

  -- how many proposals were made
  unfoldable pub made : List Entry → ℕ
  made older = total (map (λ k. length (process_at older k).attached) (sites_of script))

  attached_stays : (older : List Entry) (e : Entry) (k : Site)
      → length (process_at older k).attached ≤ length (process_at (e ∷ older) k).attached
  attached_stays older e k =
      acts_step (λ (list : List Act). length (process_at older k).attached ≤ length (state_after rule k list).attached)
      older e (Process k) (omega arith)
      (λ act same is. attached_grow (step_of_act rule k act (process_at older k)))

  made_grows : (older : List Entry) (e : Entry) → made older ≤ made (e ∷ older)
  unfolding made
  made_grows older e = lower_total (λ k. length (process_at (e ∷ older) k).attached)
      (λ k. length (process_at older k).attached) (sites_of script) (λ k there. attached_stays older e k)

  made_rises : (older : List Entry) (e : Entry) (k : Site) → is_site_of script.topology k ≡ true
      → made older + length (process_at (e ∷ older) k).attached ≤ made (e ∷ older) + length
      (process_at older k).attached
  unfolding made
  made_rises older e k at = total_rises (λ j. length (process_at older j).attached)
      (λ j. length (process_at (e ∷ older) j).attached) (sites_of script) k (attached_stays older e)
      (site_listed script k at)

  -- they are few

  pub sound : (older : List Entry) → IsFreeHistory script older → (k : Site) → is_site_of script.topology k ≡ true
      → IsProcessSound script k.partition.0 (process_at older k)
  sound older history k at =
      let passes = history_passes script (IsFit script) (fit_handed_on script accepted) older history in
      process_sound script accepted rule.in_quorum (ring_has_fast_size script.topology accepted.shape) k at
      (acts older (Process k)) (acts_pass script (IsFit script) older (Process k) passes)

  attached_few : (older : List Entry) → IsFreeHistory script older → (k : Site) → is_site_of script.topology k ≡ true
      → length (process_at older k).attached ≤ 1000
  attached_few older history k at =
      let h = sound older history k at in
      let ids : List CommandId = map (λ (pair : Pair). pair.id) (process_at older k).attached in
      let few : length ids ≤ length (ids_of script) = distinct_within ids (ids_of script) h.once
      (λ id there. each_in (λ (i : CommandId). IsIn i (ids_of script)) ids id
      (ours (process_at older k).attached h.ours) there) in
      omega (
        arith,
        few,
        map_length (λ (pair : Pair). pair.id) (process_at older k).attached,
        map_length (λ (c : Command). c.id) script.commands,
        accepted.count,
      )
    where
      ours : (pairs : List Pair) → Each (λ pair. IsIn pair.id (ids_of script)) pairs
          → Each (λ (i : CommandId). IsIn i (ids_of script)) (map (λ (pair : Pair). pair.id) pairs)
      ours [] h = tt
      ours (pair ∷ pairs) h = (h.0, ours pairs h.1)

  -- each site that is listed is one of the script's
  pub listed_is : (k : Site) → IsIn k (sites_of script) → is_site_of script.topology k ≡ true
  listed_is k there =
      let shape = script.topology in
      let all = each_spread (λ (x : Site). is_site_of shape x ≡ true) (ranks_of script) (up_to shape.partitions)
      (each_weaker (IsFrom 1 shape.partitions)
      (λ (p : ℕ). Each (λ (x : Site). is_site_of shape x ≡ true) (ranks_of script p))
      (λ p of_partition. each_image (λ (x : Site). is_site_of shape x ≡ true) (site p) (up_to shape.replicas)
      (each_weaker (IsFrom 1 shape.replicas) (λ (r : ℕ). is_site_of shape (site p r) ≡ true)
      (λ r of_rank. site_known shape p r of_partition of_rank) (up_to shape.replicas) (each_up_to shape.replicas)))
      (up_to shape.partitions) (each_up_to shape.partitions)) in
      each_in (λ (x : Site). is_site_of shape x ≡ true) (sites_of script) k all there

  made_few : (older : List Entry) → IsFreeHistory script older → made older ≤ 28000
  unfolding made
  made_few older history =
      let bound = total_bound (λ (k : Site). length (process_at older k).attached) (sites_of script) 1000
      (λ k there. attached_few older history k (listed_is k there)) in
      omega (arith, bound, sites_few script accepted.shape)

  -- a process, and what it sent
  pub record IsLowAt (n : ℕ) (k : Site) (list : List Act) : Type 0 where
    pub state : IsLowState n (state_after rule k list)
    pub sent : Each (λ m. IsLowBody n m.body) (sent_by rule k list)

  abbrev pub AreLow : List Entry → Type 0
  AreLow older = (k : Site) → is_site_of script.topology k ≡ true → IsLowAt (made older) k (acts older (Process k))

  -- what others send has no stamps
  others_low : (n : ℕ) (body : Body) → (IsOfProcess body → IsLowBody n body) → IsLowBody n body
  others_low n (MSubmit c) h = tt
  others_low n (MStable id) h = tt
  others_low n (MResult id q answers) h = tt
  others_low n _ h = h tt

  sent_low : (older : List Entry) → IsFreeHistory script older → AreLow older → (m : Message) → IsSent older m
      → IsLowBody (made older) m.body
  sent_low older history low m sent = others_low (made older) m.body (λ own.
      let by = sender_of script older history m sent own in
      each_in (λ (x : Message). IsLowBody (made older) x.body) (sent_by rule by.site (acts older (Process by.site))) m
      (low by.site by.known).sent (sent_by_process script older history by.site m sent by.from))

  -- one act more
  act_low : (n m : ℕ) (k : Site) (act : Act) (list : List Act) → n ≤ m → IsLowAct n act
      → n + length (state_after rule k (act ∷ list)).attached ≤ m + length (state_after rule k list).attached
      → IsLowAt n k list → IsLowAt m k (act ∷ list)
  act_low n m k act list le took count h =
      let state : ProcessState = state_after rule k list in
      let moved : Step = react rule k act state in
      let rises = act_rises n rule k state h.state.clock h.state.sheets act took in
      let high : moved.0.clock ≤ m = omega (arith, rises.0, count) in
      let new = low_state m rule k (step_of_act rule k act state) (act_more n m le act took) high
      (state_more n m le state h.state) in
      record {
        state = new.0;
        sent = each_append (λ (x : Message). IsLowBody m x.body) moved.1 (sent_by rule k list) new.1
            (each_weaker (λ (x : Message). IsLowBody n x.body) (λ (x : Message). IsLowBody m x.body)
            (λ x low. body_more n m le x.body low) (sent_by rule k list) h.sent);
      }

  low_later : (n m : ℕ) (k : Site) (list : List Act) → n ≤ m → IsLowAt n k list → IsLowAt m k list
  low_later n m k list le h = record {
    state = state_more n m le (state_after rule k list) h.state;
    sent = each_weaker (λ (x : Message). IsLowBody n x.body) (λ (x : Message). IsLowBody m x.body)
        (λ x low. body_more n m le x.body low) (sent_by rule k list) h.sent;
  }

  are_low : (older : List Entry) → IsFreeHistory script older → AreLow older
  are_low [] history k at = record { state = start_low (made []) script.topology; sent = tt }
  are_low (e ∷ older) history k at =
      let before = are_low older history.0 in
      let le : made older ≤ made (e ∷ older) = made_grows older e in
      acts_step (IsLowAt (made (e ∷ older)) k) older e (Process k)
      (low_later (made older) (made (e ∷ older)) k (acts older (Process k)) le (before k at))
      (λ act same is. act_low (made older) (made (e ∷ older)) k act (acts older (Process k)) le
      (took_low before act same is)
      (subst (λ (list : List Act). made older + length (state_after rule k list).attached
      ≤ made (e ∷ older) + length (process_at older k).attached) (acts_then older e (Process k) act same is)
      (made_rises older e k at))
      (before k at))
    where
      took_low : AreLow older → (act : Act) → e.actor ≡ Process k → act_of older e.event ≡ Some act
          → IsLowAct (made older) act
      took_low before (Did inner) same is = tt
      took_low before (Took m) same is =
          let there : IsIn (Took m) (acts (e ∷ older) (Process k)) =
          subst (IsIn (Took m)) (sym (acts_then older e (Process k) (Took m) same is)) (inl refl) in
          sent_low older history.0 before m (sent_before script (e ∷ older) history (Process k) m there).0

  -- the step of a message that was sent has room
  pub sent_has_room : (older : List Entry) → IsFreeHistory script older → (k : Site)
      → is_site_of script.topology k ≡ true
      → (m : Message) → IsSent older m
      → nat_lt (on_body rule k m.from m.body (process_at older k)).0.clock STAMP_LIMIT ≡ true
  sent_has_room older history k at m sent =
      let low = are_low older history in
      let state = (low k at).state in
      has_room (made older) rule k (process_at older k) state.clock state.sheets m.from m.body
      (sent_low older history low m sent) (omega (arith, made_few older history))
