-- Each number that a process told was told to all executors of its partition, in one of its announcements.
-- Used for what executors count in a run in which nothing is pending.
use Rattle.std.proofs.Common.{ℕ, ◌<◌, ◌≤◌, inl, inr, List, [], ◌∷◌, ◌++◌, arith}
use Rattle.std.proofs.lemmas.Bool.{cases_lt}
use Rattle.tp_base.proofs.Members.{in_left, in_right, map_in}
use Rattle.tp_base.specs.Limits.{IsFrom}
use Rattle.tp_base.specs.Lists.{IsIn}
use Rattle.tp_base.specs.declared.names.ActorName.{ActorName}
use Rattle.tp_base.specs.declared.names.ActorName.TheVariants.{Executor, Process}
use Rattle.tp_base.specs.declared.names.Pair.{Pair}
use Rattle.tp_base.specs.declared.names.Site.{Site}
use Rattle.tp_facts.proofs.ActSteps.{step_of_act}
use Rattle.tp_facts.proofs.Facts.{sent_by}
use Rattle.tp_facts.proofs.StepCases.{ProcessStep, does_nothing, bumps_clock, announces, passes_commit_on, changes_sheet, attaches_proposal}
use Rattle.tp_rules.proofs.lists.UpTo.{in_up_to}
use Rattle.tp_rules.specs.Acts.{Act}
use Rattle.tp_rules.specs.Addresses.{executors_of, message, site}
use Rattle.tp_rules.specs.Process.{ProcessState, Step, announced, state_after, untold}
use Rattle.tp_rules.specs.Sheet.{QuorumRule}
use Rattle.tp_topology.specs.Counting.{up_to}
use Rattle.tp_wire.specs.declared.message.Body.TheVariants.{MPromises}
use Rattle.tp_wire.specs.declared.message.Message.{Message}

module _ (s : QuorumRule) (me : Site) where
  -- an announcement of a number
  pub record IsAnnounced (sent : List Message) (n : ℕ) : Type 0 where
    pub lo : ℕ
    pub hi : ℕ
    pub pairs : List Pair
    pub above : lo < n
    pub within : n ≤ hi
    pub to_all : (r : ℕ) → IsFrom 1 s.shape.replicas r
        → IsIn (message (Process me) (Executor (site me.partition.0 r)) (MPromises lo hi pairs)) sent

  abbrev pub AreAnnounced : List Message → ℕ → Type 0
  AreAnnounced sent told = (n : ℕ) → 1 ≤ n → n ≤ told → IsAnnounced sent n

  announced_more : (sent out : List Message) (n : ℕ) → IsAnnounced sent n → IsAnnounced (out ++ sent) n
  announced_more sent out n h = record {
    lo = h.lo;
    hi = h.hi;
    pairs = h.pairs;
    above = h.above;
    within = h.within;
    to_all = λ r range. in_right out sent _ (h.to_all r range);
  }

  announced_now : (state : ProcessState) (sent : List Message) (n : ℕ) → state.told < n → n ≤ state.clock
      → IsAnnounced (announced s.shape me state ++ sent) n
  unfolding announced
  announced_now state sent n above within = record {
    lo = state.told;
    hi = state.clock;
    pairs = untold state;
    above = above;
    within = within;
    to_all = λ r range.
        in_left (announced s.shape me state) sent
        (message (Process me) (Executor (site me.partition.0 r)) (MPromises state.told state.clock (untold state)))
        (map_in (λ (to : ActorName). message (Process me) to (MPromises state.told state.clock (untold state)))
        (executors_of s.shape me.partition.0) (Executor (site me.partition.0 r))
        (map_in (λ (rank : ℕ). Executor (site me.partition.0 rank)) (up_to s.shape.replicas) r
        (in_up_to s.shape.replicas r range.0 range.1)));
  }

  step_announces : {act : Act} {state : ProcessState} {moved : Step} (sent : List Message)
      → ProcessStep s me act state moved → AreAnnounced sent state.told → AreAnnounced (moved.1 ++ sent) moved.0.told
  step_announces sent does_nothing h = λ n low high. announced_more sent [] n (h n low high)
  step_announces sent (bumps_clock clock le) h = λ n low high. announced_more sent [] n (h n low high)
  step_announces {state = state} sent announces h = λ n low high. elim (cases_lt state.told n) [
    | inl above ↦ announced_now state sent n above high
    | inr before ↦ announced_more sent _ n (h n low (omega (arith, before)))
  ]
  step_announces sent (passes_commit_on c b t by e known) h = λ n low high. announced_more sent _ n (h n low high)
  step_announces sent (changes_sheet clock le step same) h = λ n low high. announced_more sent _ n (h n low high)
  step_announces sent (attaches_proposal t made lt step none is) h = λ n low high. announced_more sent _ n
      (h n low high)

  pub all_announced : (acts : List Act) → AreAnnounced (sent_by s me acts) (state_after s me acts).told
  all_announced [] = λ n low high. absurd (omega (arith, low, high))
  all_announced (act ∷ before) =
      let state : ProcessState = state_after s me before in
      step_announces (sent_by s me before) (step_of_act s me act state) (all_announced before)
