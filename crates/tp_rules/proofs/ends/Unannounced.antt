-- How many processes have a clock above what they told: an announcement takes one away, and only what changes a process adds
-- to it. Used for the end of runs.
use Rattle.std.proofs.Common.{◌≡◌, ℕ, ◌+◌, ◌<◌, ◌≤◌, Bool, true, false, List, [], ◌∷◌, Some, length, refl, sym, ap, subst, ◌∙◌, arith}
use Rattle.std.specs.Prelude.{◌&&◌, is_none, is_some, nat_lt, nat_le}
use Rattle.std.proofs.lemmas.Bool.{cond_both, le-ltb, leb-true, and_parts}
use Rattle.tp_base.specs.Limits.{STAMP_LIMIT, is_from}
use Rattle.tp_base.specs.Lists.{IsIn}
use Rattle.tp_base.specs.Names.{same_name}
use Rattle.tp_base.proofs.Members.{map_in, flat_in}
use Rattle.tp_base.proofs.Options.{some_is}
use Rattle.tp_base.specs.declared.names.ActorName.{ActorName}
use Rattle.tp_base.specs.declared.names.ActorName.TheVariants.{Process}
use Rattle.tp_base.specs.declared.names.Site.{Site}
use Rattle.tp_rules.specs.Acts.{Act, Took, Did}
use Rattle.tp_rules.specs.Addresses.{site, is_name_of, is_body_at}
use Rattle.tp_rules.specs.Process as process
use Rattle.tp_rules.specs.Journal.{act_of, acts, is_known, ranks_of}
use Rattle.tp_rules.specs.Left.{place_of, has_untold, unannounced}
use Rattle.tp_rules.specs.Pending.{sites_of}
use Rattle.tp_rules.specs.Runs.{MayHappen, FollowsRules}
use Rattle.tp_rules.specs.Sheet.{QuorumRule, ring_rule, stamp_of}
use Rattle.tp_rules.specs.declared.event.Entry.{Entry}
use Rattle.tp_rules.specs.declared.event.Event.TheVariants.{Inner as OfItself}
use Rattle.tp_rules.specs.declared.event.Inner.TheVariants.{Submit, Recover, Announce, Declare, Execute, Crash}
use Rattle.tp_script.specs.declared.script.Script.{Script}
use Rattle.tp_topology.specs.Ballots.{next_ballot}
use Rattle.tp_topology.specs.Counting.{up_to}
use Rattle.tp_topology.specs.Shape.{Shape, IsShape, is_site_of}
use Rattle.tp_wire.specs.declared.message.Body.{Body}
use Rattle.tp_wire.specs.declared.message.Body.TheVariants.{MSubmit, MPropose, MPayload, MProposeAck, MBump, MConsensus, MConsensusAck, MCommit, MRec, MRecAck, MPromises, MCommitted, MStable, MResult}
use Rattle.tp_rules.proofs.ActsMore.{acts_step, acts_then}
use Rattle.tp_rules.proofs.lists.UpTo.{length-up_to, map_length, flat_length, in_up_to}
use Rattle.tp_rules.proofs.OwnSteps.{announce_may}
use Rattle.tp_rules.proofs.lists.Tallies.{fewer, one_fewer, filter_length}

-- sites

pub site_listed : (script : Script) (s : Site) → is_site_of script.topology s ≡ true → IsIn s (sites_of script)
site_listed script s e =
    let p = s.partition.0 in
    let k = s.rank.0 in
    let parts = and_parts (is_from 1 script.topology.partitions p) (is_from 1 script.topology.replicas k) e in
    let ps = and_parts (nat_le 1 p) (nat_le p script.topology.partitions) parts.0 in
    let ks = and_parts (nat_le 1 k) (nat_le k script.topology.replicas) parts.1 in
    let here : IsIn s (ranks_of script p) =
    map_in (site p) (up_to script.topology.replicas) k
    (in_up_to script.topology.replicas k (leb-true 1 k ks.0) (leb-true k script.topology.replicas ks.1)) in
    flat_in (ranks_of script) (up_to script.topology.partitions) p s
    (in_up_to script.topology.partitions p (leb-true 1 p ps.0) (leb-true p script.topology.partitions ps.1)) here

pub sites_few : (script : Script) → IsShape script.topology → length (sites_of script) ≤ 28
sites_few script good =
    let ranks : (p : ℕ) → length (ranks_of script p) ≤ 7 =
    (λ p. omega (arith, map_length (site p) (up_to script.topology.replicas), length-up_to script.topology.replicas, good.few_replicas)) in
    omega (arith, flat_length (ranks_of script) 7 (up_to script.topology.partitions) ranks, length-up_to script.topology.partitions, good.few_partitions)

-- an entry adds 28 at most
pub unannounced_rises : (script : Script) → IsShape script.topology → (older : List Entry) (e : Entry) →
    unannounced script (e ∷ older) ≤ unannounced script older + 599
unannounced_rises script good older e = omega (arith, filter_length (has_untold script (e ∷ older)) (sites_of script), sites_few script good)

-- a message of a kind that no process has a rule for
changes_nothing : (s : QuorumRule) (me : Site) (from : ActorName) (body : Body) (state : process.ProcessState) → 11 < place_of body →
    process.on_body s me from body state ≡ (state, [])
changes_nothing s me from (MPromises lo hi pairs) state h = refl
changes_nothing s me from (MStable id) state h = refl
changes_nothing s me from (MResult id q answers) state h = refl
changes_nothing s me from (MSubmit c) state h = absurd (omega arith)
changes_nothing s me from (MPropose c floor) state h = absurd (omega arith)
changes_nothing s me from (MPayload c) state h = absurd (omega arith)
changes_nothing s me from (MProposeAck id t) state h = absurd (omega arith)
changes_nothing s me from (MCommit c q t) state h = absurd (omega arith)
changes_nothing s me from (MBump id t) state h = absurd (omega arith)
changes_nothing s me from (MConsensus c t b) state h = absurd (omega arith)
changes_nothing s me from (MConsensusAck id b) state h = absurd (omega arith)
changes_nothing s me from (MRec c b) state h = absurd (omega arith)
changes_nothing s me from (MRecAck id t made a b) state h = absurd (omega arith)
changes_nothing s me from (MCommitted c t) state h = absurd (omega arith)

-- an act that adds no untold promise
abbrev pub AddsNone : Act → Type 0
AddsNone (Took m) = 11 < place_of m.body
AddsNone (Did inner) = Unit {0}

abbrev untold : process.ProcessState → Bool
untold state = nat_lt state.told state.clock

-- what was told stays told
act_adds_none : (s : QuorumRule) (me : Site) (act : Act) (state : process.ProcessState) → AddsNone act → untold (process.react s me act state).0 ≡ true →
    untold state ≡ true
act_adds_none s me (Took m) state h e =
    cond_both (same_name m.to (Process me) && is_name_of s.shape m.from && is_body_at s.shape me.partition.0 m.body)
    (process.with_room state (process.on_body s me m.from m.body state)) (state, [])
    (λ (moved : process.Step). untold moved.0 ≡ true → untold state ≡ true)
    (λ t. cond_both (nat_lt (process.on_body s me m.from m.body state).0.clock STAMP_LIMIT) (process.on_body s me m.from m.body state) (state, [])
    (λ (moved : process.Step). untold moved.0 ≡ true → untold state ≡ true)
    (λ room f. subst (λ (moved : process.Step). untold moved.0 ≡ true) (changes_nothing s me m.from m.body state h) f) (λ room f. f))
    (λ t f. f) e
act_adds_none s me (Did Announce) state h e =
    let next : process.ProcessState = record { clock = state.clock; told = state.clock; attached = state.attached; sheets = state.sheets } in
    cond_both (nat_lt state.told state.clock) (next, process.announced s.shape me state) (state, [])
    (λ (moved : process.Step). untold moved.0 ≡ true → untold state ≡ true)
    (λ t f. t) (λ t f. f) e
act_adds_none s me (Did (Submit n)) state h e = e
act_adds_none s me (Did (Recover id)) state h e =
    let sheet = state.sheets id in
    let b = next_ballot s.shape me.rank.0 sheet.ballot sheet.tried in
    cond_both (is_some sheet.command && is_none (stamp_of sheet me.partition.0) && process.has_next sheet)
    (process.recovering s.shape me id b sheet state) (state, []) (λ (moved : process.Step). untold moved.0 ≡ true → untold state ≡ true)
    (λ t f. f) (λ t f. f) e
act_adds_none s me (Did (Declare id)) state h e = e
act_adds_none s me (Did (Execute id)) state h e = e
act_adds_none s me (Did Crash) state h e = e

untold_before : (script : Script) (older : List Entry) (e : Entry) (s : Site) → ((act : Act) → act_of older e.event ≡ Some act → AddsNone act) →
    has_untold script (e ∷ older) s ≡ true → has_untold script older s ≡ true
untold_before script older e s h =
    let quorum_rule = ring_rule script.topology in
    acts_step (λ (list : List Act). untold (process.state_after quorum_rule s list) ≡ true → has_untold script older s ≡ true) older e (Process s)
    (λ t. t)
    (λ act same is. act_adds_none quorum_rule s act (process.state_after quorum_rule s (acts older (Process s))) (h act is))

-- an entry whose act adds none
pub unannounced_stays : (script : Script) (older : List Entry) (e : Entry) → ((act : Act) → act_of older e.event ≡ Some act → AddsNone act) →
    unannounced script (e ∷ older) ≤ unannounced script older
unannounced_stays script older e h =
    fewer (has_untold script older) (has_untold script (e ∷ older)) (sites_of script) (λ s there. untold_before script older e s h)

-- after an announcement nothing is untold
announced_all : (shape : Shape) (me : Site) (state : process.ProcessState) → untold (process.on_announce shape me state).0 ≡ false
announced_all shape me state =
    let next : process.ProcessState = record { clock = state.clock; told = state.clock; attached = state.attached; sheets = state.sheets } in
    cond_both (nat_lt state.told state.clock) (next, process.announced shape me state) (state, []) (λ (moved : process.Step). untold moved.0 ≡ false)
    (λ t. le-ltb state.clock state.clock (omega arith)) (λ f. f)

falls_at : (script : Script) (older : List Entry) (e : Entry) (s : Site) → e.actor ≡ Process s → is_site_of script.topology s ≡ true →
    e.event ≡ OfItself Announce →
    has_untold script older s ≡ true → unannounced script (e ∷ older) < unannounced script older
falls_at script older e s actor listed event before =
    let quorum_rule = ring_rule script.topology in
    let list : acts (e ∷ older) (Process s) ≡ Did Announce ∷ acts older (Process s) =
    acts_then older e (Process s) (Did Announce) actor (ap (act_of older) event) in
    let told : has_untold script (e ∷ older) s ≡ false =
    ap (λ (l : List Act). untold (process.state_after quorum_rule s l)) list ∙ announced_all script.topology s
    (process.state_after quorum_rule s (acts older (Process s))) in
    let none : (act : Act) → act_of older e.event ≡ Some act → AddsNone act =
    (λ act is. let same : Did Announce ≡ act = some_is (sym (ap (act_of older) event) ∙ is) in subst AddsNone same tt) in
    one_fewer (has_untold script older) (has_untold script (e ∷ older)) (sites_of script) s (λ x there. untold_before script older e x none)
    (site_listed script s listed) before told

-- an announcement takes one away
pub unannounced_falls : (script : Script) (older : List Entry) (e : Entry) → FollowsRules script older e → e.event ≡ OfItself Announce →
    unannounced script (e ∷ older) < unannounced script older
unannounced_falls script older e follows event =
    let parts = announce_may script older e.actor (subst (MayHappen script older e.actor) event follows.may) in
    falls_at script older e parts.0 parts.1 (sym (ap (is_known script) parts.1) ∙ follows.known) event parts.2
