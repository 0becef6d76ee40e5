-- How many commands aren't submitted: an entry never adds to it, and a submission takes one away. Used for the end of runs.
use Rattle.std.proofs.Common.{◌≡◌, ℕ, suc, ◌+◌, ◌<◌, ◌≤◌, inl, inr, true, false, List, [], ◌∷◌, Some, length, map, refl, sym, ap, subst, ◌∙◌, arith}
use Rattle.std.specs.Prelude.{◌==◌, ◌&&◌, not, slice_get}
use Rattle.std.specs.List.{list_any}
use Rattle.std.proofs.lemmas.Bool.{cond_both, eq-eqb, eqb-true, and_parts, and_from, or_left, or_cases, or_parts, not-true, not_from_true, not_from_false, false_from_ne_true}
use Rattle.tp_base.specs.Lists.{IsIn}
use Rattle.tp_base.specs.Names.{same_name}
use Rattle.tp_base.proofs.Members.{in_get}
use Rattle.tp_base.proofs.Options.{some_is}
use Rattle.tp_base.proofs.SameNames.{same_name_refl, same_name_is}
use Rattle.tp_base.specs.declared.names.ActorName.{ActorName}
use Rattle.tp_base.specs.declared.names.ActorName.TheVariants.{Session}
use Rattle.tp_base.specs.declared.names.CommandId.{CommandId}
use Rattle.tp_base.specs.declared.names.SessionId.{SessionId}
use Rattle.tp_ops.specs.declared.command.Command.{Command}
use Rattle.tp_rules.specs.Acts.{Act, Took, Did, Client}
use Rattle.tp_rules.specs.Addresses.{is_name_of, is_body_at}
use Rattle.tp_rules.specs.Session as session
use Rattle.tp_rules.specs.Journal.{identity_in, client_of, commands_of, act_of, acts}
use Rattle.tp_rules.specs.Left.{unsubmitted}
use Rattle.tp_rules.specs.Outcome.{is_submission_of, is_submit}
use Rattle.tp_rules.specs.Rules.{MayMake}
use Rattle.tp_rules.specs.Runs.{MayHappen, FollowsRules, IsFreeHistory}
use Rattle.tp_rules.specs.declared.event.Entry.{Entry}
use Rattle.tp_rules.specs.declared.event.Event.{Event}
use Rattle.tp_rules.specs.declared.event.Event.TheVariants.{Deliver, Dropped, Inner as OfItself}
use Rattle.tp_rules.specs.declared.event.Inner.{Inner}
use Rattle.tp_rules.specs.declared.event.Inner.TheVariants.{Submit, Recover, Announce, Declare, Execute, Crash}
use Rattle.tp_script.specs.Accepted.{IsAccepted}
use Rattle.tp_script.specs.declared.script.Script.{Script}
use Rattle.tp_topology.specs.Counting.{up_to}
use Rattle.tp_topology.specs.Shape.{Shape}
use Rattle.tp_wire.specs.declared.message.Body.{Body}
use Rattle.tp_wire.specs.declared.message.Body.TheVariants.{MSubmit, MPropose, MPayload, MProposeAck, MBump, MConsensus, MConsensusAck, MCommit, MRec, MRecAck, MPromises, MCommitted, MStable, MResult}
use Rattle.tp_wire.specs.declared.message.Message.{Message}
use Rattle.tp_rules.proofs.ActsMore.{acts_step, acts_then, delivered_act}
use Rattle.tp_rules.proofs.lists.UpTo.{get_there, get_map, get_up_to}
use Rattle.tp_rules.proofs.OwnSteps.{session_may, submit_may}
use Rattle.tp_rules.proofs.lists.Tallies.{fewer, one_fewer, filter_in}

pub unsubmitted_stays : (script : Script) (older : List Entry) (e : Entry) → unsubmitted script (e ∷ older) ≤ unsubmitted script older
unsubmitted_stays script older e =
    fewer (λ c. not (list_any (is_submission_of c.id) older)) (λ c. not (list_any (is_submission_of c.id) (e ∷ older))) script.commands
    (λ c there free. not_from_false (list_any (is_submission_of c.id) older)
    (or_parts (is_submission_of c.id e) (list_any (is_submission_of c.id) older) (not-true (list_any (is_submission_of c.id) (e ∷ older)) free)).1)

-- how many commands a session has submitted
abbrev pub submitted_by : Script → List Entry → SessionId → ℕ
submitted_by script older s = (session.state_after script.topology (client_of script s) (acts older (Session s))).submitted

row_keeps_submitted : (shape : Shape) (client : Client) (body : Body) (state : session.SessionState) →
    (session.on_body shape client body state).0.submitted ≡ state.submitted
row_keeps_submitted shape client (MResult id q answers) state =
    cond_both _ _ _ (λ (moved : session.Step). moved.0.submitted ≡ state.submitted) (λ e. refl) (λ e. refl)
row_keeps_submitted shape client (MSubmit c) state = refl
row_keeps_submitted shape client (MPropose c floor) state = refl
row_keeps_submitted shape client (MPayload c) state = refl
row_keeps_submitted shape client (MProposeAck id t) state = refl
row_keeps_submitted shape client (MCommit c q t) state = refl
row_keeps_submitted shape client (MBump id t) state = refl
row_keeps_submitted shape client (MConsensus c t b) state = refl
row_keeps_submitted shape client (MConsensusAck id b) state = refl
row_keeps_submitted shape client (MRec c b) state = refl
row_keeps_submitted shape client (MRecAck id t made a b) state = refl
row_keeps_submitted shape client (MPromises lo hi pairs) state = refl
row_keeps_submitted shape client (MCommitted c t) state = refl
row_keeps_submitted shape client (MStable id) state = refl

pub message_keeps_submitted : (shape : Shape) (client : Client) (m : Message) (state : session.SessionState) →
    (session.react shape client (Took m) state).0.submitted ≡ state.submitted
message_keeps_submitted shape client m state =
    cond_both (same_name m.to (Session client.session) && is_name_of shape m.from && is_body_at shape 0 m.body)
    (session.on_body shape client m.body state) (state, []) (λ (moved : session.Step). moved.0.submitted ≡ state.submitted)
    (λ e. row_keeps_submitted shape client m.body state) (λ e. refl)

-- after one more act of the session
abbrev submitted_then : Script → List Entry → SessionId → Act → ℕ
submitted_then script older s act = (session.state_after script.topology (client_of script s) (act ∷ acts older (Session s))).submitted

by_step : (script : Script) (older : List Entry) (s : SessionId) (inner : Inner) →
    MayMake (identity_in script (Session s)) (acts older (Session s)) inner →
    submitted_by script older s ≤ submitted_then script older s (Did inner)
by_step script older s (Submit n) may =
    let state = session.state_after script.topology (client_of script s) (acts older (Session s)) in
    let parts = session_may script.topology (client_of script s) state (Submit n) may in
    let same : Submit n ≡ Submit (state.submitted + 1) = parts.0 in
    let number : n ≡ state.submitted + 1 = cc in
    omega arith
by_step script older s Announce may = omega arith
by_step script older s (Recover id) may = omega arith
by_step script older s (Declare id) may = omega arith
by_step script older s (Execute id) may = omega arith
by_step script older s Crash may = omega arith

by_event : (script : Script) (older : List Entry) (s : SessionId) (event : Event) (act : Act) → MayHappen script older (Session s) event →
    act_of older event ≡ Some act →
    submitted_by script older s ≤ submitted_then script older s act
by_event script older s (Deliver entry place) act may is =
    let found = delivered_act older entry place act is in
    let state = session.state_after script.topology (client_of script s) (acts older (Session s)) in
    let stays : (session.react script.topology (client_of script s) (Took found.0) state).0.submitted ≡ state.submitted =
    message_keeps_submitted script.topology (client_of script s) found.0 state in
    subst (λ (a : Act). submitted_by script older s ≤ submitted_then script older s a) (sym found.2) (omega arith)
by_event script older s (Dropped entry place) act may is = absurd cc
by_event script older s (OfItself inner) act may is =
    let same : Did inner ≡ act =
    cc in subst (λ (a : Act). submitted_by script older s ≤ submitted_then script older s a) same (by_step script older s inner may)

submitted_grows : (script : Script) (older : List Entry) (e : Entry) (s : SessionId) → FollowsRules script older e →
    submitted_by script older s ≤ submitted_by script (e ∷ older) s
submitted_grows script older e s follows =
    acts_step (λ (list : List Act). submitted_by script older s ≤ (session.state_after script.topology (client_of script s) list).submitted) older e
    (Session s) (omega arith)
    (λ act same is. by_event script older s e.event act (subst (λ (a : ActorName). MayHappen script older a e.event) same follows.may) is)

pub submit_event : (n : ℕ) (event : Event) → is_submit n event ≡ true → event ≡ OfItself (Submit n)
submit_event n (Deliver entry place) e = absurd cc
submit_event n (Dropped entry place) e = absurd cc
submit_event n (OfItself (Submit m)) e = ap (λ (k : ℕ). OfItself (Submit k)) (sym (eqb-true n m e))
submit_event n (OfItself Announce) e = absurd cc
submit_event n (OfItself (Recover id)) e = absurd cc
submit_event n (OfItself (Declare id)) e = absurd cc
submit_event n (OfItself (Execute id)) e = absurd cc
submit_event n (OfItself Crash) e = absurd cc

-- the number of a submitted command is among those that its session has submitted
pub submitted_covers : (script : Script) (older : List Entry) (id : CommandId) → IsFreeHistory script older →
    list_any (is_submission_of id) older ≡ true →
    id.number ≤ submitted_by script older id.session
submitted_covers script [] id h e = absurd cc
submitted_covers script (x ∷ older) id h e = elim (or_cases (is_submission_of id x) (list_any (is_submission_of id) older) e) [
  | inl here ↦
      let parts = and_parts (same_name x.actor (Session id.session)) (is_submit id.number x.event) here in
      let event : x.event ≡ OfItself (Submit id.number) = submit_event id.number x.event parts.1 in
      let list : acts (x ∷ older) (Session id.session) ≡ Did (Submit id.number) ∷ acts older (Session id.session) =
      acts_then older x (Session id.session) (Did (Submit id.number)) (same_name_is x.actor (Session id.session) parts.0) (ap (act_of older) event) in
      let count : submitted_by script (x ∷ older) id.session ≡ id.number =
      ap (λ (l : List Act). (session.state_after script.topology (client_of script id.session) l).submitted) list in
      omega arith
  | inr later ↦ omega (arith, submitted_covers script older id h.0 later, submitted_grows script older x id.session h.1)
]

-- the commands of a session are numbered from 1
pub command_numbered : (script : Script) → IsAccepted script → (s : SessionId) (k : ℕ) → k < length (commands_of script s) →
    (c : Command) × IsIn c script.commands × (c.id.session ≡ s) × (c.id.number ≡ suc k)
command_numbered script accepted s k less = of_found (get_there (commands_of script s) k less)
  where
    of_found : (c : Command) × (slice_get (commands_of script s) k ≡ Some c) →
        (c : Command) × IsIn c script.commands × (c.id.session ≡ s) × (c.id.number ≡ suc k)
    of_found (c, e) =
        let cs = commands_of script s in
        let numbers : slice_get (map (λ (d : Command). d.id.number) cs) k ≡ slice_get (up_to (length cs)) k =
        ap (λ (l : List ℕ). slice_get l k) (accepted.numbered s.0) in
        let one : slice_get (map (λ (d : Command). d.id.number) cs) k ≡ Some c.id.number = get_map (λ (d : Command). d.id.number) cs k c e in
        let two : slice_get (up_to (length cs)) k ≡ Some (suc k) = get_up_to (length cs) k less in
        let member = filter_in (λ (d : Command). d.id.session.0 == s.0) script.commands c (in_get cs k c e) in
        (c, member.0, ap (λ (i : ℕ). let id : SessionId = record { 0 = i } in id) (eqb-true c.id.session.0 s.0 member.1), some_is (sym one ∙ numbers ∙ two))

falls_by : (script : Script) (older : List Entry) (e : Entry) (s : SessionId) (c : Command) (n : ℕ) → IsFreeHistory script older →
    e.actor ≡ Session s → e.event ≡ OfItself
    (Submit n) → n ≡ submitted_by script older s + 1 → IsIn c script.commands → c.id.session ≡ s → c.id.number ≡ n →
    unsubmitted script (e ∷ older) < unsubmitted script older
falls_by script older e s c n history actor event count member own number =
    let by : same_name e.actor (Session c.id.session) ≡ true =
    ap (λ (a : ActorName). same_name a (Session c.id.session)) (actor ∙ ap (λ (x : SessionId). Session x) (sym own)) ∙ same_name_refl
    (Session c.id.session) in
    let of_it : is_submit c.id.number e.event ≡ true = ap (is_submit c.id.number) event ∙ eq-eqb c.id.number n number in
    let submits : is_submission_of c.id e ≡ true = and_from (same_name e.actor (Session c.id.session)) (is_submit c.id.number e.event) by of_it in
    let same : submitted_by script older c.id.session ≡ submitted_by script older s = ap (submitted_by script older) own in
    let before : list_any (is_submission_of c.id) older ≡ false = false_from_ne_true (list_any (is_submission_of c.id) older)
    (λ t. let covered = submitted_covers script older c.id history t in omega arith) in
    one_fewer (λ d. not (list_any (is_submission_of d.id) older)) (λ d. not (list_any (is_submission_of d.id) (e ∷ older))) script.commands c
    (λ d there free. not_from_false (list_any (is_submission_of d.id) older)
    (or_parts (is_submission_of d.id e) (list_any (is_submission_of d.id) older) (not-true (list_any (is_submission_of d.id) (e ∷ older)) free)).1)
    member (not_from_false (list_any (is_submission_of c.id) older) before)
    (not_from_true (list_any (is_submission_of c.id) (e ∷ older)) (or_left (is_submission_of c.id e) (list_any (is_submission_of c.id) older) submits))

-- a submission is of a command that was not submitted
pub unsubmitted_falls : (script : Script) → IsAccepted script → (older : List Entry) (e : Entry) (n : ℕ) → IsFreeHistory script older →
    FollowsRules script older e →
    e.event ≡ OfItself (Submit n) → unsubmitted script (e ∷ older) < unsubmitted script older
unsubmitted_falls script accepted older e n history follows event =
    let parts = submit_may script older e.actor n (subst (MayHappen script older e.actor) event follows.may) in
    let found = command_numbered script accepted parts.0 (submitted_by script older parts.0) parts.3 in
    falls_by script older e parts.0 found.0 n history parts.1 event parts.2 found.1 found.2 (omega (arith, found.3, parts.2))
