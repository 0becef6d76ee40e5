-- A session that got the results of all partitions has answered the command, and one whose submitted commands are all
-- answered has submitted all of them, where it has no step to make.
-- Used for the sessions in a run in which nothing is pending.
use Rattle.std.proofs.Common.{◌≡◌, ℕ, zero, suc, ◌+◌, ◌≤◌, Bool, inl, inr, true, false, cond, List, [], ◌∷◌, length, Option, Some, None, is_some, refl, sym, ap, subst, ◌∙◌, arith}
use Rattle.std.specs.Option.{option_or}
use Rattle.std.specs.Prelude.{◌==◌, ◌&&◌, nat_lt, not, option_map, unwrap_or}
use Rattle.std.specs.List.{list_all, list_any}
use Rattle.std.proofs.lemmas.Bool.{and_from, cases_Bool, cases_eq, cond-false, cond-true, eq-eqb, lt-ltb, ltb-false, or_left, or_right}
use Rattle.tp_base.proofs.SameNames.{same_id_refl, same_name_refl}
use Rattle.tp_base.specs.Limits.{IsFrom}
use Rattle.tp_base.specs.Lists.{IsIn}
use Rattle.tp_base.specs.Names.{same_id, same_name}
use Rattle.tp_base.specs.declared.names.ActorName.{ActorName}
use Rattle.tp_base.specs.declared.names.ActorName.TheVariants.{Session}
use Rattle.tp_base.specs.declared.names.CommandId.{CommandId}
use Rattle.tp_base.specs.declared.names.PartitionId.{PartitionId}
use Rattle.tp_base.specs.declared.names.SessionId.{SessionId}
use Rattle.tp_facts.proofs.Commands.{command_is}
use Rattle.tp_base.proofs.Ends.{got_within}
use Rattle.tp_ops.specs.Parts.{answers_in, merged}
use Rattle.tp_ops.specs.declared.command.Command.{Command}
use Rattle.tp_ops.specs.declared.operation.Answer.{Answer}
use Rattle.tp_replies.proofs.SessionCommands.{command_at}
use Rattle.tp_replies.proofs.SessionReply.{session_reply}
use Rattle.tp_replies.proofs.Submissions.{IsSubmitted}
use Rattle.tp_replies.specs.SessionReply.{session_of}
use Rattle.tp_rules.proofs.ActsMore.{acts_step}
use Rattle.tp_rules.proofs.OwnSteps.{session_may}
use Rattle.tp_rules.proofs.ends.Unsubmitted.{message_keeps_submitted, submitted_by}
use Rattle.tp_rules.specs.Acts.{Act, Client, Took, Did}
use Rattle.tp_rules.specs.Addresses.{accessed}
use Rattle.tp_rules.specs.Journal.{act_of, acts, client_of, commands_of, identity_in, output_at, with_act}
use Rattle.tp_rules.specs.Outcome.{first_result, is_submission_of, is_submit, reply_from, reply_to, result_at, result_by, result_in}
use Rattle.tp_rules.specs.Rules.{MayMake}
use Rattle.tp_rules.specs.Runs.{IsFreeHistory, MayHappen}
use Rattle.tp_rules.specs.Session as session
use Rattle.tp_base.specs.Tables.{nth}
use Rattle.tp_rules.specs.declared.event.Entry.{Entry}
use Rattle.tp_rules.specs.declared.event.Event.{Event}
use Rattle.tp_rules.specs.declared.event.Event.TheVariants.{Deliver, Dropped, Inner as OfItself}
use Rattle.tp_rules.specs.declared.event.Inner.{Inner}
use Rattle.tp_rules.specs.declared.event.Inner.TheVariants.{Submit}
use Rattle.tp_script.specs.Accepted.{IsAccepted}
use Rattle.tp_script.specs.declared.script.Script.{Script}
use Rattle.tp_topology.proofs.Passing.{count_none}
use Rattle.tp_topology.specs.Shape.{Shape}
use Rattle.tp_wire.specs.declared.message.Body.{Body}
use Rattle.tp_wire.specs.declared.message.Body.TheVariants.{MResult}
use Rattle.tp_wire.specs.declared.message.Message.{Message}
use Rattle.tp_quiet.proofs.AllExecuted.{all_from}

some_first : (a b : Option (List Answer)) → is_some a ≡ true → is_some (option_or a b) ≡ true
some_first None b some = absurd cc
some_first (Some x) b some = refl

some_second : (a b : Option (List Answer)) → is_some b ≡ true → is_some (option_or a b) ≡ true
some_second None b some = some
some_second (Some x) b some = refl

-- a result that was taken is one that was delivered

result_some : (id : CommandId) (p : PartitionId) (answers : List Answer) (m : Message) → m.body ≡ MResult id p answers
    → is_some (result_by id p.0 m.body) ≡ true
result_some id p answers m is =
    let passes : (same_id id id && (p.0 == p.0)) ≡ true =
    and_from (same_id id id) (p.0 == p.0) (same_id_refl id) (eq-eqb p.0 p.0 refl) in
    ap (λ (body : Body). is_some (result_by id p.0 body)) is
    ∙ ap (λ (o : Option (List Answer)). is_some o)
    (cond-true (same_id id id && (p.0 == p.0)) (Some answers) None passes)

taken_result : (older : List Entry) (id : CommandId) (p : PartitionId) (answers : List Answer) (m : Message)
    (event : Event)
    → m.body ≡ MResult id p answers → act_of older event ≡ Some (Took m) → is_some (result_at older id p.0 event) ≡ true
taken_result older id p answers m (Deliver entry place) is took = of_output (output_at older entry place) took
  where
    of_output : (o : Option Message) → option_map Took o ≡ Some (Took m) → is_some (result_in id p.0 o) ≡ true
    of_output None e = absurd cc
    of_output (Some x) e =
        let same : x ≡ m = cc in
        subst (λ (n : Message). is_some (result_by id p.0 n.body) ≡ true) (sym same) (result_some id p answers m is)
taken_result older id p answers m (Dropped entry place) is took = absurd cc
taken_result older id p answers m (OfItself inner) is took = absurd cc

pub result_first : (older : List Entry) (id : CommandId) (p : PartitionId) (answers : List Answer) (m : Message)
    → m.body ≡ MResult id p answers → IsIn (Took m) (acts older (Session id.session))
    → is_some (first_result older id p.0) ≡ true
result_first [] id p answers m is there = absurd there
result_first (e ∷ older) id p answers m is there =
    on_test (same_name e.actor (Session id.session)) (act_of older e.event) there
    (λ old. result_first older id p answers m is old) (λ took. taken_result older id p answers m e.event is took)
  where
    first : Option (List Answer)
    first = first_result older id p.0

    now : Option (List Answer)
    now = result_at older id p.0 e.event

    with_next : (o : Option Act) → IsIn (Took m) (with_act o (acts older (Session id.session)))
        → (IsIn (Took m) (acts older (Session id.session)) → is_some first ≡ true)
        → (o ≡ Some (Took m) → is_some now ≡ true) → is_some (option_or first now) ≡ true
    with_next None there old new = some_first first now (old there)
    with_next (Some act) (inl same) old new = some_second first now (new (ap (λ (a : Act). Some a) (sym same)))
    with_next (Some act) (inr before) old new = some_first first now (old before)

    on_test : (b : Bool) (o : Option Act)
        → IsIn (Took m) (cond b (with_act o (acts older (Session id.session))) (acts older (Session id.session)))
        → (IsIn (Took m) (acts older (Session id.session)) → is_some first ≡ true)
        → (o ≡ Some (Took m) → is_some now ≡ true) → is_some (cond b (option_or first now) first) ≡ true
    on_test true o there old new = with_next o there old new
    on_test false o there old new = old there

module _ (script : Script) (accepted : IsAccepted script) (older : List Entry)
    (history : IsFreeHistory script older) where
  -- with a result of each partition the command is answered
  pub reply_some : (c : Command) → IsIn c script.commands
      → ((p : ℕ) → IsIn p (accessed script.topology c) → is_some (first_result older c.id p) ≡ true)
      → is_some (reply_to script older c.id) ≡ true
  reply_some c ours all =
      let whole : list_all (λ p. is_some (first_result older c.id p)) (accessed script.topology c) ≡ true =
      all_from (λ p. is_some (first_result older c.id p)) (accessed script.topology c) all in
      let value : List Answer =
      merged script.topology.partitions c.ops (λ p. unwrap_or (first_result older c.id p) []) in
      ap (λ (o : Option Command). is_some (reply_from script (first_result older c.id) o))
      (command_is script accepted c ours)
      ∙ ap (λ (b : Bool). is_some (cond b (Some value) None)) whole

  -- and the session has its answer

  whole_of : (shape : Shape) (parts : List (Option (List Answer))) (o : Option Command)
      → is_some (session.merged_reply shape parts o) ≡ true → session.is_whole shape parts o ≡ true
  whole_of shape parts None some = absurd cc
  whole_of shape parts (Some c) some = elim (cases_Bool (session.is_whole shape parts (Some c))) [
    | inl does ↦ does
    | inr fails ↦ absurd (
        let none : session.merged_reply shape parts (Some c) ≡ None =
        cond-false (session.is_whole shape parts (Some c))
        (Some (merged shape.partitions c.ops (answers_in parts))) None fails in
        let wrong : is_some (session.merged_reply shape parts (Some c)) ≡ false =
        ap (λ (o : Option (List Answer)). is_some o) none in
        cc
        )
  ]

  answered : (id : CommandId) → is_some (reply_to script older id) ≡ true
      → session.is_answered script.topology (client_of script id.session) (session_of script older id) id.number ≡ true
  answered id some =
      whole_of script.topology ((session_of script older id).kept id.number)
      (nth (client_of script id.session).commands id.number)
      (ap (λ (o : Option (List Answer)). is_some o) (session_reply script older accepted history id) ∙ some)

  -- a session that has answered all that it submitted, and has no step to make, has submitted all
  pub all_submitted_by : (s : SessionId)
      → ((n : ℕ) → 1 ≤ n → n ≤ submitted_by script older s
      → is_some (reply_to script older (record { session = s; number = n })) ≡ true)
      → session.enabled script.topology (client_of script s)
      (session.state_after script.topology (client_of script s) (acts older (Session s))) ≡ None
      → length (commands_of script s) ≤ submitted_by script older s
  all_submitted_by s replies still =
      let client : Client = client_of script s in
      let state : session.SessionState = session.state_after script.topology client (acts older (Session s)) in
      let none : session.open_count script.topology client state ≡ 0 =
      count_none (λ n. not (session.is_answered script.topology client state n)) state.submitted
      (λ n low high. ap not (answered (record { session = s; number = n }) (replies n low high))) in
      let room : nat_lt (session.open_count script.topology client state) client.window ≡ true =
      lt-ltb (session.open_count script.topology client state) client.window (omega (arith, none)) in
      let test : Bool = nat_lt state.submitted (length client.commands) in
      elim (cases_Bool test) [
        | inr fails ↦ ltb-false state.submitted (length client.commands) fails
        | inl does ↦ absurd (
            let next : session.enabled script.topology client state ≡ Some (Submit (state.submitted + 1)) =
            cond-true (test && nat_lt (session.open_count script.topology client state) client.window)
            (Some (Submit (state.submitted + 1))) None
            (and_from test (nat_lt (session.open_count script.topology client state) client.window) does room) in
            let wrong : None ≡ Some (Submit (state.submitted + 1)) = sym still ∙ next in
            cc
            )
      ]

  -- a command's number is among its session's
  pub number_within : (c : Command) → IsIn c script.commands
      → IsFrom 1 (length (commands_of script c.id.session)) c.id.number
  number_within c ours =
      of_number c.id.number (command_at script accepted c.id ∙ command_is script accepted c ours)
    where
      of_number : (n : ℕ) → nth (commands_of script c.id.session) n ≡ Some c
          → IsFrom 1 (length (commands_of script c.id.session)) n
      of_number zero at = absurd cc
      of_number (suc i) at = (omega arith, omega (arith, got_within (commands_of script c.id.session) i c at))

-- what a session counts as submitted was submitted

module _ (script : Script) (s : SessionId) where
  abbrev at_number : ℕ → CommandId
  at_number n = record { session = s; number = n }

  -- a command of this number is the session's, and was submitted
  abbrev pub IsSubmittedAt : List Entry → ℕ → Type 0
  IsSubmittedAt older n = (n ≤ length (commands_of script s)) × IsSubmitted older (at_number n)

  submitted_later : (older : List Entry) (e : Entry) (n : ℕ) → IsSubmittedAt older n → IsSubmittedAt (e ∷ older) n
  submitted_later older e n h =
      (h.0, or_right (is_submission_of (at_number n) e) (list_any (is_submission_of (at_number n)) older) h.1)

  pub counted_submitted : (older : List Entry) → IsFreeHistory script older → (n : ℕ) → 1 ≤ n
      → n ≤ submitted_by script older s → IsSubmittedAt older n
  counted_submitted [] history n low high = absurd (omega (arith, low, high))
  counted_submitted (e ∷ older) history n low high =
      let before : n ≤ submitted_by script older s → IsSubmittedAt (e ∷ older) n =
      (λ le. submitted_later older e n (counted_submitted older history.0 n low le)) in
      acts_step
      (λ (list : List Act). n ≤ (session.state_after script.topology (client_of script s) list).submitted
      → IsSubmittedAt (e ∷ older) n) older e (Session s) before
      (λ act same is le. by_act act same is le before) high
    where
      state : session.SessionState
      state = session.state_after script.topology (client_of script s) (acts older (Session s))

      may_make : e.actor ≡ Session s → (inner : Inner) → e.event ≡ OfItself inner
          → MayMake (identity_in script (Session s)) (acts older (Session s)) inner
      may_make same inner is =
          subst (MayHappen script older (Session s)) is
          (subst (λ (a : ActorName). MayHappen script older a e.event) same history.1.may)

      event_of : (inner : Inner) (event : Event) → act_of older event ≡ Some (Did inner) → event ≡ OfItself inner
      event_of inner (Deliver entry place) is = absurd (of_output (output_at older entry place) is)
        where
          of_output : (o : Option Message) → option_map Took o ≡ Some (Did inner) → ⊥
          of_output None e = absurd cc
          of_output (Some x) e = absurd cc
      event_of inner (Dropped entry place) is = absurd cc
      event_of inner (OfItself other) is = cc

      submits : (m : ℕ) → e.actor ≡ Session s → e.event ≡ OfItself (Submit m) → n ≤ m
          → (n ≤ submitted_by script older s → IsSubmittedAt (e ∷ older) n) → IsSubmittedAt (e ∷ older) n
      submits m same is le before =
          let may = session_may script.topology (client_of script s) state (Submit m) (may_make same (Submit m) is) in
          let number : m ≡ state.submitted + 1 = (let e = may.0 in cc) in
          elim (cases_eq n m) [
            | inr apart ↦ before (omega (arith, le, apart, number))
            | inl now ↦ (
              omega (arith, now, number, may.1),
              or_left (is_submission_of (at_number n) e) (list_any (is_submission_of (at_number n)) older)
                  (and_from (same_name e.actor (Session s)) (is_submit n e.event)
                  (ap (λ (a : ActorName). same_name a (Session s)) same ∙ same_name_refl (Session s))
                  (ap (λ (x : Event). is_submit n x) is ∙ eq-eqb n m now)),
            )
          ]

      by_act : (act : Act) → e.actor ≡ Session s → act_of older e.event ≡ Some act
          → n ≤ (session.react script.topology (client_of script s) act state).0.submitted
          → (n ≤ submitted_by script older s → IsSubmittedAt (e ∷ older) n) → IsSubmittedAt (e ∷ older) n
      by_act (Took m) same is le before = before (omega (arith, le, message_keeps_submitted script.topology (client_of script s) m state))
      by_act (Did (Submit m)) same is le before = submits m same (event_of (Submit m) e.event is) le before
      by_act (Did _) same is le before = before le
