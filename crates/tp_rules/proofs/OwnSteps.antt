-- Which steps of its own an actor may make: a session submits its next command, a process announces, an executor declares
-- its least waiting command, or executes it. Used where a step of a journal is to be known by its actor.
use Rattle.std.proofs.Common.{List, None, Option, Some, [], ap, cond, false, inl, inr, length, refl, true, ℕ, ◌+◌, ◌<◌, ◌∷◌, ◌≡◌, ◌⊎◌}
use Rattle.std.specs.Prelude.{nat_lt, not, ◌&&◌}
use Rattle.std.proofs.lemmas.Bool.{cond_both, ltb-true, and_parts}
use Rattle.std.specs.List.{list_all}
use Rattle.tp_base.specs.Lists.{has}
use Rattle.tp_base.specs.Names.{same_id}
use Rattle.tp_base.specs.declared.names.ActorName.{ActorName}
use Rattle.tp_base.specs.declared.names.ActorName.TheVariants.{Process, Executor, Session}
use Rattle.tp_base.specs.declared.names.CommandId.{CommandId}
use Rattle.tp_base.specs.declared.names.SessionId.{SessionId}
use Rattle.tp_base.specs.declared.names.Site.{Site}
use Rattle.tp_rules.specs.Acts.{Client}
use Rattle.tp_rules.specs.Executor as executor
use Rattle.tp_rules.specs.Process as process
use Rattle.tp_rules.specs.Session as session
use Rattle.tp_rules.specs.Journal.{identity_in, client_of, commands_of, acts}
use Rattle.tp_rules.specs.Rules.{MayMake}
use Rattle.tp_rules.specs.Sheet.{ring_rule}
use Rattle.tp_rules.specs.declared.event.Entry.{Entry}
use Rattle.tp_rules.specs.declared.event.Inner.{Inner}
use Rattle.tp_rules.specs.declared.event.Inner.TheVariants.{Submit, Announce, Declare, Execute}
use Rattle.tp_script.specs.declared.script.Script.{Script}
use Rattle.tp_topology.specs.Shape.{Shape}

-- a session
pub session_may : (shape : Shape) (client : Client) (state : session.SessionState) (inner : Inner) → session.enabled shape client state ≡ Some inner →
    (inner ≡ Submit (state.submitted + 1)) × (state.submitted < length client.commands)
session_may shape client state inner e =
    let test = nat_lt state.submitted (length client.commands) && nat_lt (session.open_count shape client state) client.window in
    cond_both test (Some (Submit (state.submitted + 1))) None
    (λ (o : Option Inner). o ≡ Some inner → (inner ≡ Submit (state.submitted + 1)) × (state.submitted < length client.commands))
    (λ is f. (cc, ltb-true state.submitted (length client.commands) (and_parts (nat_lt state.submitted (length client.commands)) _ is).0))
    (λ is f. absurd cc) e

-- a process
pub process_may : (state : process.ProcessState) (inner : Inner) → process.enabled state ≡ Some inner →
    (inner ≡ Announce) × (nat_lt state.told state.clock ≡ true)
process_may state inner e =
    cond_both (nat_lt state.told state.clock) (Some Announce) None
    (λ (o : Option Inner). o ≡ Some inner → (inner ≡ Announce) × (nat_lt state.told state.clock ≡ true))
    (λ is f. (cc, is)) (λ is f. absurd cc) e

-- an executor

abbrev pub Declares : Shape → Site → executor.ExecutorState → executor.Committed → Inner → Type 0
Declares shape me state c inner = (inner ≡ Declare c.key.id) × (executor.may_declare shape me state c ≡ true)

abbrev pub Executes : Shape → Site → executor.ExecutorState → executor.Committed → Inner → Type 0
Executes shape me state c inner = (inner ≡ Execute c.key.id) × (executor.may_execute shape me state c ≡ true)

step_is : (shape : Shape) (me : Site) (state : executor.ExecutorState) (c : executor.Committed) (inner : Inner) →
    executor.enabled_of shape me state (Some c) ≡ Some inner → Declares shape me state c inner ⊎ Executes shape me state c inner
step_is shape me state c inner =
    let execution : Option Inner = cond (executor.may_execute shape me state c) (Some (Execute c.key.id)) None in
    let Goal : Option Inner → Type 0 = λ o. o ≡ Some inner → Declares shape me state c inner ⊎ Executes shape me state c inner in
    cond_both (executor.may_declare shape me state c) (Some (Declare c.key.id)) execution Goal
    (λ may e. inl (cc, may))
    (λ no. cond_both (executor.may_execute shape me state c) (Some (Execute c.key.id)) None Goal (λ may e. inr (cc, may)) (λ none e. absurd cc))

pub executor_may : (shape : Shape) (me : Site) (state : executor.ExecutorState) (inner : Inner) → executor.enabled shape me state ≡ Some inner →
    (c : executor.Committed) × (executor.least (executor.waiting state) ≡ Some c)
    × (Declares shape me state c inner ⊎ Executes shape me state c inner)
executor_may shape me state inner e = of_least (executor.least (executor.waiting state)) refl e
  where
    of_least : (o : Option executor.Committed) → executor.least (executor.waiting state) ≡ o → executor.enabled_of shape me state o ≡ Some inner →
        (c : executor.Committed) × (executor.least (executor.waiting state) ≡ Some c)
        × (Declares shape me state c inner ⊎ Executes shape me state c inner)
    of_least None is f = absurd cc
    of_least (Some c) is f = (c, is, step_is shape me state c inner f)

-- no other step
executor_may_not : (shape : Shape) (me : Site) (state : executor.ExecutorState) (inner : Inner) → executor.enabled shape me state ≡ Some inner →
    ((id : CommandId) → inner ≡ Declare id → ⊥) → ((id : CommandId) → inner ≡ Execute id → ⊥) → ⊥
executor_may_not shape me state inner e no_declare no_execute =
    let found = executor_may shape me state inner e in
    elim found.2 [ inl declares ↦ no_declare found.0.key.id declares.0 | inr executes ↦ no_execute found.0.key.id executes.0 ]

-- who submits
pub submit_may : (script : Script) (older : List Entry) (actor : ActorName) (n : ℕ) →
    MayMake (identity_in script actor) (acts older actor) (Submit n) →
    (s : SessionId) × (actor ≡ Session s)
    × (n ≡ (session.state_after script.topology (client_of script s) (acts older (Session s))).submitted + 1)
    × ((session.state_after script.topology (client_of script s) (acts older (Session s))).submitted < length (commands_of script s))
submit_may script older (Process s) n may = let parts =
    process_may (process.state_after (ring_rule script.topology) s (acts older (Process s))) (Submit n) may in absurd (let wrong = parts.0 in cc)
submit_may script older (Executor s) n may = absurd
    (executor_may_not script.topology s (executor.state_after script.topology s (acts older (Executor s))) (Submit n) may
    (λ id wrong. cc) (λ id wrong. cc))
submit_may script older (Session s) n may =
    let state = session.state_after script.topology (client_of script s) (acts older (Session s)) in
    let parts = session_may script.topology (client_of script s) state (Submit n) may in
    let same : Submit n ≡ Submit (state.submitted + 1) = parts.0 in
    (s, refl, cc, parts.1)

-- who announces
pub announce_may : (script : Script) (older : List Entry) (actor : ActorName) → MayMake (identity_in script actor) (acts older actor) Announce →
    (s : Site) × (actor ≡ Process s)
    × (let state = process.state_after (ring_rule script.topology) s (acts older (Process s)) in nat_lt state.told state.clock ≡ true)
announce_may script older (Process s) may =
    (s, refl, (process_may (process.state_after (ring_rule script.topology) s (acts older (Process s))) Announce may).1)
announce_may script older (Executor s) may = absurd
    (executor_may_not script.topology s (executor.state_after script.topology s (acts older (Executor s))) Announce may
    (λ id wrong. cc) (λ id wrong. cc))
announce_may script older (Session s) may =
    let parts =
    session_may script.topology (client_of script s)
    (session.state_after script.topology (client_of script s) (acts older (Session s))) Announce may in absurd (let wrong = parts.0 in cc)

-- who executes
pub execute_may : (script : Script) (older : List Entry) (actor : ActorName) (id : CommandId) →
    MayMake (identity_in script actor) (acts older actor) (Execute id) →
    (s : Site) × (actor ≡ Executor s) × (c : executor.Committed)
    × (executor.least (executor.waiting (executor.state_after script.topology s (acts older (Executor s)))) ≡ Some c) × (id ≡ c.key.id)
execute_may script older (Process s) id may = let parts =
    process_may (process.state_after (ring_rule script.topology) s (acts older (Process s))) (Execute id) may in absurd (let wrong = parts.0 in cc)
execute_may script older (Executor s) id may =
    let parts = executor_may script.topology s (executor.state_after script.topology s (acts older (Executor s))) (Execute id) may in
    elim parts.2 [
      | inl declares ↦ absurd (let wrong = declares.0 in cc)
      | inr executes ↦ let same : Execute id ≡ Execute parts.0.key.id = executes.0 in (s, refl, parts.0, parts.1, cc)
    ]
execute_may script older (Session s) id may =
    let parts =
    session_may script.topology (client_of script s) (session.state_after script.topology (client_of script s) (acts older (Session s)))
    (Execute id) may in absurd (let wrong = parts.0 in cc)

-- who declares
pub declare_may : (script : Script) (older : List Entry) (actor : ActorName) (id : CommandId) →
    MayMake (identity_in script actor) (acts older actor) (Declare id) →
    (s : Site) × (actor ≡ Executor s) × (c : executor.Committed)
    × (executor.least (executor.waiting (executor.state_after script.topology s (acts older (Executor s)))) ≡ Some c)
    × (executor.may_declare script.topology s (executor.state_after script.topology s (acts older (Executor s))) c ≡ true)
declare_may script older (Process s) id may = let parts =
    process_may (process.state_after (ring_rule script.topology) s (acts older (Process s))) (Declare id) may in absurd (let wrong = parts.0 in cc)
declare_may script older (Executor s) id may =
    let parts = executor_may script.topology s (executor.state_after script.topology s (acts older (Executor s))) (Declare id) may in
    elim parts.2 [
      | inl declares ↦ (s, refl, parts.0, parts.1, declares.1)
      | inr executes ↦ absurd (let wrong = executes.0 in cc)
    ]
declare_may script older (Session s) id may =
    let parts =
    session_may script.topology (client_of script s) (session.state_after script.topology (client_of script s) (acts older (Session s)))
    (Declare id) may in absurd (let wrong = parts.0 in cc)

-- what is ready is declared
pub ready_declared : (state : executor.ExecutorState) (id : CommandId) (others : List ℕ) → executor.is_ready state id others ≡ true
    → executor.is_undeclared state id others ≡ false
ready_declared state id [] h = refl
ready_declared state id (q ∷ qs) h =
    ap not (and_parts (has same_id id state.declared) (list_all (executor.is_heard state id) (q ∷ qs)) h).0
