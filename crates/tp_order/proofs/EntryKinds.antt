-- What an entry is to the executors: it executes and declares nothing, or one executor declares or executes its least
-- waiting command. Used for every step of the line's proof, which then names no act and no message.
use Rattle.std.proofs.Common.{◌≡◌, ◌≢◌, inl, inr, true, List, [], ◌∷◌, Option, Some, None, refl, sym, subst, ap, ◌∙◌}
use Rattle.std.specs.Prelude.{◌==◌, ◌&&◌, not}
use Rattle.std.proofs.lemmas.Bool.{cond_both}
use Rattle.tp_base.specs.Lists.{has}
use Rattle.tp_base.specs.Names.{same_id, same_name}
use Rattle.tp_base.proofs.SameNames.{same_name_not}
use Rattle.tp_base.specs.declared.names.ActorName.{ActorName}
use Rattle.tp_base.specs.declared.names.ActorName.TheVariants.{Executor}
use Rattle.tp_base.specs.declared.names.CommandId.{CommandId}
use Rattle.tp_base.specs.declared.names.Site.{Site}
use Rattle.tp_rules.specs.Acts.{Act, Took, Did}
use Rattle.tp_rules.specs.Addresses.{partition_of, is_name_of, is_body_at}
use Rattle.tp_rules.specs.Journal.{act_of, acts, identity_in}
use Rattle.tp_rules.specs.Outcome.{executed_by}
use Rattle.tp_rules.specs.Rules.{MayMake}
use Rattle.tp_rules.specs.Runs.{FollowsRules, MayHappen}
use Rattle.tp_rules.specs.declared.event.Entry.{Entry}
use Rattle.tp_rules.specs.declared.event.Event.{Event}
use Rattle.tp_rules.specs.declared.event.Event.TheVariants.{Deliver, Dropped, Inner as OfItself}
use Rattle.tp_rules.specs.declared.event.Inner.{Inner}
use Rattle.tp_rules.specs.declared.event.Inner.TheVariants.{Submit, Recover, Announce, Declare, Execute, Crash}
use Rattle.tp_script.specs.declared.script.Script.{Script}
use Rattle.tp_topology.specs.Shape.{Shape}
use Rattle.tp_wire.specs.declared.message.Body.{Body}
use Rattle.tp_wire.specs.declared.message.Body.TheVariants.{MPromises, MCommitted, MStable}
use Rattle.tp_wire.specs.declared.message.Message.{Message}
use Rattle.tp_rules.proofs.ActsMore.{acts_step, acts_then, delivered_act}
use Rattle.tp_rules.proofs.Journals.{acts_of_others}
use Rattle.tp_rules.proofs.OwnSteps.{executor_may, execute_may, declare_may}
use Rattle.tp_rules.proofs.ends.Unexecuted.{executor_of}
use Rattle.tp_rules.specs.Executor as executor

-- between two states nothing was executed or declared
pub record IsQuiet (before after : executor.ExecutorState) : Type 0 where
  pub executed : after.executed ≡ before.executed
  pub declared : after.declared ≡ before.declared

quiet_state : (state : executor.ExecutorState) → IsQuiet state state
quiet_state state = record { executed = refl; declared = refl }

abbrev IsQuietMove : executor.ExecutorState → executor.Step → Type 0
IsQuietMove state moved = IsQuiet state moved.0

-- what a message tells is no execution or declaration
rule_is_quiet : (me : Site) (from : ActorName) (body : Body) (state : executor.ExecutorState) →
    IsQuietMove state (executor.on_body me from body state)
rule_is_quiet me from (MPromises lo hi pairs) state =
    cond_both (partition_of from == me.partition.0) _ (state, []) (IsQuietMove state)
    (λ own. record { executed = refl; declared = refl }) (λ foreign. quiet_state state)
rule_is_quiet me from (MCommitted c t) state =
    cond_both (has same_id c.id (executor.committed_ids state)) (state, []) _ (IsQuietMove state)
    (λ known. quiet_state state) (λ unknown. record { executed = refl; declared = refl })
rule_is_quiet me from (MStable id) state =
    cond_both (not (partition_of from == me.partition.0)) _ (state, []) (IsQuietMove state)
    (λ foreign. record { executed = refl; declared = refl }) (λ own. quiet_state state)
rule_is_quiet me from _ state = quiet_state state

pub message_is_quiet : (shape : Shape) (me : Site) (m : Message) (state : executor.ExecutorState) →
    IsQuietMove state (executor.react shape me (Took m) state)
message_is_quiet shape me m state =
    cond_both (same_name m.to (Executor me) && is_name_of shape m.from && is_body_at shape me.partition.0 m.body)
    (executor.on_body me m.from m.body state) (state, []) (IsQuietMove state)
    (λ passes. rule_is_quiet me m.from m.body state) (λ fails. quiet_state state)

module _ (script : Script) (older : List Entry) (e : Entry) where
  -- no executor but one has moved
  abbrev pub OthersStay : Site → Type 0
  OthersStay s = (x : Site) → x ≢ s → executor_of script (e ∷ older) x ≡ executor_of script older x

  -- no executor has executed or declared a command
  pub record QuietEntry : Type 0 where
    pub executes_nothing : executed_by e.event ≡ None
    pub states_stay : (x : Site) → IsQuiet (executor_of script older x) (executor_of script (e ∷ older) x)

  -- an executor has declared its least waiting command
  pub record Declaration : Type 0 where
    pub site : Site
    pub command : executor.Committed
    pub is_least : executor.least (executor.waiting (executor_of script older site)) ≡ Some command
    pub may_declare : executor.may_declare script.topology site (executor_of script older site) command ≡ true
    pub executes_nothing : executed_by e.event ≡ None
    pub state_after : executor_of script (e ∷ older) site ≡
        (executor.declared script.topology site command.command (executor_of script older site)).0
    pub others_stay : OthersStay site

  -- an executor has executed its least waiting command
  pub record Execution : Type 0 where
    pub site : Site
    pub command : executor.Committed
    pub is_least : executor.least (executor.waiting (executor_of script older site)) ≡ Some command
    pub may_execute : executor.may_execute script.topology site (executor_of script older site) command ≡ true
    pub executes_it : executed_by e.event ≡ Some command.key.id
    pub actor : e.actor ≡ Executor site
    pub state_after : executor_of script (e ∷ older) site ≡
        (executor.executed script.topology site command.command (executor_of script older site)).0
    pub others_stay : OthersStay site

  -- the three kinds of entries
  pub data EntryKind : Type 0 where
    quiet : QuietEntry → EntryKind
    declares : Declaration → EntryKind
    executes : Execution → EntryKind

  abbrev StaysQuiet : Act → Site → Type 0
  StaysQuiet act x =
      IsQuiet (executor_of script older x) (executor.react script.topology x act (executor_of script older x)).0

  others_stay : (s : Site) → e.actor ≡ Executor s → OthersStay s
  others_stay s is x apart =
      ap (λ (l : List Act). executor.state_after script.topology x l)
      (acts_of_others older e (Executor x) (same_name_not e.actor (Executor x) (λ same.
      apart (let executors : Executor x ≡ Executor s = sym same ∙ is in cc))))

  quiet_entry : executed_by e.event ≡ None →
      ((x : Site) (act : Act) → act_of older e.event ≡ Some act → StaysQuiet act x) → EntryKind
  quiet_entry none each = quiet (record {
    executes_nothing = none;
    states_stay = λ x.
        acts_step (λ (l : List Act). IsQuiet (executor_of script older x) (executor.state_after script.topology x l))
        older e (Executor x) (quiet_state (executor_of script older x)) (λ act same is. each x act is);
  })

  -- each entry that follows the rules is of one of the three kinds
  pub kind_of : FollowsRules script older e → EntryKind
  kind_of follows = by_event e.event refl
    where
      may_make : (inner : Inner) → e.event ≡ OfItself inner →
          MayMake (identity_in script e.actor) (acts older e.actor) inner
      may_make inner is = subst (MayHappen script older e.actor) is follows.may

      newest_act : (inner : Inner) (s : Site) → e.event ≡ OfItself inner → e.actor ≡ Executor s →
          executor_of script (e ∷ older) s
          ≡ (executor.react script.topology s (Did inner) (executor_of script older s)).0
      newest_act inner s is actor =
          ap (λ (l : List Act). executor.state_after script.topology s l)
          (acts_then older e (Executor s) (Did inner) actor (ap (act_of older) is))

      no_executor_step : (inner : Inner) → e.event ≡ OfItself inner → ((x : Site) → StaysQuiet (Did inner) x) →
          executed_by (OfItself inner) ≡ None → EntryKind
      no_executor_step inner is stays none = quiet_entry (ap executed_by is ∙ none) (λ x act found.
          let same_act : Some (Did inner) ≡ Some act = sym (ap (act_of older) is) ∙ found in
          let same : Did inner ≡ act = cc in
          subst (λ (a : Act). StaysQuiet a x) same (stays x))

      declaration : (id : CommandId) → e.event ≡ OfItself (Declare id) → EntryKind
      declaration id is =
          let (s, actor, c, is_least, may_declare) = declare_may script older e.actor id (may_make (Declare id) is) in
          let state = executor_of script older s in
          declares (record {
            site = s;
            command = c;
            is_least = is_least;
            may_declare = may_declare;
            executes_nothing = ap executed_by is;
            state_after = newest_act (Declare id) s is actor
                ∙ ap (λ (o : Option _). (executor.declare_least script.topology s o state).0) is_least;
            others_stay = others_stay s actor;
          })

      execution : (id : CommandId) → e.event ≡ OfItself (Execute id) → EntryKind
      execution id is =
          let by = execute_may script older e.actor id (may_make (Execute id) is) in
          let s = by.0 in
          let actor = by.1 in
          let state = executor_of script older s in
          let may : executor.enabled script.topology s state ≡ Some (Execute id) =
          subst (λ (a : ActorName). MayMake (identity_in script a) (acts older a) (Execute id)) actor
          (may_make (Execute id) is) in
          let (c, is_least, step) = executor_may script.topology s state (Execute id) may in
          elim step [
            | inl other ↦ absurd (let wrong = other.0 in cc)
            | inr own ↦
                let same : Execute id ≡ Execute c.key.id = own.0 in
                let own_command : id ≡ c.key.id = cc in
                executes (record {
                  site = s;
                  command = c;
                  is_least = is_least;
                  may_execute = own.1;
                  executes_it = ap executed_by is ∙ ap (λ (i : CommandId). Some i) own_command;
                  actor = actor;
                  state_after = newest_act (Execute id) s is actor
                      ∙ ap (λ (o : Option _). (executor.execute_least script.topology s o state).0) is_least;
                  others_stay = others_stay s actor;
                })
          ]

      by_event : (event : Event) → e.event ≡ event → EntryKind
      by_event (Deliver entry place) is = quiet_entry (ap executed_by is) (λ x act found.
          let delivered = delivered_act older entry place act (sym (ap (act_of older) is) ∙ found) in
          subst (λ (a : Act). StaysQuiet a x) (sym delivered.2)
          (message_is_quiet script.topology x delivered.0 (executor_of script older x)))
      by_event (Dropped entry place) is = quiet_entry (ap executed_by is) (λ x act found.
          absurd (let same_act : None ≡ Some act = sym (ap (act_of older) is) ∙ found in cc))
      by_event (OfItself (Declare id)) is = declaration id is
      by_event (OfItself (Execute id)) is = execution id is
      by_event (OfItself (Submit n)) is = no_executor_step (Submit n) is (λ x. quiet_state _) refl
      by_event (OfItself (Recover id)) is = no_executor_step (Recover id) is (λ x. quiet_state _) refl
      by_event (OfItself Announce) is = no_executor_step Announce is (λ x. quiet_state _) refl
      by_event (OfItself Crash) is = no_executor_step Crash is (λ x. quiet_state _) refl
