-- How an executor's fields go on with the state of the rules. Used by the functions of each step.
use Rattle.std.proofs.Common.{◌≡◌, ℕ, inl, inr, Bool, true, false, not, cond, List, [], ◌∷◌, Option, Some, None, refl, sym, ap, subst, ◌∙◌}
use Rattle.std.specs.Prelude.{filter}
use Rattle.tp_base.specs.declared.names.ActorName.TheVariants.{Executor as ExecutorName, Session}
use Rattle.tp_base.specs.declared.names.CommandId.{CommandId}
use Rattle.tp_base.specs.declared.names.Site.{Site}
use Rattle.tp_base.specs.Lists.{IsIn, has}
use Rattle.tp_base.specs.Names.{same_id}
use Rattle.tp_base.proofs.Each.{each_in}
use Rattle.tp_mstable.specs.Declarations.{Calls as Declarations, Keeps}
use Rattle.tp_mstable.specs.declared.declared.Declared.{Declared}
use Rattle.tp_ops.specs.declared.command.Command.{Command}
use Rattle.tp_ops.specs.declared.operation.Answer.{Answer}
use Rattle.tp_ops.specs.Parts.{ops_on}
use Rattle.tp_ops.specs.Store.{Contents, after_all, answers_of}
use Rattle.tp_promise.specs.Books.{IsBook}
use Rattle.tp_promise.specs.declared.book.Book.{Book}
use Rattle.tp_queue.specs.Waiting.{Calls, Entry, IsAfter, IsLeast, left, was_put, with_put, with_taken}
use Rattle.tp_queue.specs.declared.queue.Queue.{Queue}
use Rattle.tp_rules.specs.Acts.{Act, Did}
use Rattle.tp_rules.specs.Addresses.{message}
use Rattle.tp_rules.specs.Executor.{Committed, ExecutorState, Step, committed_ids, declare_least, declared, execute_least, executed, least, on_committed, on_declare, on_execute, on_inner, state_after, waiting}
use Rattle.tp_rules.specs.declared.event.Inner.{Inner}
use Rattle.tp_store.specs.Values.{contents_of}
use Rattle.tp_topology.specs.Shape.{Shape}
use Rattle.tp_topology.specs.Stability.{Telling}
use Rattle.tp_wire.specs.declared.message.Body.TheVariants.{MResult}
use Rattle.tp_wire.specs.declared.message.Message.{Message}
use Rattle.tp_executor.proofs.Least.{entry_of, first_waits, none_waits, was_committed}
use Rattle.tp_executor.specs.States.{IsState, Stands, calls_of, declarations_of, identity}
use Rattle.tp_executor.specs.declared.executor.Executor.{Executor}
use Rattle.tp_rules.proofs.ends.Unexecuted.{least_in}

-- the fields beside the declarations
pub record SameBesideDeclared (e e' : Executor) : Type 0 where
  pub book : e'.book ≡ e.book
  pub queue : e'.queue ≡ e.queue
  pub store : e'.store ≡ e.store

queue_as : (q q' : Queue) (calls : Calls) → q' ≡ q → IsAfter q calls → IsAfter q' calls
queue_as q q' calls same is = subst (λ (x : Queue). IsAfter x calls) (sym same) is

book_as : (b b' : Book) (told : List Telling) (ids : List CommandId) → b' ≡ b → IsBook b told ids → IsBook b' told ids
book_as b b' told ids same is = subst (λ (x : Book). IsBook x told ids) (sym same) is

declared_as : (d d' : Declared) (calls : Declarations) → d' ≡ d → Keeps d calls → Keeps d' calls
declared_as d d' calls same is = subst (λ (x : Declared). Keeps x calls) (sym same) is

abbrev pub committed_with : ℕ → Command → Committed
committed_with t c = record { key = record { stamp = record { 0 = t }; id = c.id }; command = c }

is_not : (b new : Bool) → new ≡ not b → not new ≡ b
is_not true new e = ap not e
is_not false new e = ap not e

abbrev entry_with : ℕ → CommandId → Command → Entry
entry_with t id c = record { key = record { stamp = record { 0 = t }; id = id }; command = c }

-- one more command is committed
pub commits : (e e' : Executor) (c copy : Command) (t : ℕ) (new : Bool) → new ≡ true → copy ≡ c → e'.store ≡ e.store → e'.declared ≡ e.declared
    → ((calls : Calls) → IsAfter e.queue calls → new ≡ not (was_put c.id calls))
    → ((calls : Calls) → IsAfter e.queue calls → IsAfter e'.queue (with_put new (entry_with t c.id copy) calls))
    → ((told : List Telling) (ids : List CommandId) → IsBook e.book told ids → IsBook e'.book told (c.id ∷ ids))
    → (state : ExecutorState) → IsState e state → IsState e' (on_committed c t state).0
commits e e' c copy t new is same store declared first put more state st =
    let out : has same_id c.id (committed_ids state) ≡ false =
    sym (was_committed state c.id) ∙ sym (is_not (was_put c.id (calls_of state)) new (first (calls_of state) st.queue)) ∙ ap not is in
    let later : ExecutorState = record state { committed = committed_with t c ∷ state.committed } in
    let after : IsState e' later = record {
      book = more state.told (committed_ids state) st.book;
      queue = subst (λ (b : Bool). IsAfter e'.queue (with_put b (entry_with t c.id c) (calls_of state))) is
          (subst (λ (d : Command). IsAfter e'.queue (with_put new (entry_with t c.id d) (calls_of state))) same (put (calls_of state) st.queue));
      contents = ap contents_of store ∙ st.contents;
      declared = declared_as e.declared e'.declared (declarations_of state) declared st.declared;
      keys = (refl, st.keys);
    } in
    subst (λ (b : Bool). IsState e' (cond {A = Step} b (state, []) (later, [])).0) (sym out) after

-- a command that was committed before
pub commits_again : (e e' : Executor) (c copy : Command) (t : ℕ) (new : Bool) → new ≡ false → e'.book ≡ e.book → e'.store ≡ e.store → e'.declared ≡ e.declared
    → ((calls : Calls) → IsAfter e.queue calls → new ≡ not (was_put c.id calls))
    → ((calls : Calls) → IsAfter e.queue calls → IsAfter e'.queue (with_put new (entry_with t c.id copy) calls))
    → (state : ExecutorState) → IsState e state → IsState e' (on_committed c t state).0
commits_again e e' c copy t new is book store declared first put state st =
    let known : has same_id c.id (committed_ids state) ≡ true =
    sym (was_committed state c.id) ∙ sym (is_not (was_put c.id (calls_of state)) new (first (calls_of state) st.queue)) ∙ ap not is in
    let later : ExecutorState = record state { committed = committed_with t c ∷ state.committed } in
    let after : IsState e' state = record {
      book = book_as e.book e'.book state.told (committed_ids state) book st.book;
      queue = subst (λ (b : Bool). IsAfter e'.queue (with_put b (entry_with t c.id copy) (calls_of state))) is (put (calls_of state) st.queue);
      contents = ap contents_of store ∙ st.contents;
      declared = declared_as e.declared e'.declared (declarations_of state) declared st.declared;
      keys = st.keys;
    } in
    subst (λ (b : Bool). IsState e' (cond {A = Step} b (state, []) (later, [])).0) (sym known) after

-- the queue gave this entry as its least one
abbrev pub IsFirst : Executor → Option Entry → Type 0
IsFirst e o = (calls : Calls) → IsAfter e.queue calls → IsLeast o (left calls)

pub first_of : (e : Executor) (m : Committed) (state : ExecutorState) → IsFirst e (Some (entry_of m)) → IsState e state → least (waiting state) ≡ Some m
first_of e m state first st = first_waits state m (first (calls_of state) st.queue)

pub none_of : (e : Executor) (state : ExecutorState) → IsFirst e None → IsState e state → least (waiting state) ≡ None
none_of e state first st = none_waits state (first (calls_of state) st.queue)

-- the fields that a state speaks of are as they were
pub same_state : (e e' : Executor) (state : ExecutorState) → SameBesideDeclared e e' → e'.declared ≡ e.declared → IsState e state → IsState e' state
same_state e e' state same declared st = record {
  book = book_as e.book e'.book state.told (committed_ids state) same.book st.book;
  queue = queue_as e.queue e'.queue (calls_of state) same.queue st.queue;
  contents = ap contents_of same.store ∙ st.contents;
  declared = declared_as e.declared e'.declared (declarations_of state) declared st.declared;
  keys = st.keys;
}

-- a step of its own, after which whether memory was wanted is written down
pub makes : (e e' e'' : Executor) (inner : Inner) → identity e' ≡ identity e → identity e'' ≡ identity e' → SameBesideDeclared e' e'' → e''.declared ≡ e'.declared
    → ((state : ExecutorState) → IsState e state → IsState e' (on_inner e.topology e.site inner state).0)
    → (acts : List Act) → Stands e acts → Stands e'' (Did inner ∷ acts)
makes e e' e'' inner named named' same declared more acts stands =
    let shape : e.topology ≡ e''.topology = cc in
    let me : e.site ≡ e''.site = cc in
    subst (λ (s : Shape). IsState e'' (on_inner s e''.site inner (state_after s e''.site acts)).0) shape
    (subst (λ (p : Site). IsState e'' (on_inner e.topology p inner (state_after e.topology p acts)).0) me
    (same_state e' e'' (on_inner e.topology e.site inner (state_after e.topology e.site acts)).0 same declared (more (state_after e.topology e.site acts) stands)))

-- the least waiting command is declared
pub declares : (e e' : Executor) (m : Committed) → IsFirst e (Some (entry_of m)) → SameBesideDeclared e e'
    → ((calls : Declarations) → Keeps e.declared calls → Keeps e'.declared (record { sent = m.command.id ∷ calls.sent; heard = calls.heard }))
    → (state : ExecutorState) → IsState e state → IsState e' (on_declare e.topology e.site state).0
declares e e' m first same more state st =
    let after : IsState e' (declared e.topology e.site m.command state).0 = record {
      book = book_as e.book e'.book state.told (committed_ids state) same.book st.book;
      queue = queue_as e.queue e'.queue (calls_of state) same.queue st.queue;
      contents = ap contents_of same.store ∙ st.contents;
      declared = more (declarations_of state) st.declared;
      keys = st.keys;
    } in
    subst (λ (o : Option Committed). IsState e' (declare_least e.topology e.site o state).0) (sym (first_of e m state first st)) after

in_filter : {X : Type 0} (p : X → Bool) (xs : List X) (x : X) → IsIn x (filter p xs) → IsIn x xs
in_filter p [] x h = absurd h
in_filter p (y ∷ ys) x h = go (p y) h (in_filter p ys x)
  where
    go : (b : Bool) → IsIn x (cond b (y ∷ filter p ys) (filter p ys)) → (IsIn x (filter p ys) → IsIn x ys) → IsIn x (y ∷ ys)
    go true (inl e) rest = inl e
    go true (inr h) rest = inr (rest h)
    go false h rest = inr (rest h)

pub declares_none : (e : Executor) (state : ExecutorState) → IsFirst e None → IsState e state → on_declare e.topology e.site state ≡ (state, [])
declares_none e state first st = ap (λ (o : Option Committed). declare_least e.topology e.site o state) (none_of e state first st)

pub declares_nothing : (e e' : Executor) → IsFirst e None → SameBesideDeclared e e' → e'.declared ≡ e.declared
    → (state : ExecutorState) → IsState e state → IsState e' (on_declare e.topology e.site state).0
declares_nothing e e' first same declared state st =
    subst (λ (m : Step). IsState e' m.0) (sym (declares_none e state first st)) (same_state e e' state same declared st)

-- the least waiting command is executed
pub executes : (e e' : Executor) (m : Committed) → IsFirst e (Some (entry_of m))
    → ((calls : Calls) → IsAfter e.queue calls → IsAfter e'.queue (with_taken (Some (entry_of m)) calls))
    → e'.book ≡ e.book → e'.declared ≡ e.declared
    → contents_of e'.store ≡ after_all (ops_on e.topology.partitions e.site.partition.0 m.command.ops) (contents_of e.store)
    → (state : ExecutorState) → IsState e state → IsState e' (on_execute e.topology e.site state).0
executes e e' m first taken book declared store state st =
    let is : least (waiting state) ≡ Some m = first_of e m state first st in
    let there : IsIn m state.committed = in_filter (λ c. not (has same_id c.key.id state.executed)) state.committed m (least_in (waiting state) m is) in
    let named : m.key.id ≡ m.command.id = each_in (λ (c : Committed). c.key.id ≡ c.command.id) state.committed m st.keys there in
    let after : IsState e' (executed e.topology e.site m.command state).0 = record {
      book = book_as e.book e'.book state.told (committed_ids state) book st.book;
      queue = subst (λ (id : CommandId). IsAfter e'.queue (record { put = (calls_of state).put; taken = id ∷ state.executed })) named (taken (calls_of state) st.queue);
      contents = store ∙ ap (after_all (ops_on e.topology.partitions e.site.partition.0 m.command.ops)) st.contents;
      declared = declared_as e.declared e'.declared (declarations_of state) declared st.declared;
      keys = st.keys;
    } in
    subst (λ (o : Option Committed). IsState e' (execute_least e.topology e.site o state).0) (sym is) after

pub executes_none : (e : Executor) (state : ExecutorState) → IsFirst e None → IsState e state → on_execute e.topology e.site state ≡ (state, [])
executes_none e state first st = ap (λ (o : Option Committed). execute_least e.topology e.site o state) (none_of e state first st)

-- none waits, and none is taken
pub takes_none : (e e' : Executor) → IsFirst e None → ((calls : Calls) → IsAfter e.queue calls → IsAfter e'.queue (with_taken None calls))
    → e'.book ≡ e.book → e'.store ≡ e.store → e'.declared ≡ e.declared
    → (state : ExecutorState) → IsState e state → IsState e' (on_execute e.topology e.site state).0
takes_none e e' first taken book store declared state st =
    let after : IsState e' state = record {
      book = book_as e.book e'.book state.told (committed_ids state) book st.book;
      queue = taken (calls_of state) st.queue;
      contents = ap contents_of store ∙ st.contents;
      declared = declared_as e.declared e'.declared (declarations_of state) declared st.declared;
      keys = st.keys;
    } in
    subst (λ (m : Step). IsState e' m.0) (sym (executes_none e state first st)) after

-- what is sent where it is executed
pub executes_sends : (e : Executor) (m : Committed) (answers : List Answer) (outputs : List Message) → IsFirst e (Some (entry_of m))
    → answers ≡ answers_of (ops_on e.topology.partitions e.site.partition.0 m.command.ops) (contents_of e.store)
    → outputs ≡ message (ExecutorName e.site) (Session m.command.id.session) (MResult m.command.id e.site.partition answers) ∷ []
    → (state : ExecutorState) → IsState e state → outputs ≡ (on_execute e.topology e.site state).1
executes_sends e m answers outputs first answered sent state st =
    let ops = ops_on e.topology.partitions e.site.partition.0 m.command.ops in
    sent
    ∙ ap (λ (a : List Answer). message (ExecutorName e.site) (Session m.command.id.session) (MResult m.command.id e.site.partition a) ∷ [])
    (answered ∙ ap (λ (contents : Contents). answers_of ops contents) st.contents)
    ∙ ap (λ (o : Option Committed). (execute_least e.topology e.site o state).1) (sym (first_of e m state first st))
