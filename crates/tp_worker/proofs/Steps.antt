-- What an actor offers is legal, what it has nothing to offer means, and where it stands once it is entered. Used where a cell
-- chooses, makes and enters a step.
use Rattle.std.proofs.Common.{◌≡◌, ◌<◌, ℕ, Bool, true, false, cond, List, [], ◌∷◌, ◌++◌, Option, Some, None, reverse, refl, sym, ap, subst, ◌∙◌, arith}
use Rattle.tp_base.specs.Lists.{IsIn, IsPrefixOf}
use Rattle.tp_base.specs.declared.names.ActorName.{ActorName}
use Rattle.tp_base.specs.declared.names.ActorName.TheVariants.{Process, Executor, Session}
use Rattle.tp_driver.proofs.Pendings.{due_line, pending_legal, planned_may}
use Rattle.tp_netbook.specs.Inbox.{FollowsNext, HasNoneLeft, IsSentTo, MayBeDone, line_or_first, lives_yet, next_event, sent_to, waiting_among}
use Rattle.tp_netbook.specs.Inbox.{entries_by as told_of}
use Rattle.tp_netbook.specs.declared.inbox.Waiting.{Waiting}
use Rattle.tp_rules.proofs.Histories.{free_history}
use Rattle.tp_rules.proofs.sent.Parcels.{output_sent, parcel}
use Rattle.tp_rules.specs.Acts.{Act, Identity}
use Rattle.tp_rules.specs.Journal.{act_of, acts, identity_in, is_known, is_live, output_at, with_act}
use Rattle.tp_rules.specs.Pending.{pending}
use Rattle.tp_rules.specs.Plan.{deliveries_left, due_of, is_planned}
use Rattle.tp_rules.specs.Rules.{MayMake, enabled}
use Rattle.tp_rules.specs.Runs.{FollowsFate, FollowsLine, IsFor, IsFreeHistory, IsLegal, IsRun, MayHappen, outputs_in}
use Rattle.tp_rules.specs.declared.event.Entry.{Entry}
use Rattle.tp_rules.specs.declared.event.Event.{Event}
use Rattle.tp_rules.specs.declared.event.Event.TheVariants.{Deliver, Dropped, Inner as OfItself}
use Rattle.tp_rules.specs.declared.event.Inner.{Inner}
use Rattle.tp_rules.specs.declared.event.Inner.TheVariants.{Submit, Recover, Announce, Declare, Execute, Crash}
use Rattle.tp_rules.specs.declared.event.Item.{Item}
use Rattle.tp_rules.specs.declared.event.Parcel.{Parcel}
use Rattle.tp_script.specs.Accepted.{IsAccepted}
use Rattle.tp_script.specs.declared.script.Script.{Script}
use Rattle.tp_shared.specs.Histories.{MayFollow, entries_by}
use Rattle.tp_wire.specs.declared.message.Message.{Message}
use Rattle.tp_worker.proofs.Since.{act_stays, acts_next, acts_stay}
use Rattle.tp_worker.specs.Cells.{IsUpTo}
use Rattle.tp_worker.specs.Posts.{MayOffer}

-- an inbox's next event that is no message's is a line of a process

no_line : (w : Waiting) (ws : List Waiting) (inner : Inner) → line_or_first None (w ∷ ws) ≡ Some (OfItself inner) → ⊥
no_line w ws inner e = by w.output.lost e
  where
    by : (b : Bool) → Some (cond b (Dropped w.output.entry w.output.place) (Deliver w.output.entry w.output.place)) ≡ Some (OfItself inner) → ⊥
    by true e = absurd cc
    by false e = absurd cc

by_line : (o : Option Inner) (ws : List Waiting) (inner : Inner) → line_or_first o ws ≡ Some (OfItself inner) → o ≡ Some inner
by_line (Some i) ws inner e = let same : i ≡ inner = cc in ap (λ (x : Inner). Some x) same
by_line None [] inner e = absurd cc
by_line None (w ∷ ws) inner e = absurd (no_line w ws inner e)

line_of : (script : Script) (a : ActorName) (parcels : List Parcel) (own : List Entry) (inner : Inner) → next_event script a parcels own ≡ Some (OfItself inner)
    → due_of script own a ≡ Some inner
line_of script a parcels own inner e = by (lives_yet own a) e
  where
    by : (b : Bool) → cond b (line_or_first (due_of script own a) (waiting_among script own [] parcels)) None ≡ Some (OfItself inner) → due_of script own a ≡ Some inner
    by true e = by_line (due_of script own a) (waiting_among script own [] parcels) inner e
    by false e = absurd cc

module _ (script : Script) (accepted : IsAccepted script) (older : List Entry) (history : IsFreeHistory script older) where
  planned : (a : ActorName) (own : List Entry) (inner : Inner) → due_of script own a ≡ Some inner → MayMake (identity_in script a) (acts older a) inner
  planned (Process s) own inner e = planned_may script accepted older history s inner (due_line script own s inner e)
  planned (Executor s) own inner e = absurd cc
  planned (Session s) own inner e = absurd cc

  -- what an inbox says comes next
  offers_given : (a : ActorName) (event : Event) → next_event script a (sent_to a older) (told_of a older) ≡ Some event → FollowsNext script older a event
      → MayOffer script older a event
  offers_given a event is follows = record {
    may = may event is follows.sent;
    line = λ live. follows.line;
    fate = follows.fate;
    next = done event is;
  }
    where
      may : (e : Event) → next_event script a (sent_to a older) (told_of a older) ≡ Some e → IsSentTo a older e → MayHappen script older a e
      may (Deliver entry place) n sent = sent
      may (Dropped entry place) n sent = sent
      may (OfItself inner) n sent = planned a (told_of a older) inner (line_of script a (sent_to a older) (told_of a older) inner n)

      done : (e : Event) → next_event script a (sent_to a older) (told_of a older) ≡ Some e → MayBeDone e (next_event script a (sent_to a older) (told_of a older))
      done (Deliver entry place) n = n
      done (Dropped entry place) n = n
      done (OfItself inner) n = tt

  -- and where it may make none, no step of the actor may come next
  none_pending : (a : ActorName) → enabled (identity_in script a) (acts older a) ≡ None → (is_live older a ≡ true → HasNoneLeft script older a)
      → (it : Item) → IsIn it (pending script older) → it.actor ≡ a → ⊥
  none_pending a still none it h is =
      let e : Entry = record { actor = it.actor; event = it.event; outputs = outputs_in script older it.actor it.event } in
      let legal : IsLegal script older e = pending_legal script accepted older history it h e refl refl refl in
      let live : is_live older a ≡ true = subst (λ (b : ActorName). is_live older b ≡ true) is legal.rules.live in
      let left = none live in
      by it.event
      (subst (λ (b : ActorName). MayHappen script older b it.event) is legal.rules.may)
      (subst (λ (o : Option Inner). FollowsLine o it.event) left.line (subst (λ (b : ActorName). FollowsLine (due_of script older b) it.event) is legal.plan.line))
      legal.plan.fate left
    where
      none_of : (entry place : ℕ) (o : Option Message) → output_at older entry place ≡ o → IsFor a o
          → ((m : Message) → output_at older entry place ≡ Some m → 0 < deliveries_left script older (parcel entry place m)) → HasNoneLeft script older a → ⊥
      none_of entry place None at to some left = to
      none_of entry place (Some m) at to some left =
          let none = left.messages (parcel entry place m) (output_sent older entry place m at) to in
          let lt = some m at in
          omega (arith, lt, none)

      unplanned : (inner : Inner) → MayMake (identity_in script a) (acts older a) inner → is_planned (OfItself inner) ≡ false
          → enabled (identity_in script a) (acts older a) ≡ Some inner
      unplanned (Submit n) may f = may
      unplanned (Recover id) may f = absurd cc
      unplanned Announce may f = may
      unplanned (Declare id) may f = may
      unplanned (Execute id) may f = may
      unplanned Crash may f = absurd cc

      by : (event : Event) → MayHappen script older a event → is_planned event ≡ false → FollowsFate script older event → HasNoneLeft script older a → ⊥
      by (Deliver entry place) may f fate left = none_of entry place (output_at older entry place) refl may (λ m at. (fate m at).1) left
      by (Dropped entry place) may f fate left = none_of entry place (output_at older entry place) refl may (λ m at. (fate m at).1) left
      by (OfItself inner) may f fate left = let wrong : Some inner ≡ None = sym (unplanned inner may f) ∙ still in absurd cc

-- in a journal's own order

module _ (script : Script) (accepted : IsAccepted script) (xs : List Entry) (run : IsRun script xs) (a : ActorName) where
  free : IsFreeHistory script (reverse xs)
  unfolding IsRun
  free = free_history script (reverse xs) run

  pub may_give : (event : Event) → next_event script a (sent_to a (reverse xs)) (told_of a (reverse xs)) ≡ Some event → FollowsNext script (reverse xs) a event
      → MayOffer script (reverse xs) a event
  may_give event is follows = offers_given script accepted (reverse xs) free a event is follows

  pub idle : enabled (identity_in script a) (acts (reverse xs) a) ≡ None → (is_live (reverse xs) a ≡ true → HasNoneLeft script (reverse xs) a)
      → (it : Item) → IsIn it (pending script (reverse xs)) → it.actor ≡ a → ⊥
  idle still none it h is = none_pending script accepted (reverse xs) free a still none it h is

  -- what is offered may be entered
  pub legal : is_known script a ≡ true → (e : Entry) → e.actor ≡ a → MayOffer script (reverse xs) a e.event → e.outputs ≡ outputs_in script (reverse xs) a e.event
      → is_live (reverse xs) a ≡ true → MayFollow script xs e
  unfolding MayFollow
  legal known e is may outputs live = record {
    rules = record {
      known = ap (is_known script) is ∙ known;
      live = ap (is_live (reverse xs)) is ∙ live;
      may = subst (λ (b : ActorName). MayHappen script (reverse xs) b e.event) (sym is) may.may;
      outputs = outputs ∙ ap (λ (b : ActorName). outputs_in script (reverse xs) b e.event) (sym is);
    };
    plan = record {
      line = subst (λ (b : ActorName). FollowsLine (due_of script (reverse xs) b) e.event) (sym is) (may.line live);
      fate = may.fate;
    };
  }

-- where the actor stands

module _ {A : Type 0} (identity_of : A → Identity) (is_spent : A → Bool) (stands : A → List Act → Type 0) (script : Script) (a : ActorName) (xs ys : List Entry)
    (grows : IsPrefixOf xs ys) (same : entries_by a ys ≡ entries_by a xs) where
  -- while others enter
  pub up_to_still : (x : A) → IsUpTo identity_of is_spent stands script xs a x → IsUpTo identity_of is_spent stands script ys a x
  up_to_still x is = record {
    identity = is.identity;
    unspent = is.unspent;
    place = subst (stands x) (sym (acts_stay a xs ys grows same)) is.place;
  }

  -- and when its entry is behind what others entered
  pub up_to_next : (x y : A) (e : Entry) → IsUpTo identity_of is_spent stands script xs a x → identity_of y ≡ identity_of x → is_spent y ≡ false → e.actor ≡ a
      → MayHappen script (reverse xs) a e.event → ((acts : List Act) → stands x acts → stands y (with_act (act_of (reverse xs) e.event) acts))
      → IsUpTo identity_of is_spent stands script (ys ++ e ∷ []) a y
  up_to_next x y e is identity unspent actor may more = record {
    identity = identity ∙ is.identity;
    unspent = unspent;
    place = subst (stands y) (sym (acts_next a ys e actor
        ∙ ap (λ (o : Option Act). with_act o (acts (reverse ys) a)) (act_stays a xs ys grows script e.event may)
        ∙ ap (with_act (act_of (reverse xs) e.event)) (acts_stay a xs ys grows same)))
        (more (acts (reverse xs) a) is.place);
  }
