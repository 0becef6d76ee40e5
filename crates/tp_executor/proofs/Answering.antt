-- What follows for the answer of a waiting command, and which step it allows.
use Rattle.std.proofs.Common.{◌≡◌, ℕ, ◌≤◌, ◌<◌, Bool, true, false, not, ◌&&◌, ◌||◌, cond, List, [], ◌∷◌, map, Option, Some, None, refl, ap, subst, ◌∙◌, arith}
use Rattle.std.specs.List.{list_all, list_any}
use Rattle.std.specs.Prelude.{◌==◌, find, Err}
use Rattle.std.proofs.lemmas.Bool.{le-leb, leb-true}
use Rattle.tp_base.specs.Lists.{has}
use Rattle.tp_base.specs.Names.{same_id}
use Rattle.tp_base.specs.declared.names.CommandId.{CommandId}
use Rattle.tp_base.specs.declared.names.Site.{Site}
use Rattle.tp_base.specs.declared.names.Stamp.{Stamp}
use Rattle.tp_mstable.specs.Declarations.{is_heard as is_heard_in}
use Rattle.tp_rules.specs.Addresses.{others_accessed}
use Rattle.tp_rules.specs.Executor.{Committed, ExecutorState, Heard, committed_ids, enabled_of, is_heard, is_ready, is_undeclared}
use Rattle.tp_rules.specs.declared.event.Inner.TheVariants.{Declare, Execute}
use Rattle.tp_topology.proofs.Passing.{all_below, count_more}
use Rattle.tp_topology.specs.Counting.{all_up_to, count_up_to}
use Rattle.tp_topology.specs.Shape.{Shape, majority_size}
use Rattle.tp_topology.specs.Stability.{Telling, is_counted, is_stable}
use Rattle.tp_executor.specs.Answers.{IsAnswerFor, IsThreshold, first_unheard}
use Rattle.tp_executor.specs.declared.why.Why.{Why}
use Rattle.tp_executor.specs.declared.why.Why.TheVariants.{Nothing, NotStable, NotDeclared, Waits}
use Rattle.tp_executor.specs.States.{declarations_of}

-- who was heard

heard_in : (hs : List Heard) (id : CommandId) (q : ℕ)
    → is_heard_in (map (λ h. record { id = h.id; partition = h.partition }) hs) id q ≡ list_any (λ h. same_id h.id id && (h.partition == q)) hs
heard_in [] id q = refl
heard_in (h ∷ hs) id q = ap (λ (b : Bool). (same_id h.id id && (h.partition == q)) || b) (heard_in hs id q)

find_same : (p q : ℕ → Bool) (ns : List ℕ) → ((n : ℕ) → p n ≡ q n) → find p ns ≡ find q ns
find_same p q [] same = refl
find_same p q (n ∷ ns) same =
    ap (λ (b : Bool). cond b (Some n) (find p ns)) (same n) ∙ ap (λ (o : Option ℕ). cond (q n) (Some n) o) (find_same p q ns same)

pub unheard_is : (state : ExecutorState) (id : CommandId) (qs : List ℕ)
    → find (λ q. not (is_heard_in (declarations_of state).heard id q)) qs ≡ first_unheard state id qs
unheard_is state id qs =
    find_same (λ q. not (is_heard_in (declarations_of state).heard id q)) (λ q. not (is_heard state id q)) qs (λ q. ap not (heard_in state.heard id q))

all_heard : (state : ExecutorState) (id : CommandId) (qs : List ℕ) → first_unheard state id qs ≡ None → list_all (is_heard state id) qs ≡ true
all_heard state id [] none = refl
all_heard state id (q ∷ qs) none = go (is_heard state id q) none (all_heard state id qs)
  where
    go : (b : Bool) → cond (not b) (Some q) (first_unheard state id qs) ≡ None → (first_unheard state id qs ≡ None → list_all (is_heard state id) qs ≡ true)
        → (b && list_all (is_heard state id) qs) ≡ true
    go true none rest = rest none
    go false none rest = absurd cc

not_all_heard : (state : ExecutorState) (id : CommandId) (qs : List ℕ) (q : ℕ) → first_unheard state id qs ≡ Some q → list_all (is_heard state id) qs ≡ false
not_all_heard state id [] q some = absurd cc
not_all_heard state id (r ∷ qs) q some = go (is_heard state id r) some (not_all_heard state id qs q)
  where
    go : (b : Bool) → cond (not b) (Some r) (first_unheard state id qs) ≡ Some q → (first_unheard state id qs ≡ Some q → list_all (is_heard state id) qs ≡ false)
        → (b && list_all (is_heard state id) qs) ≡ false
    go true some rest = rest some
    go false some rest = refl

-- which commands are ready

pub ready_is : (state : ExecutorState) (id : CommandId) (qs : List ℕ) → is_undeclared state id qs ≡ false → first_unheard state id qs ≡ None → is_ready state id qs ≡ true
ready_is state id [] declared none = refl
ready_is state id (q ∷ qs) declared none = go (has same_id id state.declared) declared (all_heard state id (q ∷ qs) none)
  where
    go : (b : Bool) → not b ≡ false → list_all (is_heard state id) (q ∷ qs) ≡ true → (b && list_all (is_heard state id) (q ∷ qs)) ≡ true
    go true e all = all
    go false e all = absurd cc

pub unready_is : (state : ExecutorState) (id : CommandId) (qs : List ℕ) (q : ℕ) → first_unheard state id qs ≡ Some q → is_ready state id qs ≡ false
unready_is state id [] q some = absurd cc
unready_is state id (r ∷ qs) q some = go (has same_id id state.declared) (not_all_heard state id (r ∷ qs) q some)
  where
    go : (b : Bool) → list_all (is_heard state id) (r ∷ qs) ≡ false → (b && list_all (is_heard state id) (r ∷ qs)) ≡ false
    go true e = e
    go false e = refl

-- which stamps are stable

stable_below : (shape : Shape) (told : List Telling) (committed : List CommandId) (n m : ℕ) → m ≤ n → is_stable shape told committed n ≡ true → is_stable shape told committed m ≡ true
stable_below shape told committed n m le e =
    let enough : majority_size shape ≤ count_up_to (λ rank. all_up_to (is_counted told committed rank) n) shape.replicas =
    leb-true (majority_size shape) (count_up_to (λ rank. all_up_to (is_counted told committed rank) n) shape.replicas) e in
    let more : count_up_to (λ rank. all_up_to (is_counted told committed rank) n) shape.replicas ≤ count_up_to (λ rank. all_up_to (is_counted told committed rank) m) shape.replicas =
    count_more (λ rank. all_up_to (is_counted told committed rank) n) (λ rank. all_up_to (is_counted told committed rank) m) shape.replicas
    (λ k low high all. all_below (is_counted told committed k) n m le all) in
    le-leb (majority_size shape) (count_up_to (λ rank. all_up_to (is_counted told committed rank) m) shape.replicas) (omega (arith, enough, more))

pub stable_to : (shape : Shape) (state : ExecutorState) (n stamp : ℕ) → IsThreshold shape state n → stamp ≤ n → is_stable shape state.told (committed_ids state) stamp ≡ true
stable_to shape state n stamp top le = stable_below shape state.told (committed_ids state) n stamp le top.stable

pub unstable_past : (shape : Shape) (state : ExecutorState) (n stamp : ℕ) → IsThreshold shape state n → n < stamp → is_stable shape state.told (committed_ids state) stamp ≡ false
unstable_past shape state n stamp top lt = go (is_stable shape state.told (committed_ids state) stamp) refl
  where
    go : (b : Bool) → is_stable shape state.told (committed_ids state) stamp ≡ b → b ≡ false
    go true e = let le : stamp ≤ n = top.greatest stamp e in absurd (omega arith)
    go false e = refl

-- which step each answer allows

module _ (shape : Shape) (me : Site) (state : ExecutorState) (c : Committed) where
  abbrev others : List ℕ
  others = others_accessed shape c.command me.partition.0

  abbrev is_stable_here : Bool
  is_stable_here = is_stable shape state.told (committed_ids state) c.key.stamp.0

  step_is : (a u r : Bool) → is_stable_here ≡ a → is_undeclared state c.key.id others ≡ u → is_ready state c.key.id others ≡ r
      → enabled_of shape me state (Some c) ≡ cond (a && u) (Some (Declare c.key.id)) (cond (a && r) (Some (Execute c.key.id)) None)
  step_is a u r stable undeclared ready =
      ap (λ (b : Bool). cond (b && is_undeclared state c.key.id others) (Some (Declare c.key.id)) (cond (b && is_ready state c.key.id others) (Some (Execute c.key.id)) None)) stable
      ∙ ap (λ (b : Bool). cond (a && b) (Some (Declare c.key.id)) (cond (a && is_ready state c.key.id others) (Some (Execute c.key.id)) None)) undeclared
      ∙ ap (λ (b : Bool). cond (a && u) (Some (Declare c.key.id)) (cond (a && b) (Some (Execute c.key.id)) None)) ready

  waits_next : (q : ℕ) → is_stable_here ≡ true → is_undeclared state c.key.id others ≡ false → first_unheard state c.key.id others ≡ Some q
      → enabled_of shape me state (Some c) ≡ None
  waits_next q stable declared some = step_is true false false stable declared (unready_is state c.key.id others q some)

  pub none_unstable : is_stable_here ≡ false → enabled_of shape me state (Some c) ≡ None
  none_unstable unstable = step_is false (is_undeclared state c.key.id others) (is_ready state c.key.id others) unstable refl refl

  unstable_next : (n : ℕ) → IsThreshold shape state n → n < c.key.stamp.0 → enabled_of shape me state (Some c) ≡ None
  unstable_next n top lt = none_unstable (unstable_past shape state n c.key.stamp.0 top lt)

  pub none_next : (why : Why) → (why ≡ NotDeclared → ⊥) → IsAnswerFor shape me state c (Err why) → enabled_of shape me state (Some c) ≡ None
  none_next Nothing other answer = absurd answer
  none_next (NotStable stamp n) other answer = unstable_next n answer.1 (subst (λ (s : Stamp). n < s.0) answer.0 answer.2)
  none_next NotDeclared other answer = absurd (other refl)
  none_next (Waits q) other answer = waits_next q.0 answer.0 answer.1 answer.2
