-- Where no executor has a step to make, all that is committed is executed: the least key that waits anywhere could go
-- on.
-- Used for the executors in the end.
use Rattle.std.proofs.Common.{◌≡◌, ℕ, Bool, inl, inr, true, false, cond, List, [], ◌∷◌, Option, Some, None, refl, subst, arith}
use Rattle.std.specs.Prelude.{◌==◌, ◌&&◌, not}
use Rattle.std.specs.List.{list_all, flat_map}
use Rattle.std.proofs.lemmas.Bool.{cases_Bool, and_from, not-false, not_from_false}
use Rattle.tp_base.proofs.Members.{flat_in, in_flat}
use Rattle.tp_base.proofs.SameNames.{key_cases}
use Rattle.tp_base.specs.Lists.{IsIn, has}
use Rattle.tp_base.specs.Names.{same_id, key_lt}
use Rattle.tp_base.specs.declared.names.CommandId.{CommandId}
use Rattle.tp_base.specs.declared.names.Key.{Key}
use Rattle.tp_base.specs.declared.names.Site.{Site}
use Rattle.tp_ops.specs.declared.command.Command.{Command}
use Rattle.tp_rules.proofs.LeastKey.{least_at_most}
use Rattle.tp_rules.proofs.lists.Tallies.{filter_in, in_filter}
use Rattle.tp_rules.proofs.ends.Unexecuted.{least_in}
use Rattle.tp_rules.specs.Addresses.{accessed, others_accessed, site}
use Rattle.tp_rules.specs.Executor.{Committed, ExecutorState, committed_ids, enabled, enabled_of, is_heard, is_ready, is_undeclared, least, may_declare, may_execute, waiting}
use Rattle.tp_rules.specs.declared.event.Inner.TheVariants.{Declare, Execute}
use Rattle.tp_topology.specs.Shape.{Shape}
use Rattle.tp_topology.specs.Stability.{is_stable}

-- the executors, with nothing under way
pub record AreIdle (shape : Shape) (sites : List Site) (state : Site → ExecutorState) : Type 0 where
  pub still : (x : Site) → IsIn x sites → enabled shape x (state x) ≡ None
  pub stable : (x : Site) (c : Committed) → IsIn x sites → IsIn c (state x).committed
      → is_stable shape (state x).told (committed_ids (state x)) c.key.stamp.0 ≡ true
  pub accesses : (x : Site) (c : Committed) → IsIn x sites → IsIn c (state x).committed
      → IsIn x.partition.0 (accessed shape c.command)
  pub everywhere : (x y : Site) (c : Committed) → IsIn x sites → IsIn y sites → IsIn c (state x).committed
      → IsIn y.partition.0 (accessed shape c.command) →
      (d : Committed) × IsIn d (state y).committed × (d.key ≡ c.key)
  pub one : (x y : Site) (c d : Committed) → IsIn x sites → IsIn y sites → IsIn c (state x).committed
      → IsIn d (state y).committed → d.key ≡ c.key → d.command ≡ c.command
  pub declared : (x : Site) (c : Committed) → IsIn x sites → IsIn c (state x).committed
      → has same_id c.key.id (state x).executed ≡ true →
      is_undeclared (state x) c.key.id (others_accessed shape c.command x.partition.0) ≡ false
  pub heard : (x y : Site) (c : Committed) → IsIn x sites → IsIn y sites → IsIn c (state x).committed
      → IsIn y.partition.0 (others_accessed shape c.command x.partition.0) →
      has same_id c.key.id (state y).declared ≡ true → is_heard (state x) c.key.id y.partition.0 ≡ true
  pub places : (c : Command) (q : ℕ) → IsIn q (accessed shape c) → IsIn (site q 1) sites

pub all_from : (p : ℕ → Bool) (xs : List ℕ) → ((x : ℕ) → IsIn x xs → p x ≡ true) → list_all p xs ≡ true
all_from p [] h = refl
all_from p (x ∷ xs) h = and_from (p x) (list_all p xs) (h x (inl refl)) (all_from p xs (λ y there. h y (inr there)))

-- nothing is enabled
pub record MayNot (shape : Shape) (x : Site) (state : ExecutorState) (c : Committed) : Type 0 where
  pub declare : may_declare shape x state c ≡ false
  pub execute : may_execute shape x state c ≡ false

may_not : (shape : Shape) (x : Site) (state : ExecutorState) (c : Committed)
    → enabled_of shape x state (Some c) ≡ None → MayNot shape x state c
may_not shape x state c e = of (may_declare shape x state c) (may_execute shape x state c) refl refl e
  where
    of : (a b : Bool) → may_declare shape x state c ≡ a → may_execute shape x state c ≡ b →
        cond a (Some (Declare c.key.id)) (cond b (Some (Execute c.key.id)) None) ≡ None → MayNot shape x state c
    of true b is_a is_b e = absurd cc
    of false true is_a is_b e = absurd cc
    of false false is_a is_b e = record { declare = is_a; execute = is_b }

right_false : (a b : Bool) → a && b ≡ false → a ≡ true → b ≡ false
right_false true b e is = e
right_false false b e is = absurd cc

least_some : (cs : List Committed) (c : Committed) → IsIn c cs → (d : Committed) × (least cs ≡ Some d)
least_some [] c h = absurd h
least_some (x ∷ xs) c h = (_, refl)

both_at_most : (a b : Key) → key_lt b a ≡ false → key_lt a b ≡ false → a ≡ b
both_at_most a b h k = elim (key_cases a b) [
  | inl same ↦ same
  | inr (inl less) ↦ absurd cc
  | inr (inr more) ↦ absurd cc
]

declared_of : (state : ExecutorState) (id : CommandId) (others : List ℕ) (q : ℕ) → IsIn q others
    → is_undeclared state id others ≡ false → has same_id id state.declared ≡ true
declared_of state id [] q h e = absurd h
declared_of state id (x ∷ xs) q h e = not-false (has same_id id state.declared) e

ready_where : (state : ExecutorState) (id : CommandId) (others : List ℕ) → is_undeclared state id others ≡ false
    → ((q : ℕ) → IsIn q others → is_heard state id q ≡ true) →
    is_ready state id others ≡ true
ready_where state id [] e h = refl
ready_where state id (q ∷ qs) e h =
    and_from (has same_id id state.declared) (list_all (is_heard state id) (q ∷ qs))
    (not-false (has same_id id state.declared) e) (all_from (is_heard state id) (q ∷ qs) h)

module _ (shape : Shape) (sites : List Site) (state : Site → ExecutorState) (h : AreIdle shape sites state) where
  abbrev all : List Committed
  all = flat_map (λ x. waiting (state x)) sites

  record Waiting (x : Site) (c : Committed) : Type 0 where
    site : IsIn x sites
    committed : IsIn c (state x).committed
    waits : IsIn c (waiting (state x))

  waiting_at : (x : Site) (c : Committed) → IsIn x sites → IsIn c (waiting (state x)) → Waiting x c
  waiting_at x c site there =
      record {
        site = site;
        committed = (filter_in (λ (d : Committed). not (has same_id d.key.id (state x).executed))
            (state x).committed c there).0;
        waits = there;
      }

  -- the least that waits at a site, where one with the least key of all waits there
  record Stands (x : Site) (c : Committed) : Type 0 where
    e : Committed
    there : IsIn e (state x).committed
    key : e.key ≡ c.key
    may : MayNot shape x (state x) e

  stands : (x y : Site) (c d : Committed) → least all ≡ Some c → Waiting x c → Waiting y d → d.key ≡ c.key
      → Stands y c
  stands x y c d is at_x at_y same =
      let found = least_some (waiting (state y)) d at_y.waits in
      let e = found.0 in
      let e_there : IsIn e (waiting (state y)) = least_in (waiting (state y)) e found.1 in
      let low : key_lt d.key e.key ≡ false = least_at_most (waiting (state y)) e d found.1 at_y.waits in
      let high : key_lt e.key c.key ≡ false = least_at_most all c e is
      (flat_in (λ (z : Site). waiting (state z)) sites y e at_y.site e_there) in
      let key : e.key ≡ c.key = both_at_most e.key c.key (subst (λ (k : Key). key_lt k e.key ≡ false) same low) high in
      record {
        e = e;
        there = (waiting_at y e at_y.site e_there).committed;
        key = key;
        may =
            may_not shape y (state y) e (subst
            (λ (o : Option Committed). enabled_of shape y (state y) o ≡ None) found.1 (h.still y at_y.site));
      }

  -- at each site of its partitions it is declared, if it has to be
  declared_at : (x y : Site) (c : Committed) → least all ≡ Some c → Waiting x c → IsIn y sites
      → IsIn y.partition.0 (accessed shape c.command) →
      is_undeclared (state y) c.key.id (others_accessed shape c.command y.partition.0) ≡ false
  declared_at x y c is at_x site_y there =
      let found = h.everywhere x y c at_x.site site_y at_x.committed there in
      let d = found.0 in
      let command : d.command ≡ c.command = h.one x y c d at_x.site site_y at_x.committed found.1 found.2 in
      elim (cases_Bool (has same_id d.key.id (state y).executed)) [
        | inl executed ↦ as_c d.key d.command found.2 command (h.declared y d site_y found.1 executed)
        | inr waits ↦
            let w : Waiting y d = waiting_at y d site_y
            (in_filter (λ (z : Committed). not (has same_id z.key.id (state y).executed))
            (state y).committed d found.1 (not_from_false (has same_id d.key.id (state y).executed) waits)) in
            let s = stands x y c d is at_x w found.2 in
            let same : s.e.command ≡ c.command = h.one x y c s.e at_x.site site_y at_x.committed s.there s.key in
            as_c s.e.key s.e.command s.key same (right_false _ _ s.may.declare (h.stable y s.e site_y s.there))
      ]
    where
      as_c : (k : Key) (m : Command) → k ≡ c.key → m ≡ c.command
          → is_undeclared (state y) k.id (others_accessed shape m y.partition.0) ≡ false →
          is_undeclared (state y) c.key.id (others_accessed shape c.command y.partition.0) ≡ false
      as_c k m e f t =
          subst (λ (z : Command). is_undeclared (state y) c.key.id (others_accessed shape z y.partition.0) ≡ false) f
          (subst (λ (z : Key). is_undeclared (state y) z.id (others_accessed shape m y.partition.0) ≡ false) e t)

  no_least : (x : Site) (c : Committed) → least all ≡ Some c → Waiting x c → ⊥
  no_least x c is at =
      let s = stands x x c c is at at refl in
      let same : s.e.command ≡ c.command = h.one x x c s.e at.site at.site at.committed s.there s.key in
      let here : is_undeclared (state x) c.key.id
      (others_accessed shape c.command x.partition.0) ≡ false = declared_at x x c is at at.site
      (h.accesses x c at.site at.committed) in
      let ready : is_ready (state x) c.key.id (others_accessed shape c.command x.partition.0) ≡ true = ready_where
      (state x) c.key.id _ here heard in
      let not_ready : is_ready (state x) c.key.id (others_accessed shape c.command x.partition.0) ≡ false =
      subst (λ (z : Command). is_ready (state x) c.key.id (others_accessed shape z x.partition.0) ≡ false) same
      (subst (λ (z : Key). is_ready (state x) z.id (others_accessed shape s.e.command x.partition.0) ≡ false) s.key
      (right_false _ _ s.may.execute (h.stable x s.e at.site s.there))) in
      cc
    where
      heard : (q : ℕ) → IsIn q (others_accessed shape c.command x.partition.0) → is_heard (state x) c.key.id q ≡ true
      heard q there =
          let parts = filter_in (λ (z : ℕ). not (z == x.partition.0)) (accessed shape c.command) q there in
          let y : Site = site q 1 in
          let site_y : IsIn y sites = h.places c.command q parts.0 in
          let back : IsIn x.partition.0 (others_accessed shape c.command q) =
          in_filter (λ (z : ℕ). not (z == q)) (accessed shape c.command) x.partition.0
          (h.accesses x c at.site at.committed)
          (turned q x.partition.0 parts.1) in
          h.heard x y c at.site site_y at.committed there
          (declared_of (state y) c.key.id (others_accessed shape c.command q) x.partition.0 back
          (declared_at x y c is at site_y parts.0))
        where
          turned : (a b : ℕ) → not (a == b) ≡ true → not (b == a) ≡ true
          turned a b e = grind (arith, e)

  pub all_executed : (x : Site) (c : Committed) → IsIn x sites → IsIn c (state x).committed
      → has same_id c.key.id (state x).executed ≡ true
  all_executed x c site there = elim (cases_Bool (has same_id c.key.id (state x).executed)) [
    | inl executed ↦ executed
    | inr waits ↦
        let w : IsIn c (waiting (state x)) = in_filter
        (λ (z : Committed). not (has same_id z.key.id (state x).executed)) (state x).committed c there
        (not_from_false (has same_id c.key.id (state x).executed) waits) in
        let found = least_some all c (flat_in (λ (z : Site). waiting (state z)) sites x c site w) in
        let at = in_flat (λ (z : Site). waiting (state z)) sites found.0 (least_in all found.0 found.1) in
        absurd (no_least at.0 found.0 found.1 (waiting_at at.0 found.0 at.1 at.2))
  ]
