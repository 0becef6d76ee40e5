-- The tests of names say what they seem to, and keys are in a total order.
use Rattle.std.proofs.Common.{◌≡◌, ◌≢◌, ℕ, ◌<◌, ◌⊎◌, inl, inr, Bool, true, false, ap, refl, arith}
use Rattle.std.proofs.lemmas.Bool.{eqb-true, eq-eqb}
use Rattle.tp_base.specs.declared.names.ActorName.{ActorName}
use Rattle.tp_base.specs.declared.names.ActorName.TheVariants.{Process, Executor, Session}
use Rattle.tp_base.specs.declared.names.CommandId.{CommandId}
use Rattle.tp_base.specs.declared.names.Key.{Key}
use Rattle.tp_base.specs.declared.names.Site.{Site}
use Rattle.tp_base.specs.Names.{id_lt, key_lt, same_id, same_name, same_site}

pub same_id_refl : (a : CommandId) → same_id a a ≡ true
same_id_refl a = grind arith

pub same_id_is : (a b : CommandId) → same_id a b ≡ true → a ≡ b
same_id_is a b e = grind arith

pub same_id_sym : (a b : CommandId) → same_id a b ≡ same_id b a
same_id_sym a b = grind arith

pub same_id_not : (a b : CommandId) → a ≢ b → same_id a b ≡ false
same_id_not a b apart = grind arith

pub same_site_refl : (a : Site) → same_site a a ≡ true
same_site_refl a = grind arith

pub same_site_is : (a b : Site) → same_site a b ≡ true → a ≡ b
same_site_is a b e = grind arith

pub same_name_refl : (a : ActorName) → same_name a a ≡ true
same_name_refl (Process a) = same_site_refl a
same_name_refl (Executor a) = same_site_refl a
same_name_refl (Session a) = eq-eqb a.0 a.0 refl

pub same_name_is : (a b : ActorName) → same_name a b ≡ true → a ≡ b
same_name_is (Process a) (Process b) e = ap (λ s. Process s) (same_site_is a b e)
same_name_is (Process a) (Executor b) e = absurd cc
same_name_is (Process a) (Session b) e = absurd cc
same_name_is (Executor a) (Executor b) e = ap (λ s. Executor s) (same_site_is a b e)
same_name_is (Executor a) (Process b) e = absurd cc
same_name_is (Executor a) (Session b) e = absurd cc
same_name_is (Session a) (Session b) e = ap (λ (n : ℕ). Session (record { 0 = n })) (eqb-true a.0 b.0 e)
same_name_is (Session a) (Process b) e = absurd cc
same_name_is (Session a) (Executor b) e = absurd cc

pub same_name_not : (a b : ActorName) → a ≢ b → same_name a b ≡ false
same_name_not a b apart = go (same_name a b) refl
  where
    go : (t : Bool) → same_name a b ≡ t → same_name a b ≡ false
    go true e = absurd (apart (same_name_is a b e))
    go false e = e

-- the order of identifiers

pub id_lt_then : (a b c : CommandId) → id_lt a b ≡ true → id_lt b c ≡ true → id_lt a c ≡ true
id_lt_then a b c p q = grind arith

-- the order of keys

pub key_lt_self : (a : Key) → key_lt a a ≡ false
key_lt_self a = grind arith

-- a smaller stamp, or the same stamp and a smaller identifier
pub key_lt_parts : (a b : Key) → key_lt a b ≡ true → (a.stamp.0 < b.stamp.0) ⊎ ((a.stamp.0 ≡ b.stamp.0) × (id_lt a.id b.id ≡ true))
key_lt_parts a b e = grind arith

pub key_lt_stamp : (a b : Key) → a.stamp.0 < b.stamp.0 → key_lt a b ≡ true
key_lt_stamp a b lt = grind arith

pub key_lt_id : (a b : Key) → a.stamp.0 ≡ b.stamp.0 → id_lt a.id b.id ≡ true → key_lt a b ≡ true
key_lt_id a b same lt = grind arith

pub key_lt_then : (a b c : Key) → key_lt a b ≡ true → key_lt b c ≡ true → key_lt a c ≡ true
key_lt_then a b c p q = elim (key_lt_parts a b p) [
  | inl low ↦ elim (key_lt_parts b c q) [ inl more ↦ key_lt_stamp a c (omega arith) | inr more ↦ key_lt_stamp a c (omega arith) ]
  | inr low ↦ elim (key_lt_parts b c q) [
    | inl more ↦ key_lt_stamp a c (omega arith)
    | inr more ↦ key_lt_id a c (omega arith) (id_lt_then a.id b.id c.id low.1 more.1)
  ]
]

pub key_cases : (a b : Key) → (a ≡ b) ⊎ ((key_lt a b ≡ true) ⊎ (key_lt b a ≡ true))
key_cases a b = grind arith
