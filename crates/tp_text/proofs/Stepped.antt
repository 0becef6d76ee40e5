-- What a chain of steps without a fault says of each step.
use Rattle.std.proofs.Common.{◌≡◌, ◌⊎◌, inl, inr, Bool, true, false, cond, Result, Ok, Err, refl}
use Rattle.tp_text.specs.Steps.{◌>>=◌, else_cause, need}

pub bind_ok : {A B E : Type 0} (r : Result A E) (f : A → Result B E) (y : B) → (r >>= f) ≡ Ok y → (x : A) × (r ≡ Ok x) × (f x ≡ Ok y)
bind_ok (Ok x) f y e = (x, refl, e)
bind_ok (Err d) f y e = absurd cc

abbrev done : {A E : Type 0} → A → Result A E
done x = Ok x

pub ok_is : {A : Type 0} (E : Type 0) (x y : A) → done {E = E} x ≡ done {E = E} y → x ≡ y
ok_is E x y e = cc

-- a test that passed, and the steps behind it
pub need_ok : {B E : Type 0} (b : Bool) (fault : E) (r : Result B E) (y : B) → (need b fault >>= λ _. r) ≡ Ok y → (b ≡ true) × (r ≡ Ok y)
need_ok true fault r y e = (refl, e)
need_ok false fault r y e = absurd cc

pub else_ok : {A D E : Type 0} (cause : E) (r : Result A D) (y : A) → else_cause cause r ≡ Ok y → r ≡ Ok y
else_ok cause (Ok x) y e = cc
else_ok cause (Err d) y e = absurd cc

-- a value under a test
pub tested : {A E : Type 0} (b : Bool) (fault : E) (r : Result A E) (y : A) → cond b r (Err fault) ≡ Ok y → (b ≡ true) × (r ≡ Ok y)
tested true fault r y e = (refl, e)
tested false fault r y e = absurd cc

-- which of two went on
pub chosen : {A : Type 0} (b : Bool) (x y z : A) → cond b x y ≡ z → ((b ≡ true) × (x ≡ z)) ⊎ ((b ≡ false) × (y ≡ z))
chosen true x y z e = inl (refl, e)
chosen false x y z e = inr (refl, e)
