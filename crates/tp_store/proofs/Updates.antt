-- What a change at the bytes of one key leaves at any bytes.
use Rattle.std.proofs.Common.{◌≡◌, ℕ, Bool, true, false, cond, List, Option, refl, sym, subst, ◌∙◌}
use Rattle.std.proofs.Math.Path.{fun_ext}
use Rattle.std.specs.BTreeMap.{is_at}
use Rattle.std.specs.Cmp.{eq_by_cmp_equiv}
use Rattle.std.specs.Cmp.Lexicographic.{slice_cmp, bytes_decides, nat_list_cmp_total, nat_list_eq_equiv, texts_ties}
use Rattle.std.specs.Map.{lookup, IsKeyTest, AreApart, KeepsOthers}
use Rattle.std.specs.Ordering.{is_eq, nat_cmp, eq_by_cmp}
use Rattle.std.specs.Str.{bytes_eq}

ties : (xs ys : List ℕ) → is_eq (slice_cmp nat_cmp xs ys) ≡ bytes_eq xs ys
ties xs ys = sym (texts_ties xs ys)

apart : (bs cs ks : List ℕ) → bytes_eq bs cs ≡ false → is_eq (slice_cmp nat_cmp bs ks) ≡ true → is_eq (slice_cmp nat_cmp cs ks) ≡ false
apart bs cs ks n y =
    ties cs ks ∙ nat_list_eq_equiv.symm cs ks ∙ sym (nat_list_eq_equiv.congr bs ks cs (sym (ties bs ks) ∙ y)) ∙ n

others : {K X : Type 0} (eq : K → K → Bool) (test : K → Bool) (old new : List (K × X)) → KeepsOthers eq test old new
    → (other : K → Bool) → IsKeyTest eq other → AreApart test other → lookup other new ≡ lookup other old
unfolding KeepsOthers
others eq test old new h = h

by_bytes : {W : Type 0} (f g : List ℕ → W) (bs : List ℕ) (w : W) (cs : List ℕ) (t : Bool) → bytes_eq bs cs ≡ t
    → g bs ≡ w → (bytes_eq bs cs ≡ false → g cs ≡ f cs) → g cs ≡ cond t w (f cs)
by_bytes f g bs w cs true e here other = subst (λ l. g l ≡ w) ((bytes_decides bs cs).0 e) here
by_bytes f g bs w cs false e here other = other e

module _ {K X : Type 0} (bytes : K → List ℕ) where
  -- the value of the key with these bytes
  abbrev value_at : List (K × X) → List ℕ → Option X
  value_at es bs = lookup (is_at (λ k. slice_cmp nat_cmp bs (bytes k))) es

  -- with another value, or none, at these bytes
  abbrev updated : List ℕ → Option X → (List ℕ → Option X) → List ℕ → Option X
  updated bs w f cs = cond (bytes_eq bs cs) w (f cs)

  pub changed : (bs : List ℕ) (old new : List (K × X)) (w : Option X) → value_at new bs ≡ w
      → KeepsOthers (eq_by_cmp (λ x y. slice_cmp nat_cmp (bytes x) (bytes y))) (is_at (λ k. slice_cmp nat_cmp bs (bytes k))) old new
      → value_at new ≡ updated bs w (value_at old)
  changed bs old new w here keeps = fun_ext (λ cs. by_bytes (value_at old) (value_at new) bs w cs (bytes_eq bs cs) refl here (λ n. others _ _ old new keeps _
      (λ x y. (eq_by_cmp_equiv nat_list_cmp_total).congr cs (bytes x) (bytes y))
      (λ k. apart bs cs (bytes k) n)))
