-- The script's actors, made one after the other.
use Rattle.std.proofs.Common.{◌≡◌, ℕ, zero, suc, ◌+◌, ◌-◌, ◌≤◌, List, [], ◌∷◌, ◌++◌, length, map, Some, refl, sym, ap, subst, ◌∙◌, append_assoc}
use Rattle.std.proofs.lemmas.Grind.{flat_map-append}
use Rattle.std.proofs.lemmas.List.{append-nil, map-append}
use Rattle.std.specs.List.{flat_map}
use Rattle.std.specs.Prelude.{slice_get}
use Rattle.tp_base.specs.declared.names.ActorName.{ActorName}
use Rattle.tp_base.specs.declared.names.ActorName.TheVariants.{Process, Executor, Session}
use Rattle.tp_base.specs.declared.names.Site.{Site}
use Rattle.tp_driver.specs.Cast.{AllStand}
use Rattle.tp_rules.specs.Addresses.{site}
use Rattle.tp_rules.specs.Journal.{ranks_of}
use Rattle.tp_rules.specs.Pending.{actors_of, sites_of}
use Rattle.tp_cast.specs.Actors.{AreNew, IsNew, Stands, identity, is_spent}
use Rattle.tp_cast.specs.declared.any_actor.AnyActor.{AnyActor}
use Rattle.tp_script.specs.declared.script.Script.{Script}
use Rattle.tp_topology.proofs.UpTo.{up_to-next}
use Rattle.tp_topology.specs.Counting.{up_to}

module _ (script : Script) where
  new_push : (ns : List ActorName) (xs : List AnyActor) (n : ActorName) (a : AnyActor) → AreNew script ns xs → IsNew script n a → AreNew script (ns ++ n ∷ []) (xs ++ a ∷ [])
  new_push [] [] n a h is = (is, tt)
  new_push (m ∷ ns) (b ∷ xs) n a h is = (h.0, new_push ns xs n a h.1 is)
  new_push [] (b ∷ xs) n a h is = absurd h
  new_push (m ∷ ns) [] n a h is = absurd h

  -- one more name of a row
  pub new_next : (f : ℕ → ActorName) (k : ℕ) (names : List ActorName) (xs ys : List AnyActor) (a : AnyActor) → 1 ≤ k
      → AreNew script (names ++ map f (up_to (k - 1))) xs → IsNew script (f k) a → ys ≡ xs ++ a ∷ []
      → AreNew script (names ++ map f (up_to (k + 1 - 1))) ys
  new_next f k names xs ys a some h is e =
      let more : (names ++ map f (up_to (k - 1))) ++ f k ∷ [] ≡ names ++ map f (up_to (k + 1 - 1)) =
      append_assoc names (map f (up_to (k - 1))) (f k ∷ [])
      ∙ ap (λ (l : List ActorName). names ++ l) (sym (map-append f (up_to (k - 1)) (k ∷ [])) ∙ ap (λ (l : List ℕ). map f l) (sym (up_to-next k some))) in
      subst (λ l. AreNew script l ys) more (subst (AreNew script ((names ++ map f (up_to (k - 1))) ++ f k ∷ [])) (sym e)
      (new_push (names ++ map f (up_to (k - 1))) xs (f k) a h is))

  map-map : (f : Site → ActorName) (g : ℕ → Site) (ns : List ℕ) → map f (map g ns) ≡ map (λ n. f (g n)) ns
  map-map f g [] = refl
  map-map f g (n ∷ ns) = ap (λ (l : List ActorName). f (g n) ∷ l) (map-map f g ns)

  pub site_next : (f : Site → ActorName) (p k : ℕ) (names : List ActorName) (xs ys : List AnyActor) (a : AnyActor) → 1 ≤ k
      → AreNew script (names ++ map f (map (site p) (up_to (k - 1)))) xs → IsNew script (f (site p k)) a → ys ≡ xs ++ a ∷ []
      → AreNew script (names ++ map f (map (site p) (up_to (k + 1 - 1)))) ys
  site_next f p k names xs ys a some h is e =
      subst (λ l. AreNew script (names ++ l) ys) (sym (map-map f (site p) (up_to (k + 1 - 1))))
      (new_next (λ n. f (site p n)) k names xs ys a some
      (subst (λ l. AreNew script (names ++ l) xs) (map-map f (site p) (up_to (k - 1))) h) is e)

  -- a whole row
  pub row_next : (f : Site → ActorName) (p : ℕ) (names : List ActorName) (ys : List AnyActor) → 1 ≤ p
      → AreNew script ((names ++ map f (flat_map (ranks_of script) (up_to (p - 1)))) ++ map f (ranks_of script p)) ys
      → AreNew script (names ++ map f (flat_map (ranks_of script) (up_to (p + 1 - 1)))) ys
  row_next f p names ys some h =
      let rows : List Site = flat_map (ranks_of script) (up_to (p - 1)) in
      let more : (names ++ map f rows) ++ map f (ranks_of script p) ≡ names ++ map f (flat_map (ranks_of script) (up_to (p + 1 - 1))) =
      append_assoc names (map f rows) (map f (ranks_of script p))
      ∙ ap (λ (l : List ActorName). names ++ l)
      (sym (map-append f rows (ranks_of script p))
      ∙ ap (λ (l : List Site). map f (rows ++ l)) (sym (append-nil (ranks_of script p)))
      ∙ ap (λ (l : List Site). map f l) (sym (flat_map-append (ranks_of script) (up_to (p - 1)) (p ∷ [])))
      ∙ ap (λ (l : List ℕ). map f (flat_map (ranks_of script) l)) (sym (up_to-next p some))) in
      subst (λ l. AreNew script l ys) more h

  as_many : (ns : List ActorName) (xs : List AnyActor) → AreNew script ns xs → length xs ≡ length ns
  as_many [] [] h = refl
  as_many (n ∷ ns) (a ∷ xs) h = ap (λ (k : ℕ). suc k) (as_many ns xs h.1)
  as_many [] (a ∷ xs) h = absurd h
  as_many (n ∷ ns) [] h = absurd h

  new_at : (ns : List ActorName) (xs : List AnyActor) → AreNew script ns xs → (k : ℕ) (a : AnyActor) (n : ActorName) → slice_get xs k ≡ Some a → slice_get ns k ≡ Some n
      → IsNew script n a
  new_at [] [] h k a n at name = absurd cc
  new_at (m ∷ ns) (b ∷ xs) h zero a n at name =
      let same : b ≡ a = cc in
      let called : m ≡ n = cc in
      subst (λ l. IsNew script l a) called (subst (IsNew script m) same h.0)
  new_at (m ∷ ns) (b ∷ xs) h (suc k) a n at name = new_at ns xs h.1 k a n at name
  new_at [] (b ∷ xs) h k a n at name = absurd h
  new_at (m ∷ ns) [] h k a n at name = absurd h

  -- all of them
  pub all_new : (xs : List AnyActor) (journal : List _) → journal ≡ []
      → AreNew script (map (λ s. Session (record { 0 = s })) (up_to (length script.homes)) ++ map (λ s. Process s) (sites_of script) ++ map (λ s. Executor s) (sites_of script)) xs
      → AllStand identity is_spent Stands script xs journal
  unfolding actors_of
  all_new xs journal e h = subst (AllStand identity is_spent Stands script xs) (sym e) (record {
    many = as_many (actors_of script) xs h;
    each = λ k a n at name. let new = new_at (actors_of script) xs h k a n at name in (new.identity, new.unspent, new.stands);
  })
