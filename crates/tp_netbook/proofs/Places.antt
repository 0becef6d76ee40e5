-- The place of each actor among the script's.
use Rattle.std.proofs.Common.{◌≡◌, ℕ, zero, suc, ◌+◌, ◌-◌, ◌*◌, ◌<◌, ◌≤◌, ◌⊎◌, inl, inr, true, List, [], ◌∷◌, ◌++◌, length, map, Option, Some, None, refl, sym, ap, subst, ◌∙◌, arith}
use Rattle.std.proofs.Math.Nat.{mul-le-mul_right}
use Rattle.std.proofs.lemmas.Bool.{cases_lt}
use Rattle.std.proofs.lemmas.List.{append-nil, length-append, length-map}
use Rattle.std.proofs.lemmas.Grind.{flat_map-append}
use Rattle.std.proofs.lemmas.Option.{slice_get-map}
use Rattle.std.specs.List.{flat_map}
use Rattle.std.specs.Prelude.{option_map, slice_get}
use Rattle.tp_base.proofs.Ends.{slice_get_left, slice_get_right}
use Rattle.tp_base.proofs.Ranges.{in_range, range_in}
use Rattle.tp_base.specs.Limits.{IsFrom}
use Rattle.tp_base.specs.declared.names.ActorName.{ActorName}
use Rattle.tp_base.specs.declared.names.ActorName.TheVariants.{Process, Executor, Session}
use Rattle.tp_base.specs.declared.names.Site.{Site}
use Rattle.tp_netbook.specs.Places.{place_of, place_of_site}
use Rattle.tp_rules.proofs.fit.Messages.{site_is, site_known}
use Rattle.tp_rules.specs.Addresses.{site}
use Rattle.tp_rules.specs.Journal.{is_known, ranks_of}
use Rattle.tp_rules.specs.Pending.{actors_of, sites_of}
use Rattle.tp_script.specs.declared.script.Script.{Script}
use Rattle.tp_topology.specs.Counting.{up_to}
use Rattle.tp_topology.specs.Shape.{IsShape, is_site_of}

-- what a list of two parts has at a place
split_get : {X : Type 0} (xs ys : List X) (k : ℕ) (x : X) → slice_get (xs ++ ys) k ≡ Some x
    → ((k < length xs) × (slice_get xs k ≡ Some x)) ⊎ ((i : ℕ) × (k ≡ length xs + i) × (slice_get ys i ≡ Some x))
split_get xs ys k x h = elim (cases_lt k (length xs)) [
  | inl lt ↦ inl (lt, sym (slice_get_left xs ys k lt) ∙ h)
  | inr le ↦
      let at : k ≡ length xs + (k - length xs) = omega arith in
      inr (k - length xs, at, sym (slice_get_right xs ys (k - length xs) k at) ∙ h)
]

-- numbers from 1

length-up_to : (n : ℕ) → length (up_to n) ≡ n
length-up_to zero = refl
length-up_to (suc n) = omega (arith, length-append (up_to n) (suc n ∷ []), length-up_to n)

up_to_get : (n i x : ℕ) → slice_get (up_to n) i ≡ Some x → (i < n) × (x ≡ suc i)
up_to_get zero i x h = absurd cc
up_to_get (suc n) i x h = elim (split_get (up_to n) (suc n ∷ []) i x h) [
  | inl left ↦ let rest = up_to_get n i x left.1 in (omega (arith, rest.0), rest.1)
  | inr right ↦ last right.0 (right.1 ∙ ap (λ (k : ℕ). k + right.0) (length-up_to n)) right.2
]
  where
    last : (j : ℕ) → i ≡ n + j → slice_get (suc n ∷ []) j ≡ Some x → (i < suc n) × (x ≡ suc i)
    last zero e k = let same : suc n ≡ x = cc in (omega arith, omega arith)
    last (suc j) e k = absurd cc

get_up_to : (n i : ℕ) → i < n → slice_get (up_to n) i ≡ Some (suc i)
get_up_to zero i lt = absurd (omega arith)
get_up_to (suc n) i lt = elim (cases_lt i n) [
  | inl before ↦ slice_get_left (up_to n) (suc n ∷ []) i (omega (arith, length-up_to n)) ∙ get_up_to n i before
  | inr here ↦
      let same : n ≡ i = omega arith in
      slice_get_right (up_to n) (suc n ∷ []) 0 i (omega (arith, length-up_to n)) ∙ ap (λ (k : ℕ). Some (suc k)) same
]

numbered_get : {X : Type 0} (f : ℕ → X) (n i : ℕ) (x : X) → slice_get (map f (up_to n)) i ≡ Some x → (i < n) × (x ≡ f (suc i))
numbered_get f n i x h = of (slice_get (up_to n) i) refl (sym (slice_get-map f (up_to n) i) ∙ h)
  where
    of : (o : Option ℕ) → slice_get (up_to n) i ≡ o → option_map f o ≡ Some x → (i < n) × (x ≡ f (suc i))
    of None e k = absurd cc
    of (Some y) e k = let found = up_to_get n i y e in let same : f y ≡ x = cc in (found.0, sym same ∙ ap f found.1)

get_numbered : {X : Type 0} (f : ℕ → X) (n i : ℕ) → i < n → slice_get (map f (up_to n)) i ≡ Some (f (suc i))
get_numbered f n i lt = slice_get-map f (up_to n) i ∙ ap (option_map f) (get_up_to n i lt)

length-numbers : {X : Type 0} (f : ℕ → X) (n : ℕ) → length (map f (up_to n)) ≡ n
length-numbers f n = length-map (up_to n) f ∙ length-up_to n

-- sites

module _ (script : Script) where
  abbrev r : ℕ
  r = script.topology.replicas

  abbrev rows : ℕ → List Site
  rows n = flat_map (ranks_of script) (up_to n)

  rows-next : (n : ℕ) → rows (suc n) ≡ rows n ++ ranks_of script (suc n)
  rows-next n = flat_map-append (ranks_of script) (up_to n) (suc n ∷ []) ∙ ap (λ (l : List Site). rows n ++ l) (append-nil (ranks_of script (suc n)))

  length-rows : (n : ℕ) → length (rows n) ≡ n * r
  length-rows zero = omega arith
  length-rows (suc n) =
      let parts : length (rows (suc n)) ≡ length (rows n) + length (ranks_of script (suc n)) =
      ap length (rows-next n) ∙ length-append (rows n) (ranks_of script (suc n)) in
      omega (arith, length-rows n, length-numbers (site (suc n)) script.topology.replicas)

  rows_get : (n k : ℕ) (s : Site) → slice_get (rows n) k ≡ Some s
      → (k ≡ place_of_site script.topology s) × IsFrom 1 n s.partition.0 × IsFrom 1 r s.rank.0
  rows_get zero k s h = absurd cc
  rows_get (suc n) k s h = elim (split_get (rows n) (ranks_of script (suc n)) k s (sym (ap (λ (l : List Site). slice_get l k) (rows-next n)) ∙ h)) [
    | inl left ↦ let rest = rows_get n k s left.1 in (rest.0, (rest.1.0, omega (arith, rest.1.1)), rest.2)
    | inr right ↦
        let found = numbered_get (site (suc n)) script.topology.replicas right.0 s right.2 in
        let p : s.partition.0 ≡ suc n = ap (λ (t : Site). t.partition.0) found.1 in
        let q : s.rank.0 ≡ suc right.0 = ap (λ (t : Site). t.rank.0) found.1 in
        let before : s.partition.0 - 1 ≡ n = omega arith in
        let one : (s.partition.0 - 1) * r ≡ n * r = ap (λ (m : ℕ). m * r) before in
        (omega (arith, right.1, length-rows n), (omega arith, omega arith), (omega arith, omega (arith, found.0)))
  ]

  get_rows : (n p k : ℕ) → IsFrom 1 n p → IsFrom 1 r k → slice_get (rows n) ((p - 1) * r + (k - 1)) ≡ Some (site p k)
  get_rows zero p k of_p of_k = absurd (omega (arith, of_p.0, of_p.1))
  get_rows (suc n) p k of_p of_k = ap (λ (l : List Site). slice_get l ((p - 1) * r + (k - 1))) (rows-next n) ∙ elim (cases_lt p (suc n)) [
    | inl before ↦
        let product : ((p - 1) + 1) * r ≤ n * r = mul-le-mul_right r (omega (arith, of_p.0)) in
        slice_get_left (rows n) (ranks_of script (suc n)) ((p - 1) * r + (k - 1)) (omega (arith, length-rows n, of_k.0, of_k.1))
        ∙ get_rows n p k (of_p.0, omega arith) of_k
    | inr here ↦
        let same : p ≡ suc n = omega (arith, of_p.1) in
        let before : p - 1 ≡ n = omega arith in
        let one : (p - 1) * r ≡ n * r = ap (λ (m : ℕ). m * r) before in
        let rank : suc (k - 1) ≡ k = omega (arith, of_k.0) in
        slice_get_right (rows n) (ranks_of script (suc n)) (k - 1) ((p - 1) * r + (k - 1)) (omega (arith, length-rows n))
        ∙ get_numbered (site (suc n)) script.topology.replicas (k - 1) (omega (arith, of_k.0, of_k.1))
        ∙ ap (λ (m : ℕ). Some (site (suc n) m)) rank ∙ ap (λ (m : ℕ). Some (site m k)) (sym same)
  ]

  -- the script's actors

  abbrev m : ℕ
  m = script.topology.partitions * r

  abbrev sessions : List ActorName
  sessions = map (λ s. Session (record { 0 = s })) (up_to (length script.homes))

  abbrev processes : List ActorName
  processes = map (λ s. Process s) (sites_of script)

  abbrev executors : List ActorName
  executors = map (λ s. Executor s) (sites_of script)

  length-sites : length (sites_of script) ≡ m
  length-sites = length-rows script.topology.partitions

  site_get : (f : Site → ActorName) (k : ℕ) (name : ActorName) → slice_get (map f (sites_of script)) k ≡ Some name
      → (s : Site) × (name ≡ f s) × (k ≡ place_of_site script.topology s) × (is_site_of script.topology s ≡ true)
  site_get f k name h = of (slice_get (sites_of script) k) refl (sym (slice_get-map f (sites_of script) k) ∙ h)
    where
      of : (o : Option Site) → slice_get (sites_of script) k ≡ o → option_map f o ≡ Some name
          → (s : Site) × (name ≡ f s) × (k ≡ place_of_site script.topology s) × (is_site_of script.topology s ≡ true)
      of None e g = absurd cc
      of (Some s) e g =
          let found = rows_get script.topology.partitions k s e in
          let same : f s ≡ name = cc in
          (s, sym same, found.0, site_known script.topology s.partition.0 s.rank.0 found.1 found.2)

  -- a site of the shape stands at its place and no other

  pub sites_get : (k : ℕ) (s : Site) → slice_get (sites_of script) k ≡ Some s → (k ≡ place_of_site script.topology s) × (is_site_of script.topology s ≡ true)
  sites_get k s e =
      let found = rows_get script.topology.partitions k s e in
      (found.0, site_known script.topology s.partition.0 s.rank.0 found.1 found.2)

  pub get_sites : (s : Site) → is_site_of script.topology s ≡ true → slice_get (sites_of script) (place_of_site script.topology s) ≡ Some s
  get_sites s known = let of = site_is script.topology s known in get_rows script.topology.partitions s.partition.0 s.rank.0 of.0 of.1

  get_site : (f : Site → ActorName) (s : Site) → is_site_of script.topology s ≡ true → slice_get (map f (sites_of script)) (place_of_site script.topology s) ≡ Some (f s)
  get_site f s known =
      let of = site_is script.topology s known in
      slice_get-map f (sites_of script) (place_of_site script.topology s) ∙ ap (option_map f) (get_rows script.topology.partitions s.partition.0 s.rank.0 of.0 of.1)

  below : (s : Site) → IsFrom 1 script.topology.partitions s.partition.0 → IsFrom 1 r s.rank.0 → place_of_site script.topology s < m
  below s of_p of_k =
      let product : ((s.partition.0 - 1) + 1) * r ≤ script.topology.partitions * r = mul-le-mul_right r (omega (arith, of_p.0, of_p.1)) in
      omega (arith, of_k.0, of_k.1)

  -- an actor of the script stands at its place and no other

  length-sessions : length sessions ≡ length script.homes
  length-sessions = length-numbers (λ s. Session (record { 0 = s })) (length script.homes)

  length-processes : length (sessions ++ processes) ≡ length script.homes + m
  length-processes = omega (arith, length-append sessions processes, length-sessions, length-map (sites_of script) (λ s. Process s), length-sites)

  abbrev IsAt : ℕ → ActorName → Type 0
  IsAt k name = (k ≡ place_of script name) × (is_known script name ≡ true)

  pub place_get : (k : ℕ) (name : ActorName) → slice_get (actors_of script) k ≡ Some name → IsAt k name
  unfolding actors_of
  place_get k name h = elim (split_get (sessions ++ processes) executors k name h) [
    | inl first ↦ elim (split_get sessions processes k name first.1) [
      | inl session ↦
          let found = numbered_get (λ s. Session (record { 0 = s })) (length script.homes) k name session.1 in
          subst (IsAt k) (sym found.1) (omega arith, range_in 1 (length script.homes) (suc k) (omega arith, omega (arith, found.0)))
      | inr process ↦
          let found = site_get (λ s. Process s) process.0 name process.2 in
          subst (IsAt k) (sym found.1) (omega (arith, process.1, found.2, length-sessions), found.3)
    ]
    | inr executor ↦
        let found = site_get (λ s. Executor s) executor.0 name executor.2 in
        subst (IsAt k) (sym found.1) (omega (arith, executor.1, found.2, length-processes), found.3)
  ]

  pub get_place : (name : ActorName) → is_known script name ≡ true → slice_get (actors_of script) (place_of script name) ≡ Some name
  unfolding actors_of
  get_place (Session s) known =
      let of = in_range 1 (length script.homes) s.0 known in
      let at : suc (s.0 - 1) ≡ s.0 = omega (arith, of.0) in
      slice_get_left (sessions ++ processes) executors (s.0 - 1) (omega (arith, of.0, of.1, length-processes))
      ∙ slice_get_left sessions processes (s.0 - 1) (omega (arith, of.0, of.1, length-sessions))
      ∙ get_numbered (λ s. Session (record { 0 = s })) (length script.homes) (s.0 - 1) (omega (arith, of.0, of.1))
      ∙ ap (λ (n : ℕ). Some (Session (record { 0 = n }))) at
  get_place (Process s) known =
      let of = site_is script.topology s known in
      slice_get_left (sessions ++ processes) executors (place_of script (Process s)) (omega (arith, below s of.0 of.1, length-processes))
      ∙ slice_get_right sessions processes (place_of_site script.topology s) (place_of script (Process s)) (omega (arith, length-sessions))
      ∙ get_site (λ s. Process s) s known
  get_place (Executor s) known =
      slice_get_right (sessions ++ processes) executors (place_of_site script.topology s) (place_of script (Executor s)) (omega (arith, length-processes))
      ∙ get_site (λ s. Executor s) s known

  -- an accepted script has few actors
  pub few_actors : IsShape script.topology → length script.homes ≤ 16 → length (actors_of script) ≤ 72
  unfolding actors_of
  few_actors shape few =
      let wide : script.topology.partitions * r ≤ 4 * r = mul-le-mul_right r shape.few_partitions in
      let deep : 4 * r ≤ 28 = omega (arith, shape.few_replicas) in
      omega (arith, few, length-append (sessions ++ processes) executors, length-processes, length-map (sites_of script) (λ s. Executor s), length-sites)

  -- and fewer sites
  pub few_sites : length (sites_of script) ≤ length (actors_of script)
  unfolding actors_of
  few_sites = omega (arith, length-append (sessions ++ processes) executors, length-map (sites_of script) (λ s. Executor s))
