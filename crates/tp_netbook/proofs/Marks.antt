-- The marks of the outputs that may be delivered or lost now: how many there are, and which one has so many before it.
use Rattle.std.proofs.Common.{◌≡◌, ◌≢◌, ℕ, zero, suc, ◌+◌, ◌<◌, ◌≤◌, inl, inr, Bool, true, false, cond, List, [], ◌∷◌, ◌++◌, length, map, set, Option, Some, None, refl, sym, ap, subst, ◌∙◌, arith}
use Rattle.std.proofs.lemmas.Bool.{cases_eq}
use Rattle.std.proofs.lemmas.List.{length-set, map-append, map-set}
use Rattle.std.proofs.lemmas.Option.{slice_get-map, slice_get_within}
use Rattle.std.specs.Prelude.{◌⊎◌, filter_map, option_map, slice_get}
use Rattle.tp_base.proofs.Ends.{get_set_other, get_set_same}
use Rattle.tp_base.proofs.Members.{get_in}
use Rattle.tp_bits.specs.Bits.{AreBits, next, ones, select}
use Rattle.tp_netbook.specs.Netbook.{AreReady, AreReadyBut, IsListed, is_ready, mark_by, marked}
use Rattle.tp_netbook.specs.declared.netbook.Netbook.{Netbook}
use Rattle.tp_netbook.specs.declared.output.Inbox.{Inbox}
use Rattle.tp_netbook.specs.declared.output.Output.{Output}

pub one_later : (o : Option ℕ) (i : ℕ) → option_map next o ≡ Some i → (j : ℕ) × (o ≡ Some j) × (suc j ≡ i)
one_later None i e = absurd cc
one_later (Some j) i e = (j, refl, cc)

module _ {X Y : Type 0} (test : X → Bool) (make : X → Y) where
  abbrev kept : X → Option Y
  kept x = cond (test x) (Some (make x)) None

  pub many_kept : (xs : List X) → ones (map test xs) ≡ length (filter_map kept xs)
  many_kept [] = refl
  many_kept (x ∷ xs) = by (test x) refl (many_kept xs)
    where
      by : (b : Bool) → test x ≡ b → ones (map test xs) ≡ length (filter_map kept xs) → ones (map test (x ∷ xs)) ≡ length (filter_map kept (x ∷ xs))
      by true e rest = rw e (omega (arith, rest))
      by false e rest = rw e (omega (arith, rest))

  none_later : (o : Option ℕ) → option_map next o ≡ None → o ≡ None
  none_later None e = refl
  none_later (Some j) e = absurd cc

  abbrev pub IsAt : List X → ℕ → ℕ → Type 0
  IsAt xs k i = (x : X) × (slice_get xs i ≡ Some x) × (slice_get (filter_map kept xs) k ≡ Some (make x))

  pub kept_at : (xs : List X) (k i : ℕ) → select (map test xs) k ≡ Some i → IsAt xs k i
  kept_at [] k i e = absurd cc
  kept_at (x ∷ xs) k i e = by (test x) refl k i e (kept_at xs)
    where
      here : test x ≡ true → filter_map kept (x ∷ xs) ≡ make x ∷ filter_map kept xs
      here t = rw t refl

      out : test x ≡ false → filter_map kept (x ∷ xs) ≡ filter_map kept xs
      out t = rw t refl

      by : (b : Bool) → test x ≡ b → (k i : ℕ) → select (b ∷ map test xs) k ≡ Some i → ((k i : ℕ) → select (map test xs) k ≡ Some i → IsAt xs k i) → IsAt (x ∷ xs) k i
      by true t zero i e rest =
          let first : 0 ≡ i = cc in
          subst (IsAt (x ∷ xs) zero) first (x, refl, ap (λ (l : List Y). slice_get l zero) (here t))
      by true t (suc k) i e rest =
          let later = one_later (select (map test xs) k) i e in
          let found = rest k later.0 later.1 in
          subst (IsAt (x ∷ xs) (suc k)) later.2 (found.0, found.1, ap (λ (l : List Y). slice_get l (suc k)) (here t) ∙ found.2)
      by false t k i e rest =
          let later = one_later (select (map test xs) k) i e in
          let found = rest k later.0 later.1 in
          subst (IsAt (x ∷ xs) k) later.2 (found.0, found.1, ap (λ (l : List Y). slice_get l k) (out t) ∙ found.2)

  pub kept_no_more : (xs : List X) (k : ℕ) → select (map test xs) k ≡ None → slice_get (filter_map kept xs) k ≡ None
  kept_no_more [] k e = refl
  kept_no_more (x ∷ xs) k e = by (test x) refl k e (kept_no_more xs)
    where
      here : test x ≡ true → filter_map kept (x ∷ xs) ≡ make x ∷ filter_map kept xs
      here t = rw t refl

      out : test x ≡ false → filter_map kept (x ∷ xs) ≡ filter_map kept xs
      out t = rw t refl

      by : (b : Bool) → test x ≡ b → (k : ℕ) → select (b ∷ map test xs) k ≡ None → ((k : ℕ) → select (map test xs) k ≡ None → slice_get (filter_map kept xs) k ≡ None)
          → slice_get (filter_map kept (x ∷ xs)) k ≡ None
      by true t zero e rest = absurd cc
      by true t (suc k) e rest = ap (λ (l : List Y). slice_get l (suc k)) (here t) ∙ rest k (none_later (select (map test xs) k) e)
      by false t k e rest = ap (λ (l : List Y). slice_get l k) (out t) ∙ rest k (none_later (select (map test xs) k) e)

-- lists with the same items

pub same_items : {X : Type 0} (xs ys : List X) → ((i : ℕ) → slice_get xs i ≡ slice_get ys i) → xs ≡ ys
same_items [] [] same = refl
same_items [] (y ∷ ys) same = let first : None ≡ Some y = same zero in absurd cc
same_items (x ∷ xs) [] same = let first : Some x ≡ None = same zero in absurd cc
same_items {X} (x ∷ xs) (y ∷ ys) same =
    let first : Some x ≡ Some y = same zero in
    let here : x ≡ y = cc in
    ap (λ (z : X). z ∷ xs) here ∙ ap (λ (l : List X). y ∷ l) (same_items xs ys (λ i. same (suc i)))

none_past : {X : Type 0} (xs : List X) (i : ℕ) → length xs ≤ i → slice_get xs i ≡ None
none_past [] i le = refl
none_past (x ∷ xs) zero le = absurd (omega arith)
none_past (x ∷ xs) (suc i) le = none_past xs i (omega arith)

pub map_is : {X : Type 0} (f : X → Bool) (xs : List X) (bits : List Bool) → length bits ≡ length xs → ((i : ℕ) (x : X) → slice_get xs i ≡ Some x → slice_get bits i ≡ Some (f x))
    → bits ≡ map f xs
map_is {X} f xs bits many each = same_items bits (map f xs) (λ i. by i (slice_get xs i) refl)
  where
    by : (i : ℕ) (o : Option X) → slice_get xs i ≡ o → slice_get bits i ≡ slice_get (map f xs) i
    by i (Some x) at = each i x at ∙ sym (slice_get-map f xs i ∙ ap (option_map f) at)
    by i None at = none_past bits i (omega (arith, many, none_long xs i at)) ∙ sym (slice_get-map f xs i ∙ ap (option_map f) at)
      where
        none_long : (ys : List X) (i : ℕ) → slice_get ys i ≡ None → length ys ≤ i
        none_long [] i e = omega arith
        none_long (y ∷ ys) zero e = absurd cc
        none_long (y ∷ ys) (suc i) e = omega (arith, none_long ys i e)

ready_alike : (b b' : Netbook) → b'.topology ≡ b.topology → b'.sites ≡ b.sites → is_ready b' ≡ is_ready b
ready_alike b b' topology sites = λ i o. is_ready (record b { topology = topology i; sites = sites i }) o

pub none_ready : (b : Netbook) → b.outputs.items ≡ [] → AreBits [] b.ready → AreReady b
none_ready b none bits = subst (λ (l : List Output). AreBits (map (is_ready b) l) b.ready) (sym none) bits

-- one output is changed and marked
pub marks_set : (b : Netbook) (outputs : List Output) (i : ℕ) (o o' : Output) → slice_get outputs i ≡ Some o → b.outputs.items ≡ set outputs i o'
    → marked b i (map (is_ready b) outputs) ≡ map (is_ready b) b.outputs.items
marks_set b outputs i o o' at is =
    let there : slice_get b.outputs.items i ≡ Some o' = ap (λ (l : List Output). slice_get l i) is ∙ get_set_same outputs i o' o at in
    ap (λ (bit : Option Bool). mark_by bit i (map (is_ready b) outputs)) (slice_get-map (is_ready b) b.outputs.items i ∙ ap (option_map (is_ready b)) there)
    ∙ sym (map-set (is_ready b) outputs i o') ∙ ap (map (is_ready b)) (sym is)

-- the outputs of an inbox are marked one after the other

abbrev pub IsLater : Netbook → ℕ → ℕ → ℕ → Type 0
IsLater b home k i = (inbox : Inbox) × (slice_get b.inboxes.items home ≡ Some inbox) × (j : ℕ) × (k ≤ j) × (slice_get inbox.places.items j ≡ Some i)

abbrev pub AreMarkedTo : Netbook → ℕ → ℕ → Type 0
AreMarkedTo b home k = (bits : List Bool) × AreBits bits b.ready × (length bits ≡ length b.outputs.items)
    × ((i : ℕ) (o : Output) → slice_get b.outputs.items i ≡ Some o → (slice_get bits i ≡ Some (is_ready b o)) ⊎ IsLater b home k i)

pub none_marked : (b : Netbook) (turned : Option ℕ) (home : ℕ) → turned ≡ Some home → AreReadyBut b turned → AreMarkedTo b home 0
none_marked b turned home is but = (but.0, but.1, but.2, λ i o at. elim (but.3 i o at) [ inl right ↦ inl right | inr listed ↦ inr (later i listed) ])
  where
    later : (i : ℕ) → IsListed b turned i → IsLater b home 0 i
    later i (home', inbox, turns, there, within) =
        let same : home' ≡ home = (let both : Some home' ≡ Some home = sym turns ∙ is in cc) in
        let place = get_in inbox.places.items i within in
        (inbox, ap (slice_get b.inboxes.items) (sym same) ∙ there, place.0, omega arith, place.1)

-- all are right where there is no inbox
pub no_inbox : (b : Netbook) (turned : Option ℕ) → ((home : ℕ) (inbox : Inbox) → turned ≡ Some home → slice_get b.inboxes.items home ≡ Some inbox → ⊥) → AreReadyBut b turned → AreReady b
no_inbox b turned none but = subst (λ bits. AreBits bits b.ready) (map_is (is_ready b) b.outputs.items but.0 but.2 all) but.1
  where
    all : (i : ℕ) (o : Output) → slice_get b.outputs.items i ≡ Some o → slice_get but.0 i ≡ Some (is_ready b o)
    all i o at = elim (but.3 i o at) [ inl right ↦ right | inr listed ↦ absurd (none listed.0 listed.1 listed.2 listed.3) ]

pub all_marked : (b : Netbook) (home k : ℕ) (inbox : Inbox) → slice_get b.inboxes.items home ≡ Some inbox → length inbox.places.items ≤ k → AreMarkedTo b home k → AreReady b
all_marked b home k inbox there past marks = subst (λ bits. AreBits bits b.ready) (map_is (is_ready b) b.outputs.items marks.0 marks.2 all) marks.1
  where
    none : (i : ℕ) → IsLater b home k i → ⊥
    none i (inbox', there', j, le, at) =
        let same : inbox' ≡ inbox = (let both : Some inbox' ≡ Some inbox = sym there' ∙ there in cc) in
        let lt : j < length inbox.places.items = slice_get_within inbox.places.items j i (ap (λ (x : Inbox). slice_get x.places.items j) (sym same) ∙ at) in
        absurd (omega (arith, past))

    all : (i : ℕ) (o : Output) → slice_get b.outputs.items i ≡ Some o → slice_get marks.0 i ≡ Some (is_ready b o)
    all i o at = elim (marks.3 i o at) [ inl right ↦ right | inr later ↦ absurd (none i later) ]

-- one more is marked: only the marks differ in the netbook after
pub next_marked : (b b' : Netbook) (home k place : ℕ) (inbox : Inbox) → b'.topology ≡ b.topology → b'.sites ≡ b.sites → b'.outputs ≡ b.outputs → b'.inboxes ≡ b.inboxes
    → slice_get b.inboxes.items home ≡ Some inbox → slice_get inbox.places.items k ≡ Some place
    → ((bits : List Bool) → AreBits bits b.ready → AreBits (marked b place bits) b'.ready) → AreMarkedTo b home k → AreMarkedTo b' home (k + 1)
next_marked b b' home k place inbox topology sites outputs inboxes there at marks are = (
  marked b place are.0,
  marks are.0 are.1,
  long (slice_get (map (is_ready b) b.outputs.items) place) ∙ are.2 ∙ ap (λ os. length os.items) (sym outputs),
  λ i o now. each i o (ap (λ os. slice_get os.items i) (sym outputs) ∙ now),
)
  where
    long : (bit : Option Bool) → length (mark_by bit place are.0) ≡ length are.0
    long None = refl
    long (Some bit) = length-set are.0 place bit

    ready : (o : Output) → is_ready b' o ≡ is_ready b o
    ready o = ap (λ (f : Output → Bool). f o) (ready_alike b b' topology sites)

    later : (i : ℕ) → i ≢ place → IsLater b home k i → IsLater b' home (k + 1) i
    later i apart (inbox', there', j, le, found) =
        let same : inbox' ≡ inbox = (let both : Some inbox' ≡ Some inbox = sym there' ∙ there in cc) in
        let more : k + 1 ≤ j = (elim (cases_eq j k) [
          | inl here ↦
              let both : Some i ≡ Some place = sym found ∙ ap (λ (x : Inbox). slice_get x.places.items j) same ∙ ap (slice_get inbox.places.items) here ∙ at in
              let is : i ≡ place = cc in
              absurd (apart is)
          | inr other ↦ omega (arith, le, other)
        ]) in
        (inbox', ap (λ l. slice_get l.items home) inboxes ∙ there', j, more, found)

    each : (i : ℕ) (o : Output) → slice_get b.outputs.items i ≡ Some o → (slice_get (marked b place are.0) i ≡ Some (is_ready b' o)) ⊎ IsLater b' home (k + 1) i
    each i o old = elim (cases_eq i place) [
      | inl here ↦
          let bit : slice_get (map (is_ready b) b.outputs.items) place ≡ Some (is_ready b o) = slice_get-map (is_ready b) b.outputs.items place ∙ ap (λ (n : ℕ). option_map (is_ready b) (slice_get b.outputs.items n)) (sym here) ∙ ap (option_map (is_ready b)) old in
          let lt : i < length are.0 = omega (arith, slice_get_within b.outputs.items i o old, are.2) in
          inl (ap (λ (m : Option Bool). slice_get (mark_by m place are.0) i) bit ∙ ap (slice_get (set are.0 place (is_ready b o))) here ∙ written are.0 place (is_ready b o) (omega (arith, lt, here)) ∙ ap (λ (c : Bool). Some c) (sym (ready o)))
      | inr apart ↦ elim (are.3 i o old) [
        | inl right ↦ inl (kept_there (slice_get (map (is_ready b) b.outputs.items) place) i apart ∙ right ∙ ap (λ (c : Bool). Some c) (sym (ready o)))
        | inr more ↦ inr (later i apart more)
      ]
    ]
      where
        written : (l : List Bool) (i : ℕ) (c : Bool) → i < length l → slice_get (set l i c) i ≡ Some c
        written [] i c lt = absurd (omega arith)
        written (x ∷ l) zero c lt = refl
        written (x ∷ l) (suc i) c lt = written l i c (omega arith)

        kept_there : (bit : Option Bool) (i : ℕ) → i ≢ place → slice_get (mark_by bit place are.0) i ≡ slice_get are.0 i
        kept_there None i apart = refl
        kept_there (Some bit) i apart = get_set_other are.0 place i bit apart

-- one more output at the end
pub ready_more : (b b' : Netbook) (o : Output) (bit : Bool) → b'.topology ≡ b.topology → b'.sites ≡ b.sites → b'.outputs.items ≡ b.outputs.items ++ o ∷ [] → bit ≡ is_ready b o
    → ((bits : List Bool) → AreBits bits b.ready → AreBits (bits ++ bit ∷ []) b'.ready) → AreReady b → AreReady b'
ready_more b b' o bit topology sites outputs is more are = subst (λ bits. AreBits bits b'.ready) marks (more (map (is_ready b) b.outputs.items) are)
  where
    marks : map (is_ready b) b.outputs.items ++ bit ∷ [] ≡ map (is_ready b') b'.outputs.items
    marks =
        ap (λ (c : Bool). map (is_ready b) b.outputs.items ++ c ∷ []) is
        ∙ sym (map-append (is_ready b) b.outputs.items (o ∷ []))
        ∙ ap (map (is_ready b)) (sym outputs)
        ∙ ap (λ (f : Output → Bool). map f b'.outputs.items) (sym (ready_alike b b' topology sites))

-- one output was changed in b and is marked in b'
pub marked_ready : (b b' : Netbook) (outputs : List Output) (i : ℕ) (o o' : Output) → slice_get outputs i ≡ Some o → b.outputs.items ≡ set outputs i o'
    → b'.topology ≡ b.topology → b'.sites ≡ b.sites → b'.outputs ≡ b.outputs → ((bits : List Bool) → AreBits bits b.ready → AreBits (marked b i bits) b'.ready)
    → AreBits (map (is_ready b) outputs) b.ready → AreReady b'
marked_ready b b' outputs i o o' at is topology sites same marks are = subst (λ bits. AreBits bits b'.ready) all (marks (map (is_ready b) outputs) are)
  where
    all : marked b i (map (is_ready b) outputs) ≡ map (is_ready b') b'.outputs.items
    all =
        marks_set b outputs i o o' at is ∙ ap (λ os. map (is_ready b) os.items) (sym same)
        ∙ ap (λ (f : Output → Bool). map f b'.outputs.items) (sym (ready_alike b b' topology sites))
