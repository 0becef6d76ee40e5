-- Commands by session and number: a place for one command more, and one more put there.
use Rattle.std.proofs.Common.{◌≡◌, ◌≢◌, ℕ, zero, suc, ◌+◌, ◌<◌, inl, inr, Bool, true, false, cond, Bor, List, [], ◌∷◌, ◌++◌, length, get_or, set, Option, Some, None, map, option_map, refl, sym, ap, subst, ◌∙◌, arith, length-append}
use Rattle.std.specs.Option.{option_copied, option_or}
use Rattle.std.specs.Prelude.{◌==◌, ◌&&◌, is_some, slice_get}
use Rattle.std.proofs.lemmas.Bool.{cases_eq, eq-eqb, ne_eqb}
use Rattle.std.proofs.lemmas.List.{length-set}
use Rattle.std.proofs.lemmas.List.Elements.{filter-append}
use Rattle.std.proofs.lemmas.List.Folds.{find-append}
use Rattle.std.proofs.lemmas.Option.{slice_get-map, slice_get_read}
use Rattle.tp_base.proofs.Ends.{get_set_other, get_set_same, slice_get_push_cases}
use Rattle.tp_base.proofs.Options.{absent}
use Rattle.tp_base.specs.Names.{same_id}
use Rattle.tp_ops.specs.declared.command.Command.{Command}
use Rattle.tp_print.proofs.KeptFirst.{option_or_none}
use Rattle.tp_print.specs.Commands.{AreNumbered, Row, first_with}
use Rattle.tp_print.specs.Report.{id_of}
use Rattle.tp_script.specs.Accepted.{commands_by}

-- a command put at its number, in one session's row

-- what stands at a place, after a command was put
abbrev pub put_at : Command → ℕ → Option Command → Option Command
put_at c i before = option_or before (cond (c.id.number == suc i) (Some c) None)

put_elsewhere : (c : Command) (i : ℕ) (o : Option (Option Command)) → c.id.number ≢ suc i
    → o ≡ option_map (put_at c i) o
put_elsewhere c i None apart = refl
put_elsewhere c i (Some before) apart =
    ap (λ (x : Option Command). Some x)
    (sym (ap (λ (b : Bool). option_or before (cond b (Some c) None)) (ne_eqb c.id.number (suc i) apart)
    ∙ option_or_none before))

elsewhere : (place i n : ℕ) → n ≡ suc place → i ≢ place → n ≢ suc i
elsewhere place i n number apart = λ e. apart (omega (arith, number))

-- a command stands there already
pub put_again : (xs : List (Option (Bor Command))) (c : Command) (place : ℕ) (o : Option (Bor Command))
    → c.id.number ≡ suc place → place < length xs → o ≡ get_or xs place o
    → is_some o ≡ true → (i : ℕ) → slice_get (map option_copied xs) i ≡ option_map (put_at c i)
    (slice_get (map option_copied xs) i)
put_again xs c place o number lt is some i = elim (cases_eq i place) [
  | inl e ↦ by o some (ap (slice_get (map option_copied xs)) e
      ∙ slice_get-map option_copied xs place
      ∙ ap (option_map option_copied) (slice_get_read xs (length xs) place o refl lt is))
  | inr apart ↦ put_elsewhere c i (slice_get (map option_copied xs) i) (elsewhere place i c.id.number number apart)
]
  where
    by : (r : Option (Bor Command)) → is_some r ≡ true → slice_get (map option_copied xs) i ≡ Some (option_copied r)
        → slice_get (map option_copied xs) i ≡ option_map (put_at c i) (slice_get (map option_copied xs) i)
    by None e at = absurd cc
    by (Some r) e at = at ∙ ap (option_map (put_at c i)) (sym at)

-- none stands there
pub put_first : (xs : List (Option (Bor Command))) (c : Bor Command) (place : ℕ) (o : Option (Bor Command))
    → c.now.id.number ≡ suc place → place < length xs → o ≡ get_or xs place o
    → is_some o ≡ false → (i : ℕ) → slice_get (map option_copied (set xs place (Some c))) i ≡ option_map
    (put_at c.now i) (slice_get (map option_copied xs) i)
put_first xs c place o number lt is none i =
    slice_get-map option_copied (set xs place (Some c)) i ∙ elim (cases_eq i place) [
      | inl e ↦
          let one : (c.now.id.number == suc i) ≡ true = eq-eqb c.now.id.number (suc i) (omega (arith, number)) in
          let at : slice_get xs place ≡ Some None = slice_get_read xs (length xs) place o refl lt is
          ∙ ap (λ (r : Option (Bor Command)). Some r) (absent o none) in
          ap (λ (k : ℕ). option_map option_copied (slice_get (set xs place (Some c)) k)) e
          ∙ ap (option_map option_copied) (get_set_same xs place (Some c) None at)
          ∙ sym (ap (λ (b : Bool). Some (cond b (Some c.now) None)) one)
          ∙ sym (ap (option_map (put_at c.now i))
          (slice_get-map option_copied xs i ∙ ap (option_map option_copied) (ap (slice_get xs) e ∙ at)))
      | inr apart ↦
          ap (option_map option_copied) (get_set_other xs place i (Some c) apart)
          ∙ sym (slice_get-map option_copied xs i)
          ∙ put_elsewhere c.now i (slice_get (map option_copied xs) i) (elsewhere place i c.now.id.number number apart)
    ]

-- the rows of all sessions

counted_here : (s : ℕ) (cs : List Command) (c : Command) → c.id.session.0 ≡ s
    → length (commands_by s (cs ++ c ∷ [])) ≡ length (commands_by s cs) + 1
counted_here s cs c e =
    ap length (filter-append (λ (k : Command). k.id.session.0 == s) cs (c ∷ []))
    ∙ ap (λ (b : Bool). length (commands_by s cs ++ cond b (c ∷ []) [])) (eq-eqb c.id.session.0 s e)
    ∙ length-append (commands_by s cs) (c ∷ [])

counted_elsewhere : (s : ℕ) (cs : List Command) (c : Command) → c.id.session.0 ≢ s
    → length (commands_by s (cs ++ c ∷ [])) ≡ length (commands_by s cs)
counted_elsewhere s cs c apart =
    ap length (filter-append (λ (k : Command). k.id.session.0 == s) cs (c ∷ []))
    ∙ ap (λ (b : Bool). length (commands_by s cs ++ cond b (c ∷ []) [])) (ne_eqb c.id.session.0 s apart)
    ∙ length-append (commands_by s cs) [] ∙ (omega arith)

placed_here : (s n : ℕ) (cs : List Command) (c : Command) → c.id.session.0 ≡ s
    → first_with (cs ++ c ∷ []) (id_of s n) ≡ option_or (first_with cs (id_of s n))
    (cond (c.id.number == n) (Some c) None)
placed_here s n cs c e =
    find-append (λ (k : Command). same_id k.id (id_of s n)) cs (c ∷ [])
    ∙ ap (λ (b : Bool). option_or (first_with cs (id_of s n)) (cond (b && (c.id.number == n)) (Some c) None))
    (eq-eqb c.id.session.0 s e)

placed_elsewhere : (s n : ℕ) (cs : List Command) (c : Command) → c.id.session.0 ≢ s
    → first_with (cs ++ c ∷ []) (id_of s n) ≡ first_with cs (id_of s n)
placed_elsewhere s n cs c apart =
    find-append (λ (k : Command). same_id k.id (id_of s n)) cs (c ∷ [])
    ∙ ap (λ (b : Bool). option_or (first_with cs (id_of s n)) (cond (b && (c.id.number == n)) (Some c) None))
    (ne_eqb c.id.session.0 s apart)
    ∙ option_or_none (first_with cs (id_of s n))

-- whether a place is that of a session, behind 1
within : (rows : List Row) (i : ℕ) (row : Row) → slice_get rows i ≡ Some row → i < length rows
within [] i row e = absurd cc
within (r ∷ rows) zero row e = omega arith
within (r ∷ rows) (suc i) row e = let lt = within rows i row e in omega arith

module _ (sessions : ℕ) (counted placed : List Command) (rows : List Row) (c : Command) where
  -- a command of no session of the table
  pub count_nowhere : AreNumbered sessions counted [] rows → ((i : ℕ) → i < length rows → c.id.session.0 ≢ suc i)
      → AreNumbered sessions (counted ++ c ∷ []) [] rows
  count_nowhere h apart = record {
    count = h.count;
    numbers = λ i row e. h.numbers i row e ∙ sym (counted_elsewhere (suc i) counted c (apart i (within rows i row e)));
    commands = h.commands;
  }

  pub place_nowhere : AreNumbered sessions counted placed rows → ((i : ℕ) → i < length rows → c.id.session.0 ≢ suc i)
      → AreNumbered sessions counted (placed ++ c ∷ []) rows
  place_nowhere h apart = record {
    count = h.count;
    numbers = h.numbers;
    commands = λ i j row o e at. h.commands i j row o e at
        ∙ sym (placed_elsewhere (suc i) (suc j) placed c (apart i (within rows i row e)));
  }

module _ (sessions : ℕ) (counted placed : List Command) (rows : List Row) (c : Command) (s : ℕ) (row new : Row)
    (session : c.id.session.0 ≡ suc s) (there : slice_get rows s ≡ Some row) where
  away : (i : ℕ) → i ≢ s → c.id.session.0 ≢ suc i
  away i apart = λ e. apart (omega (arith, session))

  now_here : (i : ℕ) (r : Row) → i ≡ s → slice_get (set rows s new) i ≡ Some r → r ≡ new
  now_here i r e at = let same : Some new ≡ Some r = sym (get_set_same rows s new row there)
      ∙ ap (slice_get (set rows s new)) (sym e) ∙ at in cc

  -- a place more in its session's row
  pub count_there : AreNumbered sessions counted [] rows → new ≡ row ++ None ∷ []
      → AreNumbered sessions (counted ++ c ∷ []) [] (set rows s new)
  count_there h is = record {
    count = length-set rows s new ∙ h.count;
    numbers = λ i r at. elim (cases_eq i s) [
      | inl e ↦
          let longer : length r ≡ length row + 1 = ap length (now_here i r e at ∙ is) ∙ length-append row (None ∷ []) in
          longer ∙ ap (λ (n : ℕ). n + 1) (h.numbers i row (ap (slice_get rows) e ∙ there))
          ∙ sym (counted_here (suc i) counted c (omega (arith, session)))
      | inr apart ↦ h.numbers i r (sym (get_set_other rows s i new apart) ∙ at)
          ∙ sym (counted_elsewhere (suc i) counted c (away i apart))
    ];
    commands = λ i j r o at here. elim (cases_eq i s) [
      | inl e ↦ elim (slice_get_push_cases row None j o
          (subst (λ (x : Row). slice_get x j ≡ Some o) (now_here i r e at ∙ is) here)) [
            | inl old ↦ h.commands i j row o (ap (slice_get rows) e ∙ there) old.1
            | inr last ↦ last.1
          ]
      | inr apart ↦ h.commands i j r o (sym (get_set_other rows s i new apart) ∙ at) here
    ];
  }

  -- and the command put there
  pub place_there : AreNumbered sessions counted placed rows → length new ≡ length row
      → ((j : ℕ) → slice_get new j ≡ option_map (put_at c j) (slice_get row j))
      → AreNumbered sessions counted (placed ++ c ∷ []) (set rows s new)
  place_there h size put = record {
    count = length-set rows s new ∙ h.count;
    numbers = λ i r at. elim (cases_eq i s) [
      | inl e ↦ ap length (now_here i r e at) ∙ size ∙ h.numbers i row (ap (slice_get rows) e ∙ there)
      | inr apart ↦ h.numbers i r (sym (get_set_other rows s i new apart) ∙ at)
    ];
    commands = λ i j r o at here. elim (cases_eq i s) [
      | inl e ↦ by i j o e (slice_get row j) refl
          (sym (put j) ∙ subst (λ (x : Row). slice_get x j ≡ Some o) (now_here i r e at) here)
      | inr apart ↦ h.commands i j r o (sym (get_set_other rows s i new apart) ∙ at) here
          ∙ sym (placed_elsewhere (suc i) (suc j) placed c (away i apart))
    ];
  }
    where
      by : (i j : ℕ) (o : Option Command) → i ≡ s → (before : Option (Option Command)) → slice_get row j ≡ before
          → option_map (put_at c j) before ≡ Some o
          → o ≡ first_with (placed ++ c ∷ []) (id_of (suc i) (suc j))
      by i j o e None was is = absurd cc
      by i j o e (Some before) was is =
          let now : put_at c j before ≡ o = cc in
          sym now
          ∙ ap (λ (b : Option Command). put_at c j b) (h.commands i j row before (ap (slice_get rows) e ∙ there) was)
          ∙ sym (placed_here (suc i) (suc j) placed c (omega (arith, session)))
