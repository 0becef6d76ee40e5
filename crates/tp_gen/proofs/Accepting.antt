-- The script of a number is one that a text can say.
use Rattle.std.proofs.Common.{◌≡◌, ◌≢◌, Bool, cond, ap, ◌∙◌, ℕ, zero, suc, ◌+◌, ◌*◌, ◌%◌, ◌/◌, ◌-◌, ◌^◌, ◌≤◌, ◌<◌, ◌==◌, List, [], ◌∷◌, length, map, refl, sym, subst, arith}
use Rattle.std.specs.Prelude.{slice_get}
use Rattle.std.proofs.Math.Nat.{mod-lt}
use Rattle.std.proofs.lemmas.Bool.{cond_both, ne_eqb}
use Rattle.std.proofs.lemmas.List.{map_push}
use Rattle.tp_base.proofs.Each.{each_push}
use Rattle.tp_base.specs.Fields.{big_endian}
use Rattle.tp_base.specs.Limits.{IsFrom}
use Rattle.tp_base.specs.Lists.{Each}
use Rattle.tp_gen.specs.Generator.{command, home, letter, numbered_script, ops, pick, place, session, value}
use Rattle.tp_ops.specs.Limits.{IsKey, IsOp, IsValue}
use Rattle.tp_ops.specs.declared.command.Command.{Command}
use Rattle.tp_ops.specs.declared.operation.Op.{Op}
use Rattle.tp_ops.specs.declared.operation.Op.TheVariants.{Get, Put, Del, Cas}
use Rattle.tp_script.specs.Accepted.{AreNumbered, IsAccepted, IsCommandOf, IsCount, IsHome, commands_by}
use Rattle.tp_topology.specs.Counting.{up_to}

-- what holds of each of so many numbers
each_of_first : {X : Type 0} (P : X → Type 0) (f : ℕ → X) (n : ℕ) → ((i : ℕ) → 1 ≤ i → i ≤ n → P (f i))
    → Each P (map f (up_to n))
each_of_first P f zero h = tt
each_of_first P f (suc n) h =
    let before = each_of_first P f n (λ i low high. h i low (omega (arith, high))) in
    subst (Each P) (sym (map_push f (up_to n) (suc n)))
    (each_push P (map f (up_to n)) (f (suc n)) before (h (suc n) (omega arith) (omega arith)))

letter_fits : (x : ℕ) → x ≤ 16 → IsKey (letter x)
letter_fits x few = ((omega arith, omega arith), (omega (arith, few), tt))

value_fits : (i : ℕ) → IsValue (value i)
unfolding big_endian
value_fits i = ((omega arith, omega arith), (mod-lt (i / 256 ^ 1) (omega arith), (mod-lt (i / 256 ^ 0) (omega arith), tt)))

abbrev AreFew : List Op → Type 0
AreFew of = IsFrom 1 16 (length of) × Each IsOp of

one_fits : (op : Op) → IsOp op → AreFew (op ∷ [])
one_fits op fits = ((omega arith, omega arith), (fits, tt))

place_fits : (n i : ℕ) → place n i < 16
place_fits n i = mod-lt (n + 7 * i) (omega arith)

ops_fit : (n i : ℕ) → AreFew (ops n i)
ops_fit n i =
    let key = letter_fits (place n i) (omega (arith, place_fits n i)) in
    let next = letter_fits (place n i + 1) (omega (arith, place_fits n i)) in
    cond_both (i % 5 == 1) _ _ AreFew (λ e. one_fits (Put (letter (place n i)) (value i)) (key, value_fits i))
    (λ e1. cond_both (i % 5 == 2) _ _ AreFew (λ e. one_fits (Get (letter (place n i))) key)
    (λ e2. cond_both (i % 5 == 3) _ _ AreFew
    (λ e. one_fits (Cas (letter (place n i)) (value 1) (value i)) (key, value_fits 1, value_fits i))
    (λ e3. cond_both (i % 5 == 4) _ _ AreFew (λ e. one_fits (Del (letter (place n i))) key)
    (λ e4. ((omega arith, omega arith), ((key, value_fits i), (next, tt)))))))

session_fits : (i : ℕ) → IsFrom 1 4 (session i)
session_fits i = let few = mod-lt (i - 1) {m = 4} (omega arith) in (omega arith, omega (arith, few))

home_known : (r : ℕ) → r < 4 → IsHome (slice_get (map home (up_to 4)) (r + 1 - 1)) (home (r + 1)).0
home_known zero few = refl
home_known (suc zero) few = refl
home_known (suc (suc zero)) few = refl
home_known (suc (suc (suc zero))) few = refl
home_known (suc (suc (suc (suc r)))) few = absurd (omega (arith, few))

command_fits : (n i : ℕ) → 1 ≤ i → i ≤ 200 → IsCommandOf (map home (up_to 4)) (command n i)
command_fits n i low high =
    let s = session_fits i in
    let r = mod-lt (i - 1) {m = 4} (omega arith) in
    let h = mod-lt (session i - 1) {m = 3} (omega arith) in
    let few = ops_fit n i in (
      (((s.0, omega (arith, s.1)), (omega arith, omega (arith, low, high))), (omega arith, omega (arith, h)), few.0, few.1),
      s,
      home_known ((i - 1) % 4) r,
    )

none_of : (s : ℕ) (cs : List Command) → Each (λ c. c.id.session.0 ≢ s) cs → commands_by s cs ≡ []
none_of s [] h = refl
none_of s (c ∷ cs) h =
    ap (λ (b : Bool). cond b (c ∷ commands_by s cs) (commands_by s cs)) (ne_eqb c.id.session.0 s h.0) ∙ none_of s cs h.1

no_others : (n s : ℕ) → 4 < s → commands_by s (map (command n) (up_to 200)) ≡ []
no_others n s past = none_of s (map (command n) (up_to 200))
    (each_of_first (λ c. c.id.session.0 ≢ s) (command n) 200
    (λ i low high. λ e. absurd (omega (arith, (session_fits i).1, e, past))))

numbered : (n s : ℕ) → AreNumbered (map (command n) (up_to 200)) s
numbered n zero = refl
numbered n (suc zero) = refl
numbered n (suc (suc zero)) = refl
numbered n (suc (suc (suc zero))) = refl
numbered n (suc (suc (suc (suc zero)))) = refl
numbered n (suc (suc (suc (suc (suc s))))) =
    subst (λ (cs : List Command). map (λ c. c.id.number) cs ≡ up_to (length cs))
    (sym (no_others n (suc (suc (suc (suc (suc s))))) (omega arith))) refl

pub accepted : (n : ℕ) → IsAccepted (numbered_script n)
unfolding numbered_script
accepted n = record {
  shape = record {
    some_partition = omega arith;
    few_partitions = omega arith;
    some_replicas = omega arith;
    few_replicas = omega arith;
    some_failure = omega arith;
    minority = omega arith;
  };
  sessions = omega arith;
  homes = each_of_first (λ rank. IsFrom 1 3 rank.0) home 4
      (λ s low high. (omega arith, omega (arith, mod-lt (s - 1) {m = 3} (omega arith))));
  count = omega arith;
  commands = each_of_first (IsCommandOf (map home (up_to 4))) (command n) 200 (command_fits n);
  numbered = numbered n;
  lines = omega arith;
  plan = tt;
  doubles = tt;
  few_picks = omega arith;
  picks = each_of_first IsCount (pick n) 400 (λ j low high. omega (arith, mod-lt (n + 13 * j) {m = 50} (omega arith)));
}
