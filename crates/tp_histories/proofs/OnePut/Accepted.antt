-- The script of one put is an accepted one, so what is said of accepted scripts is said of it.
use Rattle.std.proofs.Common.{◌≡◌, ℕ, ◌==◌, Bool, true, false, cond, [], ◌∷◌, length, map, refl, arith}
use Rattle.tp_ops.specs.declared.command.Command.{Command}
use Rattle.tp_histories.proofs.OnePut.Journal.{one_put, put_a}
use Rattle.tp_script.specs.Accepted.{IsAccepted, AreNumbered}
use Rattle.tp_topology.specs.Counting.{up_to}

-- its one command is that of session 1, and of no other
numbered : (s : ℕ) → AreNumbered one_put.commands s
numbered s = by_test (1 == s)
  where
    by_test : (b : Bool) →
        map (λ (c : Command). c.id.number) (cond b (put_a ∷ []) []) ≡ up_to (length (cond b (put_a ∷ []) []))
    by_test true = refl
    by_test false = refl

one_put_is_accepted : IsAccepted one_put
one_put_is_accepted = record {
  shape = omega arith;
  sessions = omega arith;
  homes = omega arith;
  count = omega arith;
  commands = ((omega arith, omega arith, refl), tt);
  numbered = numbered;
  lines = omega arith;
  plan = tt;
  doubles = tt;
  few_picks = omega arith;
  picks = tt;
}
