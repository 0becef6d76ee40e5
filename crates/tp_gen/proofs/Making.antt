-- The script of a number is made part by part.
use Rattle.std.proofs.Common.{◌≡◌, ap, ◌∙◌, ℕ, suc, ◌+◌, ◌-◌, ◌≤◌, List, [], ◌∷◌, map, ◌++◌, Result, Ok, Err, IfOk, sym, arith}
use Rattle.std.proofs.lemmas.List.{map_push}
use Rattle.tp_base.specs.declared.names.Rank.{Rank}
use Rattle.tp_gen.specs.Generator.{command, home, numbered_script, pick, shape}
use Rattle.tp_ops.specs.declared.command.Command.{Command}
use Rattle.tp_script.specs.declared.script.PlanLine.{PlanLine}
use Rattle.tp_script.specs.declared.script.Script.{Script}
use Rattle.tp_topology.specs.Counting.{up_to}
use Rattle.tp_topology.specs.Shape.{Shape}

-- a shape that was taken
pub shape_taken : {E : Type 0} (r : Result Shape E) (t : Shape) → r ≡ Ok t → IfOk r (λ s. s ≡ shape) → t ≡ shape
shape_taken (Ok s) t e h = let same : s ≡ t = cc in sym same ∙ h
shape_taken (Err bad) t e h = absurd cc

-- a list goes on with the next number's item
pub one_more : {X : Type 0} (f : ℕ → X) (xs ys : List X) (i : ℕ) → 1 ≤ i → xs ≡ map f (up_to (i - 1)) → ys ≡ xs ++ f i ∷ []
    → ys ≡ map f (up_to (i + 1 - 1))
one_more f xs ys i some before here =
    let this : i ≡ suc (i - 1) = omega (arith, some) in
    let next : suc (i - 1) ≡ i + 1 - 1 = omega (arith, some) in
    here ∙ ap (λ zs. zs ++ f i ∷ []) before ∙ ap (λ (k : ℕ). map f (up_to (i - 1)) ++ f k ∷ []) this
    ∙ sym (map_push f (up_to (i - 1)) (suc (i - 1))) ∙ ap (λ (k : ℕ). map f (up_to k)) next

abbrev the_script : Shape → List Rank → List Command → List PlanLine → List ℕ → Script
the_script t hs cs plan ps = record { topology = t; homes = hs; commands = cs; plan = plan; picks = ps }

pub script_is : (n : ℕ) (t : Shape) (hs : List Rank) (cs : List Command) (plan : List PlanLine) (ps : List ℕ)
    → t ≡ shape → hs ≡ map home (up_to 4) → cs ≡ map (command n) (up_to 200) → plan ≡ [] → ps ≡ map (pick n) (up_to 400)
    → the_script t hs cs plan ps ≡ numbered_script n
unfolding numbered_script
script_is n t hs cs plan ps at_t at_hs at_cs at_plan at_ps =
    λ j. record { topology = at_t j; homes = at_hs j; commands = at_cs j; plan = at_plan j; picks = at_ps j }
