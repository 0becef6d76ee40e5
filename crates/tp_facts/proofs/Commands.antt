-- The command of each identifier of a script, and the partitions that it accesses.
-- Used by the crates above, who state the facts by identifiers.
use Rattle.std.proofs.Common.{◌≡◌, ℕ, suc, inl, inr, true, List, [], ◌∷◌, length, map, Some, refl, sym, ap, ◌∙◌, subst, cond, arith}
use Rattle.std.proofs.Common.{◌≡◌, ℕ, ◌≤◌, inl, inr, true, List, [], ◌∷◌, Option, Some, None, refl, sym, subst, ap, ◌∙◌, arith}
use Rattle.std.proofs.lemmas.Bool.{eqb-true}
use Rattle.std.proofs.lemmas.Bool.{cond-true, cond_both, eq-eqb}
use Rattle.std.specs.Prelude.{slice_get, ◌==◌}
use Rattle.std.specs.Prelude.{◌==◌}
use Rattle.tp_base.proofs.Ends.{got_within}
use Rattle.tp_base.proofs.Members.{get_in}
use Rattle.tp_base.proofs.SameNames.{same_id_is, same_id_refl}
use Rattle.tp_base.proofs.Tests.{some_in}
use Rattle.tp_base.specs.Lists.{IsIn}
use Rattle.tp_base.specs.Lists.{IsIn}
use Rattle.tp_base.specs.Names.{same_id}
use Rattle.tp_base.specs.Partition.{partition_number}
use Rattle.tp_base.specs.declared.names.CommandId.{CommandId}
use Rattle.tp_ops.specs.Parts.{is_accessed, is_on, key_of}
use Rattle.tp_ops.specs.declared.command.Command.{Command}
use Rattle.tp_rules.proofs.lists.Tallies.{in_filter}
use Rattle.tp_rules.proofs.lists.UpTo.{get_map, get_up_to}
use Rattle.tp_rules.specs.Outcome.{accesses}
use Rattle.tp_rules.specs.Outcome.{command_of}
use Rattle.tp_script.specs.Accepted.{IsAccepted, commands_by}
use Rattle.tp_script.specs.declared.script.Script.{Script}
use Rattle.tp_topology.specs.Counting.{up_to}
use Rattle.tp_facts.proofs.RunFacts.{NamesCommands}
use Rattle.tp_facts.proofs.Tables.{find_there}

-- a command that has the place of its number
pub number_is : (cs : List Command) (i : ℕ) (c : Command) → map (λ c. c.id.number) cs ≡ up_to (length cs)
    → slice_get cs i ≡ Some c → c.id.number ≡ suc i
number_is cs i c numbered at =
    let here : slice_get (map (λ (c : Command). c.id.number) cs) i ≡ Some c.id.number =
    get_map (λ (c : Command). c.id.number) cs i c at in
    let there : slice_get (up_to (length cs)) i ≡ Some (suc i) = get_up_to (length cs) i (got_within cs i c at) in
    let same : slice_get (map (λ (c : Command). c.id.number) cs) i ≡ slice_get (up_to (length cs)) i =
    ap (λ (ns : List ℕ). slice_get ns i) numbered in cc

-- an identifier names one command
same_command : (script : Script) → IsAccepted script → (c d : Command) → IsIn c script.commands → IsIn d script.commands
    → c.id ≡ d.id → c ≡ d
same_command script accepted c d c_in d_in same =
    let s : ℕ = c.id.session.0 in
    let cs : List Command = commands_by s script.commands in
    let i = get_in cs c (in_filter (λ (c : Command). c.id.session.0 == s) script.commands c c_in (eq-eqb s s refl)) in
    let j = get_in cs d
    (in_filter (λ (c : Command). c.id.session.0 == s) script.commands d d_in
    (eq-eqb d.id.session.0 s (ap (λ (id : CommandId). id.session.0) (sym same)))) in
    let at_i : c.id.number ≡ suc i.0 = number_is cs i.0 c (accepted.numbered s) i.1 in
    let at_j : d.id.number ≡ suc j.0 = number_is cs j.0 d (accepted.numbered s) j.1 in
    let place : i.0 ≡ j.0 = omega (arith, at_i, at_j, ap (λ (id : CommandId). id.number) same) in
    let both : Some c ≡ Some d = sym i.1 ∙ ap (λ (k : ℕ). slice_get cs k) place ∙ j.1 in cc

-- the first command of an identifier
abbrev pub command_in : List Command → CommandId → Command
command_in [] id = record { id = id; home = record { 0 = 0 }; ops = [] }
command_in (c ∷ cs) id = cond (same_id c.id id) c (command_in cs id)

found : (cs : List Command) (c : Command) → IsIn c cs → IsIn (command_in cs c.id) cs × ((command_in cs c.id).id ≡ c.id)
found [] c there = absurd there
found (d ∷ ds) c (inl e) =
    let itself : command_in (d ∷ ds) c.id ≡ d =
    cond-true (same_id d.id c.id) d (command_in ds c.id)
    (subst (λ (x : Command). same_id x.id c.id ≡ true) e (same_id_refl c.id)) in
    (inl itself, ap (λ (x : Command). x.id) (itself ∙ sym e))
found (d ∷ ds) c (inr there) =
    cond_both (same_id d.id c.id) d (command_in ds c.id) (λ (x : Command). IsIn x (d ∷ ds) × (x.id ≡ c.id))
    (λ y. (inl refl, same_id_is d.id c.id y))
    (λ n. let rest = found ds c there in (inr rest.0, rest.1))

-- it is the one that the identifier names
pub command_in_names : (script : Script) → IsAccepted script → NamesCommands script (command_in script.commands)
command_in_names script accepted c there =
    let it = found script.commands c there in
    same_command script accepted c (command_in script.commands c.id) there it.0 (sym it.1)

-- and the one that the outcomes of a run speak of
pub command_is : (script : Script) → IsAccepted script → (c : Command) → IsIn c script.commands
    → command_of script c.id ≡ Some c
command_is script accepted c h =
    let f = find_there (λ (d : Command). same_id d.id c.id) script.commands c h (same_id_refl c.id) in
    f.found ∙ ap (λ (x : Command). Some x)
    (same_command script accepted f.x c f.there h (same_id_is f.x.id c.id f.passes))

-- an accessed partition is one of the shape
pub accessed_from : (n : ℕ) (c : Command) (p : ℕ) → 1 ≤ n → is_accessed n c p ≡ true → (1 ≤ p) × (p ≤ n)
unfolding is_accessed
accessed_from n c p some h =
    let found = some_in (is_on n p) c.ops h in
    let is : partition_number (key_of found.0) n ≡ p = eqb-true (partition_number (key_of found.0) n) p found.2 in
    (omega arith, omega arith)

pub accesses_within : (script : Script) → 1 ≤ script.topology.partitions → (p : ℕ) (o : Option Command)
    → accesses script p o ≡ true
    → (1 ≤ p) × (p ≤ script.topology.partitions)
accesses_within script some p None h = absurd cc
accesses_within script some p (Some c) h = accessed_from script.topology.partitions c p some h
