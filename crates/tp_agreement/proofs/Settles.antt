-- A free run of an accepted script settles final stamps, with majorities attached. Used for the order and the laws.
use Rattle.std.proofs.Common.{◌≡◌, ℕ, ◌≤◌, inl, inr, Bool, true, false, cond, List, [], ◌∷◌, map, Option, Some, None, is_some, refl, sym, ap, ◌∙◌, subst, arith}
use Rattle.std.proofs.lemmas.Bool.{leb-true, le-leb}
use Rattle.std.specs.List.{list_all}
use Rattle.tp_base.proofs.Members.{map_in}
use Rattle.tp_base.specs.Lists.{IsIn}
use Rattle.tp_base.specs.declared.names.CommandId.{CommandId}
use Rattle.tp_ops.specs.Parts.{is_accessed}
use Rattle.tp_ops.specs.declared.command.Command.{Command}
use Rattle.tp_quorum.specs.Choice.{present, greatest}
use Rattle.tp_rules.proofs.lists.Tallies.{in_filter}
use Rattle.tp_rules.proofs.lists.UpTo.{in_up_to}
use Rattle.tp_rules.specs.Addresses.{accessed}
use Rattle.tp_rules.specs.Outcome.{Commit, accesses, command_of, commits}
use Rattle.tp_rules.specs.Runs.{IsFreeHistory}
use Rattle.tp_rules.specs.Sheet.{Proposed, greatest_known}
use Rattle.tp_rules.specs.declared.event.Entry.{Entry}
use Rattle.tp_script.specs.Accepted.{IsAccepted}
use Rattle.tp_script.specs.declared.script.Script.{Script}
use Rattle.tp_topology.proofs.Passing.{count_more}
use Rattle.tp_topology.specs.Counting.{count_up_to, up_to}
use Rattle.tp_topology.specs.Shape.{majority_size}
use Rattle.tp_facts.proofs.Commands.{accessed_from, command_in, command_is}
use Rattle.tp_facts.specs.Settled.{Settled, is_proposed, sheet_at}
use Rattle.tp_agreement.proofs.Attached.{is_attached}
use Rattle.tp_agreement.proofs.Commits.{IsFinal, commit_is_final, home_in_range, known_stamps}
use Rattle.tp_agreement.proofs.Counting.{below_greatest, value_of}
use Rattle.tp_agreement.proofs.Decisions.{Decided, majority_attached, one_decision}
use Rattle.tp_agreement.proofs.KnownStamps.{known_decided}
use Rattle.tp_agreement.proofs.Moment.{id_of_command, moment_at}
use Rattle.tp_base.proofs.Tests.{all_in}

-- the greatest of stamps that are all known

in_present : (os : List (Option ℕ)) (t : ℕ) → IsIn (Some t) os → IsIn t (present os)
in_present [] t there = absurd there
in_present (None ∷ os) t (inl e) = absurd cc
in_present (None ∷ os) t (inr there) = in_present os t there
in_present (Some u ∷ os) t (inl e) = inl cc
in_present (Some u ∷ os) t (inr there) = inr (in_present os t there)

-- each of them is known, and at most the greatest
below_greatest_known : (f : ℕ → Option ℕ) (qs : List ℕ) (s q : ℕ) → greatest_known (map f qs) ≡ Some s → IsIn q qs
    → (t : ℕ) × (f q ≡ Some t) × (t ≤ s)
below_greatest_known f qs s q is there = go (list_all is_some (map f qs)) refl is
  where
    go : (b : Bool) → list_all is_some (map f qs) ≡ b → cond b (Some (greatest (present (map f qs)))) None ≡ Some s
        → (t : ℕ) × (f q ≡ Some t) × (t ≤ s)
    go true e is =
        let t = value_of (f q) (all_in is_some (map f qs) (f q) e (map_in f qs q there)) in
        let top : greatest (present (map f qs)) ≡ s = cc in
        let in_map : IsIn (Some t.0) (map f qs) =
        subst (λ (o : Option ℕ). IsIn o (map f qs)) t.1 (map_in f qs q there) in
        let low = below_greatest t.0 (present (map f qs)) (in_present (map f qs) t.0 in_map) in
        (t.0, t.1, omega (arith, top, low))
    go false e is = absurd cc

-- two functions that agree on a list
same_map : (f g : ℕ → Option ℕ) (qs : List ℕ) → ((q : ℕ) → IsIn q qs → f q ≡ g q) → map f qs ≡ map g qs
same_map f g [] same = refl
same_map f g (q ∷ qs) same =
    ap (λ (o : Option ℕ). o ∷ map f qs) (same q (inl refl))
    ∙ ap (λ (os : List (Option ℕ)). g q ∷ os) (same_map f g qs (λ p there. same p (inr there)))

module _ (script : Script) (accepted : IsAccepted script) (older : List Entry)
    (history : IsFreeHistory script older) where
  abbrev named : CommandId → Command
  named id = command_in script.commands id

  abbrev DecidedIn : ℕ → CommandId → ℕ → Type 0
  DecidedIn q id t = Decided (moment_at script accepted older history q id) t

  -- each accessed partition's stamp was decided, and is at most the final one
  part_of : (x : Commit) → IsFinal script accepted older history x → (q : ℕ)
      → IsIn q (accessed script.topology (named x.id))
      → (t : ℕ) × (known_stamps script accepted older history x q ≡ Some t) × (t ≤ x.stamp) × DecidedIn q x.id t
  part_of x is q there =
      let t = below_greatest_known (known_stamps script accepted older history x)
      (accessed script.topology (named x.id)) x.stamp q is.final there in
      (t.0, t.1, t.2, known_decided (moment_at script accepted older history q x.id) x.site t.0 is.known t.1)

  -- two commits of a command know the same stamp of each partition, so the greatest is the same
  one_final_stamp : (a b : Commit) → IsIn a (commits older) → IsIn b (commits older) → a.id ≡ b.id → a.stamp ≡ b.stamp
  one_final_stamp a b a_in b_in same =
      let f = commit_is_final script accepted older history a a_in in
      let g = commit_is_final script accepted older history b b_in in
      let stamps_a : ℕ → Option ℕ = known_stamps script accepted older history a in
      let stamps_b : ℕ → Option ℕ = known_stamps script accepted older history b in
      let qs : List ℕ = accessed script.topology (named a.id) in
      let one_list : map stamps_a qs ≡ map stamps_b qs = same_map stamps_a stamps_b qs (λ q there.
      let x = part_of a f q there in
      let y = part_of b g q (subst (λ (i : CommandId). IsIn q (accessed script.topology (named i))) same there) in
      let decided : DecidedIn q a.id y.0 = subst (λ (i : CommandId). DecidedIn q i y.0) (sym same) y.3 in
      let e : x.0 ≡ y.0 = one_decision (moment_at script accepted older history q a.id) x.0 y.0 x.3 decided in
      x.1 ∙ ap (λ (t : ℕ). Some t) e ∙ sym y.1) in
      let final_b : greatest_known (map stamps_b qs) ≡ Some b.stamp =
      subst (λ (i : CommandId). greatest_known (map stamps_b (accessed script.topology (named i))) ≡ Some b.stamp)
      (sym same) g.final in
      let both : Some a.stamp ≡ Some b.stamp = sym f.final ∙ ap greatest_known one_list ∙ final_b in
      cc

  -- a majority of an accessed partition has a proposal at or below its decided stamp, so at or below the final one
  majority_at_final : (a : Commit) → IsIn a (commits older) → (p : ℕ)
      → accesses script p (command_of script a.id) ≡ true
      → majority_size script.topology
      ≤ count_up_to (λ rank. is_proposed (sheet_at script older p rank a.id).proposal a.stamp) script.topology.replicas
  majority_at_final a a_in p access =
      let f = commit_is_final script accepted older history a a_in in
      let command : command_of script a.id ≡ Some (named a.id) =
      ap (λ (i : CommandId). command_of script i) (sym (id_of_command script.commands a.id))
      ∙ command_is script accepted (named a.id) f.ours in
      let reached : is_accessed script.topology.partitions (named a.id) p ≡ true =
      subst (λ (o : Option Command). accesses script p o ≡ true) command access in
      let within = accessed_from script.topology.partitions (named a.id) p accepted.shape.some_partition reached in
      let there : IsIn p (accessed script.topology (named a.id)) =
      in_filter (is_accessed script.topology.partitions (named a.id)) (up_to script.topology.partitions) p
      (in_up_to script.topology.partitions p within.0 within.1) reached in
      let part = part_of a f p there in
      let its = moment_at script accepted older history p a.id in
      let enough = majority_attached its part.0 (home_in_range script accepted (named a.id) f.ours) part.3 in
      let more = count_more (is_attached its part.0) (is_attached its a.stamp) script.topology.replicas
      (λ rank low high e. higher (sheet_at script older p rank a.id).proposal part.0 part.2 e) in
      omega (arith, enough, more)
    where
      higher : (o : Option Proposed) (t : ℕ) → t ≤ a.stamp → is_proposed o t ≡ true → is_proposed o a.stamp ≡ true
      higher None t le e = absurd cc
      higher (Some q) t le e = le-leb q.stamp a.stamp (omega (arith, leb-true q.stamp t e, le))

pub settled : (script : Script) → IsAccepted script → (older : List Entry) → IsFreeHistory script older
    → Settled script older
settled script accepted older history =
    record {
      agreed = one_final_stamp script accepted older history;
      attached = majority_at_final script accepted older history;
    }
