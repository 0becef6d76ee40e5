-- A partition's share of the line, and of any list of commands: what is in it, and how it grows at the end.
-- Used for the line's shares (InOrder, LineGoesOn, ExecutionKeepsOrder).
use Rattle.std.proofs.Common.{◌≡◌, ℕ, Bool, true, false, cond, List, [], ◌∷◌, ◌++◌, refl, sym, ap, ◌∙◌}
use Rattle.std.proofs.lemmas.List.{append-nil}
use Rattle.std.proofs.lemmas.List.Elements.{filter-append}
use Rattle.tp_base.specs.Lists.{IsIn, IsPrefixOf}
use Rattle.tp_base.specs.declared.names.CommandId.{CommandId}
use Rattle.tp_rules.specs.Outcome.{line, share, accesses, command_of}
use Rattle.tp_rules.specs.declared.event.Entry.{Entry}
use Rattle.tp_script.specs.declared.script.Script.{Script}
use Rattle.tp_rules.proofs.lists.Tallies.{filter_in, in_filter}

-- a partition's share of the line
abbrev pub line_share : Script → List Entry → ℕ → List CommandId
line_share script older p = share script p (line older)

module _ (script : Script) (p : ℕ) where
  abbrev is_of_share : CommandId → Bool
  is_of_share id = accesses script p (command_of script id)

  -- no command, no share
  pub share_of_none : share script p [] ≡ []
  unfolding share
  share_of_none = refl

  -- what is in a share
  pub in_share : (ids : List CommandId) (id : CommandId) → IsIn id ids →
      accesses script p (command_of script id) ≡ true → IsIn id (share script p ids)
  unfolding share
  in_share ids id there accesses = in_filter is_of_share ids id there accesses

  pub share_in : (ids : List CommandId) (id : CommandId) → IsIn id (share script p ids) →
      IsIn id ids × (accesses script p (command_of script id) ≡ true)
  unfolding share
  share_in ids id there = filter_in is_of_share ids id there

  -- a command more that accesses the partition
  pub share_with : (ids : List CommandId) (id : CommandId) → accesses script p (command_of script id) ≡ true →
      share script p (ids ++ id ∷ []) ≡ share script p ids ++ id ∷ []
  unfolding share
  share_with ids id does =
      filter-append is_of_share ids (id ∷ []) ∙ ap (λ (b : Bool). share script p ids ++ cond b (id ∷ []) []) does

  -- and one that doesn't
  pub share_without : (ids : List CommandId) (id : CommandId) → accesses script p (command_of script id) ≡ false →
      share script p (ids ++ id ∷ []) ≡ share script p ids
  unfolding share
  share_without ids id doesnt =
      filter-append is_of_share ids (id ∷ []) ∙ ap (λ (b : Bool). share script p ids ++ cond b (id ∷ []) []) doesnt
      ∙ append-nil (share script p ids)

  -- commands more at the end
  pub share_grows : (ids more : List CommandId) → IsPrefixOf (share script p ids) (share script p (ids ++ more))
  unfolding share
  share_grows ids more = (share script p more, sym (filter-append is_of_share ids more))
