-- The first results of all commands: a place for one more, and the answers that a message tells.
use Rattle.indexmap.specs.IndexMap.{IndexMap, get}
use Rattle.std.proofs.Common.{◌≡◌, ℕ, ◌==◌, ◌&&◌, Bool, true, false, cond, List, Option, Some, None, refl, sym, ap, subst, ◌∙◌}
use Rattle.std.specs.Option.{option_or}
use Rattle.std.specs.Prelude.{is_some, unwrap_or}
use Rattle.tp_base.proofs.Options.{absent}
use Rattle.tp_base.proofs.SameNames.{same_id_is, same_id_refl}
use Rattle.tp_base.specs.Names.{same_id, same_name}
use Rattle.tp_base.specs.Tables.{kept_at}
use Rattle.tp_base.specs.declared.names.ActorName.{ActorName}
use Rattle.tp_base.specs.declared.names.ActorName.TheVariants.{Session}
use Rattle.tp_base.specs.declared.names.PartitionId.{PartitionId}
use Rattle.tp_rules.specs.Outcome.{result_by}
use Rattle.tp_wire.specs.declared.message.Body.{Body}
use Rattle.tp_wire.specs.declared.message.Body.TheVariants.{MResult}
use Rattle.tp_base.specs.declared.names.CommandId.{CommandId}
use Rattle.tp_ops.specs.declared.operation.Answer.{Answer}
use Rattle.tp_print.proofs.KeptFirst.{option_or_none}
use Rattle.tp_print.specs.Results.{ByPartition, answers_at, none_kept}

module _ {S : Type 0} (old new : IndexMap CommandId ByPartition S) (id : CommandId) where
  -- an empty place says what none says
  pub opened : is_some (get same_id old id) ≡ false
      → ((q : CommandId) → get same_id new q ≡ cond (same_id id q) (Some none_kept) (get same_id old q))
      → (q : CommandId) (p : ℕ) → answers_at new q p ≡ answers_at old q p
  opened missing updates q p = ap (λ (o : Option ByPartition). kept_at (unwrap_or o none_kept) p) (updates q)
      ∙ by (same_id id q) refl
    where
      by : (b : Bool) → same_id id q ≡ b
          → kept_at (unwrap_or (cond b (Some none_kept) (get same_id old q)) none_kept) p ≡ answers_at old q p
      by true e = sym (ap (λ (o : Option ByPartition). kept_at (unwrap_or o none_kept) p)
          (ap (get same_id old) (sym (same_id_is id q e)) ∙ absent (get same_id old id) missing))
      by false e = refl

  -- a result for the actor's own command is kept, and nothing else changes
  pub result_told : (actor : ActorName) (q : PartitionId) (answers : List Answer) (body : Body)
      → body ≡ MResult id q answers
      → same_name actor (Session id.session) ≡ true
      → ((p : ℕ) → answers_at new id p ≡ option_or (answers_at old id p) (cond (q.0 == p) (Some answers) None))
      → ((other : CommandId) (p : ℕ) → same_id id other ≡ false → answers_at new other p ≡ answers_at old other p)
      → (other : CommandId) (p : ℕ) → answers_at new other p
      ≡ cond (same_name actor (Session other.session))
      (option_or (answers_at old other p) (result_by other p body)) (answers_at old other p)
  result_told actor q answers body is mine here others other p =
      by (same_id id other) refl
      ∙ ap (λ (b : Body). cond (same_name actor (Session other.session))
      (option_or (answers_at old other p) (result_by other p b)) (answers_at old other p)) (sym is)
    where
      neither : (b : Bool) (o : Option (List Answer)) → o ≡ cond b (option_or o None) o
      neither true o = sym (option_or_none o)
      neither false o = refl

      by : (b : Bool) → same_id id other ≡ b → answers_at new other p
          ≡ cond (same_name actor (Session other.session))
          (option_or (answers_at old other p) (cond (same_id id other && (q.0 == p)) (Some answers) None))
          (answers_at old other p)
      by true e =
          subst (λ (k : CommandId). answers_at new k p
          ≡ cond (same_name actor (Session k.session))
          (option_or (answers_at old k p) (cond (same_id id k && (q.0 == p)) (Some answers) None))
          (answers_at old k p))
          (same_id_is id other e)
          (here p
          ∙ ap (λ (b : Bool). option_or (answers_at old id p) (cond (b && (q.0 == p)) (Some answers) None))
          (sym (same_id_refl id))
          ∙ ap (λ (b : Bool). cond b (option_or (answers_at old id p)
          (cond (same_id id id && (q.0 == p)) (Some answers) None)) (answers_at old id p)) (sym mine))
      by false e =
          others other p e
          ∙ neither (same_name actor (Session other.session)) (answers_at old other p)
          ∙ ap (λ (b : Bool). cond (same_name actor (Session other.session))
          (option_or (answers_at old other p) (cond (b && (q.0 == p)) (Some answers) None))
          (answers_at old other p)) (sym e)
