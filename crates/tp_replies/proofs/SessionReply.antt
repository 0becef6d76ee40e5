-- The reply by a session's own rules is the reply by the journal. Used for the laws of runs.
use Rattle.std.proofs.Common.{◌≡◌, ℕ, inl, inr, Bool, true, cond, List, [], ◌∷◌, ◌++◌, Option, Some, None, refl, ap, ◌∙◌}
use Rattle.std.specs.Prelude.{is_some, unwrap_or, ◌==◌, ◌&&◌}
use Rattle.std.specs.List.{list_all, list_any}
use Rattle.std.proofs.lemmas.Bool.{eq-eqb, or_left, or_right}
use Rattle.tp_base.specs.Lists.{IsIn}
use Rattle.tp_base.specs.Partition.{partition_number}
use Rattle.tp_base.specs.Tables.{kept_at}
use Rattle.tp_base.specs.declared.names.CommandId.{CommandId}
use Rattle.tp_ops.specs.declared.command.Command.{Command}
use Rattle.tp_ops.specs.declared.operation.Answer.{Answer}
use Rattle.tp_ops.specs.declared.operation.Op.{Op}
use Rattle.tp_ops.specs.Parts.{answers_in, first_of, is_accessed, is_on, key_of, merged, rest_of}
use Rattle.tp_rules.specs.Addresses.{accessed}
use Rattle.tp_rules.specs.Outcome.{command_of, first_result, reply_from, reply_to}
use Rattle.tp_rules.specs.Runs.{IsFreeHistory}
use Rattle.tp_rules.specs.Session as session
use Rattle.tp_rules.specs.declared.event.Entry.{Entry}
use Rattle.tp_script.specs.Accepted.{IsAccepted}
use Rattle.tp_script.specs.declared.script.Script.{Script}
use Rattle.tp_topology.specs.Counting.{up_to}
use Rattle.tp_rules.proofs.lists.Tallies.{filter_in}
use Rattle.tp_replies.specs.SessionReply.{session_of, session_reply_to}
use Rattle.tp_replies.proofs.KeptResults.{kept_is_first}
use Rattle.tp_replies.proofs.SessionCommands.{command_at}

-- merging asks only for the answers of partitions that operations are on
merged_on : (n : ℕ) (ops : List Op) (f g : ℕ → List Answer) → ((p : ℕ) → list_any (is_on n p) ops ≡ true → f p ≡ g p)
    → merged n ops f ≡ merged n ops g
unfolding merged
merged_on n [] f g same = refl
merged_on n (op ∷ ops) f g same =
    let p : ℕ = partition_number (key_of op) n in
    let here : list_any (is_on n p) (op ∷ ops) ≡ true =
    or_left (is_on n p op) (list_any (is_on n p) ops) (eq-eqb p p refl) in
    ap (λ (xs : List Answer). first_of xs ++ merged n ops (λ q. cond (q == p) (rest_of (f q)) (f q))) (same p here)
    ∙ ap (λ (ys : List Answer). first_of (g p) ++ ys) (merged_on n ops _ _ (λ q on.
    let later : list_any (is_on n q) (op ∷ ops) ≡ true = or_right (is_on n q op) (list_any (is_on n q) ops) on in
    ap (λ (xs : List Answer). cond (q == p) (rest_of xs) xs) (same q later)))

list_all_same : {X : Type 0} (f g : X → Bool) (xs : List X) → ((x : X) → IsIn x xs → f x ≡ g x)
    → list_all f xs ≡ list_all g xs
list_all_same f g [] same = refl
list_all_same f g (x ∷ xs) same =
    ap (λ (b : Bool). b && list_all f xs) (same x (inl refl))
    ∙ ap (λ (b : Bool). g x && b) (list_all_same f g xs (λ y there. same y (inr there)))

-- a session keeps the first results that were delivered, and merges them as the journal's reply does
pub session_reply : (script : Script) (older : List Entry) → IsAccepted script → IsFreeHistory script older
    → (id : CommandId) → session_reply_to script older id ≡ reply_to script older id
unfolding is_accessed
session_reply script older accepted history id =
    ap (session.merged_reply script.topology table) (command_at script accepted id)
    ∙ by_command (command_of script id) refl
  where
    table : List (Option (List Answer))
    table = (session_of script older id).kept id.number

    by_command : (o : Option Command) → command_of script id ≡ o
        → session.merged_reply script.topology table o ≡ reply_from script (first_result older id) o
    by_command None is = refl
    by_command (Some c) is =
        let n : ℕ = script.topology.partitions in
        let ps : List ℕ = accessed script.topology c in
        let first : ℕ → Option (List Answer) = first_result older id in
        let same : (p : ℕ) → list_any (is_on n p) c.ops ≡ true → kept_at table p ≡ first p =
        λ p on. kept_is_first script accepted id c is p on older history in
        ap (λ (b : Bool). cond b (Some (merged n c.ops (answers_in table))) None)
        (list_all_same (λ p. is_some (kept_at table p)) (λ p. is_some (first p)) ps
        (λ p there. ap is_some (same p (filter_in (is_accessed n c) (up_to n) p there).1)))
        ∙ ap (λ (answers : List Answer). cond (list_all (λ p. is_some (first p)) ps) (Some answers) None)
        (merged_on n c.ops (answers_in table) (λ p. unwrap_or (first p) [])
        (λ p on. ap (λ (o : Option (List Answer)). unwrap_or o []) (same p on)))
