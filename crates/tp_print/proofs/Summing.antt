-- The counts of a summary: each command is answered or open, and a summary's lines.
use Rattle.std.proofs.Common.{◌≡◌, ◌≤◌, ℕ, suc, ◌+◌, ◌-◌, cond, List, [], ◌∷◌, ◌++◌, Option, Some, None, length, refl, ap, ◌∙◌, arith}
use Rattle.std.specs.List.{flat_map}
use Rattle.std.specs.Prelude.{codes, filter, is_none, is_some, reverse}
use Rattle.std.proofs.lemmas.List.{length-map}
use Rattle.tp_base.proofs.Each.{each_weaker}
use Rattle.tp_base.specs.Limits.{IsFrom}
use Rattle.tp_print.proofs.Numbered.{all_counted, length-flat_map-same, of_session}
use Rattle.tp_print.specs.Report.{all_ids, id_of, ids_of, open_count, text_line}
use Rattle.tp_print.specs.Summary.{answered_count, count_line, executed_line, summary_text}
use Rattle.tp_rules.proofs.lists.UpTo.{length-up_to}
use Rattle.tp_rules.specs.Outcome.{reply_to}
use Rattle.tp_rules.specs.Pending.{sites_of}
use Rattle.tp_rules.specs.declared.event.Entry.{Entry}
use Rattle.tp_script.specs.Accepted.{IsAccepted, IsCommandOf}
use Rattle.tp_script.specs.declared.script.Script.{Script}
use Rattle.tp_topology.specs.Counting.{up_to}

there_or_not : {X Y : Type 0} (f : X → Option Y) (xs : List X)
    → length (filter (λ x. is_some (f x)) xs) + length (filter (λ x. is_none (f x)) xs) ≡ length xs
there_or_not f [] = refl
there_or_not {X} {Y} f (x ∷ xs) = by (f x) (there_or_not f xs)
  where
    by : (o : Option Y) → length (filter (λ y. is_some (f y)) xs) + length (filter (λ y. is_none (f y)) xs) ≡ length xs
        → length (cond (is_some o) (x ∷ filter (λ y. is_some (f y)) xs) (filter (λ y. is_some (f y)) xs))
        + length (cond (is_none o) (x ∷ filter (λ y. is_none (f y)) xs) (filter (λ y. is_none (f y)) xs)) ≡ suc (length xs)
    by None same = omega (arith, same)
    by (Some a) same = omega (arith, same)

-- an accepted script's commands have that many ids
ids_counted : (script : Script) → IsAccepted script → length (all_ids script) ≡ length script.commands
ids_counted script accepted =
    length-flat_map-same (ids_of script) (of_session script.commands) (up_to (length script.homes))
    (λ s. length-map (up_to (length (of_session script.commands s))) (id_of s) ∙ length-up_to (length (of_session script.commands s)))
    ∙ all_counted script.commands (length script.homes)
    (each_weaker (IsCommandOf script.homes) (λ c. IsFrom 1 (length script.homes) c.id.session.0) (λ c h. h.1) script.commands accepted.commands)

-- those that aren't open are answered
pub others_answered : (script : Script) (older : List Entry) (n unanswered : ℕ) → IsAccepted script
    → n ≡ length script.commands → unanswered ≡ open_count script older
    → (unanswered ≤ n) × (n - unanswered ≡ answered_count script older)
others_answered script older n unanswered accepted all is =
    let sum = there_or_not (reply_to script older) (all_ids script) in
    let ids = ids_counted script accepted in
    (omega (arith, sum, ids, all, is), omega (arith, sum, ids, all, is))

-- the summary, as it is written
pub summary_is : (number : ℕ) (script : Script) (journal : List Entry) (commands answered unanswered : ℕ) (a b c d e f g : List ℕ)
    → commands ≡ length script.commands
    → answered ≡ answered_count script (reverse journal)
    → unanswered ≡ open_count script (reverse journal)
    → a ≡ []
    → b ≡ a ++ count_line (codes "load") number
    → c ≡ b ++ count_line (codes "commands") commands
    → d ≡ c ++ count_line (codes "answered") answered
    → e ≡ d ++ flat_map (executed_line (reverse journal)) (sites_of script)
    → f ≡ e ++ count_line (codes "open") unanswered
    → g ≡ f ++ text_line (codes "end") []
    → g ≡ summary_text number script journal
unfolding summary_text
summary_is number script journal commands answered unanswered a b c d e f g all done left at_a at_b at_c at_d at_e at_f at_g =
    at_g ∙ ap (λ (l : List ℕ). l ++ text_line (codes "end") [])
    (at_f ∙ ap (λ (n : ℕ). e ++ count_line (codes "open") n) left ∙ ap (λ (l : List ℕ). l ++ count_line (codes "open") (open_count script (reverse journal)))
    (at_e ∙ ap (λ (l : List ℕ). l ++ flat_map (executed_line (reverse journal)) (sites_of script))
    (at_d ∙ ap (λ (n : ℕ). c ++ count_line (codes "answered") n) done ∙ ap (λ (l : List ℕ). l ++ count_line (codes "answered") (answered_count script (reverse journal)))
    (at_c ∙ ap (λ (n : ℕ). b ++ count_line (codes "commands") n) all ∙ ap (λ (l : List ℕ). l ++ count_line (codes "commands") (length script.commands))
    (at_b ∙ ap (λ (l : List ℕ). l ++ count_line (codes "load") number) at_a)))))
