-- The lines of a report, session by session and site by site.
use Rattle.std.proofs.Common.{◌≡◌, ℕ, List, [], ◌∷◌, ◌++◌, length, append_assoc, sym, ap, ◌∙◌}
use Rattle.std.specs.List.{flat_map}
use Rattle.std.specs.Fmt.{decimal}
use Rattle.std.specs.Prelude.{codes, filter, is_none, map, reverse}
use Rattle.std.proofs.lemmas.List.{append-nil}
use Rattle.std.proofs.lemmas.List.Folds.{flat_map-map}
use Rattle.tp_base.specs.declared.names.CommandId.{CommandId}
use Rattle.tp_base.specs.declared.names.Site.{Site}
use Rattle.tp_print.proofs.Numbered.{filter_flat, flat_map_flat, length-filter_map, length-flat_map-same}
use Rattle.tp_print.specs.Replies.{lines_of, numbers_of, open_of}
use Rattle.tp_print.specs.Report.{id_of, ids_of, open_count, order_lines, reply_line, reply_lines, report_text, spaced, text_line}
use Rattle.tp_rules.specs.Addresses.{site}
use Rattle.tp_rules.specs.Journal.{ranks_of}
use Rattle.tp_rules.specs.Outcome.{line, reply_to}
use Rattle.tp_rules.specs.Pending.{sites_of}
use Rattle.tp_rules.specs.declared.event.Entry.{Entry}
use Rattle.tp_script.specs.declared.script.Script.{Script}
use Rattle.tp_text.specs.Names.{id_word}
use Rattle.tp_topology.specs.Counting.{up_to}

pub reply_lines_are : (script : Script) (older : List Entry)
    → flat_map (lines_of script older) (up_to (length script.homes)) ≡ reply_lines script older
reply_lines_are script older =
    let text : CommandId → List ℕ = λ id. reply_line id (reply_to script older id) in
    sym (flat_map_flat text (ids_of script) (up_to (length script.homes))
    ∙ (λ j. flat_map (λ s. flat_map-map text (id_of s) (numbers_of script s) j) (up_to (length script.homes))))

pub open_count_is : (script : Script) (older : List Entry)
    → length (flat_map (open_of script older) (up_to (length script.homes))) ≡ open_count script older
open_count_is script older =
    sym (ap length (filter_flat (λ (id : CommandId). is_none (reply_to script older id)) (ids_of script)
    (up_to (length script.homes)))
    ∙ length-flat_map-same (λ s. filter (λ id. is_none (reply_to script older id)) (ids_of script s))
    (open_of script older) (up_to (length script.homes))
    (λ s. length-filter_map (λ (id : CommandId). is_none (reply_to script older id)) (id_of s) (numbers_of script s)))

pub site_lines_are : (script : Script) (text : Site → List ℕ)
    → flat_map (λ p. flat_map (λ k. text (site p k)) (up_to script.topology.replicas))
    (up_to script.topology.partitions) ≡ flat_map text (sites_of script)
site_lines_are script text =
    sym (flat_map_flat text (ranks_of script) (up_to script.topology.partitions)
    ∙ (λ j. flat_map (λ p. flat_map-map text (site p) (up_to script.topology.replicas) j)
    (up_to script.topology.partitions)))

last_lines : (before first word last : List ℕ)
    → ((before ++ first) ++ word) ++ 10 ∷ last ≡ (before ++ ((first ++ (word ++ [])) ++ 10 ∷ [])) ++ last
last_lines before first word last = simp (append_assoc, append-nil)

-- the report, as it is written
pub report_is : (script : Script) (journal : List Entry) (n : ℕ) (a b c d e f g : List ℕ)
    → n ≡ open_count script (reverse journal)
    → a ≡ text_line (codes "report") (codes "1" ∷ [])
    → b ≡ a ++ reply_lines script (reverse journal)
    → c ≡ b ++ order_lines script (reverse journal)
    → d ≡ c ++ text_line (codes "line") (map id_word (line (reverse journal)))
    → e ≡ d ++ codes "open" → f ≡ e ++ spaced (decimal n) → g ≡ f ++ 10 ∷ text_line (codes "end") []
    → g ≡ report_text script journal
unfolding report_text
report_is script journal n a b c d e f g unanswered at_a at_b at_c at_d at_e at_f at_g =
    at_g ∙ ap (λ (l : List ℕ). l ++ 10 ∷ text_line (codes "end") [])
    (at_f ∙ ap (λ (l : List ℕ). l ++ spaced (decimal n)) (at_e ∙ ap (λ (l : List ℕ). l ++ codes "open") start))
    ∙ ap (λ (k : ℕ). ((front ++ codes "open") ++ spaced (decimal k)) ++ 10 ∷ text_line (codes "end") []) unanswered
    ∙ last_lines front (codes "open") (spaced (decimal (open_count script (reverse journal))))
    (text_line (codes "end") [])
  where
    front : List ℕ
    front =
        text_line (codes "report") (codes "1" ∷ []) ++ reply_lines script (reverse journal) ++ order_lines script
        (reverse journal)
        ++ text_line (codes "line") (map id_word (line (reverse journal)))

    start : d ≡ front
    start =
        at_d ∙ ap (λ (l : List ℕ). l ++ text_line (codes "line") (map id_word (line (reverse journal))))
        (at_c ∙ ap (λ (l : List ℕ). l ++ order_lines script (reverse journal))
        (at_b ∙ ap (λ (l : List ℕ). l ++ reply_lines script (reverse journal)) at_a))
