-- The text of a load's summary: how much of it was answered and executed. The journal is given in its own order.
use Rattle.std.specs.Fmt.{decimal}
use Rattle.std.specs.List.{flat_map}
use Rattle.std.specs.Prelude.{ℕ, List, [], ◌∷◌, ◌++◌, is_some, codes, filter, length, reverse}
use Rattle.tp_base.specs.declared.names.Site.{Site}
use Rattle.tp_print.specs.Report.{all_ids, open_count, text_line}
use Rattle.tp_rules.specs.Outcome.{executions, reply_to}
use Rattle.tp_rules.specs.Pending.{sites_of}
use Rattle.tp_rules.specs.declared.event.Entry.{Entry}
use Rattle.tp_script.specs.declared.script.Script.{Script}
use Rattle.tp_text.specs.Names.{site_word}

-- `first number`
abbrev pub count_line : List ℕ → ℕ → List ℕ
count_line first n = text_line first (decimal n ∷ [])

-- how many commands are answered
abbrev pub answered_count : Script → List Entry → ℕ
answered_count script older = length (filter (λ id. is_some (reply_to script older id)) (all_ids script))

-- `executed site number`
abbrev pub executed_line : List Entry → Site → List ℕ
executed_line older s = text_line (codes "executed") (site_word s ∷ decimal (length (executions older s)) ∷ [])

-- the lines of the summary of the load of a number, of a journal with the newest entry first
abbrev pub summary_lines : ℕ → Script → List Entry → List ℕ
summary_lines n script older =
    count_line (codes "load") n
    ++ count_line (codes "commands") (length script.commands)
    ++ count_line (codes "answered") (answered_count script older)
    ++ flat_map (executed_line older) (sites_of script)
    ++ count_line (codes "open") (open_count script older)
    ++ text_line (codes "end") []

unfoldable pub summary_text : ℕ → Script → List Entry → List ℕ
summary_text n script journal = summary_lines n script (reverse journal)
