-- The text of a report: what a journal comes to. The journal is given in its own order.
use Rattle.hex.specs.Hex.{encode_lower}
use Rattle.std.specs.Fmt.{decimal}
use Rattle.std.specs.List.{flat_map}
use Rattle.std.specs.Prelude.{ℕ, Bool, true, false, List, [], ◌∷◌, ◌++◌, Option, Some, None, is_none, codes, filter, length, map, reverse}
use Rattle.tp_base.specs.Names.{same_site}
use Rattle.tp_base.specs.declared.names.CommandId.{CommandId}
use Rattle.tp_base.specs.declared.names.Site.{Site}
use Rattle.tp_ops.specs.declared.operation.Answer.{Answer}
use Rattle.tp_ops.specs.declared.operation.Answer.TheVariants.{Missing, Value, Yes, No}
use Rattle.tp_rules.specs.Journal.{commands_of, has_crashed}
use Rattle.tp_rules.specs.Outcome.{commits, executions, line, reply_to, stamp_in}
use Rattle.tp_rules.specs.Pending.{sites_of}
use Rattle.tp_rules.specs.declared.event.Entry.{Entry}
use Rattle.tp_script.specs.declared.script.Script.{Script}
use Rattle.tp_text.specs.Names.{id_word, site_word}
use Rattle.tp_topology.specs.Counting.{up_to}

-- a word behind others: ` word`
abbrev pub spaced : List ℕ → List ℕ
spaced word = codes " " ++ word

-- a line: `first word word ..`
abbrev pub text_line : List ℕ → List (List ℕ) → List ℕ
text_line first words = first ++ flat_map spaced words ++ 10 ∷ []

-- `session.number@stamp`
abbrev pub stamped_word : CommandId → ℕ → List ℕ
stamped_word id stamp = id_word id ++ codes "@" ++ decimal stamp

abbrev pub answer_word : Answer → List ℕ
answer_word Missing = codes "none"
answer_word (Value value) = codes "some:" ++ encode_lower value
answer_word Yes = codes "yes"
answer_word No = codes "no"

-- `reply id answer ..`, where there is a reply
abbrev pub reply_line : CommandId → Option (List Answer) → List ℕ
reply_line id None = []
reply_line id (Some answers) = text_line (codes "reply") (id_word id ∷ map answer_word answers)

-- the stamp that a site's process committed a command with
abbrev pub stamp_at : List Entry → Site → CommandId → ℕ
stamp_at older s id = stamp_in (filter (λ c. same_site c.site s) (commits older)) id

abbrev pub executed_words : List Entry → Site → List (List ℕ)
executed_words older s = map (λ id. stamped_word id (stamp_at older s id)) (executions older s)

abbrev pub crashed_words : Bool → List (List ℕ)
crashed_words true = codes "crashed" ∷ []
crashed_words false = []

-- `order site id@stamp ..`, and `crashed` where the site has crashed
abbrev pub order_line : List Entry → Site → List ℕ
order_line older s =
    text_line (codes "order") (site_word s ∷ executed_words older s ++ crashed_words (has_crashed older s))

abbrev pub id_of : ℕ → ℕ → CommandId
id_of s n = record { session = record { 0 = s }; number = n }

-- the ids of a session's commands: they are numbered from 1, in the order of the script
abbrev pub ids_of : Script → ℕ → List CommandId
ids_of script s = map (id_of s) (up_to (length (commands_of script (record { 0 = s }))))

-- the ids of all commands, ascending: of each session in turn, the sessions numbered from 1
abbrev pub all_ids : Script → List CommandId
all_ids script = flat_map (ids_of script) (up_to (length script.homes))

-- how many commands aren't answered
abbrev pub open_count : Script → List Entry → ℕ
open_count script older = length (filter (λ id. is_none (reply_to script older id)) (all_ids script))

abbrev pub reply_lines : Script → List Entry → List ℕ
reply_lines script older = flat_map (λ id. reply_line id (reply_to script older id)) (all_ids script)

abbrev pub order_lines : Script → List Entry → List ℕ
order_lines script older = flat_map (order_line older) (sites_of script)

-- the lines of a report, of a journal with the newest entry first
abbrev pub report_lines : Script → List Entry → List ℕ
report_lines script older =
    text_line (codes "report") (codes "1" ∷ [])
    ++ reply_lines script older
    ++ order_lines script older
    ++ text_line (codes "line") (map id_word (line older))
    ++ text_line (codes "open") (decimal (open_count script older) ∷ [])
    ++ text_line (codes "end") []

unfoldable pub report_text : Script → List Entry → List ℕ
report_text script journal = report_lines script (reverse journal)
