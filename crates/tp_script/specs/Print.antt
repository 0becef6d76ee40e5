-- The one text of a script, by its lines and their words.
use Rattle.hex.specs.Hex.{encode_lower}
use Rattle.std.specs.Fmt.{decimal}
use Rattle.std.specs.Prelude.{ℕ, suc, List, [], ◌∷◌, ◌++◌, codes, map}
use Rattle.tp_base.specs.declared.names.Rank.{Rank}
use Rattle.tp_ops.specs.declared.command.Command.{Command}
use Rattle.tp_ops.specs.declared.operation.Op.{Op}
use Rattle.tp_ops.specs.declared.operation.Op.TheVariants.{Get, Put, Del, Cas}
use Rattle.tp_script.specs.Kinds.{value_word}
use Rattle.tp_script.specs.declared.script.PlanLine.{PlanLine}
use Rattle.tp_script.specs.declared.script.PlanLine.TheVariants.{Crash, Recover, Lose, Repeat, RepeatAll}
use Rattle.tp_script.specs.declared.script.Script.{Script}
use Rattle.tp_text.specs.Framing.{end_words, header_words}
use Rattle.tp_text.specs.Names.{actor_word, id_word, site_word}
use Rattle.tp_text.specs.Writing.{lines_text}
use Rattle.tp_topology.specs.Shape.{Shape as StoreShape}

abbrev pub shape_words : StoreShape → List (List ℕ)
shape_words s = codes "shape" ∷ decimal s.partitions ∷ decimal s.replicas ∷ decimal s.failures ∷ []

abbrev pub session_words : ℕ → Rank → List (List ℕ)
session_words n home = codes "session" ∷ decimal n ∷ decimal home.0 ∷ []

-- sessions have the numbers from n on
abbrev pub session_lines : ℕ → List Rank → List (List (List ℕ))
session_lines n [] = []
session_lines n (home ∷ homes) = session_words n home ∷ session_lines (suc n) homes

abbrev pub op_words : Op → List (List ℕ)
op_words (Get key) = codes "get" ∷ encode_lower key ∷ []
op_words (Put key value) = codes "put" ∷ encode_lower key ∷ value_word value ∷ []
op_words (Del key) = codes "del" ∷ encode_lower key ∷ []
op_words (Cas key old new) = codes "cas" ∷ encode_lower key ∷ value_word old ∷ value_word new ∷ []

-- operations behind others: each behind `;`
abbrev pub more_words : List Op → List (List ℕ)
more_words [] = []
more_words (op ∷ ops) = codes ";" ∷ (op_words op ++ more_words ops)

abbrev pub ops_words : List Op → List (List ℕ)
ops_words [] = []
ops_words (op ∷ ops) = op_words op ++ more_words ops

abbrev pub command_words : Command → List (List ℕ)
command_words c = codes "command" ∷ decimal c.id.session.0 ∷ ops_words c.ops

abbrev pub plan_words : PlanLine → List (List ℕ)
plan_words (Crash site after) = codes "crash" ∷ site_word site ∷ codes "after" ∷ decimal after ∷ []
plan_words (Recover site id after) = codes "recover" ∷ site_word site ∷ id_word id ∷ codes "after" ∷ decimal after ∷ []
plan_words (Lose from to ordinal) = codes "drop" ∷ actor_word from ∷ actor_word to ∷ decimal ordinal ∷ []
plan_words (Repeat from to ordinal times) = codes "repeat" ∷ actor_word from ∷ actor_word to ∷ decimal ordinal ∷ decimal times ∷ []
plan_words (RepeatAll times) = codes "repeat" ∷ codes "all" ∷ decimal times ∷ []

abbrev pub pick_words : ℕ → List (List ℕ)
pick_words pick = codes "pick" ∷ decimal pick ∷ []

-- the lines between `shape` and `end`
abbrev pub body : Script → List (List (List ℕ))
body s = session_lines 1 s.homes ++ (map command_words s.commands ++ (map plan_words s.plan ++ map pick_words s.picks))

abbrev pub script_lines : Script → List (List (List ℕ))
script_lines s = header_words (codes "tempo") ∷ shape_words s.topology ∷ (body s ++ end_words ∷ [])

-- its bytes
unfoldable pub text_of : Script → List ℕ
text_of s = lines_text (script_lines s)
