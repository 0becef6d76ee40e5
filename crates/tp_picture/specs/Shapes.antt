-- The shapes of a picture: a legend, each row, for each entry that is shown a dot, for each loss a cross on it, and for each
-- delivery and loss a line from the entry that sent the message to its own, where both are shown.
use Rattle.std.specs.List.{flat_map}
use Rattle.std.specs.Prelude.{ℕ, ◌+◌, ◌-◌, cond, List, [], ◌∷◌, ◌++◌, Option, Some, None, length, reverse, take}
use Rattle.tp_base.specs.Lists.{has}
use Rattle.tp_base.specs.Names.{same_id}
use Rattle.tp_base.specs.declared.names.ActorName.{ActorName}
use Rattle.tp_base.specs.declared.names.CommandId.{CommandId}
use Rattle.tp_journal.specs.Entered.{output_in}
use Rattle.tp_picture.specs.About.{is_chosen_message}
use Rattle.tp_picture.specs.Scenes.{Scene, place, row_end, scene_of, width}
use Rattle.tp_picture.specs.Signs.{sign_of, sign_of_event}
use Rattle.tp_picture.specs.declared.place.Place.{Place}
use Rattle.tp_picture.specs.declared.shape.Shape.{Shape}
use Rattle.tp_picture.specs.declared.shape.Shape.TheVariants.{Frame, Legend, Row, Arrow, Lost, Dot, Cross, End, First}
use Rattle.tp_picture.specs.declared.sign.Sign.{Sign}
use Rattle.tp_picture.specs.declared.view.View.{View}
use Rattle.tp_rules.specs.Journal.{is_crash}
use Rattle.tp_rules.specs.Outcome.{executed_by, line}
use Rattle.tp_base.specs.Tables.{nth}
use Rattle.tp_rules.specs.declared.event.Entry.{Entry}
use Rattle.tp_rules.specs.declared.event.Event.{Event}
use Rattle.tp_rules.specs.declared.event.Event.TheVariants.{Deliver, Dropped, Inner as OfItself}
use Rattle.tp_script.specs.declared.script.Script.{Script}
use Rattle.tp_topology.specs.Counting.{up_to}
use Rattle.tp_wire.specs.declared.message.Message.{Message}

-- ---- rows

abbrev pub actor_row : Scene → ℕ → Option ActorName → List Shape
actor_row scene r None = []
actor_row scene r (Some a) = Row r a (row_end scene a) (width scene) ∷ []

abbrev pub rows : Scene → List Shape
rows scene = flat_map (λ r. actor_row scene r (nth scene.rows r)) (up_to (length scene.rows))

-- ---- arrows, and the ways of lost messages

abbrev pub joined : (Place → Place → Shape) → Option Place → Option Place → List Shape
joined shape None to = []
joined shape (Some from) None = []
joined shape (Some from) (Some to) = shape from to ∷ []

-- from the entry that sent a message to another
abbrev pub message_shapes : Scene → (Sign → Place → Place → Shape) → ℕ → ℕ → Option Message → List Shape
message_shapes scene shape sender n None = []
message_shapes scene shape sender n (Some m) =
    cond (is_chosen_message scene.view.only m) (joined (shape (sign_of m.body)) (place scene sender) (place scene n)) []

abbrev pub event_arrows : Scene → ℕ → Event → List Shape
event_arrows scene n (Deliver sender p) = message_shapes scene Arrow sender n (output_in scene.journal sender p)
event_arrows scene n (Dropped sender p) = message_shapes scene Lost sender n (output_in scene.journal sender p)
event_arrows scene n (OfItself inner) = []

abbrev pub entry_arrows : Scene → ℕ → Option Entry → List Shape
entry_arrows scene n None = []
entry_arrows scene n (Some e) = event_arrows scene n e.event

abbrev pub arrows : Scene → List Shape
arrows scene = flat_map (λ n. entry_arrows scene n (nth scene.journal n)) (up_to (length scene.journal))

-- ---- dots, with the mark of a loss or a crash, and a command's first execution

abbrev pub marks : Event → Place → List Shape
marks (Deliver sender p) at = []
marks (Dropped sender p) at = Cross at ∷ []
marks (OfItself inner) at = cond (is_crash (OfItself inner)) (End at ∷ []) []

-- the command that is executed, if it isn't in the line yet
abbrev pub first_in : List CommandId → Option CommandId → Option CommandId
first_in ids None = None
first_in ids (Some id) = cond (has same_id id ids) None (Some id)

-- the line of commands stands in the row below all
abbrev pub firsts : Scene → Option CommandId → Place → List Shape
firsts scene None at = []
firsts scene (Some id) at = First id (record { entry = at.entry; column = at.column; row = length scene.rows + 1 }) ∷ []

abbrev pub dots_at : Scene → Entry → Option CommandId → Option Place → List Shape
dots_at scene e first None = []
dots_at scene e first (Some at) =
    Dot e.actor (sign_of_event scene.journal e.actor e.event) at ∷ marks e.event at ++ firsts scene first at

-- the line before an entry
abbrev pub line_before : Scene → ℕ → List CommandId
line_before scene n = line (reverse (take (n - 1) scene.journal))

abbrev pub entry_dots : Scene → ℕ → Option Entry → List Shape
entry_dots scene n None = []
entry_dots scene n (Some e) = dots_at scene e (first_in (line_before scene n) (executed_by e.event)) (place scene n)

abbrev pub dots : Scene → List Shape
dots scene = flat_map (λ n. entry_dots scene n (nth scene.journal n)) (up_to (length scene.journal))

-- ---- the picture

abbrev pub scene_shapes : Scene → List Shape
scene_shapes scene = Frame (width scene) (length scene.rows) ∷ Legend (length scene.rows) ∷ rows scene ++ arrows scene ++ dots scene

unfoldable pub shapes : Script → List Entry → View → List Shape
shapes script journal view = scene_shapes (scene_of script journal view)
