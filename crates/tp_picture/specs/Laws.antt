-- What holds of each picture: a later entry stands farther right, the dots are those of the entries shown, each once and in
-- order, the arrows those of the deliveries and the crosses those of the losses.
use Rattle.std.specs.Prelude.{ℕ, ◌≡◌, ◌<◌, ◌≤◌, ◌&&◌, Bool, true, false, cond, List, Option, Some, None, filter, filter_map, length}
use Rattle.tp_base.specs.Tables.{nth}
use Rattle.tp_journal.specs.Entered.{output_in}
use Rattle.tp_picture.specs.About.{is_chosen_message}
use Rattle.tp_picture.specs.Scenes.{Scene, column, is_shown, scene_of}
use Rattle.tp_picture.specs.Shapes.{shapes}
use Rattle.tp_picture.specs.declared.shape.Shape.{Shape}
use Rattle.tp_picture.specs.declared.shape.Shape.TheVariants.{Frame, Legend, Row, Arrow, Lost, Dot, Cross, End, First}
use Rattle.tp_picture.specs.declared.view.View.{View}
use Rattle.tp_rules.specs.declared.event.Entry.{Entry}
use Rattle.tp_rules.specs.declared.event.Event.{Event}
use Rattle.tp_rules.specs.declared.event.Event.TheVariants.{Deliver, Dropped, Inner as OfItself}
use Rattle.tp_script.specs.declared.script.Script.{Script}
use Rattle.tp_topology.specs.Counting.{up_to}
use Rattle.tp_wire.specs.declared.message.Message.{Message}

-- behind an entry that is shown, columns are greater
abbrev pub GrowsFrom : Scene → Type 0
GrowsFrom scene = (m n : ℕ) → is_shown scene m ≡ true → 1 ≤ m → m < n → column scene m < column scene n

-- ---- what of a shape is told: the number of a dot's or a cross's entry, and of both ends of a line

abbrev pub dotted : Shape → Option ℕ
dotted (Frame columns rows) = None
dotted (Legend rows) = None
dotted (Row r actor end columns) = None
dotted (Arrow sign from to) = None
dotted (Lost sign from to) = None
dotted (Dot actor sign at) = Some at.entry
dotted (Cross at) = None
dotted (End at) = None
dotted (First id at) = None

abbrev pub crossed : Shape → Option ℕ
crossed (Frame columns rows) = None
crossed (Legend rows) = None
crossed (Row r actor end columns) = None
crossed (Arrow sign from to) = None
crossed (Lost sign from to) = None
crossed (Dot actor sign at) = None
crossed (Cross at) = Some at.entry
crossed (End at) = None
crossed (First id at) = None

abbrev pub arrowed : Shape → Option (ℕ × ℕ)
arrowed (Frame columns rows) = None
arrowed (Legend rows) = None
arrowed (Row r actor end columns) = None
arrowed (Arrow sign from to) = Some (from.entry, to.entry)
arrowed (Lost sign from to) = None
arrowed (Dot actor sign at) = None
arrowed (Cross at) = None
arrowed (End at) = None
arrowed (First id at) = None

abbrev pub strayed : Shape → Option (ℕ × ℕ)
strayed (Frame columns rows) = None
strayed (Legend rows) = None
strayed (Row r actor end columns) = None
strayed (Arrow sign from to) = None
strayed (Lost sign from to) = Some (from.entry, to.entry)
strayed (Dot actor sign at) = None
strayed (Cross at) = None
strayed (End at) = None
strayed (First id at) = None

-- ---- what of an entry is drawn

-- a message between two entries that are shown, if it is about the command that is chosen
abbrev pub joins : Scene → ℕ → ℕ → Option Message → Option (ℕ × ℕ)
joins scene sender n None = None
joins scene sender n (Some m) = cond (is_chosen_message scene.view.only m && is_shown scene sender && is_shown scene n) (Some (sender, n)) None

-- the entries that sent and that deliver a message, or lose it
abbrev pub delivered : Scene → ℕ → Event → Option (ℕ × ℕ)
delivered scene n (Deliver sender p) = joins scene sender n (output_in scene.journal sender p)
delivered scene n (Dropped sender p) = None
delivered scene n (OfItself inner) = None

abbrev pub lost : Scene → ℕ → Event → Option (ℕ × ℕ)
lost scene n (Deliver sender p) = None
lost scene n (Dropped sender p) = joins scene sender n (output_in scene.journal sender p)
lost scene n (OfItself inner) = None

-- of the entry of a number, if there is one
abbrev pub of_entry : {X : Type 0} → (Event → Option X) → Option Entry → Option X
of_entry tell None = None
of_entry tell (Some e) = tell e.event

abbrev pub is_loss : Event → Bool
is_loss (Deliver sender p) = false
is_loss (Dropped sender p) = true
is_loss (OfItself inner) = false

abbrev pub loses : Option Entry → Bool
loses None = false
loses (Some e) = is_loss e.event

-- ---- the laws

-- the numbers of the dots are those of the entries shown
abbrev pub HasDots : Script → List Entry → View → Type 0
HasDots script journal view =
    filter_map dotted (shapes script journal view) ≡ filter (is_shown (scene_of script journal view)) (up_to (length journal))

-- the numbers of the crosses are those of the losses shown
abbrev pub HasCrosses : Script → List Entry → View → Type 0
HasCrosses script journal view =
    filter_map crossed (shapes script journal view)
    ≡ filter (λ n. is_shown (scene_of script journal view) n && loses (nth journal n)) (up_to (length journal))

-- the arrows are those of the deliveries, from the entry that sent the message to the one that delivers it
abbrev pub HasArrows : Script → List Entry → View → Type 0
HasArrows script journal view =
    filter_map arrowed (shapes script journal view)
    ≡ filter_map (λ n. of_entry (delivered (scene_of script journal view) n) (nth journal n)) (up_to (length journal))

-- and so are the lines of the losses
abbrev pub HasLosses : Script → List Entry → View → Type 0
HasLosses script journal view =
    filter_map strayed (shapes script journal view)
    ≡ filter_map (λ n. of_entry (lost (scene_of script journal view) n) (nth journal n)) (up_to (length journal))
