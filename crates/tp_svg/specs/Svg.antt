-- A picture's text: a drawing in SVG, one line or more for each shape. What comes from a script or a journal are numbers alone.
use Rattle.std.specs.Fmt.{decimal}
use Rattle.std.specs.List.{flat_map, fold}
use Rattle.std.specs.Prelude.{ℕ, ◌+◌, ◌*◌, ◌==◌, cond, max, length, codes, List, [], ◌∷◌, ◌++◌, Option, Some, None}
use Rattle.tp_base.specs.declared.names.ActorName.{ActorName}
use Rattle.tp_base.specs.declared.names.CommandId.{CommandId}
use Rattle.tp_picture.specs.declared.place.Place.{Place}
use Rattle.tp_picture.specs.declared.shape.Shape.{Shape}
use Rattle.tp_picture.specs.declared.shape.Shape.TheVariants.{Frame, Legend, Row, Arrow, Lost, Dot, Cross, End, First}
use Rattle.tp_picture.specs.declared.sign.Kind.{Kind}
use Rattle.tp_picture.specs.declared.sign.Kind.TheVariants.{Submit, Propose, Payload, ProposeAck, Bump, Consensus, ConsensusAck, Commit, Rec, RecAck, Promises, Committed, Stable, Result, Submits, Recovers, Announces, Declares, Executes, Crashes}
use Rattle.tp_picture.specs.declared.sign.Sign.{Sign}
use Rattle.tp_text.specs.Names.{actor_word, id_word}

-- ---- where things stand

-- of a column
abbrev pub x : ℕ → ℕ
x column = 90 + 26 * column

-- of a row
abbrev pub y : ℕ → ℕ
y row = 30 + 34 * row

-- what an arrow from one row to another bends to: halfway between them, or over the row
abbrev pub bend : ℕ → ℕ → ℕ
bend from to = cond (from == to) (34 * from) (30 + 17 * (from + to))

-- ---- words

abbrev pub kind_word : Kind → List ℕ
kind_word Submit = codes "Submit"
kind_word Propose = codes "Propose"
kind_word Payload = codes "Payload"
kind_word ProposeAck = codes "ProposeAck"
kind_word Bump = codes "Bump"
kind_word Consensus = codes "Consensus"
kind_word ConsensusAck = codes "ConsensusAck"
kind_word Commit = codes "Commit"
kind_word Rec = codes "Rec"
kind_word RecAck = codes "RecAck"
kind_word Promises = codes "Promises"
kind_word Committed = codes "Committed"
kind_word Stable = codes "Stable"
kind_word Result = codes "Result"
kind_word Submits = codes "submit"
kind_word Recovers = codes "recover"
kind_word Announces = codes "announce"
kind_word Declares = codes "declare"
kind_word Executes = codes "execute"
kind_word Crashes = codes "crash"

-- what a kind is about, or an actor's own step
abbrev pub class_word : Kind → List ℕ
class_word Submit = codes "submission"
class_word Propose = codes "fast"
class_word Payload = codes "fast"
class_word ProposeAck = codes "fast"
class_word Bump = codes "fast"
class_word Consensus = codes "consensus"
class_word ConsensusAck = codes "consensus"
class_word Commit = codes "commit"
class_word Rec = codes "recovery"
class_word RecAck = codes "recovery"
class_word Promises = codes "promises"
class_word Committed = codes "commit"
class_word Stable = codes "execution"
class_word Result = codes "execution"
class_word Submits = codes "own"
class_word Recovers = codes "own"
class_word Announces = codes "own"
class_word Declares = codes "own"
class_word Executes = codes "own"
class_word Crashes = codes "own"

abbrev pub id_part : Option CommandId → List ℕ
id_part None = []
id_part (Some id) = codes " " ++ id_word id

abbrev pub number_part : List ℕ → Option ℕ → List ℕ
number_part mark None = []
number_part mark (Some n) = mark ++ decimal n

-- ` kind command @stamp bballot`, each where it is there
abbrev pub sign_words : Option Sign → List ℕ
sign_words None = []
sign_words (Some s) =
    codes " " ++ kind_word s.kind ++ id_part s.id ++ number_part (codes " @") s.stamp ++ number_part (codes " b") s.ballot

-- what stands above an entry: `number actor kind command @stamp bballot`
abbrev pub label : ActorName → Option Sign → ℕ → List ℕ
label actor sign entry = decimal entry ++ codes " " ++ actor_word actor ++ sign_words sign

abbrev pub label_length : Shape → ℕ
label_length (Dot actor sign at) = length (label actor sign at.entry)
label_length shape = 0

-- how many characters the longest label has
unfoldable pub longest : List Shape → ℕ
longest shapes = fold (λ n shape. max n (label_length shape)) 0 shapes

abbrev pub dot_class : Option Sign → List ℕ
dot_class None = codes "own"
dot_class (Some s) = class_word s.kind

-- ---- elements

-- an attribute, behind its name with the first quote
abbrev pub quoted : List ℕ → ℕ → List ℕ
quoted name n = name ++ decimal n ++ codes "'"

abbrev pub point : ℕ → ℕ → List ℕ
point a b = decimal a ++ codes " " ++ decimal b

-- from a place to another: it comes in vertically
abbrev pub bow : Place → Place → List ℕ
bow from to =
    point (x from.column) (y from.row) ++ codes "Q" ++ point (x to.column) (bend from.row to.row) ++ codes " "
    ++ point (x to.column) (y to.row)

abbrev pub curve : List ℕ → Place → Place → List ℕ
curve class from to = codes "<path class='" ++ class ++ codes "' d='M" ++ bow from to ++ codes "'/>"

-- a path of its own, moved to a place
abbrev pub mark : List ℕ → List ℕ → Place → List ℕ
mark class path at =
    codes "<path class='" ++ class ++ codes "' d='" ++ path ++ codes "' transform='translate("
    ++ point (x at.column) (y at.row) ++ codes ")'/>"

abbrev pub name : List ℕ → ℕ → ℕ → ActorName → List ℕ
name start a b actor =
    start ++ quoted (codes " x='") a ++ quoted (codes " y='") b ++ codes ">" ++ actor_word actor ++ codes "</text>"

-- the start of a slanted text behind a place
abbrev pub slanted : List ℕ → ℕ → ℕ → List ℕ
slanted start a b = start ++ codes " transform='translate(" ++ point a b ++ codes ") rotate(-60)'>"

-- ---- shapes

abbrev pub row_line : ℕ → ℕ → List ℕ
row_line r end =
    codes "<line class='row' x1='76'" ++ quoted (codes " y1='") (y r) ++ quoted (codes " x2='") (x end)
    ++ quoted (codes " y2='") (y r) ++ codes "/>"

-- a row's line, with the actor's name before it and behind all columns
abbrev pub row_text : ℕ → ActorName → ℕ → ℕ → List ℕ
row_text r actor end columns =
    row_line r end ++ name (codes "<text class='name'") 68 (y r + 4) actor
    ++ name (codes "<text") (x columns + 12) (y r + 4) actor

-- a line from a dot up to its label
abbrev pub guide_text : Place → List ℕ
guide_text at =
    codes "<line class='guide' y1='48'" ++ quoted (codes " x1='") (x at.column) ++ quoted (codes " x2='") (x at.column)
    ++ quoted (codes " y2='") (y at.row) ++ codes "/>"

-- the rest of a circle round a place
abbrev pub centred : Place → List ℕ
centred at = quoted (codes " cx='") (x at.column) ++ quoted (codes " cy='") (y at.row) ++ codes "/>"

-- a circle of a class, on a larger one that cuts the lines that pass
abbrev pub circle_text : List ℕ → Place → List ℕ
circle_text class at =
    codes "<circle class='halo' r='6'" ++ centred at
    ++ codes "<circle class='dot " ++ class ++ codes "' r='4'" ++ centred at

abbrev pub label_text : ActorName → Option Sign → Place → List ℕ
label_text actor sign at = slanted (codes "<text") (x at.column + 4) 44 ++ label actor sign at.entry ++ codes "</text>"

abbrev pub dot_text : ActorName → Option Sign → Place → List ℕ
dot_text actor sign at = guide_text at ++ circle_text (dot_class sign) at ++ label_text actor sign at

abbrev pub first_text : CommandId → Place → List ℕ
first_text id at = slanted (codes "<text class='first'") (x at.column + 4) (y at.row) ++ id_word id ++ codes "</text>"

-- the classes: what is drawn in which colour, and in which pattern of dashes
unfoldable pub style : List ℕ
style =
    codes "<style>text{font:11px monospace;fill:#222}.name,.first{text-anchor:end}"
    ++ codes "path,line,.dot{fill:none;stroke:#222;stroke-width:1.4}.row{stroke:#999}"
    ++ codes ".guide{stroke:#ddd;mix-blend-mode:multiply}.arrow{marker-end:url(#head)}"
    ++ codes ".submission{stroke-width:3}.fast{stroke:#0b62c4}"
    ++ codes ".consensus{stroke:#c2410c;stroke-width:2;stroke-dasharray:12 4}"
    ++ codes ".recovery{stroke:#b00058;stroke-dasharray:12 3 2 3}"
    ++ codes ".commit{stroke:#0a7d38;stroke-dasharray:5 3}.promises{stroke:#666;stroke-dasharray:1 3}"
    ++ codes ".execution{stroke:#6d3fc0;stroke-dasharray:8 2 1 2 1 2}"
    ++ codes ".dot{fill:#fff;stroke-width:1.6;stroke-dasharray:none}.own{fill:#222}.halo{fill:#fff}"
    ++ codes ".cross{stroke:#c00;stroke-width:2}.end{stroke-width:5}</style>"
    ++ codes "<defs><marker id='head' viewBox='0 0 9 8' refX='15' refY='4' markerWidth='9' markerHeight='8'"
    ++ codes " orient='auto' markerUnits='userSpaceOnUse'><path d='M0 0L9 4L0 8z'"
    ++ codes " style='fill:#222;stroke:none'/></marker></defs><rect width='100%' height='100%' style='fill:#fff'/>"

-- the room above all that labels of so many characters need, at the slant
abbrev pub head : ℕ → ℕ
head reach = 6 * reach

-- the last label has room behind the columns, and the legend has its own
abbrev pub width : ℕ → ℕ → ℕ
width columns reach = max 950 (x columns + 66 + 4 * reach)

abbrev pub size_text : ℕ → ℕ → ℕ → List ℕ
size_text columns rows reach =
    codes "<svg xmlns='http://www.w3.org/2000/svg'" ++ quoted (codes " width='") (width columns reach)
    ++ quoted (codes " height='") (y rows + 222 + head reach) ++ codes ">"

-- all that follows stands below the labels' room
abbrev pub below_text : ℕ → List ℕ
below_text reach = codes "<g transform='translate(" ++ point 0 (head reach) ++ codes ")'>"

-- the name of the row below all
abbrev pub line_name : ℕ → List ℕ
line_name rows = quoted (codes "<text class='name' x='68' y='") (y rows + 34) ++ codes ">line</text>"

abbrev pub frame_text : ℕ → ℕ → ℕ → List ℕ
frame_text columns rows reach = size_text columns rows reach ++ style ++ below_text reach ++ line_name rows

-- what each class means
unfoldable pub class_legend : List ℕ
class_legend =
    codes "<path class='arrow submission' d='M0 0h40'/><text x='50' y='4'>submission</text>"
    ++ codes "<path class='arrow fast' d='M0 18h40'/><text x='50' y='22'>fast path</text>"
    ++ codes "<path class='arrow consensus' d='M0 36h40'/><text x='50' y='40'>consensus</text>"
    ++ codes "<path class='arrow recovery' d='M0 54h40'/><text x='50' y='58'>recovery</text>"
    ++ codes "<path class='arrow commit' d='M150 0h40'/><text x='200' y='4'>commit</text>"
    ++ codes "<path class='arrow promises' d='M150 18h40'/><text x='200' y='22'>promises</text>"
    ++ codes "<path class='arrow execution' d='M150 36h40'/><text x='200' y='40'>execution</text>"
    ++ codes "<g class='dot'><circle r='4' cx='40'/><circle r='4' cx='40' cy='18'/><circle r='4' cx='40' cy='36'/>"
    ++ codes "<circle r='4' cx='40' cy='54'/><circle r='4' cx='190'/><circle r='4' cx='190' cy='18'/>"
    ++ codes "<circle r='4' cx='190' cy='36'/></g>"

-- what each mark means
unfoldable pub mark_legend : List ℕ
mark_legend =
    codes "<path class='lost' d='M150 54h40'/><circle class='halo' r='6' cx='190' cy='54'/>"
    ++ codes "<circle class='dot' r='4' cx='190' cy='54'/>"
    ++ codes "<path class='cross' d='M182 46l16 16m-16 0l16 -16'/><text x='208' y='58'>lost</text>"
    ++ codes "<circle class='dot own' r='4' cx='320' cy='0'/><text x='336' y='4'>a step of its own</text>"
    ++ codes "<circle class='dot' r='4' cx='320' cy='18'/><text x='336' y='22'>a delivery</text>"
    ++ codes "<path class='end' d='M320 25v22'/><text x='336' y='40'>a crash</text>"

-- the words of a label, the names of actors, and the row below all
unfoldable pub word_legend : List ℕ
word_legend =
    codes "<text x='480' y='4'>7 p1.2 Kind 1.3 @4 b5: entry 7, of the actor p1.2,</text>"
    ++ codes "<text x='480' y='22'>Kind about command 1.3, timestamp 4, ballot 5</text>"
    ++ codes "<text x='480' y='40'>Promises @4: the timestamps up to 4 are promised</text>"
    ++ codes "<text x='480' y='58'>s session, p process, e executor; 1.2 partition.rank</text>"
    ++ codes "<text x='480' y='76'>line: each command where it is executed first</text>"

-- the legend, below so many rows and the longest name of a command
abbrev pub legend_text : ℕ → List ℕ
legend_text rows =
    codes "<g transform='translate(" ++ point 90 (y rows + 130) ++ codes ")'>"
    ++ class_legend ++ mark_legend ++ word_legend ++ codes "</g>"

-- at a loss, and at a crash
unfoldable pub cross_mark : Place → List ℕ
cross_mark at = mark (codes "cross") (codes "M-8 -8L8 8M-8 8L8 -8") at

unfoldable pub end_mark : Place → List ℕ
end_mark at = mark (codes "end") (codes "M0 -11V11") at

-- in a drawing whose longest label has so many characters
abbrev pub shape_body : ℕ → Shape → List ℕ
shape_body reach (Frame columns rows) = frame_text columns rows reach
shape_body reach (Legend rows) = legend_text rows
shape_body reach (Row r actor end columns) = row_text r actor end columns
shape_body reach (Arrow sign from to) = curve (codes "arrow " ++ class_word sign.kind) from to
shape_body reach (Lost sign from to) = curve (codes "lost " ++ class_word sign.kind) from to
shape_body reach (Dot actor sign at) = dot_text actor sign at
shape_body reach (Cross at) = cross_mark at
shape_body reach (End at) = end_mark at
shape_body reach (First id at) = first_text id at

abbrev pub shape_text : ℕ → Shape → List ℕ
shape_text reach shape = shape_body reach shape ++ 10 ∷ []

unfoldable pub svg_text : List Shape → List ℕ
svg_text shapes = flat_map (shape_text (longest shapes)) shapes ++ codes "</g></svg>" ++ 10 ∷ []
