-- What is told of a picture's shapes: one thing of each dot, each mark or each line, and nothing of the others. Used for the laws
-- of pictures.
use Rattle.std.proofs.Common.{◌≡◌, ℕ, ◌&&◌, Bool, true, false, cond, List, [], ◌∷◌, ◌++◌, length, Option, Some, None, is_some, refl, sym, ap, ◌∙◌}
use Rattle.std.proofs.lemmas.List.Elements.{filter_map-append}
use Rattle.std.proofs.lemmas.List.{append-nil}
use Rattle.std.specs.List.{cons_option, flat_map}
use Rattle.std.specs.Prelude.{filter, filter_map, option_map}
use Rattle.tp_base.specs.Tables.{nth}
use Rattle.tp_base.specs.declared.names.ActorName.{ActorName}
use Rattle.tp_base.specs.declared.names.CommandId.{CommandId}
use Rattle.tp_journal.specs.Entered.{output_in}
use Rattle.tp_picture.specs.About.{is_chosen_message}
use Rattle.tp_picture.specs.Laws.{HasArrows, HasCrosses, HasDots, HasLosses, arrowed, crossed, delivered, dotted, is_loss, joins, loses, lost, of_entry, strayed}
use Rattle.tp_picture.specs.Scenes.{Scene, column, is_shown, place, row, row_end, row_where, scene_of, width}
use Rattle.tp_picture.specs.Shapes.{actor_row, arrows, dots, dots_at, entry_arrows, entry_dots, event_arrows, first_in, firsts, joined, line_before, marks, message_shapes, rows, shapes}
use Rattle.tp_picture.specs.Signs.{sign_of, sign_of_event}
use Rattle.tp_picture.specs.declared.place.Place.{Place}
use Rattle.tp_picture.specs.declared.shape.Shape.{Shape}
use Rattle.tp_picture.specs.declared.shape.Shape.TheVariants.{Row, Arrow, Lost, Dot, Cross, End, First}
use Rattle.tp_picture.specs.declared.sign.Sign.{Sign}
use Rattle.tp_picture.specs.declared.view.View.{View}
use Rattle.tp_rules.specs.Journal.{is_crash}
use Rattle.tp_rules.specs.Outcome.{executed_by}
use Rattle.tp_rules.specs.declared.event.Entry.{Entry}
use Rattle.tp_rules.specs.declared.event.Event.{Event}
use Rattle.tp_rules.specs.declared.event.Event.TheVariants.{Deliver, Dropped, Inner as OfItself}
use Rattle.tp_script.specs.declared.script.Script.{Script}
use Rattle.tp_topology.specs.Counting.{up_to}
use Rattle.tp_wire.specs.declared.message.Message.{Message}

-- ---- lists one after the other

-- of which nothing is told
none_flat : {X : Type 0} (tell : Shape → Option X) (f : ℕ → List Shape) → ((n : ℕ) → filter_map tell (f n) ≡ []) → (ns : List ℕ)
    → filter_map tell (flat_map f ns) ≡ []
none_flat tell f none [] = refl
none_flat {X} tell f none (n ∷ ns) =
    filter_map-append tell (f n) (flat_map f ns) ∙ ap (λ (l : List X). l ++ filter_map tell (flat_map f ns)) (none n) ∙ none_flat tell f none ns

-- of which at most one thing is told each
one_flat : {X : Type 0} (tell : Shape → Option X) (f : ℕ → List Shape) (g : ℕ → Option X) → ((n : ℕ) → filter_map tell (f n) ≡ cons_option (g n) [])
    → (ns : List ℕ) → filter_map tell (flat_map f ns) ≡ filter_map g ns
one_flat tell f g one [] = refl
one_flat {X} tell f g one (n ∷ ns) =
    filter_map-append tell (f n) (flat_map f ns) ∙ ap (λ (l : List X). l ++ filter_map tell (flat_map f ns)) (one n)
    ∙ ap (λ (l : List X). cons_option (g n) [] ++ l) (one_flat tell f g one ns) ∙ by (g n)
  where
    by : (o : Option X) → cons_option o [] ++ filter_map g ns ≡ cons_option o (filter_map g ns)
    by None = refl
    by (Some x) = refl

-- the numbers that pass
passing : (p : ℕ → Bool) (ns : List ℕ) → filter_map (λ n. cond (p n) (Some n) None) ns ≡ filter p ns
passing p [] = refl
passing p (n ∷ ns) = ap (λ (l : List ℕ). cons_option (cond (p n) (Some n) None) l) (passing p ns) ∙ by (p n)
  where
    by : (b : Bool) → cons_option (cond b (Some n) None) (filter p ns) ≡ cond b (n ∷ filter p ns) (filter p ns)
    by true = refl
    by false = refl

-- of one shape nothing is told, or something
untold : {X : Type 0} (tell : Shape → Option X) (x : Shape) (xs : List Shape) → tell x ≡ None → filter_map tell (x ∷ xs) ≡ filter_map tell xs
untold {X} tell x xs none = ap (λ (o : Option X). cons_option o (filter_map tell xs)) none

-- ---- rows, and marks of which nothing is told

rows_untold : {X : Type 0} (tell : Shape → Option X) → ((r : ℕ) (a : ActorName) (end columns : ℕ) → tell (Row r a end columns) ≡ None) → (scene : Scene)
    → filter_map tell (rows scene) ≡ []
rows_untold tell none scene = none_flat tell (λ r. actor_row scene r (nth scene.rows r)) (λ r. by r (nth scene.rows r)) (up_to (length scene.rows))
  where
    by : (r : ℕ) (o : Option ActorName) → filter_map tell (actor_row scene r o) ≡ []
    by r None = refl
    by r (Some a) = untold tell (Row r a (row_end scene a) (width scene)) [] (none r a (row_end scene a) (width scene))

firsts_untold : {X : Type 0} (tell : Shape → Option X) → ((id : CommandId) (at : Place) → tell (First id at) ≡ None) → (scene : Scene) (first : Option CommandId) (at : Place)
    → filter_map tell (firsts scene first at) ≡ []
firsts_untold tell none scene None at = refl
firsts_untold tell none scene (Some id) at = untold tell (First id _) [] (none id _)

marks_untold : {X : Type 0} (tell : Shape → Option X) → ((at : Place) → tell (Cross at) ≡ None) → ((at : Place) → tell (End at) ≡ None) → (event : Event) (at : Place)
    → filter_map tell (marks event at) ≡ []
marks_untold tell cross end (Deliver sender p) at = refl
marks_untold tell cross end (Dropped sender p) at = untold tell (Cross at) [] (cross at)
marks_untold tell cross end (OfItself inner) at = by (is_crash (OfItself inner))
  where
    by : (b : Bool) → filter_map tell (cond b (End at ∷ []) []) ≡ []
    by true = untold tell (End at) [] (end at)
    by false = refl

-- ---- lines

joined_untold : {X : Type 0} (tell : Shape → Option X) (shape : Place → Place → Shape) → ((from to : Place) → tell (shape from to) ≡ None) → (from to : Option Place)
    → filter_map tell (joined shape from to) ≡ []
joined_untold tell shape none None to = refl
joined_untold tell shape none (Some from) None = refl
joined_untold tell shape none (Some from) (Some to) = untold tell (shape from to) [] (none from to)

message_untold : {X : Type 0} (tell : Shape → Option X) (scene : Scene) (shape : Sign → Place → Place → Shape)
    → ((sign : Sign) (from to : Place) → tell (shape sign from to) ≡ None) → (sender n : ℕ) (o : Option Message)
    → filter_map tell (message_shapes scene shape sender n o) ≡ []
message_untold tell scene shape none sender n None = refl
message_untold tell scene shape none sender n (Some m) = by (is_chosen_message scene.view.only m)
  where
    by : (b : Bool) → filter_map tell (cond b (joined (shape (sign_of m.body)) (place scene sender) (place scene n)) []) ≡ []
    by true = joined_untold tell (shape (sign_of m.body)) (none (sign_of m.body)) (place scene sender) (place scene n)
    by false = refl

-- both ends of a line are told where both entries are shown
joined_told : (tell : Shape → Option (ℕ × ℕ)) (shape : Place → Place → Shape) → ((from to : Place) → tell (shape from to) ≡ Some (from.entry, to.entry))
    → (scene : Scene) (sender n : ℕ)
    → filter_map tell (joined shape (place scene sender) (place scene n)) ≡ cons_option (cond (is_shown scene sender && is_shown scene n) (Some (sender, n)) None) []
joined_told tell shape told scene sender n = by (row scene sender) (row scene n)
  where
    at : ℕ → ℕ → Place
    at k r = record { entry = k; column = column scene k; row = r }

    by : (q r : Option ℕ) → filter_map tell (joined shape (option_map (at sender) q) (option_map (at n) r))
        ≡ cons_option (cond (is_some q && is_some r) (Some (sender, n)) None) []
    by None r = refl
    by (Some a) None = refl
    by (Some a) (Some b) = ap (λ (o : Option (ℕ × ℕ)). cons_option o []) (told (at sender a) (at n b))

message_told : (tell : Shape → Option (ℕ × ℕ)) (scene : Scene) (shape : Sign → Place → Place → Shape)
    → ((sign : Sign) (from to : Place) → tell (shape sign from to) ≡ Some (from.entry, to.entry)) → (sender n : ℕ) (o : Option Message)
    → filter_map tell (message_shapes scene shape sender n o) ≡ cons_option (joins scene sender n o) []
message_told tell scene shape told sender n None = refl
message_told tell scene shape told sender n (Some m) = by (is_chosen_message scene.view.only m)
  where
    by : (b : Bool) → filter_map tell (cond b (joined (shape (sign_of m.body)) (place scene sender) (place scene n)) [])
        ≡ cons_option (cond (b && is_shown scene sender && is_shown scene n) (Some (sender, n)) None) []
    by true = joined_told tell (shape (sign_of m.body)) (told (sign_of m.body)) scene sender n
    by false = refl

arrows_untold : {X : Type 0} (tell : Shape → Option X) → ((sign : Sign) (from to : Place) → tell (Arrow sign from to) ≡ None)
    → ((sign : Sign) (from to : Place) → tell (Lost sign from to) ≡ None) → (scene : Scene) → filter_map tell (arrows scene) ≡ []
arrows_untold tell arrow lost scene = none_flat tell (λ n. entry_arrows scene n (nth scene.journal n)) (λ n. by n (nth scene.journal n)) (up_to (length scene.journal))
  where
    event : (n : ℕ) (e : Event) → filter_map tell (event_arrows scene n e) ≡ []
    event n (Deliver sender p) = message_untold tell scene Arrow arrow sender n (output_in scene.journal sender p)
    event n (Dropped sender p) = message_untold tell scene Lost lost sender n (output_in scene.journal sender p)
    event n (OfItself inner) = refl

    by : (n : ℕ) (o : Option Entry) → filter_map tell (entry_arrows scene n o) ≡ []
    by n None = refl
    by n (Some e) = event n e.event

-- ---- dots

-- where neither a dot nor what stands with it tells anything
dots_untold : {X : Type 0} (tell : Shape → Option X) → ((a : ActorName) (sign : Option Sign) (at : Place) → tell (Dot a sign at) ≡ None)
    → ((at : Place) → tell (Cross at) ≡ None) → ((at : Place) → tell (End at) ≡ None) → ((id : CommandId) (at : Place) → tell (First id at) ≡ None)
    → (scene : Scene) → filter_map tell (dots scene) ≡ []
dots_untold {X} tell dot cross end line scene = none_flat tell (λ n. entry_dots scene n (nth scene.journal n)) (λ n. by n (nth scene.journal n)) (up_to (length scene.journal))
  where
    at : (e : Entry) (first : Option CommandId) (o : Option Place) → filter_map tell (dots_at scene e first o) ≡ []
    at e first None = refl
    at e first (Some p) =
        untold tell (Dot e.actor (sign_of_event scene.journal e.actor e.event) p) (marks e.event p ++ firsts scene first p) (dot e.actor _ p)
        ∙ filter_map-append tell (marks e.event p) (firsts scene first p)
        ∙ ap (λ (l : List X). l ++ filter_map tell (firsts scene first p)) (marks_untold tell cross end e.event p)
        ∙ firsts_untold tell line scene first p

    by : (n : ℕ) (o : Option Entry) → filter_map tell (entry_dots scene n o) ≡ []
    by n None = refl
    by n (Some e) = at e (first_in (line_before scene n) (executed_by e.event)) (place scene n)

-- no entry is shown where none has the number
hidden : (scene : Scene) (n : ℕ) → nth scene.journal n ≡ None → row scene n ≡ None
unfolding row
hidden scene n missing = ap (row_where scene n) missing

-- an entry has its dot where it is shown
entry_dotted : (scene : Scene) (n : ℕ) (o : Option Entry) → nth scene.journal n ≡ o
    → filter_map dotted (entry_dots scene n o) ≡ cons_option (cond (is_shown scene n) (Some n) None) []
entry_dotted scene n None missing = sym (ap (λ (o : Option ℕ). cons_option (cond (is_some o) (Some n) None) []) (hidden scene n missing))
entry_dotted scene n (Some e) here = by (row scene n)
  where
    first : Option CommandId
    first = first_in (line_before scene n) (executed_by e.event)

    by : (o : Option ℕ) → filter_map dotted (dots_at scene e first (option_map (λ r. record { entry = n; column = column scene n; row = r }) o))
        ≡ cons_option (cond (is_some o) (Some n) None) []
    by None = refl
    by (Some r) = ap (λ (l : List ℕ). n ∷ l)
        (filter_map-append dotted (marks e.event (record { entry = n; column = column scene n; row = r })) (firsts scene first (record { entry = n; column = column scene n; row = r }))
        ∙ ap (λ (l : List ℕ). l ++ filter_map dotted (firsts scene first (record { entry = n; column = column scene n; row = r })))
        (marks_untold dotted (λ at. refl) (λ at. refl) e.event (record { entry = n; column = column scene n; row = r }))
        ∙ firsts_untold dotted (λ id at. refl) scene first (record { entry = n; column = column scene n; row = r }))

-- the mark of an entry is a cross where it loses a message
mark_crossed : (event : Event) (at : Place) → filter_map crossed (marks event at) ≡ cons_option (cond (is_loss event) (Some at.entry) None) []
mark_crossed (Deliver sender p) at = refl
mark_crossed (Dropped sender p) at = refl
mark_crossed (OfItself inner) at = by (is_crash (OfItself inner))
  where
    by : (b : Bool) → filter_map crossed (cond b (End at ∷ []) []) ≡ []
    by true = refl
    by false = refl

entry_crossed : (scene : Scene) (n : ℕ) (o : Option Entry) → nth scene.journal n ≡ o
    → filter_map crossed (entry_dots scene n o) ≡ cons_option (cond (is_shown scene n && loses o) (Some n) None) []
entry_crossed scene n None missing = by (is_shown scene n)
  where
    by : (b : Bool) → [] ≡ cons_option (cond (b && false) (Some n) None) []
    by true = refl
    by false = refl
entry_crossed scene n (Some e) here = by (row scene n)
  where
    first : Option CommandId
    first = first_in (line_before scene n) (executed_by e.event)

    by : (o : Option ℕ) → filter_map crossed (dots_at scene e first (option_map (λ r. record { entry = n; column = column scene n; row = r }) o))
        ≡ cons_option (cond (is_some o && is_loss e.event) (Some n) None) []
    by None = refl
    by (Some r) =
        filter_map-append crossed (marks e.event (record { entry = n; column = column scene n; row = r })) (firsts scene first (record { entry = n; column = column scene n; row = r }))
        ∙ ap (λ (l : List ℕ). l ++ filter_map crossed (firsts scene first (record { entry = n; column = column scene n; row = r })))
        (mark_crossed e.event (record { entry = n; column = column scene n; row = r }))
        ∙ ap (λ (l : List ℕ). cons_option (cond (is_loss e.event) (Some n) None) [] ++ l)
        (firsts_untold crossed (λ id at. refl) scene first (record { entry = n; column = column scene n; row = r }))
        ∙ alone (is_loss e.event)
      where
        alone : (b : Bool) → cons_option (cond b (Some n) None) [] ++ [] ≡ cons_option (cond b (Some n) None) []
        alone true = refl
        alone false = refl

-- ---- pictures

-- the parts one after the other
parts : {X : Type 0} (tell : Shape → Option X) (rows lines dots : List Shape) (xs ys zs : List X) → filter_map tell rows ≡ xs → filter_map tell lines ≡ ys
    → filter_map tell dots ≡ zs → filter_map tell (rows ++ lines ++ dots) ≡ xs ++ ys ++ zs
parts {X} tell rows lines dots xs ys zs a b c =
    filter_map-append tell (rows ++ lines) dots
    ∙ ap (λ (l : List X). l ++ filter_map tell dots)
    (filter_map-append tell rows lines ∙ ap (λ (l : List X). l ++ filter_map tell lines) a ∙ ap (λ (l : List X). xs ++ l) b)
    ∙ ap (λ (l : List X). xs ++ ys ++ l) c

pub dots_law : (script : Script) (journal : List Entry) (view : View) → HasDots script journal view
unfolding shapes
dots_law script journal view =
    let scene : Scene = scene_of script journal view in
    let ns : List ℕ = up_to (length journal) in
    parts dotted (rows scene) (arrows scene) (dots scene) [] [] (filter_map (λ n. cond (is_shown scene n) (Some n) None) ns)
    (rows_untold dotted (λ r a end columns. refl) scene)
    (arrows_untold dotted (λ sign from to. refl) (λ sign from to. refl) scene)
    (one_flat dotted (λ n. entry_dots scene n (nth journal n)) (λ n. cond (is_shown scene n) (Some n) None) (λ n. entry_dotted scene n (nth journal n) refl) ns)
    ∙ passing (is_shown scene) ns

pub crosses_law : (script : Script) (journal : List Entry) (view : View) → HasCrosses script journal view
unfolding shapes
crosses_law script journal view =
    let scene : Scene = scene_of script journal view in
    let ns : List ℕ = up_to (length journal) in
    parts crossed (rows scene) (arrows scene) (dots scene) [] [] (filter_map (λ n. cond (is_shown scene n && loses (nth journal n)) (Some n) None) ns)
    (rows_untold crossed (λ r a end columns. refl) scene)
    (arrows_untold crossed (λ sign from to. refl) (λ sign from to. refl) scene)
    (one_flat crossed (λ n. entry_dots scene n (nth journal n)) (λ n. cond (is_shown scene n && loses (nth journal n)) (Some n) None)
    (λ n. entry_crossed scene n (nth journal n) refl) ns)
    ∙ passing (λ n. is_shown scene n && loses (nth journal n)) ns

-- a line of an entry is told where it delivers, or loses, a message
entry_arrowed : (scene : Scene) (n : ℕ) (o : Option Entry) → filter_map arrowed (entry_arrows scene n o) ≡ cons_option (of_entry (delivered scene n) o) []
entry_arrowed scene n None = refl
entry_arrowed scene n (Some e) = by e.event
  where
    by : (event : Event) → filter_map arrowed (event_arrows scene n event) ≡ cons_option (delivered scene n event) []
    by (Deliver sender p) = message_told arrowed scene Arrow (λ sign from to. refl) sender n (output_in scene.journal sender p)
    by (Dropped sender p) = message_untold arrowed scene Lost (λ sign from to. refl) sender n (output_in scene.journal sender p)
    by (OfItself inner) = refl

entry_strayed : (scene : Scene) (n : ℕ) (o : Option Entry) → filter_map strayed (entry_arrows scene n o) ≡ cons_option (of_entry (lost scene n) o) []
entry_strayed scene n None = refl
entry_strayed scene n (Some e) = by e.event
  where
    by : (event : Event) → filter_map strayed (event_arrows scene n event) ≡ cons_option (lost scene n event) []
    by (Deliver sender p) = message_untold strayed scene Arrow (λ sign from to. refl) sender n (output_in scene.journal sender p)
    by (Dropped sender p) = message_told strayed scene Lost (λ sign from to. refl) sender n (output_in scene.journal sender p)
    by (OfItself inner) = refl

pub arrows_law : (script : Script) (journal : List Entry) (view : View) → HasArrows script journal view
unfolding shapes
arrows_law script journal view =
    let scene : Scene = scene_of script journal view in
    let ns : List ℕ = up_to (length journal) in
    parts arrowed (rows scene) (arrows scene) (dots scene) [] (filter_map (λ n. of_entry (delivered scene n) (nth journal n)) ns) []
    (rows_untold arrowed (λ r a end columns. refl) scene)
    (one_flat arrowed (λ n. entry_arrows scene n (nth journal n)) (λ n. of_entry (delivered scene n) (nth journal n)) (λ n. entry_arrowed scene n (nth journal n)) ns)
    (dots_untold arrowed (λ a sign at. refl) (λ at. refl) (λ at. refl) (λ id at. refl) scene)
    ∙ append-nil (filter_map (λ n. of_entry (delivered scene n) (nth journal n)) ns)

pub losses_law : (script : Script) (journal : List Entry) (view : View) → HasLosses script journal view
unfolding shapes
losses_law script journal view =
    let scene : Scene = scene_of script journal view in
    let ns : List ℕ = up_to (length journal) in
    parts strayed (rows scene) (arrows scene) (dots scene) [] (filter_map (λ n. of_entry (lost scene n) (nth journal n)) ns) []
    (rows_untold strayed (λ r a end columns. refl) scene)
    (one_flat strayed (λ n. entry_arrows scene n (nth journal n)) (λ n. of_entry (lost scene n) (nth journal n)) (λ n. entry_strayed scene n (nth journal n)) ns)
    (dots_untold strayed (λ a sign at. refl) (λ at. refl) (λ at. refl) (λ id at. refl) scene)
    ∙ append-nil (filter_map (λ n. of_entry (lost scene n) (nth journal n)) ns)
