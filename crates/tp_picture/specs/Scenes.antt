-- Which entries are shown, and where: an entry stands in the row of its actor, in the column of its number among those shown.
use Rattle.std.specs.List.{flat_map}
use Rattle.std.specs.Prelude.{ℕ, ◌+◌, ◌-◌, ◌&&◌, ◌||◌, nat_le, Bool, true, false, cond, List, [], ◌∷◌, ◌++◌, Option, Some, None, filter, is_some, length, option_map, position, unwrap_or}
use Rattle.tp_base.specs.Lists.{has}
use Rattle.tp_base.specs.Names.{same_name}
use Rattle.tp_base.specs.declared.names.ActorName.{ActorName}
use Rattle.tp_base.specs.declared.names.ActorName.TheVariants.{Process, Executor, Session}
use Rattle.tp_base.specs.declared.names.Site.{Site}
use Rattle.tp_journal.specs.Entered.{first_crash}
use Rattle.tp_picture.specs.About.{is_chosen_entry}
use Rattle.tp_picture.specs.declared.place.Place.{Place}
use Rattle.tp_picture.specs.declared.scene.Spot.{Spot}
use Rattle.tp_picture.specs.declared.view.View.{View}
use Rattle.tp_rules.specs.Addresses.{site}
use Rattle.tp_base.specs.Tables.{nth}
use Rattle.tp_rules.specs.declared.event.Entry.{Entry}
use Rattle.tp_script.specs.declared.script.Script.{Script}
use Rattle.tp_topology.specs.Counting.{up_to}

abbrev pub is_nobody : List ActorName → Bool
is_nobody [] = true
is_nobody (a ∷ actors) = false

-- an actor, where the view shows it: it is named, or none is
abbrev pub chosen : View → ActorName → List ActorName
chosen view a = cond (is_nobody view.actors || has same_name a view.actors) (a ∷ []) []

-- the rows: the sessions, and then by partition the processes and the executors
unfoldable pub rows_of : Script → View → List ActorName
rows_of script view =
    flat_map (λ s. chosen view (Session (record { 0 = s }))) (up_to (length script.homes))
    ++ flat_map (λ p. flat_map (λ k. chosen view (Process (site p k))) (up_to script.topology.replicas)
    ++ flat_map (λ k. chosen view (Executor (site p k))) (up_to script.topology.replicas))
    (up_to script.topology.partitions)

-- a journal, and what of it is drawn
pub record Scene : Type 0 where
  pub journal : List Entry
  pub view : View
  pub rows : List ActorName

abbrev pub scene_of : Script → List Entry → View → Scene
scene_of script journal view = record { journal = journal; view = view; rows = rows_of script view }

abbrev pub row_where : Scene → ℕ → Option Entry → Option ℕ
row_where scene n None = None
row_where scene n (Some e) =
    cond (nat_le scene.view.from n && nat_le n scene.view.to && is_chosen_entry scene.journal scene.view.only e)
    (option_map (λ i. i + 1) (position (same_name e.actor) scene.rows)) None

-- the row, from 1, of the entry of a number, if it is shown
unfoldable pub row : Scene → ℕ → Option ℕ
row scene n = row_where scene n (nth scene.journal n)

abbrev pub is_shown : Scene → ℕ → Bool
is_shown scene n = is_some (row scene n)

-- how many entries are shown of the first so many
unfoldable pub shown : Scene → ℕ → ℕ
shown scene n = length (filter (is_shown scene) (up_to n))

-- the column of the entry of a number: how many are shown before it
abbrev pub column : Scene → ℕ → ℕ
column scene n = shown scene (n - 1)

abbrev pub spot : Scene → ℕ → Spot
spot scene n = record { column = column scene n; row = row scene n }

abbrev pub place : Scene → ℕ → Option Place
place scene n = option_map (λ r. record { entry = n; column = column scene n; row = r }) (row scene n)

-- the column behind all
abbrev pub width : Scene → ℕ
width scene = shown scene (length scene.journal)

-- the column where a site's rows end: that of its crash, if it crashed
abbrev pub site_end : Scene → Site → ℕ
site_end scene s = unwrap_or (option_map (column scene) (first_crash s scene.journal)) (width scene)

abbrev pub row_end : Scene → ActorName → ℕ
row_end scene (Session s) = width scene
row_end scene (Process s) = site_end scene s
row_end scene (Executor s) = site_end scene s
