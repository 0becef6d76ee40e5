-- The table of the sheets of a site.
use Rattle.std.specs.Prelude.{◌≡◌, false, is_some, true, unwrap_or}
use Rattle.indexmap.specs.IndexMap.{IndexMap, get}
use Rattle.tp_base.specs.Names.{same_id}
use Rattle.tp_base.specs.declared.names.CommandId.{CommandId}
use Rattle.tp_base.specs.declared.names.Site.{Site}
use Rattle.tp_sheet.specs.SiteSheet.{SiteSheet, blank_at}
use Rattle.tp_topology.specs.Shape.{Shape}

module _ {S : Type 0} (shape : Shape) (site : Site) where
  -- the sheet of a command: blank where none is kept
  abbrev pub sheet_at : IndexMap CommandId SiteSheet S → CommandId → SiteSheet
  sheet_at sheets id = unwrap_or (get same_id sheets id) (blank_at shape site)

  -- a command has a sheet now, and none says anything else than before
  pub record OpensSheet (old new : IndexMap CommandId SiteSheet S) (id : CommandId) : Type 0 where
    pub here : is_some (get same_id new id) ≡ true
    pub all : (other : CommandId) → sheet_at new other ≡ sheet_at old other

  -- one command's sheet is another one, and those of the others stay
  pub record ChangesSheet (old new : IndexMap CommandId SiteSheet S) (id : CommandId) (sheet : SiteSheet) : Type 0 where
    pub here : sheet_at new id ≡ sheet
    pub others : (other : CommandId) → same_id id other ≡ false → sheet_at new other ≡ sheet_at old other
