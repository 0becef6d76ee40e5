-- What is kept of a site, beside what its journal says.
use Rattle.std.specs.Option.{option_or}
use Rattle.std.specs.Prelude.{◌≡◌, ℕ, cond, List, [], ◌∷◌, Option, Some, None, filter, filter_map, map, unwrap_or}
use Rattle.indexmap.specs.IndexMap.{IndexMap, get}
use Rattle.tp_base.specs.Names.{same_id, same_site}
use Rattle.tp_base.specs.declared.names.ActorName.TheVariants.{Process}
use Rattle.tp_base.specs.declared.names.CommandId.{CommandId}
use Rattle.tp_base.specs.declared.names.Site.{Site}
use Rattle.tp_print.specs.Report.{stamped_word}
use Rattle.tp_print.specs.declared.site.SiteRecord.{SiteRecord}
use Rattle.tp_rules.specs.Journal.{has_crashed}
use Rattle.tp_rules.specs.Outcome.{Commit, commit_by, commits, executions}
use Rattle.tp_rules.specs.declared.event.Entry.{Entry}
use Rattle.tp_wire.specs.declared.message.Message.{Message}

-- the stamp of the first commit of a command, if there is one
abbrev pub first_stamp : List Commit → CommandId → Option ℕ
first_stamp [] id = None
first_stamp (c ∷ cs) id = cond (same_id c.id id) (Some c.stamp) (first_stamp cs id)

-- the commits that a site's process sends
abbrev pub commits_sent : Site → List Message → List Commit
commits_sent s outputs = filter_map (λ m. commit_by (Process s) m.body) outputs

abbrev pub commits_at : List Entry → Site → List Commit
commits_at older s = filter (λ c. same_site c.site s) (commits older)

-- the stamps are those before, then the first of the commits, whatever the site
abbrev pub AreMore : {S : Type 0} → IndexMap CommandId ℕ S → (Site → List Commit) → IndexMap CommandId ℕ S → Type 0
AreMore old more new = (s : Site) (id : CommandId)
    → get same_id new id ≡ option_or (get same_id old id) (first_stamp (more s) id)

-- the record is that of a journal, the newest entry first
pub record IsRecorded (older : List Entry) (s : Site) (r : SiteRecord) : Type 0 where
  pub executed : r.executed.items ≡ executions older s
  pub stamps : (id : CommandId) → get same_id r.stamps id ≡ first_stamp (commits_at older s) id
  pub crashed : r.crashed ≡ has_crashed older s

-- the commands executed, each with its stamp, or 0
abbrev pub recorded_words : SiteRecord → List (List ℕ)
recorded_words r = map (λ id. stamped_word id (unwrap_or (get same_id r.stamps id) 0)) r.executed.items

-- what is kept of a site: a record, or none, where a new one would do
abbrev pub IsKept : List Entry → Site → Option SiteRecord → Type 0
IsKept older s None = (r : SiteRecord) → IsRecorded [] s r → IsRecorded older s r
IsKept older s (Some r) = IsRecorded older s r

abbrev pub AreRecorded : {S : Type 0} → List Entry → IndexMap Site SiteRecord S → Type 0
AreRecorded older sites = (s : Site) → IsKept older s (get same_site sites s)
