use Rattle.std.proofs.Common.{◌≡◌, false, sym, ◌∙◌}
use Rattle.std.specs.Prelude.{is_some}
use Rattle.indexmap.specs.IndexMap.{get}
use Rattle.tp_base.proofs.Options.{absent}
use Rattle.tp_base.specs.Names.{same_id}
use Rattle.tp_process.proofs.Tables.{opened}
use Rattle.tp_process.proofs.sheets.open.Goals as goal

pub returns-in_ok-insert : goal.returns-in_ok-insert
returns-in_ok-insert c =
    let missing : is_some (get same_id c.args.sheets.now c.args.id) ≡ false = sym c.contains_key.ensures ∙ c.if-not-contains_key.true in
    opened c.args.place.now.topology c.args.place.now.site c.args.sheets.now c.args.id _
    (λ other. rw (← c.new.ensures) (c.in_ok-insert.ensures.updates.0 other))
    (absent (get same_id c.args.sheets.now c.args.id) missing)
