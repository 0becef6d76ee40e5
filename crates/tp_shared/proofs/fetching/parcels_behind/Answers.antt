use Rattle.std.proofs.Common.{◌≡◌, ◌++◌, ◌+◌, ◌∙◌, List, Some, filter, length, slice_get, ap, sym, arith}
use Rattle.tp_rules.specs.Journal.{numbered}
use Rattle.tp_rules.specs.declared.event.Entry.{Entry}
use Rattle.tp_rules.specs.declared.event.Parcel.{Parcel}
use Rattle.tp_shared.proofs.Addressed.{entry_next, none_behind}
use Rattle.tp_shared.proofs.fetching.parcels_behind.Goals as goal
use Rattle.tp_shared.specs.Fetched.{is_for}

pub loop-behind-init : goal.loop-behind-init
loop-behind-init c = c.new-parcels.ensures ∙ sym (none_behind c.args.actor c.args.number c.args.journal.now)

pub loop-behind-preserved : goal.loop-behind-preserved
loop-behind-preserved c =
    let e : Entry = c.in-Some.entry.now in
    let all : length c.entries-entries.result.now ≡ length c.args.journal.now = ap length c.entries-entries.ensures in
    let there : slice_get c.args.journal.now c.loop-behind.behind ≡ Some e =
    ap (λ (l : List Entry). slice_get l c.loop-behind.behind) (sym c.entries-entries.ensures) ∙ sym c.in-Some.ensures.item in
    c.in_ok-add_outputs.ensures
    ∙ ap (λ (l : List Parcel). l ++ filter (is_for c.args.actor) (numbered (c.loop-behind.behind + 1) 1 e.outputs)) c.loop-behind.invariant
    ∙ entry_next c.args.actor c.args.number c.loop-behind.behind c.args.journal.now e (omega (arith, c.loop-behind.auto.behind))
    (omega (arith, c.loop-behind-test.true, c.len-behind-end.ensures.count)) there
