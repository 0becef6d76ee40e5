use Rattle.std.proofs.Common.{◌≡◌, Bool, true, false, [], refl, rules}
use Rattle.std.proofs.lemmas.List.{nil_from_length}
use Rattle.std.specs.Prelude.{◌||◌}
use Rattle.tp_threads.proofs.Joining.{all_joined, its_table, none_spent, none_yet, one_more}
use Rattle.tp_threads.proofs.ending.join_all.Goals as goal

neither : (a b : Bool) → (a || b) ≡ false → (a ≡ false) × (b ≡ false)
neither true b e = absurd cc
neither false b e = (refl, e)

pub loop-cell-init : goal.loop-cell-init
loop-cell-init g c =
    none_yet g.A.Actor.identity_of g.A.Actor.is_spent g.A.Actor.stands c.args.script.now c.args.shared.now c.args.cells.items c.args.first.now
    c.requires.first c.requires.cells

pub join_cell-spent-requires : goal.join_cell-spent-requires
join_cell-spent-requires g c =
    let way = c.loop-cell.invariant in
    record {
      table = (
        way.is_first.table,
        its_table g.A.Actor.identity_of g.A.Actor.is_spent g.A.Actor.stands c.args.script.now c.args.shared.now c.args.cells.items c.args.first.now
            _ _ c.in-Some.cell _ _ way c.in-Some.ensures.items,
      );
      first = (way.is_first.actor, way.is_first.free);
    }

pub loop-cell-preserved : goal.loop-cell-preserved
loop-cell-preserved g c =
    one_more g.A.Actor.identity_of g.A.Actor.is_spent g.A.Actor.stands c.args.script.now c.args.shared.now c.args.cells.items c.args.first.now
    _ _ c.in-Some.cell _ _ c.loop-cell.invariant c.in-Some.ensures.items
    _ _ c.join_cell-spent.result c.join_cell-spent.ensures.first c.join_cell-spent.ensures.longer c.join_cell-spent.ensures.joined c.join_cell-spent.ensures.spent
    (neither c.loop-cell.spent c.join_cell-spent.result)

pub returns-clause-all : goal.returns-clause-all
returns-clause-all g c =
    all_joined g.A.Actor.identity_of g.A.Actor.is_spent g.A.Actor.stands c.args.script.now c.args.shared.now c.args.cells.items c.args.first.now
    c.loop-cell.cells.items c.loop-cell.first c.loop-cell.spent c.loop-cell.invariant (nil_from_length _ (search rules)) c.requires.all

pub returns-clause-spent : goal.returns-clause-spent
returns-clause-spent g c =
    none_spent g.A.Actor.identity_of g.A.Actor.is_spent g.A.Actor.stands c.args.script.now c.args.shared.now c.args.cells.items c.args.first.now
    c.loop-cell.cells.items c.loop-cell.first c.loop-cell.spent c.loop-cell.invariant (nil_from_length _ (search rules))
