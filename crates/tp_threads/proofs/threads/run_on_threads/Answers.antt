use Rattle.std.proofs.Common.{List, ap, length, subst, sym, ◌≡◌, ◌∙◌, arith}
use Rattle.tp_base.proofs.Each.{each_weaker}
use Rattle.tp_base.specs.Lists.{Each}
use Rattle.tp_threads.proofs.Going.{still_at, still_cells, written_back}
use Rattle.tp_threads.proofs.Resting.{none_run}
use Rattle.tp_threads.proofs.threads.run_on_threads.Goals as goal
use Rattle.tp_threads.specs.Threads.{HasCells, IsCellAt}
use Rattle.tp_worker.specs.Cells.{AllDone, AllGoOn, NoneSpent, Worker}

pub begin-requires : goal.begin-requires
begin-requires g c = record { run = none_run c.args.script.now c.new.result c.new.ensures }

pub returns-in_default-clause-run : goal.returns-in_default-clause-run
returns-in_default-clause-run g c = none_run c.args.script.now c.args.journal.now c.requires.empty

pub rounds-requires-clause-table : goal.rounds-requires-clause-table
rounds-requires-clause-table g c κs within =
    subst (Each (λ (w : Worker g.row.A.Denot). w.desk.table ≡ c.in-Ok.shared)) (sym c.as_mut_slice.ensures.value)
    (each_weaker (IsCellAt c.args.script.now c.in-Ok.shared) (λ (w : Worker g.row.A.Denot). w.desk.table ≡ c.in-Ok.shared) (λ w at. at.table)
    c.in_ok-cells.cells.items c.in_ok-cells.ensures.cells)

pub end-ended-requires-clause-cells : goal.end-ended-requires-clause-cells
end-ended-requires-clause-cells g c =
    let on : AllGoOn g.A.Actor.identity_of c.in_ok-cells.cells.items c.rounds.new.cells =
    subst (λ (l : List (Worker g.row.A.Denot)). AllGoOn g.A.Actor.identity_of l c.rounds.new.cells) c.as_mut_slice.ensures.value c.rounds.ensures.go_on in
    let back = written_back c.in_ok-cells.cells.len c.in_ok-cells.cells.items c.rounds.new.cells (omega (arith, c.in_ok-cells.cells.ok.0)) on.0 in
    subst (Each (IsCellAt c.args.script.now c.in-Ok.shared)) (sym back)
    (still_at g.A.Actor.identity_of c.in_ok-cells.cells.items c.rounds.new.cells on c.args.script.now c.in-Ok.shared c.in_ok-cells.ensures.cells)

pub end-ended-requires-clause-all : goal.end-ended-requires-clause-all
end-ended-requires-clause-all g c =
    let on : AllGoOn g.A.Actor.identity_of c.in_ok-cells.cells.items c.rounds.new.cells =
    subst (λ (l : List (Worker g.row.A.Denot)). AllGoOn g.A.Actor.identity_of l c.rounds.new.cells) c.as_mut_slice.ensures.value c.rounds.ensures.go_on in
    let back = written_back c.in_ok-cells.cells.len c.in_ok-cells.cells.items c.rounds.new.cells (omega (arith, c.in_ok-cells.cells.ok.0)) on.0 in
    subst (HasCells c.args.script.now 0 c.cells_of.new.first) (sym back)
    (still_cells g.A.Actor.identity_of c.in_ok-cells.cells.items c.rounds.new.cells on c.args.script.now 0 c.cells_of.new.first c.in_ok-cells.ensures.all)

pub end-ended-requires-clause-done : goal.end-ended-requires-clause-done
end-ended-requires-clause-done g c =
    let on : AllGoOn g.A.Actor.identity_of c.in_ok-cells.cells.items c.rounds.new.cells =
    subst (λ (l : List (Worker g.row.A.Denot)). AllGoOn g.A.Actor.identity_of l c.rounds.new.cells) c.as_mut_slice.ensures.value c.rounds.ensures.go_on in
    let back = written_back c.in_ok-cells.cells.len c.in_ok-cells.cells.items c.rounds.new.cells (omega (arith, c.in_ok-cells.cells.ok.0)) on.0 in
    subst (λ (l : List (Worker g.row.A.Denot)). NoneSpent l → AllDone l) (sym back) c.rounds.ensures.done
