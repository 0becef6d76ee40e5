use Rattle.std.proofs.Common.{◌≡◌}
use Rattle.std.specs.Prelude.{slice_get}
use Rattle.tp_netbook.proofs.Parts.{kept_from}
use Rattle.tp_netbook.proofs.netbook.Netbook.line.Given as goal
use Rattle.tp_netbook.specs.Netbook.{line_item}

abbrev pub invariant-loop-watch : goal.invariant-loop-watch
invariant-loop-watch l = slice_get (kept_from line_item l.self.sites.items 0) l.index ≡ slice_get (kept_from line_item l.self.sites.items l.watch-index) l.left
