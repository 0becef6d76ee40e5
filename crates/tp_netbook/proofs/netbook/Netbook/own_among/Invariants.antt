use Rattle.std.proofs.Common.{◌≡◌}
use Rattle.std.specs.List.{zip}
use Rattle.std.specs.Prelude.{slice_get}
use Rattle.tp_netbook.proofs.Parts.{kept_from}
use Rattle.tp_netbook.proofs.netbook.Netbook.own_among.Given as goal
use Rattle.tp_netbook.specs.Netbook.{own_item}

abbrev pub invariant-loop-k : goal.invariant-loop-k
invariant-loop-k l = slice_get (kept_from (own_item l.self) (zip l.self.roster.items l.next) 0) l.index ≡ slice_get (kept_from (own_item l.self) (zip l.self.roster.items l.next) l.k) l.left
