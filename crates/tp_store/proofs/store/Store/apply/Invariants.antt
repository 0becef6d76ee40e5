use Rattle.std.proofs.Common.{◌≡◌, ◌++◌, drop}
use Rattle.std.specs.Prelude.{filter}
use Rattle.tp_ops.specs.Parts.{is_on}
use Rattle.tp_ops.specs.Store.{after_all, answers_of}
use Rattle.tp_store.specs.Values.{contents_of}
use Rattle.tp_store.proofs.store.Store.apply.Given as goal

abbrev pub invariant-loop-op : goal.invariant-loop-op
invariant-loop-op l = record {
  answers : l.answers ++ answers_of (filter (is_on l.partitions l.p.0) (drop l.op-index l.op-items)) (contents_of l.self) ≡ answers_of (filter (is_on l.partitions l.p.0) l.op-items) (contents_of l.fn.self);
  contents : after_all (filter (is_on l.partitions l.p.0) (drop l.op-index l.op-items)) (contents_of l.self) ≡ after_all (filter (is_on l.partitions l.p.0) l.op-items) (contents_of l.fn.self);
}
