-- The contents that a store holds.
use Rattle.std.specs.BTreeMap.{is_at}
use Rattle.std.specs.Cmp.Lexicographic.{slice_cmp}
use Rattle.std.specs.Map.{lookup}
use Rattle.std.specs.Ordering.{nat_cmp}
use Rattle.tp_ops.specs.Store.{Contents}
use Rattle.tp_store.specs.declared.store.Store.{Store}

-- the value of each key
abbrev pub contents_of : Store → Contents
contents_of store key = lookup (is_at (λ k. slice_cmp nat_cmp key k.items)) store.values.entries
