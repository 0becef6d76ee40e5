use Rattle.std.proofs.Common.{◌≡◌, ℕ, List, Some, ap, ◌∙◌}
use Rattle.tp_ops.specs.Store.{with_value}
use Rattle.tp_store.proofs.Updates.{changed}
use Rattle.tp_store.specs.Values.{contents_of}
use Rattle.tp_store.proofs.store.Store.put.Goals as goal

pub returns : goal.returns
returns c =
    let key : c.in_ok-stored.stored.items ≡ c.args.key.now = c.in_ok-stored.ensures.items ∙ c.as_slice.ensures in
    changed (λ k. k.items) c.in_ok-stored.stored.items c.args.self.now.values.entries c.insert.new.self.entries (Some c.in_ok-copy.field-0) c.in_ok-insert.ensures.updates.1 c.in_ok-insert.ensures.updates.3
    ∙ ap (λ (k : List ℕ). with_value k (Some c.in_ok-copy.field-0) (contents_of c.args.self.now)) key
    ∙ ap (λ (v : List ℕ). with_value c.args.key.now (Some v) (contents_of c.args.self.now)) c.in_ok-copy.ensures
