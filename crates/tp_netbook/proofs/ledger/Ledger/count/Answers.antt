use Rattle.std.proofs.Common.{Some, set, sym, ap, subst, ◌∙◌, arith}
use Rattle.std.proofs.lemmas.Option.{slice_get-get_or}
use Rattle.tp_netbook.proofs.Ledgers.{seen_at, seen_none, seen_out}
use Rattle.tp_netbook.specs.Ledger.{AreSeen}
use Rattle.tp_netbook.specs.declared.watch.Watch.{Watch}
use Rattle.tp_netbook.proofs.ledger.Ledger.count.Goals as goal

pub returns-in_default-clause-sites : goal.returns-in_default-clause-sites
returns-in_default-clause-sites c = seen_none c.args.actor c.args.event c.args.self.now c.in_default.not-Process

pub returns-then-place-len-clause-sites : goal.returns-then-place-len-clause-sites
returns-then-place-len-clause-sites c =
    subst (λ a. AreSeen a c.args.event c.args.self.now c.args.self.now.sites.items (set c.args.self.now.sites.items c.place_of_site-place.result c.enter.new.self)) (sym c.in-Process.is)
    (seen_at c.in-Process.site c.args.event c.args.self.now c.place_of_site-place.result c.index_mut.result.now c.enter.new.self c.place_of_site-place.ensures.place
    (slice_get-get_or c.args.self.now.sites.items c.place_of_site-place.result c.index_mut.result.now (omega (arith, c.if-place-len.true, c.len.ensures)) ∙ ap (λ (w : Watch). Some w) (sym c.index_mut.ensures.value))
    (record { site = c.enter.ensures.site; live = c.enter.ensures.live; made = c.enter.ensures.made; lines = c.enter.ensures.lines; came = c.enter.ensures.came }))

pub returns-else-place-len-clause-sites : goal.returns-else-place-len-clause-sites
returns-else-place-len-clause-sites c =
    subst (λ a. AreSeen a c.args.event c.args.self.now c.args.self.now.sites.items c.args.self.now.sites.items) (sym c.in-Process.is)
    (seen_out c.in-Process.site c.args.event c.args.self.now c.place_of_site-place.result c.place_of_site-place.ensures.place (omega (arith, c.if-place-len.false, c.len.ensures)))
