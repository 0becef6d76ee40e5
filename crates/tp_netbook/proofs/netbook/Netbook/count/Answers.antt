use Rattle.std.proofs.Common.{Some, set, sym, ap, subst, ◌∙◌, refl, arith}
use Rattle.std.proofs.lemmas.Option.{slice_get-get_or}
use Rattle.std.specs.Vec.{with_item}
use Rattle.tp_netbook.proofs.Counting.{counted_at, counted_none, counted_out}
use Rattle.tp_netbook.proofs.Listings.{turns_by_plan}
use Rattle.tp_netbook.proofs.Turned.{due_kept, free_kept, none_turned, turned_there}
use Rattle.tp_netbook.specs.Netbook.{AreCounted}
use Rattle.tp_netbook.specs.declared.watch.Watch.{Watch}
use Rattle.tp_netbook.proofs.netbook.Netbook.count.Goals as goal

pub returns-in_default-clause-sites : goal.returns-in_default-clause-sites
returns-in_default-clause-sites c = counted_none c.args.actor c.args.event c.args.self.now c.in_default.not-Process

pub returns-then-place-len-clause-sites : goal.returns-then-place-len-clause-sites
returns-then-place-len-clause-sites c =
    subst (λ a. AreCounted a c.args.event c.args.self.now c.args.self.now.sites.items c.args.self.now.sites.items) (sym c.in-Process.is)
    (counted_out c.in-Process.site c.args.event c.args.self.now c.place_of_site-place.result c.place_of_site-place.ensures.place (omega (arith, c.if-place-len.true, c.len.ensures)))

pub returns-then-enter-clause-sites : goal.returns-then-enter-clause-sites
returns-then-enter-clause-sites c =
    subst (λ a. AreCounted a c.args.event c.args.self.now c.args.self.now.sites.items (set c.args.self.now.sites.items c.place_of_site-place.result c.enter.new.self)) (sym c.in-Process.is)
    (counted_at c.in-Process.site c.args.event c.args.self.now c.place_of_site-place.result c.index_mut.result.now c.enter.new.self c.place_of_site-place.ensures.place
    (slice_get-get_or c.args.self.now.sites.items c.place_of_site-place.result c.index_mut.result.now (omega (arith, c.if-place-len.false, c.len.ensures)) ∙ ap (λ (w : Watch). Some w) (sym c.index_mut.ensures.value))
    (record { site = c.enter.ensures.site; live = c.enter.ensures.live; made = c.enter.ensures.made; lines = c.enter.ensures.lines; came = c.enter.ensures.came }))

pub returns-then-enter-clause-turned : goal.returns-then-enter-clause-turned
returns-then-enter-clause-turned c =
    turned_there c.args.self.now (record c.args.self.now { sites = with_item c.args.self.now.sites c.place_of_site-place.result c.enter.new.self; due = c.count_due-self.result; all_free = c.are_free-self.result }) c.in-Process.site c.place_of_site-place.result c.index_mut.result.now c.enter.new.self c.place_of_site-place.ensures.place
    (slice_get-get_or c.args.self.now.sites.items c.place_of_site-place.result c.index_mut.result.now (omega (arith, c.if-place-len.false, c.len.ensures)) ∙ ap (λ (w : Watch). Some w) (sym c.index_mut.ensures.value))
    refl refl

pub returns-else-enter-clause-sites : goal.returns-else-enter-clause-sites
returns-else-enter-clause-sites c =
    subst (λ a. AreCounted a c.args.event c.args.self.now c.args.self.now.sites.items (set c.args.self.now.sites.items c.place_of_site-place.result c.enter.new.self)) (sym c.in-Process.is)
    (counted_at c.in-Process.site c.args.event c.args.self.now c.place_of_site-place.result c.index_mut.result.now c.enter.new.self c.place_of_site-place.ensures.place
    (slice_get-get_or c.args.self.now.sites.items c.place_of_site-place.result c.index_mut.result.now (omega (arith, c.if-place-len.false, c.len.ensures)) ∙ ap (λ (w : Watch). Some w) (sym c.index_mut.ensures.value))
    (record { site = c.enter.ensures.site; live = c.enter.ensures.live; made = c.enter.ensures.made; lines = c.enter.ensures.lines; came = c.enter.ensures.came }))

pub returns-else-enter-clause-turned : goal.returns-else-enter-clause-turned
returns-else-enter-clause-turned c =
    none_turned c.args.self.now (record c.args.self.now { sites = with_item c.args.self.now.sites c.place_of_site-place.result c.enter.new.self }) c.in-Process.site c.place_of_site-place.result c.index_mut.result.now c.enter.new.self c.place_of_site-place.ensures.place
    (slice_get-get_or c.args.self.now.sites.items c.place_of_site-place.result c.index_mut.result.now (omega (arith, c.if-place-len.false, c.len.ensures)) ∙ ap (λ (w : Watch). Some w) (sym c.index_mut.ensures.value))
    refl refl (sym c.enter.ensures.turned ∙ c.if-enter.false)

pub returns-else-enter-clause-due : goal.returns-else-enter-clause-due
returns-else-enter-clause-due c = λ due.
    due ∙ sym (due_kept c.args.self.now.sites.items c.place_of_site-place.result c.index_mut.result.now c.enter.new.self
    (slice_get-get_or c.args.self.now.sites.items c.place_of_site-place.result c.index_mut.result.now (omega (arith, c.if-place-len.false, c.len.ensures)) ∙ ap (λ (w : Watch). Some w) (sym c.index_mut.ensures.value))
    (sym c.enter.ensures.turned ∙ c.if-enter.false))

pub returns-else-enter-clause-free : goal.returns-else-enter-clause-free
returns-else-enter-clause-free c = λ free.
    free ∙ sym (free_kept c.args.self.now.sites.items c.place_of_site-place.result c.index_mut.result.now c.enter.new.self
    (slice_get-get_or c.args.self.now.sites.items c.place_of_site-place.result c.index_mut.result.now (omega (arith, c.if-place-len.false, c.len.ensures)) ∙ ap (λ (w : Watch). Some w) (sym c.index_mut.ensures.value))
    (sym c.enter.ensures.turned ∙ c.if-enter.false))

pub returns-then-enter-clause-plan : goal.returns-then-enter-clause-plan
returns-then-enter-clause-plan c =
    turns_by_plan c.args.actor c.args.event c.args.self.now c.in-Process.site c.place_of_site-place.result c.index_mut.result.now c.enter.new.self c.in-Process.is c.place_of_site-place.ensures.place
    (slice_get-get_or c.args.self.now.sites.items c.place_of_site-place.result c.index_mut.result.now (omega (arith, c.if-place-len.false, c.len.ensures)) ∙ ap (λ (w : Watch). Some w) (sym c.index_mut.ensures.value))
    (record { site = c.enter.ensures.site; live = c.enter.ensures.live; made = c.enter.ensures.made; lines = c.enter.ensures.lines; came = c.enter.ensures.came })
    (sym c.enter.ensures.turned ∙ c.if-enter.true)
