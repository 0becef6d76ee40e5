use Rattle.std.proofs.Common.{refl}
use Rattle.std.proofs.lemmas.Option.{slice_get-get_or}
use Rattle.tp_netbook.proofs.Watches.{all_new, new_more, no_watches}
use Rattle.tp_netbook.proofs.netbook.watches.Goals as goal

pub loop-site-init : goal.loop-site-init
loop-site-init c = no_watches c.args.script.now c.new-watches.result.items c.new-watches.ensures.items

pub loop-site-preserved : goal.loop-site-preserved
loop-site-preserved c =
    new_more c.args.script.now c.loop-site.watches.items c.push.new.self.items c.args.sites.now c.loop-site.site-index _ _ c.loop-site.invariant
    (slice_get-get_or c.args.sites.now c.loop-site.site-index _ c.loop-site-test.true) c.in_ok-push.ensures.items refl refl refl c.in_ok-lines_of.ensures refl

pub returns : goal.returns
returns c = all_new c.args.script.now c.loop-site.watches.items c.args.sites.now c.loop-site.site-index c.loop-site.invariant c.loop-site-test.false c.requires
