use Rattle.std.proofs.Common.{◌≡◌, ◌-◌, ◌++◌, [], ℕ, List, length, map, sym, ap, ◌∙◌, arith}
use Rattle.std.proofs.lemmas.List.{append-nil, take_all}
use Rattle.std.proofs.lemmas.Option.{slice_get-get_or}
use Rattle.tp_base.specs.declared.names.ActorName.{ActorName}
use Rattle.tp_base.specs.declared.names.ActorName.TheVariants.{Process, Executor, Session}
use Rattle.tp_base.specs.declared.names.Site.{Site}
use Rattle.tp_netbook.proofs.Rosters.{next_image, next_of}
use Rattle.tp_netbook.proofs.roster.roster.Goals as goal
use Rattle.tp_rules.specs.Pending.{actors_of}
use Rattle.tp_script.specs.declared.script.Script.{Script}
use Rattle.tp_topology.specs.Counting.{up_to}

abbrev sessions : Script → List ActorName
sessions script = map (λ s. Session (record { 0 = s })) (up_to (length script.homes))

pub loop-s-preserved : goal.loop-s-preserved
loop-s-preserved c =
    next_of (λ s. Session (record { 0 = s })) [] c.loop-s.roster.items c.push.new.self.items c.loop-s.s c.loop-s.auto.s c.loop-s.invariant c.in_ok-push.ensures.items

pub loop-site-init : goal.loop-site-init
loop-site-init c =
    let last : c.loop-s.s - 1 ≡ length c.args.script.now.homes = omega (arith, c.loop-s-test.false, c.loop-s.auto.s-end, c.len.ensures.count) in
    c.loop-s.invariant ∙ ap (λ (n : ℕ). map (λ s. Session (record { 0 = s })) (up_to n)) last ∙ sym (append-nil (sessions c.args.script.now))

pub loop-site-preserved : goal.loop-site-preserved
loop-site-preserved c =
    next_image (λ s. Process s) (sessions c.args.script.now) c.args.sites.now c.loop-site.site-index _ c.loop-site.roster.items c.push-in-loop-site.new.self.items
    (slice_get-get_or c.args.sites.now c.loop-site.site-index _ c.loop-site-test.true) c.loop-site.invariant c.in_ok-push-2.ensures.items

pub loop-site-2-init : goal.loop-site-2-init
loop-site-2-init c =
    c.loop-site.invariant ∙ ap (λ (l : List Site). sessions c.args.script.now ++ map (λ s. Process s) l) (take_all c.loop-site.site-index c.args.sites.now c.loop-site-test.false)
    ∙ sym (append-nil (sessions c.args.script.now ++ map (λ s. Process s) c.args.sites.now))

pub loop-site-2-preserved : goal.loop-site-2-preserved
loop-site-2-preserved c =
    next_image (λ s. Executor s) (sessions c.args.script.now ++ map (λ s. Process s) c.args.sites.now) c.args.sites.now c.loop-site-2.site-index _ c.loop-site-2.roster.items c.push-in-loop-site-2.new.self.items
    (slice_get-get_or c.args.sites.now c.loop-site-2.site-index _ c.loop-site-2-test.true) c.loop-site-2.invariant c.in_ok-push-3.ensures.items

pub returns : goal.returns
unfolding actors_of
returns c =
    c.loop-site-2.invariant
    ∙ ap (λ (l : List Site). sessions c.args.script.now ++ map (λ s. Process s) c.args.sites.now ++ map (λ s. Executor s) l) (take_all c.loop-site-2.site-index c.args.sites.now c.loop-site-2-test.false)
    ∙ ap (λ (l : List Site). sessions c.args.script.now ++ map (λ s. Process s) l ++ map (λ s. Executor s) l) c.requires.sites
