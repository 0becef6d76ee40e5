use Rattle.std.proofs.Common.{◌≡◌, ◌<◌, None, true, false, length, sym, ◌∙◌, arith}
use Rattle.std.specs.Prelude.{reverse}
use Rattle.tp_check.proofs.Flaws.{allowed, able_there, message_cause, not_enabled}
use Rattle.tp_check.proofs.cause.step_flaw.Goals as goal
use Rattle.tp_check.specs.Steps.{message_flaw}
use Rattle.tp_driver.proofs.Stands.{within}
use Rattle.tp_rules.specs.Journal.{is_known, is_live}
use Rattle.tp_rules.specs.Runs.{FollowsPlan}

pub returns-in-Some-clause-cause : goal.returns-in-Some-clause-cause
returns-in-Some-clause-cause g c =
    let known : is_known c.args.script.now c.args.entry.now.actor ≡ true = sym c.is_known.ensures ∙ c.if-not-is_known.false in
    let live : is_live (reverse c.args.earlier.now) c.args.entry.now.actor ≡ true =
    sym (c.is_live.ensures c.args.script.now c.args.earlier.now c.requires.ledger known) ∙ c.if-not-is_live.false in
    message_cause c.args.script.now (reverse c.args.earlier.now) c.args.entry.now known live c.in-Some.cause (sym c.message_flaw.ensures ∙ c.in-Some.is)

pub prove-unreachable-requires : goal.prove-unreachable-requires
prove-unreachable-requires g c =
    let known : is_known c.args.script.now c.args.entry.now.actor ≡ true = sym c.is_known.ensures ∙ c.if-not-is_known.false in
    let inside : c.place_of-home.result < length c.args.actors.now =
    within g.A.Actor.identity_of g.A.Actor.is_spent g.A.Actor.stands c.args.script.now c.args.actors.now c.args.earlier.now c.requires.cast c.args.entry.now.actor known
    c.place_of-home.result c.place_of-home.ensures in
    omega (arith, inside, c.if-prove.true)

pub returns-then-not-is_able-clause-cause : goal.returns-then-not-is_able-clause-cause
returns-then-not-is_able-clause-cause g c =
    let known : is_known c.args.script.now c.args.entry.now.actor ≡ true = sym c.is_known.ensures ∙ c.if-not-is_known.false in
    let live : is_live (reverse c.args.earlier.now) c.args.entry.now.actor ≡ true =
    sym (c.is_live.ensures c.args.script.now c.args.earlier.now c.requires.ledger known) ∙ c.if-not-is_live.false in
    let none : message_flaw (reverse c.args.earlier.now) c.args.entry.now.actor c.args.entry.now.event ≡ None = sym c.message_flaw.ensures ∙ c.in_default.is in
    let plan : FollowsPlan c.args.script.now (reverse c.args.earlier.now) c.args.entry.now =
    (c.follows_plan.ensures c.args.script.now c.args.earlier.now c.requires.ledger known).0 c.if-not-follows_plan.false in
    let able = able_there g.A.Actor.identity_of g.A.Actor.is_spent g.A.Actor.stands c.args.script.now c.args.actors.now c.args.earlier.now c.requires.cast c.args.entry.now.actor known
    c.place_of-home.result c.place_of-home.ensures c.index-actors-home.result c.index-actors-home.is c.args.entry.now.event c.is_able.result c.is_able.ensures in
    not_enabled c.args.script.now (reverse c.args.earlier.now) c.args.entry.now known live none plan
    (λ can. let wrong : true ≡ false = sym (able.1 can) ∙ c.if-not-is_able.true in cc)

pub returns-clause-allowed : goal.returns-clause-allowed
returns-clause-allowed g c = λ _.
    let known : is_known c.args.script.now c.args.entry.now.actor ≡ true = sym c.is_known.ensures ∙ c.if-not-is_known.false in
    let live : is_live (reverse c.args.earlier.now) c.args.entry.now.actor ≡ true =
    sym (c.is_live.ensures c.args.script.now c.args.earlier.now c.requires.ledger known) ∙ c.if-not-is_live.false in
    let none : message_flaw (reverse c.args.earlier.now) c.args.entry.now.actor c.args.entry.now.event ≡ None = sym c.message_flaw.ensures ∙ c.in_default.is in
    let plan : FollowsPlan c.args.script.now (reverse c.args.earlier.now) c.args.entry.now =
    (c.follows_plan.ensures c.args.script.now c.args.earlier.now c.requires.ledger known).0 c.if-not-follows_plan.false in
    let able = able_there g.A.Actor.identity_of g.A.Actor.is_spent g.A.Actor.stands c.args.script.now c.args.actors.now c.args.earlier.now c.requires.cast c.args.entry.now.actor known
    c.place_of-home.result c.place_of-home.ensures c.index-actors-home.result c.index-actors-home.is c.args.entry.now.event c.is_able.result c.is_able.ensures in
    allowed c.args.script.now (reverse c.args.earlier.now) c.args.entry.now known live none plan (able.0 c.if-not-is_able.false)
