use Rattle.std.proofs.Common.{◌+◌, ◌∙◌, List, drop, option_map, ap, sym}
use Rattle.std.specs.Prelude.{position}
use Rattle.tp_journal.specs.Entered.{is_crash_of}
use Rattle.tp_rules.specs.declared.event.Entry.{Entry}
use Rattle.tp_shared.proofs.Crashes.{found_already, found_of}
use Rattle.tp_shared.proofs.looking.crash_after.Goals as goal

pub returns-then-is_some : goal.returns-then-is_some
returns-then-is_some c =
    found_already c.args.actor c.args.crash c.args.looked c.args.journal.now (sym c.is_some.ensures ∙ c.if-is_some.true) c.requires.known

pub returns : goal.returns
returns c =
    c.crash_behind.ensures
    ∙ ap (λ (l : List Entry). option_map (λ i. c.args.looked + i + 1) (position (is_crash_of c.in_ok-site.site) (drop c.args.looked l))) (c.as_slice.ensures ∙ c.entries.ensures)
    ∙ found_of c.args.actor c.args.crash c.in_ok-actor.field-0 c.in_ok-site.site c.args.looked c.args.journal.now c.in_ok-actor.was (sym c.in_ok-site.ensures)
    c.requires.within (sym c.is_some.ensures ∙ c.if-is_some.false) c.requires.known
