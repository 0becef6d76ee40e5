use Rattle.tp_print.proofs.Records.{session_noted, site_noted}
use Rattle.tp_print.proofs.sites.note_site.Goals as goal

pub returns-in-Session : goal.returns-in-Session
returns-in-Session c = λ older. session_noted older c.args.sites.now c.args.entry.now c.in-Session.field-0
    c.in-Session.is

pub returns-in_ok-note_at-in-Process : goal.returns-in_ok-note_at-in-Process
returns-in_ok-note_at-in-Process c = λ older h.
    site_noted older c.args.sites.now c.note_at.new.sites c.args.entry.now c.in-Process.site c.in-Process.is h
    (c.in_ok-note_at-in-Process.ensures.here older h) c.in_ok-note_at-in-Process.ensures.others
