use Rattle.indexmap.specs.IndexMap.{get}
use Rattle.std.proofs.Common.{◌≡◌, ◌∷◌, Bool, Some, cond, sym, ap, subst, ◌∙◌}
use Rattle.tp_base.proofs.SameNames.{same_site_refl}
use Rattle.tp_base.specs.Names.{same_site}
use Rattle.tp_print.specs.Recorded.{IsKept, IsRecorded}
use Rattle.tp_print.proofs.sites.note_at.Goals as goal

pub returns-in_ok-note-clause-here : goal.returns-in_ok-note-clause-here
returns-in_ok-note-clause-here c = λ older h.
    let before : IsRecorded older c.args.site c.in-Some.record.now =
    subst (IsKept older c.args.site) (sym c.in-Some.ensures.value) (c.in_ok-open.ensures.recorded older h c.args.site)
    in
    let now : get same_site (c.get_mut.follows.lender c.note.new.self) c.args.site ≡ Some c.note.new.self =
    ((c.get_mut.follows.holds c.note.new.self).3 c.in_ok-open.ensures.here).0 c.args.site
    ∙ ap (λ (b : Bool). cond b (Some c.note.new.self) (get same_site c.open.new.sites c.args.site))
    (same_site_refl c.args.site) in
    subst (IsKept (c.args.entry.now ∷ older) c.args.site) (sym now) (c.in_ok-note.ensures older before)
