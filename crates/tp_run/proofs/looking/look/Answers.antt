use Rattle.std.proofs.Common.{◌≡◌, ◌∙◌, Some, ap, inl, inr, refl, subst, sym, arith}
use Rattle.std.proofs.lemmas.Bool.{cases_lt}
use Rattle.std.proofs.lemmas.Option.{slice_get_read, slice_get_within}
use Rattle.std.specs.Prelude.{slice_get}
use Rattle.tp_base.proofs.Each.{each_of}
use Rattle.tp_base.proofs.Members.{get_in}
use Rattle.tp_entry.specs.Journals.{IsEntry}
use Rattle.tp_rules.proofs.lists.Selections.{each_get}
use Rattle.tp_rules.specs.declared.event.Entry.{Entry}
use Rattle.tp_run.proofs.looking.look.Goals as goal
use Rattle.tp_run.specs.Traces.{IsTraced}

same_entry : {a b : Entry} → Some a ≡ Some b → a ≡ b
same_entry e = cc

pub loop-entry-init : goal.loop-entry-init
loop-entry-init c = λ k e lt at. absurd (omega (arith, lt))

pub look_at-requires : goal.look_at-requires
look_at-requires c =
    each_get IsTraced c.args.entries.now c.loop-entry.entry-index c.entry-item.result c.requires
    (slice_get_read c.args.entries.now _ c.loop-entry.entry-index c.entry-item.result refl c.loop-entry-test.true c.entry-item.is)

pub loop-entry-preserved : goal.loop-entry-preserved
loop-entry-preserved c = λ k e lt at. elim (cases_lt k c.loop-entry.entry-index) [
  | inl before ↦ c.loop-entry.invariant k e before at
  | inr past ↦
      let here : k ≡ c.loop-entry.entry-index = omega (arith, lt, past) in
      let there = slice_get_read c.args.entries.now _ c.loop-entry.entry-index c.entry-item.result refl c.loop-entry-test.true c.entry-item.is in
      let same : c.entry-item.result ≡ e = same_entry (sym there ∙ ap (slice_get c.args.entries.now) (sym here) ∙ at) in
      subst IsEntry same c.look_at.ensures
]

pub returns : goal.returns
returns c = each_of IsEntry c.args.entries.now (λ e h.
    let at = get_in c.args.entries.now e h in
    let within = slice_get_within c.args.entries.now at.0 e at.1 in
    c.loop-entry.invariant at.0 e (omega (arith, within, c.loop-entry-test.false)) at.1)
