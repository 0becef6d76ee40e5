use Rattle.std.proofs.Common.{◌≡◌, ◌+◌, ◌<◌, ◌∷◌, ◌∙◌, List, length, drop, sym, ap, subst, arith}
use Rattle.std.proofs.lemmas.List.{drop_more}
use Rattle.tp_entry.specs.Journals.{IsJournal}
use Rattle.tp_entry.specs.Print.{body}
use Rattle.tp_entry.proofs.JournalLaws.{one_put}
use Rattle.tp_entry.proofs.printer.put_entries.Goals as goal
use Rattle.tp_rules.specs.declared.event.Entry.{Entry}
use Rattle.tp_text.specs.Writing.{Written, with_lines}

pub loop-entry-preserved : goal.loop-entry-preserved
loop-entry-preserved c =
    let entries : List Entry = c.args.entries.now in
    let entry : Entry = c.entry-item.result in
    let behind : List Entry = drop (c.loop-entry.entry-index + 1) entries in
    let text : Written = c.loop-entry.text in
    let total : Written = with_lines c.args.text.now (body entries) in
    let within : c.loop-entry.entry-index < length entries = omega (arith, c.loop-entry-test.true) in
    let parts : drop c.loop-entry.entry-index entries ≡ entry ∷ behind = drop_more entries c.loop-entry.entry-index entry within ∙ ap (λ (e : Entry). e ∷ behind) (sym c.entry-item.is) in
    let so_far = subst (λ (es : List Entry). with_lines text (body es) ≡ total) parts c.loop-entry.invariant.0 in
    (one_put text c.put_entry.new.text total entry behind c.in_ok-put_entry.ensures so_far, (subst IsJournal parts c.loop-entry.invariant.1).1)
