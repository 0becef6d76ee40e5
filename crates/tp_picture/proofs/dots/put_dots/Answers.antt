use Rattle.std.proofs.Common.{◌≡◌, ℕ, ◌+◌, ◌-◌, ◌++◌, List, length, refl, sym, ap, ◌∙◌, Option, Some, take, arith}
use Rattle.std.proofs.lemmas.Option.{slice_get_read}
use Rattle.std.specs.Prelude.{reverse, slice_get}
use Rattle.tp_base.specs.declared.names.CommandId.{CommandId}
use Rattle.tp_picture.proofs.Growing.{number_more}
use Rattle.tp_picture.proofs.Places.{line_next, nth_found}
use Rattle.tp_picture.specs.Scenes.{place}
use Rattle.tp_picture.specs.Shapes.{dots_at, entry_dots, first_in, line_before}
use Rattle.tp_rules.specs.Outcome.{executed_by, line}
use Rattle.tp_base.specs.Tables.{nth}
use Rattle.tp_rules.specs.declared.event.Entry.{Entry}
use Rattle.tp_picture.proofs.dots.put_dots.Goals as goal

pub loop-i-preserved : goal.loop-i-preserved
loop-i-preserved c =
    let scene = c.args.scene.now in
    let i = c.loop-i.i in
    let e = c.index-entries-i.result in
    let entries = c.entries-entries.result.now in
    let read : slice_get entries i ≡ Some e = slice_get_read entries (length entries) i e refl c.loop-i-test.true c.index-entries-i.is in
    let here : nth scene.journal (i + 1) ≡ Some e = nth_found scene.journal entries i e c.entries-entries.ensures read in
    let back : i + 1 - 1 ≡ i = omega arith in
    let before : c.loop-i.line.keys ≡ line_before scene (i + 1) =
    c.loop-i.invariant.line ∙ sym (ap (λ (k : ℕ). line (reverse (take k scene.journal))) back) in
    let first : c.executed_first-first.result ≡ first_in (line_before scene (i + 1)) (executed_by e.event) =
    c.executed_first-first.ensures ∙ ap (λ (ids : List CommandId). first_in ids (executed_by e.event)) before in
    record {
      shapes = number_more (λ n. entry_dots scene n (nth scene.journal n)) c.args.shapes.now.items c.loop-i.shapes.items c.put_dot.new.shapes.items i
          c.loop-i.invariant.shapes
          (c.in_ok-put_dot.ensures
          ∙ ap (λ (o : Option CommandId). c.loop-i.shapes.items ++ dots_at scene e o (place scene (i + 1))) first
          ∙ sym (ap (λ (o : Option Entry). c.loop-i.shapes.items ++ entry_dots scene (i + 1) o) here));
      line = line_next scene.journal entries i e c.loop-i.line.keys c.note_execution.new.line.keys c.entries-entries.ensures read
          c.loop-i.invariant.line c.in_ok-note_execution.ensures;
    }
