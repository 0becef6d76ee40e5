use Rattle.std.proofs.Common.{List, ap, ◌∙◌}
use Rattle.std.specs.Prelude.{reverse}
use Rattle.tp_base.specs.declared.names.CommandId.{CommandId}
use Rattle.tp_rules.specs.Outcome.{executed_by, once_at_end}
use Rattle.tp_print.proofs.outcome.Outcome.note.Goals as goal

pub returns : goal.returns
returns c = λ h. record {
  sites = c.in_ok-note_site.ensures (reverse c.args.before.now) h.sites;
  line = c.in_ok-note_execution.ensures
      ∙ ap (λ (ids : List CommandId). once_at_end ids (executed_by c.args.entry.now.event)) h.line;
  results = c.in_ok-note_delivery.ensures h.results;
}
