use Rattle.std.proofs.Common.{inr, List, refl, subst, ap, ◌∙◌, length}
use Rattle.tp_netbook.proofs.Marks.{none_ready}
use Rattle.tp_netbook.proofs.Turned.{none_listed}
use Rattle.tp_fates.specs.Fates.{AreFates}
use Rattle.tp_netbook.specs.Netbook.{are_free, due_items}
use Rattle.tp_netbook.specs.declared.watch.Watch.{Watch}
use Rattle.tp_netbook.specs.declared.netbook.Netbook.{Netbook}
use Rattle.tp_netbook.proofs.netbook.Netbook.new.Goals as goal

pub returns : goal.returns
returns c =
    let book : Netbook = record {
      topology = c.args.script.now.topology;
      sites = c.in_ok-watches.watches;
      roster = c.in_ok-roster.field-0;
      fates = c.in_ok-new.field-0;
      routes = c.new-2.result;
      outputs = c.new-3.result;
      starts = c.new-4.result;
      inboxes = c.in_ok-inboxes.field-0;
      ready = c.new-5.result;
      due = c.count_due.result;
      all_free = c.are_free.result;
      entries = 0;
    } in
    record {
      topology = refl;
      sites = c.in_ok-watches.ensures;
      roster = c.in_ok-roster.ensures;
      fates = subst (λ plan. AreFates plan c.in_ok-new.field-0) c.as_slice-3.ensures c.in_ok-new.ensures;
      routes = inr c.new-2.ensures;
      outputs = c.new-3.ensures.items;
      starts = c.new-4.ensures.items;
      inboxes = c.in_ok-inboxes.ensures ∙ ap length c.as_slice-4.ensures.value ∙ ap length c.in_ok-sites.ensures;
      listed = none_listed book c.new-3.ensures.items;
      ready = none_ready book c.new-3.ensures.items c.new-5.ensures;
      due = c.count_due.ensures ∙ ap (λ (l : List Watch). length (due_items l)) c.deref.ensures.value;
      all_free = c.are_free.ensures ∙ ap are_free c.deref-2.ensures.value;
      entries = refl;
    }
