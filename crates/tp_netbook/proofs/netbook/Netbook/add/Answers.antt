use Rattle.std.proofs.Common.{◌≡◌, ◌++◌, ◌∷◌, ◌+◌, [], ℕ, List, take, refl, sym, ap, subst, ◌∙◌, arith, rules}
use Rattle.std.proofs.lemmas.List.{take_all}
use Rattle.tp_netbook.proofs.Adding.{adds_next, adds_none}
use Rattle.tp_netbook.proofs.Counting.{item_there, numbered_next}
use Rattle.tp_netbook.specs.Netbook.{Adds, KeepsMarks, KeepsRest}
use Rattle.tp_netbook.proofs.netbook.Netbook.add.Goals as goal
use Rattle.tp_rules.proofs.sent.Parcels.{parcel}
use Rattle.tp_rules.specs.Journal.{numbered}
use Rattle.tp_rules.specs.declared.event.Parcel.{Parcel}
use Rattle.tp_wire.specs.declared.message.Message.{Message}

pub loop-i-init : goal.loop-i-init
loop-i-init c = record {
  adds = adds_none c.args.self.now;
  marks = record { ready = λ are. are; listed = λ are. are; inboxes = refl };
  rest = search rules;
}

pub loop-i-preserved : goal.loop-i-preserved
loop-i-preserved c =
    let n : ℕ = c.args.self.now.entries in
    let m : Message = c.index-as_slice-i.result in
    let at = item_there c.args.outputs.now c.as_slice.result.now c.loop-i.i m c.as_slice.ensures c.index-as_slice-i.is _ c.loop-i-test.true c.len-i-end.ensures.count in
    let keeps : KeepsRest c.args.self.now c.loop-i.self = c.loop-i.invariant.rest in
    let kept : KeepsRest c.loop-i.self c.add_output.new.self = c.in_ok-add_output.ensures.rest in
    let marks : KeepsMarks c.args.self.now c.loop-i.self = c.loop-i.invariant.marks in
    let marked : KeepsMarks c.loop-i.self c.add_output.new.self = c.in_ok-add_output.ensures.marks in
    let place : 1 + c.loop-i.i ≡ c.loop-i.i + 1 = omega arith in
    let longer : numbered n 1 (take (c.loop-i.i + 1) c.args.outputs.now) ≡ numbered n 1 (take c.loop-i.i c.args.outputs.now) ++ parcel n (c.loop-i.i + 1) m ∷ [] =
    numbered_next n 1 c.loop-i.i c.args.outputs.now m at ∙ ap (λ (k : ℕ). numbered n 1 (take c.loop-i.i c.args.outputs.now) ++ parcel n k m ∷ []) place in
    let one : Adds (parcel n (c.loop-i.i + 1) m ∷ []) c.loop-i.self c.add_output.new.self =
    subst (λ (k : ℕ). Adds (parcel k (c.loop-i.i + 1) m ∷ []) c.loop-i.self c.add_output.new.self) keeps.entries c.in_ok-add_output.ensures.adds in
    record {
      adds = subst (λ (ps : List Parcel). Adds ps c.args.self.now c.add_output.new.self) (sym longer)
          (adds_next (numbered n 1 (take c.loop-i.i c.args.outputs.now)) (parcel n (c.loop-i.i + 1) m) c.args.self.now c.loop-i.self c.add_output.new.self
          c.loop-i.invariant.adds keeps one);
      marks = record {
        ready = λ are. marked.ready (marks.ready are);
        listed = λ are. marked.listed (marks.listed are);
        inboxes = marked.inboxes ∙ marks.inboxes;
      };
      rest = record {
        topology = kept.topology ∙ keeps.topology;
        sites = kept.sites ∙ keeps.sites;
        roster = kept.roster ∙ keeps.roster;
        fates = kept.fates ∙ keeps.fates;
        starts = kept.starts ∙ keeps.starts;
        due = kept.due ∙ keeps.due;
        all_free = kept.all_free ∙ keeps.all_free;
        entries = kept.entries ∙ keeps.entries;
      };
    }

pub returns : goal.returns
returns c = record {
  adds = subst (λ (ms : List Message). Adds (numbered c.args.self.now.entries 1 ms) c.args.self.now c.loop-i.self)
      (take_all c.loop-i.i c.args.outputs.now (omega (arith, c.loop-i-test.false, c.len-i-end.ensures.count))) c.loop-i.invariant.adds;
  marks = c.loop-i.invariant.marks;
  rest = c.loop-i.invariant.rest;
}
