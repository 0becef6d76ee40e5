use Rattle.std.proofs.Common.{◌≡◌, ◌++◌, ◌∷◌, ◌+◌, [], ℕ, List, take, sym, ap, subst, ◌∙◌, arith, rules}
use Rattle.std.proofs.lemmas.List.{take_all}
use Rattle.tp_netbook.proofs.Ledgers.{sends_next, sends_none}
use Rattle.tp_netbook.proofs.Counting.{item_there, numbered_next}
use Rattle.tp_netbook.specs.Ledger.{KeepsPlan, Sends}
use Rattle.tp_netbook.proofs.ledger.Ledger.send.Goals as goal
use Rattle.tp_rules.proofs.sent.Parcels.{parcel}
use Rattle.tp_rules.specs.Journal.{numbered}
use Rattle.tp_rules.specs.declared.event.Parcel.{Parcel}
use Rattle.tp_wire.specs.declared.message.Message.{Message}

pub loop-i-init : goal.loop-i-init
loop-i-init c = record { sends = sends_none c.args.self.now; rest = search rules }

pub loop-i-preserved : goal.loop-i-preserved
loop-i-preserved c =
    let n : ℕ = c.args.self.now.entries in
    let m : Message = c.index-as_slice-i.result in
    let at = item_there c.args.outputs.now c.as_slice.result.now c.loop-i.i m c.as_slice.ensures c.index-as_slice-i.is _ c.loop-i-test.true c.len-i-end.ensures.count in
    let keeps : KeepsPlan c.args.self.now c.loop-i.self = c.loop-i.invariant.rest in
    let kept : KeepsPlan c.loop-i.self c.send_one.new.self = c.in_ok-send_one.ensures.rest in
    let place : 1 + c.loop-i.i ≡ c.loop-i.i + 1 = omega arith in
    let longer : numbered n 1 (take (c.loop-i.i + 1) c.args.outputs.now) ≡ numbered n 1 (take c.loop-i.i c.args.outputs.now) ++ parcel n (c.loop-i.i + 1) m ∷ [] =
    numbered_next n 1 c.loop-i.i c.args.outputs.now m at ∙ ap (λ (k : ℕ). numbered n 1 (take c.loop-i.i c.args.outputs.now) ++ parcel n k m ∷ []) place in
    let one : Sends (parcel n (c.loop-i.i + 1) m ∷ []) c.loop-i.self c.send_one.new.self =
    subst (λ (k : ℕ). Sends (parcel k (c.loop-i.i + 1) m ∷ []) c.loop-i.self c.send_one.new.self) keeps.entries c.in_ok-send_one.ensures.sends in
    record {
      sends = subst (λ (ps : List Parcel). Sends ps c.args.self.now c.send_one.new.self) (sym longer)
          (sends_next (numbered n 1 (take c.loop-i.i c.args.outputs.now)) (parcel n (c.loop-i.i + 1) m) c.args.self.now c.loop-i.self c.send_one.new.self
          c.loop-i.invariant.sends keeps one);
      rest = record {
        topology = kept.topology ∙ keeps.topology;
        sites = kept.sites ∙ keeps.sites;
        fates = kept.fates ∙ keeps.fates;
        entries = kept.entries ∙ keeps.entries;
      };
    }

pub returns : goal.returns
returns c = record {
  sends = subst (λ (ms : List Message). Sends (numbered c.args.self.now.entries 1 ms) c.args.self.now c.loop-i.self)
      (take_all c.loop-i.i c.args.outputs.now (omega (arith, c.loop-i-test.false, c.len-i-end.ensures.count))) c.loop-i.invariant.sends;
  rest = c.loop-i.invariant.rest;
}
