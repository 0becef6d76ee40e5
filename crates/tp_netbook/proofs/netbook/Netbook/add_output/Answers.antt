use Rattle.std.proofs.Common.{◌++◌, ◌∷◌, [], sym, ap, subst, ◌∙◌}
use Rattle.tp_netbook.proofs.Adding.{adds_one}
use Rattle.tp_fates.specs.Fates.{TellsNext}
use Rattle.tp_netbook.specs.Outputs.{packed}
use Rattle.tp_fates.specs.Routes.{route_of}
use Rattle.tp_netbook.specs.declared.output.Output.{Output}
use Rattle.tp_netbook.proofs.netbook.Netbook.add_output.Goals as goal
use Rattle.tp_rules.specs.declared.event.Parcel.{Parcel}

pub returns-clause-adds : goal.returns-clause-adds
returns-clause-adds c =
    let p : Parcel = record { entry = c.args.self.now.entries; place = c.args.place; message = c.args.message.now } in
    adds_one p c.args.self.now c.push.new.self c.in_ok-fate.fate
    (subst (λ routes. TellsNext c.args.self.now.fates c.args.self.now.routes routes (route_of p) c.in_ok-fate.fate) (sym c.in_ok-push.ensures.routes) c.in_ok-fate.ensures)
    (c.in_ok-push.ensures.outputs ∙ ap (λ (o : Output). c.args.self.now.outputs.items ++ packed o ∷ []) c.new.ensures)
