use Rattle.std.proofs.Common.{◌≡◌, ◌++◌, ◌∷◌, [], length, refl, ap, subst, ◌∙◌, arith}
use Rattle.tp_netbook.proofs.Marks.{ready_more}
use Rattle.tp_netbook.proofs.Turned.{listed_more}
use Rattle.tp_netbook.proofs.netbook.Netbook.push.Goals as goal
use Rattle.tp_netbook.specs.Netbook.{Lists}
use Rattle.tp_netbook.specs.Outputs.{packed}
use Rattle.tp_netbook.specs.declared.output.Output.{Output}
use Rattle.tp_netbook.specs.declared.netbook.Netbook.{Netbook}

pub returns-clause-marks : goal.returns-clause-marks
returns-clause-marks c =
    let new : Netbook = record c.args.self.now { outputs = c.push-2.new.self; inboxes = c.list.new.inboxes; ready = c.push.new.self } in
    let place : c.len-place.result ≡ length c.args.self.now.outputs.items = omega (arith, c.len-place.ensures) in
    let more : new.outputs.items ≡ c.args.self.now.outputs.items ++ packed c.args.output ∷ [] =
    c.in_ok-push-2.ensures.items ∙ ap (λ (o : Output). c.args.self.now.outputs.items ++ o ∷ []) c.new.ensures in
    record {
      ready = ready_more c.args.self.now new (packed c.args.output) c.is_ready-ready.result refl refl more c.is_ready-ready.ensures c.in_ok-push.ensures;
      listed = listed_more c.args.self.now new (packed c.args.output) c.listed_at-home.result more refl refl c.listed_at-home.ensures
          (subst (λ n. Lists c.listed_at-home.result n c.args.self.now.inboxes.items c.list.new.inboxes.items) place c.in_ok-list.ensures);
      inboxes = c.in_ok-list.ensures.0;
    }
