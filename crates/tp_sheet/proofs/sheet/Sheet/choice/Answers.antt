use Rattle.std.proofs.Common.{ℕ, List, length, refl, ap, ◌∙◌, arith}
use Rattle.tp_quorum.specs.Choice.{present}
use Rattle.tp_sheet.proofs.Tables.{chosen, present-front}
use Rattle.tp_sheet.specs.SiteSheet.{SiteSheet}
use Rattle.tp_topology.specs.Shape.{fast_size}
use Rattle.tp_sheet.proofs.sheet.Sheet.choice.Goals as goal

pub choice-requires : goal.choice-requires
choice-requires c =
    let front = present-front c.self.inside.topology.replicas c.self.inside.gathered c.self.invariant.gathered in
    let seen = ap (λ (kept : SiteSheet). length (present kept.sheet.acknowledged)) c.self.view_is in
    let all = ap (λ (stamps : List ℕ). length stamps) front in
    omega (arith, all, seen, c.gathered.ensures, c.fast_size.ensures, c.if-gathered-fast_size.false)

pub returns : goal.returns
returns c =
    let front = present-front c.self.inside.topology.replicas c.self.inside.gathered c.self.invariant.gathered in
    let shape = ap (λ (kept : SiteSheet). kept.shape) c.self.view_is in
    let gathered = front ∙ ap (λ (kept : SiteSheet). present kept.sheet.acknowledged) c.self.view_is in
    let size = ap (λ (kept : SiteSheet). fast_size kept.shape) c.self.view_is in
    chosen c.args.self.now.shape c.args.self.now.sheet c.choice.result
    (omega (arith, size, c.gathered.ensures, c.fast_size.ensures, c.if-gathered-fast_size.false))
    (c.choice.ensures ∙ rw (shape, gathered) refl)
