use Rattle.std.proofs.Common.{refl, arith}
use Rattle.tp_shared.specs.Known.{name_of}
use Rattle.tp_worker.proofs.Holding.{post_given}
use Rattle.tp_worker.proofs.post.Post.take.Goals as goal

pub returns-clause-post : goal.returns-clause-post
returns-clause-post c =
    post_given (name_of c.args.self.now.desk.actor) c.args.self.now _ c.args.parcels c.requires.post c.requires.parcels
    (omega (arith, c.len.ensures.count, c.len.ensures.small)) refl refl c.length-self.ensures
    (omega (arith, c.length-self.ensures, c.length-self.type_inv)) c.in_ok-take.ensures
