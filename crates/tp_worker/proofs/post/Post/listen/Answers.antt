use Rattle.std.proofs.Common.{refl}
use Rattle.tp_worker.proofs.Holding.{post_heard}
use Rattle.tp_worker.proofs.post.Post.listen.Goals as goal

pub take-requires-clause-post : goal.take-requires-clause-post
take-requires-clause-post g c =
    post_heard c.args.self.now _ c.hold.new.self c.requires.post c.hold.ensures.held c.hold.ensures.grows refl c.release.ensures refl c.told.ensures refl
