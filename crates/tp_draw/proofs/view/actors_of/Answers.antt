use Rattle.std.proofs.Common.{List, Some, length, refl, sym, ap, ◌∙◌}
use Rattle.std.proofs.lemmas.Option.{slice_get_read}
use Rattle.tp_base.specs.declared.names.ActorName.{ActorName}
use Rattle.tp_draw.proofs.Named.{actors_next, actors_stop}
use Rattle.tp_draw.specs.Words.{actor_of}
use Rattle.tp_draw.proofs.view.actors_of.Goals as goal

pub returns-in-None : goal.returns-in-None
returns-in-None c =
    let i = c.loop-word.word-index in
    sym (actors_stop c.args.words.now i c.word-item.result
    (slice_get_read c.args.words.now (length c.args.words.now) i c.word-item.result refl c.loop-word-test.true c.word-item.is)
    (sym (c.in-None.ensures ∙ ap actor_of c.as_bytes.ensures.value)))

pub loop-word-preserved : goal.loop-word-preserved
loop-word-preserved c =
    actors_next c.args.words.now c.loop-word.word-index c.word-item.result c.loop-word.actors.items c.in-Some.actor
    c.loop-word-test.true c.word-item.is c.loop-word.invariant (sym (c.in-Some.ensures ∙ ap actor_of c.as_bytes.ensures.value))
    ∙ ap (λ (l : List ActorName). Some l) (sym c.in_ok-push-in-Some.ensures.items)
