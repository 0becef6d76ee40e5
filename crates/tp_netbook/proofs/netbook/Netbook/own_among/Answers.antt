use Rattle.std.proofs.Common.{◌≡◌, ◌+◌, ◌<◌, ℕ, get_or, List, Option, Some, None, length, min, sym, ap, ◌∙◌, arith}
use Rattle.std.proofs.lemmas.Option.{slice_get-get_or}
use Rattle.std.proofs.lemmas.Slice.Zip.{length-zip}
use Rattle.std.specs.List.{zip}
use Rattle.std.specs.Prelude.{slice_get}
use Rattle.tp_base.specs.declared.names.ActorName.{ActorName}
use Rattle.tp_netbook.proofs.Parts.{kept_end, kept_from, kept_here, kept_later, kept_none, zip_at}
use Rattle.tp_netbook.specs.Netbook.{own_item}
use Rattle.tp_netbook.proofs.netbook.Netbook.own_among.Goals as goal
use Rattle.tp_netbook.proofs.netbook.Netbook.own_among.Goals.{in-Some+else-left-eq0, in_default}
use Rattle.tp_rules.specs.declared.event.Inner.{Inner}

-- the actor and its step at a place
beside : (actors : List ActorName) (next : List (Option Inner)) (k end : ℕ) (a : ActorName) (d : Option Inner) → k < end → end ≡ min (length actors) (length next)
    → a ≡ get_or actors k a → slice_get (zip actors next) k ≡ Some (a, get_or next k d)
beside actors next k end a d lt least is =
    zip_at actors next k a _ (slice_get-get_or actors k a (omega arith) ∙ ap (λ (x : ActorName). Some x) (sym is)) (slice_get-get_or next k d (omega arith))

pub returns-then-left-eq0 : goal.returns-then-left-eq0
returns-then-left-eq0 c =
    let at = beside c.args.self.now.roster.items c.args.next.now c.loop-k.k c.min-k-end.result c.index.result.now None c.loop-k-test.true (omega (arith, c.min-k-end.ensures, c.len.ensures)) c.index.ensures in
    sym (c.loop-k.invariant ∙ kept_here (own_item c.args.self.now) (zip c.args.self.now.roster.items c.args.next.now) c.loop-k.k c.loop-k.left _ c.in-Some.item at
    (sym c.own_item.ensures ∙ c.in-Some.is) c.if-left-eq0.true)

pub loop-k-preserved : goal.loop-k-preserved
loop-k-preserved c =
    let at = beside c.args.self.now.roster.items c.args.next.now c.loop-k.k c.min-k-end.result c.index.result.now None c.loop-k-test.true (omega (arith, c.min-k-end.ensures, c.len.ensures)) c.index.ensures in
    elim c.match-own_item.branch [
      | in-Some+else-left-eq0 w ↦
          c.loop-k.invariant ∙ kept_later (own_item c.args.self.now) (zip c.args.self.now.roster.items c.args.next.now) c.loop-k.k c.loop-k.left _ w.in-Some.item at
          (sym c.own_item.ensures ∙ w.in-Some.is) w.if-left-eq0.false
          ∙ ap (λ (n : ℕ). slice_get (kept_from (own_item c.args.self.now) (zip c.args.self.now.roster.items c.args.next.now) (c.loop-k.k + 1)) n) (sym w.left-is)
      | in_default w ↦
          c.loop-k.invariant ∙ kept_none (own_item c.args.self.now) (zip c.args.self.now.roster.items c.args.next.now) c.loop-k.k c.loop-k.left _ at (sym c.own_item.ensures ∙ w.in_default.is)
          ∙ ap (λ (n : ℕ). slice_get (kept_from (own_item c.args.self.now) (zip c.args.self.now.roster.items c.args.next.now) (c.loop-k.k + 1)) n) (sym w.left-is)
    ]

pub returns : goal.returns
returns c =
    sym (c.loop-k.invariant ∙ kept_end (own_item c.args.self.now) (zip c.args.self.now.roster.items c.args.next.now) c.loop-k.k c.loop-k.left
    (omega (arith, length-zip c.args.self.now.roster.items c.args.next.now, c.loop-k-test.false, c.min-k-end.ensures, c.len.ensures)))
