-- The journal of one put is a run of its script, the one that the picks choose, and at its end nothing is pending.
use Rattle.std.proofs.Common.{◌≡◌, true, List, [], map, refl, subst}
use Rattle.std.specs.Prelude.{reverse}
use Rattle.tp_histories.proofs.OnePut.Journal.{one_put, one_put_journal}
use Rattle.tp_histories.proofs.Planned.{are_allowed, goes_on}
use Rattle.tp_histories.proofs.Played.{may_play, played}
use Rattle.tp_histories.proofs.Scheduled.{scheduled, scheduled_is_picked}
use Rattle.tp_histories.proofs.Words.{the_plan, the_rules}
use Rattle.tp_rules.specs.Pending.{IsPickedHistory, IsPickedRun, IsQuiet, item}
use Rattle.tp_rules.specs.Runs.{IsHistory, IsRun}
use Rattle.tp_rules.specs.declared.event.Item.{Item}

abbrev steps : List Item
steps = map (λ e. item e.actor e.event) one_put_journal

one_put_sends : played one_put steps ≡ reverse one_put_journal
unfolding the_rules
one_put_sends = refl

may : may_play one_put [] steps ≡ true
unfolding the_rules
may = refl

allowed : are_allowed one_put [] steps ≡ true
unfolding the_plan
allowed = refl

one_put_is_run : IsRun one_put one_put_journal
unfolding IsRun
one_put_is_run = subst (IsHistory one_put) one_put_sends (goes_on one_put [] steps tt may allowed)

one_put_is_scheduled : scheduled one_put 28 ≡ reverse one_put_journal
unfolding the_plan
one_put_is_scheduled = refl

one_put_is_picked : IsPickedRun one_put one_put_journal
unfolding IsPickedRun
one_put_is_picked = subst (IsPickedHistory one_put) one_put_is_scheduled (scheduled_is_picked one_put 28)

one_put_is_quiet : IsQuiet one_put one_put_journal
unfolding IsQuiet the_plan
one_put_is_quiet = refl
