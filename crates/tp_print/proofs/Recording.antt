-- The record of a site goes on with each entry of a journal.
use Rattle.std.proofs.Common.{◌≡◌, ℕ, ◌<◌, ◌+◌, Bool, true, false, cond, ◌||◌, ◌&&◌, List, [], ◌∷◌, ◌++◌, length, get_or, take, Option, Some, refl, sym, ap, subst, ◌∙◌}
use Rattle.std.specs.Option.{option_or}
use Rattle.std.specs.Prelude.{codes, map, reverse, unwrap_or}
use Rattle.std.proofs.lemmas.List.{take_more}
use Rattle.indexmap.specs.IndexMap.{get}
use Rattle.tp_base.proofs.Ends.{reverse_push}
use Rattle.tp_base.specs.Names.{same_id, same_name}
use Rattle.tp_base.specs.declared.names.ActorName.{ActorName}
use Rattle.tp_base.specs.declared.names.ActorName.TheVariants.{Process, Executor, Session}
use Rattle.tp_base.specs.declared.names.CommandId.{CommandId}
use Rattle.tp_base.specs.declared.names.Site.{Site}
use Rattle.tp_print.proofs.Commits.{first_stamp_entry, sent_of_others, sent_of_process}
use Rattle.tp_print.proofs.KeptFirst.{option_or_none}
use Rattle.tp_print.specs.Recorded.{AreMore, IsRecorded, commits_at, commits_sent, first_stamp, recorded_words}
use Rattle.tp_print.specs.Report.{crashed_words, executed_words, order_line, stamp_at, stamped_word, text_line}
use Rattle.tp_print.specs.declared.site.SiteRecord.{SiteRecord}
use Rattle.tp_rules.specs.Journal.{is_crash, has_crashed}
use Rattle.tp_rules.specs.Outcome.{Commit, at_end, executed_by, executions, stamp_in}
use Rattle.tp_rules.specs.declared.event.Entry.{Entry}
use Rattle.tp_text.specs.Names.{site_word}

-- a name is that of one actor
process_only : (s : Site) (a : ActorName) → same_name a (Process s) ≡ true → same_name a (Executor s) ≡ false
process_only s (Process q) e = refl
process_only s (Executor q) e = absurd cc
process_only s (Session q) e = absurd cc

stamps_same : (older : List Entry) (s : Site) (e : Entry) (id : CommandId) → same_name e.actor (Process s) ≡ false
    → first_stamp (commits_at older s) id ≡ first_stamp (commits_at (e ∷ older) s) id
stamps_same older s e id other =
    sym (first_stamp_entry older s e id
    ∙ ap (λ (cs : List Commit). option_or (first_stamp (commits_at older s) id) (first_stamp cs id))
    (sent_of_others s e.actor e.outputs other)
    ∙ option_or_none (first_stamp (commits_at older s) id))

crashed_same : (older : List Entry) (s : Site) (e : Entry) → same_name e.actor (Process s) ≡ false
    → has_crashed older s ≡ has_crashed (e ∷ older) s
crashed_same older s e other = ap (λ (b : Bool). (b && is_crash e.event) || has_crashed older s) (sym other)

executed_same : (older : List Entry) (s : Site) (e : Entry) → same_name e.actor (Executor s) ≡ false
    → executions older s ≡ executions (e ∷ older) s
executed_same older s e other =
    ap (λ (b : Bool). cond b (at_end (executions older s) (executed_by e.event)) (executions older s)) (sym other)

-- an entry of the site's process
pub process_noted : (older : List Entry) (s : Site) (e : Entry) (old new : SiteRecord) → IsRecorded older s old
    → same_name e.actor (Process s) ≡ true
    → new.executed ≡ old.executed → AreMore old.stamps (λ q. commits_sent q e.outputs) new.stamps
    → new.crashed ≡ (is_crash e.event || old.crashed)
    → IsRecorded (e ∷ older) s new
process_noted older s e old new h is executed more crashed = record {
  executed = ap (λ v. v.items) executed ∙ h.executed ∙ executed_same older s e (process_only s e.actor is);
  stamps = λ id. more s id
      ∙ ap (λ (o : Option ℕ). option_or o (first_stamp (commits_sent s e.outputs) id)) (h.stamps id)
      ∙ ap (λ (cs : List Commit). option_or (first_stamp (commits_at older s) id) (first_stamp cs id))
      (sym (sent_of_process s e.actor e.outputs is))
      ∙ sym (first_stamp_entry older s e id);
  crashed = crashed ∙ ap (λ (b : Bool). is_crash e.event || b) h.crashed
      ∙ ap (λ (b : Bool). (b && is_crash e.event) || has_crashed older s) (sym is);
}

-- an entry of the site's executor
pub executor_noted : (older : List Entry) (s : Site) (e : Entry) (old new : SiteRecord) → IsRecorded older s old
    → same_name e.actor (Process s) ≡ false → same_name e.actor (Executor s) ≡ true
    → new.executed.items ≡ at_end old.executed.items (executed_by e.event) → new.stamps ≡ old.stamps
    → new.crashed ≡ old.crashed
    → IsRecorded (e ∷ older) s new
executor_noted older s e old new h other is executed stamps crashed = record {
  executed = executed ∙ ap (λ (ids : List CommandId). at_end ids (executed_by e.event)) h.executed
      ∙ ap (λ (b : Bool). cond b (at_end (executions older s) (executed_by e.event)) (executions older s)) (sym is);
  stamps = λ id. ap (λ m. get same_id m id) stamps ∙ h.stamps id ∙ stamps_same older s e id other;
  crashed = crashed ∙ h.crashed ∙ crashed_same older s e other;
}

-- an entry of another actor
pub other_noted : (older : List Entry) (s : Site) (e : Entry) (r : SiteRecord) → IsRecorded older s r
    → same_name e.actor (Process s) ≡ false → same_name e.actor (Executor s) ≡ false → IsRecorded (e ∷ older) s r
other_noted older s e r h process executor = record {
  executed = h.executed ∙ executed_same older s e executor;
  stamps = λ id. h.stamps id ∙ stamps_same older s e id process;
  crashed = h.crashed ∙ crashed_same older s e process;
}

-- a journal in its own order, by the number of its entries that are gone through
pub reverse_more : {X : Type 0} (P : List X → Type 0) (xs : List X) (i : ℕ) (d : X) → i < length xs
    → P (get_or xs i d ∷ reverse (take i xs)) → P (reverse (take (i + 1) xs))
reverse_more P xs i d lt h = subst P
    (sym (ap reverse (take_more xs i d lt) ∙ reverse_push (take i xs) (get_or xs i d))) h

stamp_in_is : (cs : List Commit) (id : CommandId) → unwrap_or (first_stamp cs id) 0 ≡ stamp_in cs id
stamp_in_is [] id = refl
stamp_in_is (c ∷ cs) id = by (same_id c.id id) (stamp_in_is cs id)
  where
    by : (b : Bool) → unwrap_or (first_stamp cs id) 0 ≡ stamp_in cs id
        → unwrap_or (cond b (Some c.stamp) (first_stamp cs id)) 0 ≡ cond b c.stamp (stamp_in cs id)
    by true rest = refl
    by false rest = rest

-- the line that is written of a site's record
pub order_line_is : (older : List Entry) (s : Site) (r : SiteRecord) → IsRecorded older s r
    → text_line (codes "order") (site_word s ∷ recorded_words r ++ crashed_words r.crashed) ≡ order_line older s
order_line_is older s r h =
    let stamp : (id : CommandId) → unwrap_or (get same_id r.stamps id) 0 ≡ stamp_at older s id =
    λ id. ap (λ (o : Option ℕ). unwrap_or o 0) (h.stamps id) ∙ stamp_in_is (commits_at older s) id in
    (λ j. text_line (codes "order")
    (site_word s ∷ map (λ id. stamped_word id (stamp id j)) r.executed.items ++ crashed_words r.crashed))
    ∙ ap (λ (ids : List CommandId). text_line (codes "order")
    (site_word s ∷ map (λ id. stamped_word id (stamp_at older s id)) ids ++ crashed_words r.crashed)) h.executed
    ∙ ap (λ (b : Bool). text_line (codes "order") (site_word s ∷ executed_words older s ++ crashed_words b)) h.crashed
