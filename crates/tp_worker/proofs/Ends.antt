-- A cell's parts between calls: when it is made, when its desk has seen more, and when its actor's entry was made. Used by the
-- calls of a cell.
use Rattle.std.proofs.Common.{◌≡◌, ◌+◌, ◌*◌, ◌≤◌, ◌^◌, ◌&&◌, ℕ, Bool, true, false, List, [], ◌∷◌, ◌++◌, Option, Some, None, length, reverse, option_map, refl, sym, ap, subst, ◌∙◌, length-append, is_err, OnOk, Result, Ok, Err, arith}
use Rattle.std.specs.Prelude.{position}
use Rattle.tp_base.proofs.SameNames.{same_name_refl}
use Rattle.tp_base.specs.Names.{same_name}
use Rattle.tp_base.specs.declared.names.ActorName.{ActorName}
use Rattle.tp_base.specs.declared.names.ActorName.TheVariants.{Process, Executor, Session}
use Rattle.tp_base.specs.declared.names.Site.{Site}
use Rattle.tp_journal.specs.Entered.{first_crash, is_crash_of}
use Rattle.tp_netbook.specs.Inbox.{IsInbox}
use Rattle.tp_netbook.specs.Inbox.{entries_by as told_of}
use Rattle.tp_rules.specs.Acts.{Act, Identity}
use Rattle.tp_rules.specs.Journal.{act_of, is_crash, with_act}
use Rattle.tp_rules.specs.Runs.{MayHappen}
use Rattle.tp_rules.specs.declared.event.Entry.{Entry}
use Rattle.tp_rules.specs.declared.event.Event.{Event}
use Rattle.tp_rules.specs.declared.event.Event.TheVariants.{Deliver, Dropped, Inner as OfItself}
use Rattle.tp_rules.specs.declared.event.Inner.TheVariants.{Submit, Recover, Announce, Declare, Execute, Crash}
use Rattle.tp_script.specs.declared.script.Script.{Script}
use Rattle.tp_shared.proofs.Crashes.{found_later}
use Rattle.tp_shared.specs.Histories.{crash_of, entries_by}
use Rattle.tp_shared.specs.Known.{Known, Told, entry_of, name_of}
use Rattle.tp_wire.specs.declared.message.Message.{Message}
use Rattle.tp_worker.proofs.Holding.{named, own_told}
use Rattle.tp_worker.proofs.Since.{acts_stay, told_stays}
use Rattle.tp_worker.proofs.Steps.{up_to_next, up_to_still}
use Rattle.tp_worker.specs.Cells.{IsReady, IsUpTo}
use Rattle.tp_worker.specs.Posts.{HasEntered, HasSeen, HasWorked, IsEndedBy, IsPost, Keeps, MayOffer, given}
use Rattle.tp_worker.specs.declared.cell.CellState.{CellState}
use Rattle.tp_worker.specs.declared.cell.CellState.TheVariants.{Live, Crashed, Spent}
use Rattle.tp_worker.specs.declared.post.Post.{Post}

-- the first crash of a site, where it is the last entry

first_there : (s : Site) (before : List Entry) (e : Entry) → first_crash s before ≡ None → is_crash_of s e ≡ true → first_crash s (before ++ e ∷ []) ≡ Some (length before + 1)
first_there s before e none is =
    ap (option_map (λ i. i + 1)) (found_later (is_crash_of s) before (e ∷ []) (nowhere (position (is_crash_of s) before) none) ∙ ap (option_map (λ i. length before + i)) (at is))
    ∙ (let same : length before + 0 + 1 ≡ length before + 1 = omega arith in ap (λ (n : ℕ). Some n) same)
  where
    nowhere : (o : Option ℕ) → option_map (λ i. i + 1) o ≡ None → o ≡ None
    nowhere None h = refl
    nowhere (Some i) h = absurd cc

    at : is_crash_of s e ≡ true → position (is_crash_of s) (e ∷ []) ≡ Some 0
    at h = rw h refl

-- only a process may crash
crashed_there : (script : Script) (older : List Entry) (a : ActorName) (before : List Entry) (e : Entry) → e.actor ≡ a → MayHappen script older a e.event → is_crash e.event ≡ true
    → crash_of a before ≡ None → crash_of a (before ++ e ∷ []) ≡ Some (length before + 1)
crashed_there script older (Process s) before e is may crash none =
    first_there s before e none (let own : same_name e.actor (Process s) ≡ true = ap (λ (b : ActorName). same_name b (Process s)) is ∙ same_name_refl (Process s) in
    (λ i. own i && crash i))
crashed_there script older (Executor s) before e is may crash none = absurd (no e.event may crash)
  where
    no : (event : Event) → MayHappen script older (Executor s) event → is_crash event ≡ true → ⊥
    no (Deliver entry place) m h = absurd cc
    no (Dropped entry place) m h = absurd cc
    no (OfItself (Submit n)) m h = absurd cc
    no (OfItself (Recover id)) m h = absurd cc
    no (OfItself Announce) m h = absurd cc
    no (OfItself (Declare id)) m h = absurd cc
    no (OfItself (Execute id)) m h = absurd cc
    no (OfItself Crash) m h = m
crashed_there script older (Session s) before e is may crash none = absurd (no e.event may crash)
  where
    no : (event : Event) → MayHappen script older (Session s) event → is_crash event ≡ true → ⊥
    no (Deliver entry place) m h = absurd cc
    no (Dropped entry place) m h = absurd cc
    no (OfItself (Submit n)) m h = absurd cc
    no (OfItself (Recover id)) m h = absurd cc
    no (OfItself Announce) m h = absurd cc
    no (OfItself (Declare id)) m h = absurd cc
    no (OfItself (Execute id)) m h = absurd cc
    no (OfItself Crash) m h = m

live_is : (state : CellState) (entry : ℕ) → state ≡ Live → state ≡ Crashed entry → ⊥
live_is state entry live crashed = let both : Live ≡ Crashed entry = sym live ∙ crashed in absurd cc

pub when_ok : {X E P : Type 0} (r : Result X E) → OnOk r P → is_err r ≡ false → P
when_ok (Ok x) h e = h
when_ok (Err x) h e = absurd cc

module _ {A : Type 0} (identity_of : A → Identity) (is_spent : A → Bool) (stands : A → List Act → Type 0) where
  abbrev Holds : A → Post → CellState → Type 0
  Holds x post state = Keeps identity_of is_spent stands x post state

  abbrev UpTo : ActorName → Post → A → Type 0
  UpTo name p x = IsUpTo identity_of is_spent stands p.desk.opening.script p.desk.seen name x

  -- a new cell
  pub keeps_new : (name : ActorName) (x : A) (p : Post) → IsReady identity_of is_spent stands name x p.desk p.inbox → Told p.desk → p.fetched ≡ 0 → p.made ≡ 0 → Holds x p Live
  keeps_new name x p ready told fetched made =
      let k : Known = p.desk in
      let own : k.own ≡ entries_by name k.seen = own_told name k ready.desk told in
      let none : entries_by name k.seen ≡ [] = sym own ∙ ready.own in
      record {
        name = name;
        cell = record {
          desk = ready.desk;
          fetched = omega (arith, fetched);
          live = λ l. record {
            identity = ready.identity;
            unspent = ready.unspent;
            place = subst (stands x) (sym (acts_stay name [] k.seen (k.seen, refl) none)) ready.place;
          };
          crashed = λ entry bad. absurd cc;
        };
        made = made ∙ ap length (sym ready.own);
        live = λ l. record {
          desk = ready.desk;
          run = told.run;
          own = own;
          fetched = omega (arith, fetched);
          made = made ∙ ap length (sym ready.own);
          inbox = subst (λ (n : ℕ). IsInbox k.opening.script name (given name k n) (told_of name (reverse k.seen)) p.inbox) (sym fetched)
              (subst (λ (l : List Entry). IsInbox k.opening.script name [] l p.inbox) (sym (told_stays name [] k.seen (k.seen, refl) none)) ready.given);
          few = subst (λ (n : ℕ). length (given name k n) ≤ n * 2 ^ 63) (sym fetched) (omega arith);
        };
      }

  -- the desk has seen more
  pub keeps_heard : (x : A) (p q : Post) (state : CellState) → Holds x p state → state ≡ Live → HasSeen p q → IsPost (name_of p.desk.actor) q → Holds x q state
  keeps_heard x p q state keeps live seen postʹ =
      let name : ActorName = keeps.name in
      let old : IsPost name p = keeps.live live in
      let post : IsPost name q = subst (λ (n : ActorName). IsPost n q) (named name p.desk.actor old.desk.actor) postʹ in
      let same : entries_by name q.desk.seen ≡ entries_by name p.desk.seen = sym post.own ∙ ap (λ (k : Known). k.own) seen.same ∙ old.own in
      record {
        name = name;
        cell = record {
          desk = post.desk;
          fetched = post.fetched;
          live = λ l. subst (λ (s : Script). IsUpTo identity_of is_spent stands s q.desk.seen name x) (sym (ap (λ (k : Known). k.opening.script) seen.same))
              (up_to_still identity_of is_spent stands p.desk.opening.script name p.desk.seen q.desk.seen seen.seen same x (keeps.cell.live live));
          crashed = λ entry bad. absurd (live_is state entry live bad);
        };
        made = post.made;
        live = λ l. post;
      }

  -- an entry was made
  pub keeps_next : (x y : A) (p q : Post) (event : Event) (outputs : List Message) (state : CellState) → IsPost (name_of p.desk.actor) p → UpTo (name_of p.desk.actor) p x
      → MayOffer p.desk.opening.script (reverse p.desk.seen) (name_of p.desk.actor) event → identity_of y ≡ identity_of x → is_spent y ≡ false
      → ((acts : List Act) → stands x acts → stands y (with_act (act_of (reverse p.desk.seen) event) acts))
      → HasWorked p q → HasEntered (entry_of p.desk event outputs) p q → IsPost (name_of p.desk.actor) q → (number : ℕ) → number ≡ length q.desk.seen
      → IsEndedBy event number state → Holds y q state
  keeps_next x y p q event outputs state old up may identity unspent more worked it post number count ends = record {
    name = name;
    cell = record {
      desk = post.desk;
      fetched = post.fetched;
      live = λ l. subst (λ (k : Script × List Entry). IsUpTo identity_of is_spent stands k.0 k.1 name y)
          (λ i. (sym (ap (λ (k : Known). k.opening.script) worked.desk.same) i, sym it.seen i))
          (up_to_next identity_of is_spent stands p.desk.opening.script name p.desk.seen it.before it.grown it.others x y e up identity unspent refl may.may more);
      crashed = λ entry bad. by state entry bad ends;
    };
    made = post.made;
    live = λ l. post;
  }
    where
      name : ActorName
      name = name_of p.desk.actor

      e : Entry
      e = entry_of p.desk event outputs

      by : (s : CellState) (entry : ℕ) → s ≡ Crashed entry → IsEndedBy event number s → crash_of name q.desk.seen ≡ Some entry
      by Live entry bad ended = absurd cc
      by Spent entry bad ended = absurd cc
      by (Crashed n) entry bad ended =
          let same : n ≡ entry = cc in
          let long : length q.desk.seen ≡ length it.before + 1 = ap length it.seen ∙ length-append it.before (e ∷ []) in
          let is : length it.before + 1 ≡ entry = omega (arith, long, count, ended.1, same) in
          ap (crash_of name) it.seen ∙ crashed_there p.desk.opening.script (reverse p.desk.seen) name it.before e refl may.may ended.0 it.alive ∙ ap (λ (k : ℕ). Some k) is
