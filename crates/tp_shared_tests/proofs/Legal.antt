-- The first entries of the small script are legal.
use Rattle.std.proofs.Common.{◌≡◌, ◌≤◌, ◌+◌, ℕ, inl, inr, List, [], ◌∷◌, ◌++◌, Option, Some, None, true, length, option_map, slice_get, filter_map, refl, sym, ap, subst, ◌∙◌}
use Rattle.std.specs.Prelude.{position}
use Rattle.tp_base.proofs.Members.{has_in}
use Rattle.tp_base.proofs.SameNames.{same_name_is}
use Rattle.tp_base.specs.Lists.{IsPrefixOf, has}
use Rattle.tp_base.specs.Names.{same_name}
use Rattle.tp_base.specs.declared.names.ActorName.{ActorName}
use Rattle.tp_journal.specs.Entered.{is_crash_of}
use Rattle.std.proofs.lemmas.Bool.{and_from, le-leb}
use Rattle.tp_base.specs.Limits.{is_from}
use Rattle.tp_base.specs.declared.names.ActorName.TheVariants.{Process, Executor}
use Rattle.tp_base.specs.declared.names.Rank.{Rank}
use Rattle.tp_rules.specs.Acts.{Did, Identity}
use Rattle.tp_rules.specs.Plan.{asked_of, by_time, due, if_due, plan_of}
use Rattle.tp_rules.specs.Rules.{enabled, outputs_of}
use Rattle.tp_rules.specs.Runs.{FollowsLine, IsRun}
use Rattle.tp_rules.specs.declared.event.Entry.{Entry}
use Rattle.tp_rules.specs.declared.event.Event.{Event}
use Rattle.tp_rules.specs.declared.event.Event.TheVariants.{Inner as OfItself}
use Rattle.tp_rules.specs.declared.event.Inner.{Inner}
use Rattle.tp_rules.specs.declared.event.Inner.TheVariants.{Crash, Submit}
use Rattle.tp_script.specs.declared.script.PlanLine.{PlanLine}
use Rattle.tp_script.specs.declared.script.Script.{Script}
use Rattle.tp_session.specs.States.{identity}
use Rattle.tp_session.specs.declared.session.Session.{Session}
use Rattle.tp_shared.proofs.Crashes.{crash_stays, found_later, found_still}
use Rattle.tp_shared.proofs.Legality.{may_later}
use Rattle.tp_shared.specs.Histories.{MayFollow, after, crash_of, entries_by}
use Rattle.tp_shared.specs.Known.{AllJoined, Known, Told, crash_in, entry_of, holding, joined, listed_too, name_of}
use Rattle.tp_shared.specs.Rule.{KeepsListOf, Made}
use Rattle.tp_shared.specs.Steps.{keeping}
use Rattle.tp_shared.specs.declared.view.Start.{Start}
use Rattle.tp_shared_tests.specs.Small.{HasCrashed, IsFresh, IsNew, IsSmall, session_name, site}
use Rattle.tp_topology.specs.Shape.{Shape, is_site_of}
use Rattle.tp_wire.specs.declared.message.Message.{Message}

pub submit_may : (script : Script) (n number : ℕ) (outputs : List Message) (session : Session) → IsSmall script → 1 ≤ n → n ≤ 2 → IsNew script n session
    → Some (Submit number) ≡ enabled (identity session) [] → outputs ≡ outputs_of (identity session) [] (Did (Submit number))
    → MayFollow script [] (record { actor = session_name n; event = OfItself (Submit number); outputs = outputs })
unfolding MayFollow
submit_may script n number outputs session small low high new may sends = record {
  rules = record {
    known = ap (λ (l : List Rank). is_from 1 (length l) n) small.homes ∙ and_from _ _ (le-leb 1 n low) (le-leb n 2 high);
    live = refl;
    may = sym (may ∙ ap (λ (i : Identity). enabled i []) new.identity);
    outputs = sends ∙ ap (λ (i : Identity). outputs_of i [] (Did (Submit number))) new.identity;
  };
  plan = record { line = refl; fate = tt };
}

line_due : (script : Script) → IsSmall script → due script [] site ≡ Some Crash
unfolding due plan_of
line_due script small = ap (λ (l : List PlanLine). if_due 0 (slice_get (by_time (filter_map (asked_of site) l)) 0)) small.plan

pub crash_may : (script : Script) → IsSmall script → MayFollow script [] (record { actor = Process site; event = OfItself Crash; outputs = [] })
unfolding MayFollow
crash_may script small = record {
  rules = record {
    known = ap (λ (s : Shape). is_site_of s site) small.topology;
    live = refl;
    may = tt;
    outputs = refl;
  };
  plan = record { line = subst (λ (o : Option Inner). FollowsLine o (OfItself Crash)) (sym (line_due script small)) refl; fate = tt };
}

-- what may be a desk's first entry may be that, whatever others entered since
pub legal_now : (script : Script) (name : ActorName) (event : Event) (outputs : List Message) (old new : Known) → IsFresh script name old
    → new ≡ holding old new.seen → IsRun old.opening.script new.seen → Told new → MayFollow script [] (record { actor = name; event = event; outputs = outputs })
    → crash_in new.actor new.seen ≡ None → MayFollow new.opening.script new.seen (entry_of new event outputs)
legal_now script name event outputs old new fresh held run told may none =
    let opening : new.opening ≡ record { script = script; journal = [] } = ap (λ (k : Known). k.opening) held ∙ fresh.opening in
    let actor : new.actor ≡ Some name = ap (λ (k : Known). k.actor) held ∙ fresh.actor in
    let own : new.own ≡ [] = ap (λ (k : Known). k.own) held ∙ fresh.own in
    let run_of : IsRun script new.seen = subst (λ (o : Start). IsRun o.script new.seen) fresh.opening run in
    let mine : entries_by name new.seen ≡ [] =
    sym (told.own_is name actor ∙ ap (λ (o : Start). entries_by name (after o.journal new.seen)) opening) ∙ own in
    let alive : crash_of name new.seen ≡ None = ap (λ (o : Option ActorName). crash_in o new.seen) (sym actor) ∙ none in
    let e : Entry = record { actor = name; event = event; outputs = outputs } in
    let later : MayFollow script new.seen e = may_later script [] new.seen e run_of (new.seen, refl) mine alive may in
    subst (λ (p : Start × Option ActorName). MayFollow p.0.script new.seen (record { actor = name_of p.1; event = event; outputs = outputs }))
    (λ i. (sym opening i, sym actor i)) later

-- a crash is seen

pub still_crashed : (xs ys : List Entry) → HasCrashed xs → IsPrefixOf xs ys → HasCrashed ys
still_crashed xs ys h more =
    (h.0, subst (λ (l : List Entry). crash_of (Executor site) l ≡ Some h.0) more.1 (crash_stays (Some (Executor site)) xs more.0 h.0 h.1))

crash_at : (xs : List Entry) (outputs : List Message) → HasCrashed (xs ++ record { actor = Process site; event = OfItself Crash; outputs = outputs } ∷ [])
crash_at xs outputs = by (position (is_crash_of site) xs) refl
  where
    by : (o : Option ℕ) → position (is_crash_of site) xs ≡ o → HasCrashed (xs ++ record { actor = Process site; event = OfItself Crash; outputs = outputs } ∷ [])
    by (Some i) is = (i + 1, ap (option_map (λ n. n + 1)) (found_still (is_crash_of site) xs (record { actor = Process site; event = OfItself Crash; outputs = outputs } ∷ []) i is))
    by None is = (length xs + 0 + 1, ap (option_map (λ n. n + 1)) (found_later (is_crash_of site) xs (record { actor = Process site; event = OfItself Crash; outputs = outputs } ∷ []) is))

pub crash_entered : (xs : List Entry) (name : ActorName) (outputs : List Message) → name ≡ Process site
    → HasCrashed (xs ++ record { actor = name; event = OfItself Crash; outputs = outputs } ∷ [])
crash_entered xs name outputs is = subst (λ (n : ActorName). HasCrashed (xs ++ record { actor = n; event = OfItself Crash; outputs = outputs } ∷ [])) (sym is) (crash_at xs outputs)

-- all that were listed are kept
both_joined : (a b : ActorName) (xs ys : List Entry) (x : ActorName) → has same_name x (b ∷ a ∷ []) ≡ true → KeepsListOf ((a, xs) ∷ (b, ys) ∷ []) x
both_joined a b xs ys x h = elim (has_in same_name same_name_is x (b ∷ a ∷ []) h) [
  | inl is ↦ subst (KeepsListOf ((a, xs) ∷ (b, ys) ∷ [])) (sym is) (ys, inr (inl refl))
  | inr rest ↦ elim rest [
    | inl is ↦ subst (KeepsListOf ((a, xs) ∷ (b, ys) ∷ [])) (sym is) (xs, inl refl)
    | inr none ↦ absurd none
  ]
]

all_kept : (h : Known) (a b : ActorName) (xs ys : List Entry) → h.listed ≡ b ∷ a ∷ [] → h.kept ≡ (a, xs) ∷ (b, ys) ∷ [] → AllJoined h
all_kept h a b xs ys listed kept = λ x is.
    subst (λ (l : List Made). KeepsListOf l x) (sym kept) (both_joined a b xs ys x (subst (λ (l : List ActorName). has same_name x l ≡ true) listed is))

-- two desks were split off a new one, and joined

pub joined_after : (start first second one two held left right : Known) (seen : List Entry) (a b : ActorName) → start.listed ≡ [] → start.kept ≡ []
    → first ≡ listed_too start a → second ≡ listed_too first b → one ≡ joined second left → two ≡ joined one right → held ≡ holding two seen
    → left.actor ≡ Some a → right.actor ≡ Some b → AllJoined held
joined_after start first second one two held left right seen a b none nothing e f g h i la rb =
    all_kept held a b left.own right.own
    (ap (λ (k : Known). k.listed) i ∙ ap (λ (k : Known). k.listed) h ∙ ap (λ (k : Known). k.listed) g ∙ ap (λ (k : Known). k.listed) f
    ∙ ap (λ (k : Known). b ∷ k.listed) e ∙ ap (λ (l : List ActorName). b ∷ a ∷ l) none)
    (ap (λ (k : Known). k.kept) i ∙ ap (λ (k : Known). k.kept) h ∙ ap (λ (k : Known). keeping k.kept right.actor right.own) g
    ∙ ap (λ (l : List Made). keeping (keeping l left.actor left.own) right.actor right.own) (ap (λ (k : Known). k.kept) f ∙ ap (λ (k : Known). k.kept) e ∙ nothing)
    ∙ (λ j. keeping (keeping [] (la j) left.own) (rb j) right.own))

pub joined_between : (start first second one two held left right : Known) (seen : List Entry) (a b : ActorName) → start.listed ≡ [] → start.kept ≡ []
    → first ≡ listed_too start a → one ≡ joined first left → second ≡ listed_too one b → two ≡ joined second right → held ≡ holding two seen
    → left.actor ≡ Some a → right.actor ≡ Some b → AllJoined held
joined_between start first second one two held left right seen a b none nothing e g f h i la rb =
    all_kept held a b left.own right.own
    (ap (λ (k : Known). k.listed) i ∙ ap (λ (k : Known). k.listed) h ∙ ap (λ (k : Known). k.listed) f ∙ ap (λ (k : Known). b ∷ k.listed) g
    ∙ ap (λ (k : Known). b ∷ k.listed) e ∙ ap (λ (l : List ActorName). b ∷ a ∷ l) none)
    (ap (λ (k : Known). k.kept) i ∙ ap (λ (k : Known). k.kept) h ∙ ap (λ (k : Known). keeping k.kept right.actor right.own) f
    ∙ ap (λ (k : Known). keeping k.kept right.actor right.own) g
    ∙ ap (λ (l : List Made). keeping (keeping l left.actor left.own) right.actor right.own) (ap (λ (k : Known). k.kept) e ∙ nothing)
    ∙ (λ j. keeping (keeping [] (la j) left.own) (rb j) right.own))
