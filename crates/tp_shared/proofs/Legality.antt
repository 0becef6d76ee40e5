-- An entry that may follow a journal may follow a longer one to which its actor added nothing and in which its site lives:
-- legality rests on the actor's own entries and on outputs alone. The one fact about legality that a desk's user needs: the actor
-- runs without the turn, and its entry is entered with it.
use Rattle.std.proofs.Common.{◌≡◌, ◌<◌, ◌+◌, ◌&&◌, ℕ, suc, inl, inr, Bool, true, false, List, [], ◌∷◌, ◌++◌, Option, Some, None, ◌==◌, ◌||◌, not, filter, length, reverse, refl, sym, ap, subst, ◌∙◌, append_assoc, length-append, arith}
use Rattle.std.specs.Prelude.{option_map, position, slice_get}
use Rattle.tp_base.proofs.Members.{in_reversed}
use Rattle.std.proofs.lemmas.Bool.{cases_Bool, and_parts, cond-false, eqb-true, ne_eqb}
use Rattle.std.proofs.lemmas.List.{append-nil}
use Rattle.tp_base.proofs.Ends.{reverse_push, snoc_ind}
use Rattle.tp_base.proofs.SameNames.{same_name_refl}
use Rattle.tp_base.proofs.Tests.{none_pass}
use Rattle.tp_base.specs.Lists.{IsPrefixOf}
use Rattle.tp_base.specs.Names.{same_name}
use Rattle.tp_base.specs.declared.names.ActorName.{ActorName}
use Rattle.tp_base.specs.declared.names.ActorName.TheVariants.{Process, Executor, Session}
use Rattle.tp_base.specs.declared.names.Site.{Site}
use Rattle.tp_rules.proofs.ends.DeliveriesLeft.{deliveries_stay}
use Rattle.tp_rules.proofs.Journals.{acts_of_others}
use Rattle.tp_rules.proofs.sent.Parcels.{fate_stays, output_sent, parcel, sent_within}
use Rattle.tp_rules.proofs.lists.Tallies.{filter_no, filter_yes}
use Rattle.tp_rules.specs.Acts.{Act, Did, Took}
use Rattle.tp_rules.specs.Journal.{acts, has_crashed, identity_in, is_crash, is_delivery_of, is_live, is_loss_of, output_at}
use Rattle.tp_rules.specs.Plan.{deliveries_left, due, due_of, fate_of, if_due, is_planned, plan_of}
use Rattle.tp_rules.specs.Runs.{FollowsFate, FollowsLine, FollowsRules, IsFor, IsHistory, IsLegal, IsLost, IsRun, MayHappen, outputs_by, outputs_in}
use Rattle.tp_rules.specs.Rules.{MayMake, outputs_of}
use Rattle.tp_rules.specs.declared.event.Entry.{Entry}
use Rattle.tp_rules.specs.declared.event.Event.{Event}
use Rattle.tp_rules.specs.declared.event.Event.TheVariants.{Deliver, Dropped, Inner as OfItself}
use Rattle.tp_rules.specs.declared.event.Inner.{Inner}
use Rattle.tp_rules.specs.declared.event.Parcel.{Parcel}
use Rattle.tp_script.specs.declared.script.Script.{Script}
use Rattle.tp_wire.specs.declared.message.Message.{Message}
use Rattle.tp_journal.specs.Entered.{first_crash, is_crash_of}
use Rattle.tp_shared.specs.Histories.{MayFollow, crash_of, entries_by}
use Rattle.tp_shared.proofs.Crashes.{nowhere_passes}
use Rattle.tp_shared.proofs.Shown.{by_append, nothing_more}

-- one entry of another actor, the newest first

module _ (script : Script) (older : List Entry) (new : Entry) (a : ActorName) (other : same_name new.actor a ≡ false) (legal : FollowsRules script older new) where
  found_before : (entry place : ℕ) (m : Message) → output_at older entry place ≡ Some m → output_at (new ∷ older) entry place ≡ Some m
  found_before entry place m e =
      let within = sent_within older (parcel entry place m) (output_sent older entry place m e) in
      cond-false (entry == suc (length older)) _ _ (ne_eqb entry (suc (length older)) (λ same. omega (arith, within.1))) ∙ e

  -- the entry neither delivers nor loses an output to this actor
  not_its : (entry place : ℕ) (m : Message) → output_at older entry place ≡ Some m → m.to ≡ a →
      (is_delivery_of entry place new.event ≡ false) × (is_loss_of entry place new.event ≡ false)
  not_its entry place m e to = by new.event refl
    where
      wrong : (entryʹ placeʹ : ℕ) → IsFor new.actor (output_at older entryʹ placeʹ) → entryʹ ≡ entry → placeʹ ≡ place → ⊥
      wrong entryʹ placeʹ may i j =
          let there : output_at older entryʹ placeʹ ≡ Some m = ap (λ (n : ℕ). output_at older n placeʹ) i ∙ ap (output_at older entry) j ∙ e in
          let its : m.to ≡ new.actor = subst (IsFor new.actor) there may in
          let yes : same_name new.actor a ≡ true = ap (λ (n : ActorName). same_name n a) (sym its ∙ to) ∙ same_name_refl a in
          absurd cc

      at_both : (entryʹ placeʹ : ℕ) → IsFor new.actor (output_at older entryʹ placeʹ) → ((entryʹ == entry) && (placeʹ == place)) ≡ false
      at_both entryʹ placeʹ may = elim (cases_Bool ((entryʹ == entry) && (placeʹ == place))) [
        | inl t ↦
            let parts = and_parts (entryʹ == entry) (placeʹ == place) t in
            absurd (wrong entryʹ placeʹ may (eqb-true entryʹ entry parts.0) (eqb-true placeʹ place parts.1))
        | inr f ↦ f
      ]

      by : (event : Event) → new.event ≡ event → (is_delivery_of entry place new.event ≡ false) × (is_loss_of entry place new.event ≡ false)
      by (Deliver entryʹ placeʹ) is =
          let may = subst (MayHappen script older new.actor) is legal.may in
          (ap (is_delivery_of entry place) is ∙ at_both entryʹ placeʹ may, ap (is_loss_of entry place) is)
      by (Dropped entryʹ placeʹ) is =
          let may = subst (MayHappen script older new.actor) is legal.may in
          (ap (is_delivery_of entry place) is, ap (is_loss_of entry place) is ∙ at_both entryʹ placeʹ may)
      by (OfItself inner) is = (ap (is_delivery_of entry place) is, ap (is_loss_of entry place) is)

  same_acts : acts (new ∷ older) a ≡ acts older a
  same_acts = acts_of_others older new a other

  same_due : due_of script (new ∷ older) a ≡ due_of script older a
  unfolding due
  same_due = by a other
    where
      by : (b : ActorName) → same_name new.actor b ≡ false → due_of script (new ∷ older) b ≡ due_of script older b
      by (Process s) apart =
          ap (λ (l : List Entry). if_due (length l) (slice_get (plan_of script s) (length (filter (λ e. is_planned e.event) l))))
          (filter_no (λ (e : Entry). same_name e.actor (Process s)) new older apart)
      by (Executor s) apart = refl
      by (Session id) apart = refl

  -- what is so of an output to the actor

  same_message : (entry place : ℕ) (m mʹ : Message) → output_at older entry place ≡ Some m → output_at (new ∷ older) entry place ≡ Some mʹ → m ≡ mʹ
  same_message entry place m mʹ e f = let both : Some m ≡ Some mʹ = sym (found_before entry place m e) ∙ f in cc

  still_for : (entry place : ℕ) → IsFor a (output_at older entry place) → IsFor a (output_at (new ∷ older) entry place)
  still_for entry place h = by (output_at older entry place) refl h
    where
      by : (o : Option Message) → output_at older entry place ≡ o → IsFor a o → IsFor a (output_at (new ∷ older) entry place)
      by None is k = absurd k
      by (Some m) is k = subst (IsFor a) (sym (found_before entry place m is)) k

  abbrev at : ℕ → ℕ → Message → Parcel
  at entry place m = record { entry = entry; place = place; message = m }

  same_fate : (entry place : ℕ) (m : Message) → output_at older entry place ≡ Some m → fate_of script (new ∷ older) (at entry place m) ≡ fate_of script older (at entry place m)
  same_fate entry place m e = fate_stays script older new (at entry place m) (output_sent older entry place m e)

  same_left : (entry place : ℕ) (m : Message) → output_at older entry place ≡ Some m → m.to ≡ a
      → deliveries_left script (new ∷ older) (at entry place m) ≡ deliveries_left script older (at entry place m)
  same_left entry place m e to =
      let free = not_its entry place m e to in
      deliveries_stay script older new (at entry place m) (output_sent older entry place m e) free.0 free.1

  -- the message of an output to the actor
  its_output : (entry place : ℕ) → IsFor a (output_at older entry place) → (m : Message) × (output_at older entry place ≡ Some m) × (m.to ≡ a)
  its_output entry place h = by (output_at older entry place) refl h
    where
      by : (o : Option Message) → output_at older entry place ≡ o → IsFor a o → (m : Message) × (output_at older entry place ≡ Some m) × (m.to ≡ a)
      by None is k = absurd k
      by (Some m) is k = (m, is, k)

  same_outputs : (entry place : ℕ) (m : Message) → output_at older entry place ≡ Some m
      → outputs_in script (new ∷ older) a (Deliver entry place) ≡ outputs_in script older a (Deliver entry place)
  same_outputs entry place m e =
      ap (λ (o : Option Message). outputs_by script (new ∷ older) a (option_map Took o)) (found_before entry place m e)
      ∙ ap (λ (l : List Act). outputs_of (identity_in script a) l (Took m)) same_acts
      ∙ ap (λ (o : Option Message). outputs_by script older a (option_map Took o)) (sym e)

  -- what may be entered stays so by one entry more

  abbrev Stays : Event → Type 0
  Stays event = MayHappen script (new ∷ older) a event × FollowsFate script (new ∷ older) event
      × (outputs_in script (new ∷ older) a event ≡ outputs_in script older a event)

  stays : (event : Event) → MayHappen script older a event → FollowsFate script older event → Stays event
  stays (OfItself inner) may fate = (
    subst (λ (l : List Act). MayMake (identity_in script a) l inner) (sym same_acts) may,
    tt,
    ap (λ (l : List Act). outputs_of (identity_in script a) l (Did inner)) same_acts,
  )
  stays (Deliver entry place) may fate =
      let its = its_output entry place may in
      let m : Message = its.0 in
      let e : output_at older entry place ≡ Some m = its.1 in
      let old = fate m e in
      let here : (¬ IsLost (fate_of script (new ∷ older) (at entry place m))) × (0 < deliveries_left script (new ∷ older) (at entry place m)) = (
        (λ lost. old.0 (subst IsLost (same_fate entry place m e) lost)),
        subst (λ (n : ℕ). 0 < n) (sym (same_left entry place m e its.2)) old.1,
      ) in (
        still_for entry place may,
        (λ mʹ f. subst (λ (x : Message). (¬ IsLost (fate_of script (new ∷ older) (at entry place x))) × (0 < deliveries_left script (new ∷ older) (at entry place x)))
            (same_message entry place m mʹ e f) here),
        same_outputs entry place m e,
      )
  stays (Dropped entry place) may fate =
      let its = its_output entry place may in
      let m : Message = its.0 in
      let e : output_at older entry place ≡ Some m = its.1 in
      let old = fate m e in
      let here : IsLost (fate_of script (new ∷ older) (at entry place m)) × (0 < deliveries_left script (new ∷ older) (at entry place m)) = (
        subst IsLost (sym (same_fate entry place m e)) old.0,
        subst (λ (n : ℕ). 0 < n) (sym (same_left entry place m e its.2)) old.1,
      ) in (
        still_for entry place may,
        (λ mʹ f. subst (λ (x : Message). IsLost (fate_of script (new ∷ older) (at entry place x)) × (0 < deliveries_left script (new ∷ older) (at entry place x)))
            (same_message entry place m mʹ e f) here),
        refl,
      )

after_other : (script : Script) (older : List Entry) (new e : Entry) → same_name new.actor e.actor ≡ false → FollowsRules script older new
    → is_live (new ∷ older) e.actor ≡ true → IsLegal script older e → IsLegal script (new ∷ older) e
after_other script older new e other legal live was =
    let still = stays script older new e.actor other legal e.event was.rules.may was.plan.fate in
    record {
      rules = record { known = was.rules.known; live = live; may = still.0; outputs = was.rules.outputs ∙ sym still.2 };
      plan = record {
        line = subst (λ (o : Option Inner). FollowsLine o e.event) (sym (same_due script older new e.actor other legal)) was.plan.line;
        fate = still.1;
      };
    }

-- who lives later lived before

not_or : (x y : Bool) → not (x || y) ≡ true → not y ≡ true
not_or true y h = absurd cc
not_or false y h = h

pub lived : (older : List Entry) (new : Entry) (a : ActorName) → is_live (new ∷ older) a ≡ true → is_live older a ≡ true
lived older new (Process s) h = not_or (same_name new.actor (Process s) && is_crash new.event) (has_crashed older s) h
lived older new (Executor s) h = not_or (same_name new.actor (Process s) && is_crash new.event) (has_crashed older s) h
lived older new (Session id) h = refl

-- no entry of an actor

pub first_none : (a : ActorName) (xs : List Entry) (x : Entry) → entries_by a (xs ++ x ∷ []) ≡ [] → (entries_by a xs ≡ []) × (same_name x.actor a ≡ false)
first_none a xs x h =
    let lengths : length (entries_by a xs) + length (entries_by a (x ∷ [])) ≡ 0 =
    sym (ap length (by_append a xs (x ∷ [])) ∙ length-append (entries_by a xs) (entries_by a (x ∷ []))) ∙ ap length h in
    let few : length (entries_by a xs) ≡ 0 = omega arith in
    let none : length (entries_by a (x ∷ [])) ≡ 0 = omega arith in (
      nothing_more [] (entries_by a xs) (omega arith),
      elim (cases_Bool (same_name x.actor a)) [
        | inl t ↦ let one : length (entries_by a (x ∷ [])) ≡ 1 = ap length (filter_yes (λ (e : Entry). same_name e.actor a) x [] t) in absurd (omega arith)
        | inr f ↦ f
      ],
    )

later : (script : Script) (before : List Entry) (e : Entry) → IsLegal script (reverse before) e → (more : List Entry) → IsRun script (before ++ more)
    → entries_by e.actor more ≡ [] → is_live (reverse (before ++ more)) e.actor ≡ true → IsLegal script (reverse (before ++ more)) e
unfolding IsRun
later script before e was more = snoc_ind Goes none next more
  where
    Goes : List Entry → Type 0
    Goes l = IsHistory script (reverse (before ++ l)) → entries_by e.actor l ≡ [] → is_live (reverse (before ++ l)) e.actor ≡ true → IsLegal script (reverse (before ++ l)) e

    none : Goes []
    none run free live = subst (λ (l : List Entry). IsLegal script (reverse l) e) (sym (append-nil before)) was

    next : (l : List Entry) (x : Entry) → Goes l → Goes (l ++ x ∷ [])
    next l x rest run free live =
        let longer : reverse (before ++ (l ++ x ∷ [])) ≡ x ∷ reverse (before ++ l) =
        ap (λ (j : List Entry). reverse j) (sym (append_assoc before l (x ∷ []))) ∙ reverse_push (before ++ l) x in
        let runʹ : IsHistory script (x ∷ reverse (before ++ l)) = subst (IsHistory script) longer run in
        let liveʹ : is_live (x ∷ reverse (before ++ l)) e.actor ≡ true = subst (λ (j : List Entry). is_live j e.actor ≡ true) longer live in
        let parts = first_none e.actor l x free in
        let old : IsLegal script (reverse (before ++ l)) e = rest runʹ.0 parts.0 (lived (reverse (before ++ l)) x e.actor liveʹ) in
        subst (λ (j : List Entry). IsLegal script j e) (sym longer) (after_other script (reverse (before ++ l)) x e parts.1 runʹ.1.rules liveʹ old)

-- a site without a crash lives

site_lives : (s : Site) (journal : List Entry) → first_crash s journal ≡ None → has_crashed (reverse journal) s ≡ false
site_lives s journal none = none_pass (is_crash_of s) (reverse journal) (λ x h.
    nowhere_passes (is_crash_of s) journal x (not_at (position (is_crash_of s) journal) none) (in_reversed journal x h))
  where
    not_at : (o : Option ℕ) → option_map (λ i. i + 1) o ≡ None → o ≡ None
    not_at None e = refl
    not_at (Some i) e = absurd cc

pub lives : (a : ActorName) (journal : List Entry) → crash_of a journal ≡ None → is_live (reverse journal) a ≡ true
lives (Process s) journal none = ap not (site_lives s journal none)
lives (Executor s) journal none = ap not (site_lives s journal none)
lives (Session id) journal none = refl

cancel : (xs ys : List Entry) → xs ++ ys ≡ xs → ys ≡ []
cancel xs ys e = let same : length (xs ++ ys) ≡ length xs = ap length e in nothing_more xs ys (omega arith)

-- where the actor entered nothing since, and its site has not crashed
pub may_later : (script : Script) (before journal : List Entry) (e : Entry) → IsRun script journal → IsPrefixOf before journal
    → entries_by e.actor journal ≡ entries_by e.actor before → crash_of e.actor journal ≡ None → MayFollow script before e → MayFollow script journal e
unfolding MayFollow
may_later script before journal e run prefix same none may =
    let more : List Entry = prefix.0 in
    let whole : before ++ prefix.0 ≡ journal = prefix.1 in
    let free : entries_by e.actor prefix.0 ≡ [] =
    cancel (entries_by e.actor before) (entries_by e.actor prefix.0) (sym (by_append e.actor before prefix.0) ∙ ap (entries_by e.actor) whole ∙ same) in
    subst (λ (j : List Entry). IsLegal script (reverse j) e) whole
    (later script before e may prefix.0 (subst (IsRun script) (sym whole) run) free
    (subst (λ (j : List Entry). is_live (reverse j) e.actor ≡ true) (sym whole) (lives e.actor journal none)))
