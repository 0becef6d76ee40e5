-- What a desk knows after each step. Used by its calls.
use Rattle.std.proofs.Common.{◌≡◌, ℕ, ◌≤◌, true, false, List, [], ◌∷◌, ◌++◌, Option, Some, None, length, drop, refl, sym, ap, subst, ◌∙◌, append_assoc, take_all, le_refl, inl, inr, arith}
use Rattle.std.proofs.lemmas.List.{drop-append-le}
use Rattle.std.proofs.lemmas.Bool.{le-leb}
use Rattle.atomic_table.specs.Seated.{TableId}
use Rattle.atomic_table.specs.Table.{Me, Allows, rest}
use Rattle.atomic_table.specs.Table.{opening as table_opening}
use Rattle.tp_base.proofs.Each.{each_push}
use Rattle.tp_base.proofs.Prefixes.{prefix_more}
use Rattle.tp_base.specs.Lists.{IsPrefixOf}
use Rattle.tp_base.specs.declared.names.ActorName.{ActorName}
use Rattle.tp_rules.specs.Runs.{IsRun}
use Rattle.tp_rules.specs.declared.event.Entry.{Entry}
use Rattle.tp_rules.specs.declared.event.Event.{Event}
use Rattle.tp_wire.specs.declared.message.Message.{Message}
use Rattle.tp_rules.proofs.Journals.{run_more}
use Rattle.tp_script.specs.declared.script.Script.{Script}
use Rattle.tp_shared.specs.Histories.{MayFollow}
use Rattle.tp_shared.specs.Known.{AreBy, HandIs, IsDesk, Known, crash_in, current, entry_of, known, name_of, own_now}
use Rattle.tp_shared.specs.Rule.{Holds, Slot, Tells, first_view}
use Rattle.tp_shared.specs.Steps.{Looks, Releases, Won, both, longer}
use Rattle.tp_shared.specs.declared.view.Start.{Start}
use Rattle.tp_shared.specs.declared.view.View.{View}
use Rattle.tp_shared.proofs.Joins.{longer_is}
use Rattle.tp_shared.proofs.Shown.{prefix_short, tells_own}
use Rattle.tp_shared.proofs.Turns.{mute, opens, releases}

-- the journal is opened
pub opens_as : (opening : Start) (journal : List Entry) (items : List Slot) → opening.journal ≡ journal → items ≡ Some journal ∷ [] → IsRun opening.script journal
    → Holds opening (table_opening (0 ∷ []) items (first_view opening))
opens_as opening journal items same all run =
    subst (λ (l : List Slot). Holds opening (table_opening (0 ∷ []) l (first_view opening))) (ap (λ (j : List Entry). Some j ∷ []) same ∙ sym all)
    (opens opening (subst (IsRun opening.script) (sym same) run))

-- the slot that was won
pub won_slot : (v : View) (w : Me Slot View) → Won v w → w.1 ≡ (0, Some w.0.seen) ∷ rest w.1
won_slot v w won =
    let slots : w.1 ≡ (0, Some w.0.seen) ∷ [] = ap (λ (m : Me Slot View). m.1) won.0 in
    slots ∙ ap (λ (l : List (ℕ × Slot)). (0, Some w.0.seen) ∷ rest l) (sym slots)

-- the journal in hand is put back
pub storing : (opening : Start) (slots id : ℕ) (v : View) (out : List (ℕ × Slot)) (hand : Slot) → HandIs v out hand → v.holds ≡ true → v.spent ≡ false
    → Tells v.opening (current v.seen hand) v.actor (own_now v hand) v.listed v.kept → (me : Me Slot View) → me ≡ (v, (0, hand) ∷ rest out)
    → Allows (Holds opening) slots id me 0 (λ _. 0) (λ _. Releases mute me 0)
storing opening slots id v out None h holds lives shows me same = let not : v.holds ≡ false = h.0 in absurd cc
storing opening slots id v out (Some journal) h holds lives shows me same =
    let put : me ≡ (v, (0, Some journal) ∷ []) = same ∙ ap (λ (l : List (ℕ × Slot)). (v, (0, Some journal) ∷ rest l)) h.1 in
    subst (λ (m : Me Slot View). Allows (Holds opening) slots id m 0 (λ _. 0) (λ _. Releases mute m 0)) (sym put)
    (releases opening slots id (v, (0, Some journal) ∷ []) journal refl lives holds h.2 h.3 shows)

-- what was seen by either begins what the first has seen after a join
pub join_longer : (v w : View) → Looks (both v w) → IsPrefixOf v.seen (longer v.seen w.seen) × IsPrefixOf w.seen (longer v.seen w.seen)
join_longer v w looks = (
  looks.heard v.seen (inl refl) (le-leb _ _ (longer_is (λ l. length v.seen ≤ length l) v.seen w.seen (λ le. le) (λ _. le_refl (length v.seen)))),
  looks.heard w.seen (inr (inl refl)) (le-leb _ _ (longer_is (λ l. length w.seen ≤ length l) v.seen w.seen (λ _. le_refl (length w.seen)) (λ le. le))),
)

-- the hand is empty without the turn
pub empty_hand : (v : View) (out : List (ℕ × Slot)) (hand : Slot) → HandIs v out hand → v.holds ≡ false → hand ≡ None
empty_hand v out None h waits = refl
empty_hand v out (Some journal) h waits = let has_it : v.holds ≡ true = h.0 in absurd cc

pub join_told : (v w m : View) (hand handʹ : Slot) (seen seenʹ : List Entry) → hand ≡ None → handʹ ≡ None → m ≡ both v w → Looks (both v w)
    → current v.seen hand ≡ seen → current w.seen handʹ ≡ seenʹ
    → IsPrefixOf seen (current m.seen hand) × IsPrefixOf seenʹ (current m.seen hand)
join_told v w m hand handʹ seen seenʹ none noneʹ is looks e f =
    let now : current m.seen hand ≡ longer v.seen w.seen = ap (current m.seen) none ∙ ap (λ (x : View). x.seen) is in
    let one : v.seen ≡ seen = ap (current v.seen) (sym none) ∙ e in
    let two : w.seen ≡ seenʹ = ap (current w.seen) (sym noneʹ) ∙ f in
    let told = join_longer v w looks in (
      subst (λ (p : List Entry × List Entry). IsPrefixOf p.0 p.1) (λ i. (one i, sym now i)) told.0,
      subst (λ (p : List Entry × List Entry). IsPrefixOf p.0 p.1) (λ i. (two i, sym now i)) told.1,
    )

-- an entry is made

pub runs_on : (script : Script) (journal : List Entry) (e : Entry) → IsRun script journal → MayFollow script journal e → IsRun script (journal ++ e ∷ [])
unfolding MayFollow
runs_on script journal e run legal = run_more script journal e run legal

own_more : (v : View) (journal : List Entry) (e : Entry) → IsPrefixOf v.seen journal
    → v.own ++ drop (length v.seen) (journal ++ e ∷ []) ≡ (v.own ++ drop (length v.seen) journal) ++ e ∷ []
own_more v journal e grows =
    ap (λ (l : List Entry). v.own ++ l) (drop-append-le (length v.seen) journal (e ∷ []) (prefix_short v.seen journal grows))
    ∙ sym (append_assoc v.own (drop (length v.seen) journal) (e ∷ []))

by_one_more : (actor : Option ActorName) (a : ActorName) (xs : List Entry) (e : Entry) → actor ≡ Some a → AreBy actor xs → e.actor ≡ a → AreBy actor (xs ++ e ∷ [])
by_one_more (Some b) a xs e is h same = let it : a ≡ b = cc in each_push (λ (d : Entry). d.actor ≡ b) xs e h (same ∙ it)
by_one_more None a xs e is h same = absurd cc

pub entered_desk : (v : View) (out : List (ℕ × Slot)) (journal now : List Entry) (count looked number : ℕ) (crash found : Option ℕ) (actor : Option ActorName) (a : ActorName) (e : Entry)
    → IsDesk v out (Some journal) count looked crash actor → actor ≡ Some a → MayFollow v.opening.script journal e → e.actor ≡ a
    → now ≡ journal ++ e ∷ [] → number ≡ length now → found ≡ crash_in actor now → IsDesk v out (Some now) number number found actor
entered_desk v out journal now count looked number crash found actor a e d is legal same grown long first =
    let named : v.actor ≡ Some a = sym d.actor_is ∙ is in
    let grows : IsPrefixOf v.seen journal = d.hand_is.2 in
    let later : drop (length v.seen) (journal ++ e ∷ []) ≡ drop (length v.seen) journal ++ e ∷ [] =
    drop-append-le (length v.seen) journal (e ∷ []) (prefix_short v.seen journal grows) in
    let shows : Tells v.opening journal (Some a) (v.own ++ drop (length v.seen) journal) v.listed v.kept =
    subst (λ (o : Option ActorName). Tells v.opening journal o (v.own ++ drop (length v.seen) journal) v.listed v.kept) named d.shows in
    let run : IsRun v.opening.script (journal ++ e ∷ []) = runs_on v.opening.script journal e d.shows.run legal in
    let told : Tells v.opening (journal ++ e ∷ []) (Some a) ((v.own ++ drop (length v.seen) journal) ++ e ∷ []) v.listed v.kept =
    tells_own v.opening journal e a (v.own ++ drop (length v.seen) journal) v.listed v.kept shows run same in
    let toldʹ : Tells v.opening (journal ++ e ∷ []) v.actor (v.own ++ drop (length v.seen) (journal ++ e ∷ [])) v.listed v.kept =
    subst (λ (p : Option ActorName × List Entry). Tells v.opening (journal ++ e ∷ []) p.0 p.1 v.listed v.kept) (λ i. (sym named i, sym (own_more v journal e grows) i)) told in
    let hand : HandIs v out (Some (journal ++ e ∷ [])) = (
      d.hand_is.0,
      d.hand_is.1,
      prefix_more v.seen journal (e ∷ []) grows,
      subst (AreBy v.actor) (sym later) (by_one_more v.actor a (drop (length v.seen) journal) e named d.hand_is.3 same),
    ) in
    record {
      lives = d.lives;
      actor_is = d.actor_is;
      count_is = long;
      hand_is = subst (λ (l : List Entry). HandIs v out (Some l)) (sym grown) hand;
      shows = subst (λ (l : List Entry). Tells v.opening l v.actor (v.own ++ drop (length v.seen) l) v.listed v.kept) (sym grown) toldʹ;
      within = le_refl number;
      all = λ _. refl;
      crash_is = first ∙ ap (λ (o : Option ActorName). crash_in o now) d.actor_is ∙ ap (crash_in v.actor) (sym (take_all number now (omega arith)));
    }

-- with the turn a desk knows whether the site crashed
pub crash_known : (v : View) (out : List (ℕ × Slot)) (journal : List Entry) (count looked : ℕ) (crash : Option ℕ) (actor : Option ActorName)
    → IsDesk v out (Some journal) count looked crash actor → crash ≡ crash_in v.actor journal
crash_known v out journal count looked crash actor d =
    let every : looked ≡ count = d.all d.hand_is.0 in
    let long : count ≡ length journal = d.count_is in
    d.crash_is ∙ ap (crash_in v.actor) (take_all looked journal (omega arith))

pub entering_as : (z : TableId) (v : View) (out : List (ℕ × Slot)) (hand : Slot) (journal now : List Entry) (count looked number : ℕ) (crash found : Option ℕ)
    (actor : Option ActorName) (a : ActorName) (event : Event) (outputs : List Message) (k : Known)
    → IsDesk v out hand count looked crash actor → hand ≡ Some journal → known z v hand ≡ k → crash ≡ None → actor ≡ Some a
    → (crash_in k.actor k.seen ≡ None → MayFollow k.opening.script k.seen (entry_of k event outputs))
    → now ≡ journal ++ record { actor = a; event = event; outputs = outputs } ∷ [] → number ≡ length now → found ≡ crash_in actor now
    → IsDesk v out (Some now) number number found actor
entering_as z v out hand journal now count looked number crash found actor a event outputs k desk some view none is legal grown long first =
    let d : IsDesk v out (Some journal) count looked crash actor = subst (λ (h : Slot). IsDesk v out h count looked crash actor) some desk in
    let it : k ≡ known z v (Some journal) = sym view ∙ ap (known z v) some in
    let legalʹ : crash_in v.actor journal ≡ None → MayFollow v.opening.script journal (entry_of (known z v (Some journal)) event outputs) =
    subst (λ (j : Known). crash_in j.actor j.seen ≡ None → MayFollow j.opening.script j.seen (entry_of j event outputs)) it legal in
    let name : name_of v.actor ≡ a = ap name_of (sym d.actor_is ∙ is) in
    let e : Entry = record { actor = a; event = event; outputs = outputs } in
    let may : MayFollow v.opening.script journal e =
    subst (λ (n : ActorName). MayFollow v.opening.script journal (record { actor = n; event = event; outputs = outputs })) name
    (legalʹ (sym (crash_known v out journal count looked crash actor d) ∙ none)) in
    entered_desk v out journal now count looked number crash found actor a e d is may refl grown long first
