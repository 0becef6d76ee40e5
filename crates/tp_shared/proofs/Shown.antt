-- What a journal shows of an actor, and how that changes as the journal grows. Used by each step on the turn word.
use Rattle.std.proofs.Common.{◌≡◌, ◌+◌, ◌≤◌, true, false, List, [], ◌∷◌, ◌++◌, Option, Some, None, length, drop, refl, sym, ap, subst, ◌∙◌, length-append, arith}
use Rattle.std.proofs.Math.Seq.{drop-append_seam}
use Rattle.std.proofs.lemmas.List.{append-nil, drop-append-le}
use Rattle.std.proofs.lemmas.List.Elements.{filter-append}
use Rattle.std.proofs.lemmas.Bool.{cond-true, cond-false}
use Rattle.tp_base.proofs.Prefixes.{prefix_more, prefix_then}
use Rattle.tp_base.proofs.SameNames.{same_name_not, same_name_refl}
use Rattle.tp_base.specs.Lists.{Each, IsIn, IsPrefixOf, has}
use Rattle.tp_base.specs.Names.{same_name}
use Rattle.tp_base.specs.declared.names.ActorName.{ActorName}
use Rattle.tp_rules.specs.Runs.{IsRun}
use Rattle.tp_rules.specs.declared.event.Entry.{Entry}
use Rattle.tp_shared.specs.Histories.{after, entries_by}
use Rattle.tp_shared.specs.Known.{AreBy}
use Rattle.tp_shared.specs.Rule.{Made, Tells}
use Rattle.tp_shared.specs.declared.view.Start.{Start}

-- lists that go on where others end

pub nothing_more : {X : Type 0} (xs ys : List X) → length (xs ++ ys) ≤ length xs → ys ≡ []
nothing_more xs [] h = refl
nothing_more xs (y ∷ ys) h = let long = length-append xs (y ∷ ys) in absurd (omega arith)

pub rest_is : {X : Type 0} (xs ys : List X) → IsPrefixOf xs ys → xs ++ drop (length xs) ys ≡ ys
rest_is {X} xs ys h = ap (λ (l : List X). xs ++ drop (length xs) l) (sym h.1) ∙ ap (λ (l : List X). xs ++ l) (drop-append_seam xs h.0) ∙ h.1

pub prefix_short : {X : Type 0} (xs ys : List X) → IsPrefixOf xs ys → length xs ≤ length ys
prefix_short xs ys h = let long = length-append xs h.0 in let same : length (xs ++ h.0) ≡ length ys = ap length h.1 in omega arith

-- two beginnings of one list
pub prefix_of_longer : {X : Type 0} (xs ys more rest : List X) → xs ++ more ≡ ys ++ rest → length xs ≤ length ys → IsPrefixOf xs ys
prefix_of_longer [] ys more rest e h = (ys, refl)
prefix_of_longer (x ∷ xs) [] more rest e h = absurd (omega arith)
prefix_of_longer (x ∷ xs) (y ∷ ys) more rest e h =
    let head : x ≡ y = cc in
    let tail : xs ++ more ≡ ys ++ rest = cc in
    let found = prefix_of_longer xs ys more rest tail (omega arith) in
    (found.0, (λ i. head i ∷ found.1 i))

pub shorter_begins : {X : Type 0} (xs ys zs : List X) → IsPrefixOf xs zs → IsPrefixOf ys zs → length xs ≤ length ys → IsPrefixOf xs ys
shorter_begins xs ys zs h k le = prefix_of_longer xs ys h.0 k.0 (h.1 ∙ sym k.1) le

pub after_more : (opening xs more : List Entry) → IsPrefixOf opening xs → after opening (xs ++ more) ≡ after opening xs ++ more
after_more opening xs more h = drop-append-le (length opening) xs more (prefix_short opening xs h)

-- the entries of an actor

pub by_append : (a : ActorName) (xs ys : List Entry) → entries_by a (xs ++ ys) ≡ entries_by a xs ++ entries_by a ys
by_append a xs ys = filter-append (λ (e : Entry). same_name e.actor a) xs ys

pub by_none : (a b : ActorName) (xs : List Entry) → Each (λ e. e.actor ≡ a) xs → (a ≡ b → ⊥) → entries_by b xs ≡ []
by_none a b [] h apart = refl
by_none a b (e ∷ xs) h apart =
    let other : same_name e.actor b ≡ false = same_name_not e.actor b (λ same. apart (sym h.0 ∙ same)) in
    cond-false (same_name e.actor b) (e ∷ entries_by b xs) (entries_by b xs) other ∙ by_none a b xs h.1 apart

pub by_all : (a : ActorName) (xs : List Entry) → Each (λ e. e.actor ≡ a) xs → entries_by a xs ≡ xs
by_all a [] h = refl
by_all a (e ∷ xs) h =
    let own : same_name e.actor a ≡ true = ap (λ (b : ActorName). same_name b a) h.0 ∙ same_name_refl a in
    cond-true (same_name e.actor a) (e ∷ entries_by a xs) (entries_by a xs) own ∙ ap (λ (l : List Entry). e ∷ l) (by_all a xs h.1)

pub others_none : (actor : Option ActorName) (b : ActorName) (xs : List Entry) → AreBy actor xs → (actor ≡ Some b → ⊥) → entries_by b xs ≡ []
others_none (Some a) b xs h apart = by_none a b xs h (λ same. apart (ap (λ (x : ActorName). Some x) same))
others_none None b xs h apart = ap (entries_by b) h

-- what was entered later by an actor
pub by_more : (a : ActorName) (opening xs more : List Entry) → IsPrefixOf opening xs → entries_by a (after opening (xs ++ more)) ≡ entries_by a (after opening xs) ++ entries_by a more
by_more a opening xs more h = ap (entries_by a) (after_more opening xs more h) ∙ by_append a (after opening xs) more

pub by_same : (a : ActorName) (opening xs more : List Entry) → IsPrefixOf opening xs → entries_by a more ≡ [] → entries_by a (after opening (xs ++ more)) ≡ entries_by a (after opening xs)
by_same a opening xs more h none = by_more a opening xs more h ∙ ap (λ (l : List Entry). entries_by a (after opening xs) ++ l) none ∙ append-nil _

-- a list between two that show the same of an actor shows the same
pub by_between : (a : ActorName) (opening xs ys zs : List Entry) → IsPrefixOf opening xs → IsPrefixOf xs ys → IsPrefixOf ys zs
    → entries_by a (after opening xs) ≡ entries_by a (after opening zs) → entries_by a (after opening ys) ≡ entries_by a (after opening zs)
by_between a opening xs ys zs begins h k same =
    let few : List Entry = entries_by a (after opening xs) in
    let more : List Entry = entries_by a h.0 in
    let middle : entries_by a (after opening ys) ≡ few ++ more = ap (λ (l : List Entry). entries_by a (after opening l)) (sym h.1) ∙ by_more a opening xs h.0 begins in
    let whole : entries_by a (after opening zs) ≡ entries_by a (after opening ys) ++ entries_by a k.0 =
    ap (λ (l : List Entry). entries_by a (after opening l)) (sym k.1) ∙ by_more a opening ys k.0 (prefix_then opening xs ys begins h) in
    let lengths : length few ≡ length (few ++ more) + length (entries_by a k.0) =
    ap length (same ∙ whole ∙ ap (λ (l : List Entry). l ++ entries_by a k.0) middle) ∙ length-append (few ++ more) (entries_by a k.0) in
    let none : more ≡ [] = nothing_more few more (omega arith) in
    middle ∙ ap (λ (l : List Entry). few ++ l) none ∙ append-nil few ∙ same

pub by_nothing : (a : ActorName) (opening ys zs : List Entry) → IsPrefixOf opening ys → IsPrefixOf ys zs
    → entries_by a (after opening zs) ≡ [] → entries_by a (after opening ys) ≡ []
by_nothing a opening ys zs begins k none =
    let whole : entries_by a (after opening zs) ≡ entries_by a (after opening ys) ++ entries_by a k.0 =
    ap (λ (l : List Entry). entries_by a (after opening l)) (sym k.1) ∙ by_more a opening ys k.0 begins in
    let lengths : 0 ≡ length (entries_by a (after opening ys)) + length (entries_by a k.0) =
    ap length (sym none ∙ whole) ∙ length-append (entries_by a (after opening ys)) (entries_by a k.0) in
    nothing_more [] (entries_by a (after opening ys)) (omega arith)

-- what is told of a desk while others enter
pub tells_more : (opening : Start) (xs more : List Entry) (actor : Option ActorName) (own : List Entry) (listed : List ActorName) (kept : List Made)
    → Tells opening xs actor own listed kept → IsRun opening.script (xs ++ more)
    → ((a : ActorName) → actor ≡ Some a → entries_by a more ≡ [])
    → ((p : Made) → IsIn p kept → entries_by p.0 more ≡ [])
    → (actor ≡ None → (a : ActorName) → has same_name a listed ≡ false → entries_by a more ≡ [])
    → Tells opening (xs ++ more) actor own listed kept
tells_more opening xs more actor own listed kept t run mine keeps strange =
    let begins : IsPrefixOf opening.journal xs = t.begins in
    record {
      begins = prefix_more opening.journal xs more begins;
      run = run;
      own_is = λ a e. t.own_is a e ∙ sym (by_same a opening.journal xs more begins (mine a e));
      kept_is = λ p h. t.kept_is p h ∙ sym (by_same p.0 opening.journal xs more begins (keeps p h));
      kept_none = t.kept_none;
      strangers = λ e a h. by_same a opening.journal xs more begins (strange e a h) ∙ t.strangers e a h;
    }

-- and while its own actor does
pub tells_own : (opening : Start) (xs : List Entry) (e : Entry) (a : ActorName) (own : List Entry) (listed : List ActorName) (kept : List Made)
    → Tells opening xs (Some a) own listed kept → IsRun opening.script (xs ++ e ∷ []) → e.actor ≡ a
    → Tells opening (xs ++ e ∷ []) (Some a) (own ++ e ∷ []) listed kept
tells_own opening xs e a own listed kept t run same =
    let begins : IsPrefixOf opening.journal xs = t.begins in
    let nobody : kept ≡ [] = t.kept_none a refl in
    record {
      begins = prefix_more opening.journal xs (e ∷ []) begins;
      run = run;
      own_is = λ b f.
          let it : a ≡ b = cc in
          subst (λ (c : ActorName). own ++ e ∷ [] ≡ entries_by c (after opening.journal (xs ++ e ∷ []))) it
          (ap (λ (l : List Entry). l ++ e ∷ []) (t.own_is a refl)
          ∙ ap (λ (l : List Entry). entries_by a (after opening.journal xs) ++ l) (sym (by_all a (e ∷ []) (same, tt)))
          ∙ sym (by_more a opening.journal xs (e ∷ []) begins));
      kept_is = λ p h. absurd (subst (λ (l : List Made). IsIn p l) nobody h);
      kept_none = t.kept_none;
      strangers = λ f b h. absurd cc;
    }
