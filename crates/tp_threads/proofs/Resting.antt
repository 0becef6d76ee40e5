-- Once every live actor's cell has seen the whole journal and its actor has nothing to do, and the site of every other
-- crashed in it, nothing is pending.
use Rattle.std.proofs.Common.{◌≡◌, ◌≢◌, ◌⊎◌, ℕ, ◌+◌, ◌≤◌, inl, inr, Bool, true, false, not, List, [], ◌∷◌, ◌++◌, Some, None, option_map, length, refl, sym, ap, subst, ◌∙◌, arith}
use Rattle.std.proofs.lemmas.List.{append-nil}
use Rattle.std.specs.List.{position}
use Rattle.std.specs.Prelude.{reverse}
use Rattle.atomic_table.specs.Seated.{TableId}
use Rattle.tp_base.proofs.Each.{each_in}
use Rattle.tp_base.proofs.Members.{in_reverse}
use Rattle.tp_base.proofs.Tests.{none_in}
use Rattle.tp_base.specs.Lists.{Each, IsIn, IsPrefixOf}
use Rattle.tp_base.specs.declared.names.ActorName.{ActorName}
use Rattle.tp_base.specs.declared.names.ActorName.TheVariants.{Process, Executor, Session}
use Rattle.tp_base.specs.declared.names.Site.{Site}
use Rattle.tp_driver.proofs.Pendings.{pending_legal}
use Rattle.tp_journal.specs.Entered.{first_crash, is_crash_of}
use Rattle.tp_rules.proofs.Journals.{run_is_free}
use Rattle.tp_rules.specs.Acts.{Act, Identity}
use Rattle.tp_rules.specs.Journal.{has_crashed, is_known, is_live}
use Rattle.tp_rules.specs.Pending.{IsQuiet, pending}
use Rattle.tp_rules.specs.Runs.{IsFreeHistory, IsFreeRun, IsLegal, IsRun, outputs_in}
use Rattle.tp_rules.specs.declared.event.Entry.{Entry}
use Rattle.tp_rules.specs.declared.event.Item.{Item}
use Rattle.tp_script.specs.Accepted.{IsAccepted}
use Rattle.tp_script.specs.declared.script.Script.{Script}
use Rattle.tp_shared.proofs.Crashes.{crash_stays, found_later}
use Rattle.tp_shared.proofs.Shown.{nothing_more}
use Rattle.tp_shared.specs.Histories.{crash_of}
use Rattle.tp_shared.specs.Known.{Known}
use Rattle.tp_threads.specs.Threads.{HasCells, IsCellAt, IsOneSeen, IsPartOf}
use Rattle.tp_worker.specs.Cells.{AllDone, IsCell, NoneSpent, Worker}
use Rattle.tp_worker.specs.declared.cell.CellState.{CellState}
use Rattle.tp_worker.specs.declared.cell.CellState.TheVariants.{Live, Crashed, Spent}

-- a crash that stands in the journal

none_at : {X : Type 0} (p : X → Bool) (xs : List X) → ((x : X) → IsIn x xs → p x ≡ false) → position p xs ≡ None
none_at p [] h = refl
none_at {X} p (x ∷ xs) h = found_later p (x ∷ []) xs (alone (h x (inl refl))) ∙ ap (option_map (λ i. length (x ∷ []) + i)) (none_at p xs (λ y k. h y (inr k)))
  where
    alone : p x ≡ false → position p (x ∷ []) ≡ None
    alone e = rw e refl

site_dead : (s : Site) (journal : List Entry) (n : ℕ) → first_crash s journal ≡ Some n → not (has_crashed (reverse journal) s) ≡ true → ⊥
site_dead s journal n e lives =
    let none : position (is_crash_of s) journal ≡ None =
    none_at (is_crash_of s) journal (λ x h. none_in (is_crash_of s) (reverse journal) x (falls (has_crashed (reverse journal) s) lives) (in_reverse journal x h)) in
    let wrong : None ≡ Some n = sym (ap (option_map (λ i. i + 1)) none) ∙ e in
    absurd cc
  where
    falls : (b : Bool) → not b ≡ true → b ≡ false
    falls true f = absurd cc
    falls false f = refl

pub dead : (a : ActorName) (journal : List Entry) (n : ℕ) → crash_of a journal ≡ Some n → is_live (reverse journal) a ≡ true → ⊥
dead (Process s) journal n e lives = site_dead s journal n e lives
dead (Executor s) journal n e lives = site_dead s journal n e lives
dead (Session id) journal n e lives = absurd cc

crash_in_longer : (a : ActorName) (xs ys : List Entry) (n : ℕ) → IsPrefixOf xs ys → crash_of a xs ≡ Some n → crash_of a ys ≡ Some n
crash_in_longer a xs ys n prefix e = subst (λ (l : List Entry). crash_of a l ≡ Some n) prefix.1 (crash_stays (Some a) xs prefix.0 n e)

-- no step of the actor may come next
abbrev pub HasNone : Script → List Entry → ActorName → Type 0
HasNone script journal a = (it : Item) → IsIn it (pending script (reverse journal)) → it.actor ≢ a

-- an actor has seen the whole journal and has no step, or its site crashed in what was seen
abbrev pub Rests : Script → List Entry → ActorName → Type 0
Rests script journal a = HasNone script journal a ⊎ ((seen : List Entry) × (n : ℕ) × IsPrefixOf seen journal × (crash_of a seen ≡ Some n))

nothing_in : {X : Type 0} (xs : List X) → ((x : X) → IsIn x xs → ⊥) → xs ≡ []
nothing_in [] h = refl
nothing_in (x ∷ xs) h = absurd (h x (inl refl))

pub all_rest : (script : Script) (journal : List Entry) → IsAccepted script → IsRun script journal
    → ((a : ActorName) → is_known script a ≡ true → Rests script journal a) → IsQuiet script journal
unfolding IsQuiet IsFreeRun
all_rest script journal accepted run rest = nothing_in (pending script (reverse journal)) nobodys
  where
    history : IsFreeHistory script (reverse journal)
    history = run_is_free script journal run

    nobodys : (it : Item) → IsIn it (pending script (reverse journal)) → ⊥
    nobodys it h =
        let older : List Entry = reverse journal in
        let e : Entry = record { actor = it.actor; event = it.event; outputs = outputs_in script older it.actor it.event } in
        let legal : IsLegal script older e = pending_legal script accepted older history it h e refl refl refl in
        elim (rest it.actor legal.rules.known) [
          | inl idle ↦ idle it h refl
          | inr crashed ↦ dead it.actor journal crashed.1 (crash_in_longer it.actor crashed.0 journal crashed.1 crashed.2 crashed.3) legal.rules.live
        ]

-- what a live cell's desk saw is the whole journal, where no other saw more

begins_nothing : (xs ys : List Entry) → IsPrefixOf xs ys → length ys ≤ length xs → ys ≡ xs
begins_nothing xs ys front few =
    let none : front.0 ≡ [] = nothing_more xs front.0 (let same : length (xs ++ front.0) ≡ length ys = ap length front.1 in omega arith) in
    sym front.1 ∙ ap (λ (l : List Entry). xs ++ l) none ∙ append-nil xs

module _ {A : Type 0} (identity_of : A → Identity) (is_spent : A → Bool) (stands : A → List Act → Type 0) (script : Script) (table : TableId)
    (first : Known) (cells : List (Worker A)) (journal : List Entry) where
  -- when the work is done, nothing is pending
  pub all_done : IsAccepted script → IsRun script journal → HasCells script 0 first cells → Each (IsCellAt script table) cells → first.seen ≡ []
      → ((w : Worker A) → IsIn w cells → (name : ActorName) × IsCell identity_of is_spent stands name w × IsPartOf w name journal)
      → IsOneSeen first.seen cells journal → NoneSpent cells → AllDone cells → IsQuiet script journal
  all_done accepted run has_cells at empty parts one unspent done = all_rest script journal accepted run rests
    where
      rests : (a : ActorName) → is_known script a ≡ true → Rests script journal a
      rests a known = by w.state refl
        where
          found : (w : Worker A) × IsIn w cells × (w.desk.actor ≡ Some a)
          found = has_cells.found a known (omega arith)

          w : Worker A
          w = found.0

          part : (name : ActorName) × IsCell identity_of is_spent stands name w × IsPartOf w name journal
          part = parts w found.1

          name_is : part.0 ≡ a
          name_is = let same : Some part.0 ≡ Some a = sym part.1.desk.actor ∙ found.2 in cc

          script_is : w.desk.opening.script ≡ script
          script_is = (each_in (IsCellAt script table) cells w at found.1).script

          whole : w.state ≡ Live → journal ≡ w.desk.seen
          whole live = elim one [
            | inl none ↦ begins_nothing w.desk.seen journal part.2.seen (let no : length journal ≡ 0 = ap length (none ∙ empty) in omega arith)
            | inr its ↦ begins_nothing w.desk.seen journal part.2.seen
                (let long : length journal ≡ length its.0.desk.seen = ap length its.2 in
                let most : length its.0.desk.seen ≤ length w.desk.seen = done.longest its.0 w its.1 found.1 live in omega arith)
          ]

          idle : w.state ≡ Live → HasNone script journal a
          idle live it h same =
              let older : pending script (reverse journal) ≡ pending w.desk.opening.script (reverse w.desk.seen) =
              ap (λ (s : Script). pending s (reverse journal)) (sym script_is) ∙ ap (λ (l : List Entry). pending w.desk.opening.script (reverse l)) (whole live) in
              (done.done w found.1 live).idle it (subst (λ (items : List Item). IsIn it items) older h)
              (found.2 ∙ ap (λ (n : ActorName). Some n) (sym same))

          by : (state : CellState) → w.state ≡ state → Rests script journal a
          by Live e = inl (idle e)
          by (Crashed n) e = inr (w.desk.seen, n, part.2.seen, subst (λ (b : ActorName). crash_of b w.desk.seen ≡ Some n) name_is (part.1.crashed n e))
          by Spent e = absurd (unspent w found.1 e)

-- nothing was entered
pub none_run : (script : Script) (journal : List Entry) → journal ≡ [] → IsRun script journal
unfolding IsRun
none_run script journal e = rw e tt
