-- The pages of all ranks.
use Rattle.std.proofs.Common.{◌≡◌, ◌≢◌, ℕ, ◌+◌, ◌<◌, ◌≤◌, inl, inr, true, cond, List, [], ◌∷◌, length, get_or, set, Some, refl, sym, ap, subst, ◌∙◌, arith, length-set, replicate}
use Rattle.std.specs.Prelude.{slice_get}
use Rattle.std.proofs.lemmas.Bool.{cases_eq}
use Rattle.std.proofs.lemmas.Option.{slice_get-get_or, slice_get_within}
use Rattle.tp_base.specs.declared.names.CommandId.{CommandId}
use Rattle.tp_base.specs.Lists.{has}
use Rattle.tp_base.specs.Names.{same_id}
use Rattle.tp_base.proofs.Ends.{get_set_other, get_set_same}
use Rattle.tp_base.proofs.SameNames.{same_id_sym}
use Rattle.tp_base.proofs.Tables.{got_replicate}
use Rattle.tp_promise.specs.Books.{Commits}
use Rattle.tp_promise.specs.Pages.{IsPage, Page}
use Rattle.tp_promise.proofs.Numbers.{blank}
use Rattle.tp_promise.proofs.Tellings.{fresh, other_rank}
use Rattle.tp_topology.specs.Stability.{Telling}

-- the pages of the first n ranks have a command's commit
pub record IsCommitted (id : CommandId) (old new : List Page) (n : ℕ) : Type 0 where
  pub ranks : length new ≡ length old
  pub done : (k : ℕ) (page' : Page) → k < n → slice_get new k ≡ Some page' → (page : Page) × (slice_get old k ≡ Some page) × Commits id page page'
  pub left : (k : ℕ) → n ≤ k → slice_get new k ≡ slice_get old k

pub none_committed : (id : CommandId) (pages : List Page) → IsCommitted id pages pages 0
none_committed id pages = record { ranks = refl; done = λ k page' lt. absurd (omega arith); left = λ k le. refl }

pub one_committed : (id : CommandId) (old new : List Page) (n : ℕ) (d page' : Page) → IsCommitted id old new n → n < length new → Commits id (get_or new n d) page'
    → IsCommitted id old (set new n page') (n + 1)
one_committed id old new n d page' is lt commits = record {
  ranks = length-set new n page' ∙ is.ranks;
  done = λ k other low e. elim (cases_eq k n) [
    | inl same ↦
        let here : slice_get new n ≡ Some (get_or new n d) = slice_get-get_or new n d lt in
        let at : slice_get (set new n page') n ≡ Some page' = get_set_same new n page' (get_or new n d) here in
        let mine : slice_get (set new n page') n ≡ Some other = subst (λ (i : ℕ). slice_get (set new n page') i ≡ Some other) same e in
        let is' : page' ≡ other = cc in
        (get_or new n d, subst (λ (i : ℕ). slice_get old i ≡ Some (get_or new n d)) (sym same) (sym (is.left n (omega arith)) ∙ here), subst (λ (p : Page). Commits id (get_or new n d) p) is' commits)
    | inr apart ↦ is.done k other (omega arith) (sym (get_set_other new n k page' apart) ∙ e)
  ];
  left = λ k le. get_set_other new n k page' (λ same. absurd (omega arith)) ∙ is.left k (omega arith);
}

pub all_committed : (id : CommandId) (old new : List Page) (n : ℕ) → IsCommitted id old new n → length new ≤ n
    → (i : ℕ) (page' : Page) → slice_get new i ≡ Some page' → (page : Page) × (slice_get old i ≡ Some page) × Commits id page page'
all_committed id old new n is le i page' e = is.done i page' (let lt : i < length new = slice_get_within new i page' e in omega arith) e

-- new pages

pub new_pages : (n : ℕ) (pages : List Page) → pages ≡ replicate n blank → (i : ℕ) (page : Page) → slice_get pages i ≡ Some page → IsPage page [] [] (i + 1)
new_pages n pages is i page e =
    let one : blank ≡ page = got_replicate n i blank page (ap (λ (l : List Page). slice_get l i) (sym is) ∙ e) in
    subst (λ (p : Page). IsPage p [] [] (i + 1)) one (fresh (i + 1))

-- a telling of one rank
pub told_pages : (pages : List Page) (told : List Telling) (committed : List CommandId) (t : Telling) (place : ℕ) (page' : Page)
    → ((i : ℕ) (page : Page) → slice_get pages i ≡ Some page → IsPage page told committed (i + 1)) → t.rank ≡ place + 1 → place < length pages
    → IsPage page' (t ∷ told) committed (place + 1)
    → (i : ℕ) (page : Page) → slice_get (set pages place page') i ≡ Some page → IsPage page (t ∷ told) committed (i + 1)
told_pages pages told committed t place page' are rank lt here i page e = elim (cases_eq i place) [
  | inl same ↦
      let at : slice_get (set pages place page') place ≡ Some page' = get_set_same pages place page' (get_or pages place page') (slice_get-get_or pages place page' lt) in
      let mine : slice_get (set pages place page') place ≡ Some page = subst (λ (k : ℕ). slice_get (set pages place page') k ≡ Some page) same e in
      let is : page' ≡ page = cc in
      subst (λ (k : ℕ). IsPage page (t ∷ told) committed (k + 1)) (sym same) (subst (λ (p : Page). IsPage p (t ∷ told) committed (place + 1)) is here)
  | inr apart ↦
      let other : t.rank ≢ i + 1 = λ same. apart (omega arith) in
      other_rank page told committed (i + 1) t other (are i page (sym (get_set_other pages place i page' apart) ∙ e))
]

pub one_more_id : (id other : CommandId) (keys keys' committed : List CommandId) → has same_id other keys ≡ has same_id other committed
    → has same_id other keys' ≡ cond (same_id id other) true (has same_id other keys) → has same_id other keys' ≡ has same_id other (id ∷ committed)
one_more_id id other keys keys' committed same added = let turned : same_id id other ≡ same_id other id = same_id_sym id other in grind (arith, same, added, turned)

-- the page of a rank
pub page_of : (pages : List Page) (told : List Telling) (committed : List CommandId) (rank place : ℕ) (d page : Page)
    → ((i : ℕ) (page : Page) → slice_get pages i ≡ Some page → IsPage page told committed (i + 1)) → page ≡ get_or pages place d → place + 1 ≡ rank → place < length pages
    → IsPage page told committed rank
page_of pages told committed rank place d page are is at lt =
    subst (λ (k : ℕ). IsPage page told committed k) at (are place page (slice_get-get_or pages place d lt ∙ ap (λ (p : Page). Some p) (sym is)))
