-- What a book has of the tellings and commits.
use Rattle.std.specs.Prelude.{◌≡◌, ℕ, ◌+◌, List, ◌∷◌, Some, length, slice_get}
use Rattle.tp_base.specs.declared.names.CommandId.{CommandId}
use Rattle.tp_base.specs.Lists.{has}
use Rattle.tp_base.specs.Names.{same_id}
use Rattle.tp_promise.specs.declared.book.Book.{Book}
use Rattle.tp_promise.specs.Pages.{Page, IsPage}
use Rattle.tp_topology.specs.Stability.{Telling}

-- how many ranks there are
abbrev pub replicas_of : Book → ℕ
replicas_of book = length book.pages.items

-- the book has what was told and which commands are committed, each list the newest first
pub record IsBook (book : Book) (told : List Telling) (committed : List CommandId) : Type 0 where
  pub ids : (id : CommandId) → has same_id id book.committed.keys ≡ has same_id id committed
  pub pages : (i : ℕ) (page : Page) → slice_get book.pages.items i ≡ Some page → IsPage page told committed (i + 1)

-- a page has a command's commit besides what another has
abbrev pub Commits : CommandId → Page → Page → Type 0
Commits id page page' = (told : List Telling) (committed : List CommandId) (rank : ℕ) → IsPage page told committed rank → IsPage page' told (id ∷ committed) rank
