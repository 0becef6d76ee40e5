-- How the sheets go on with the state of the rules, as stamps become known.
use Rattle.std.proofs.Common.{◌≡◌, ℕ, ◌<◌, Bool, true, false, cond, List, [], Option, Some, None, is_some, refl, sym, ap, subst, ◌∙◌, arith}
use Rattle.std.specs.Prelude.{unwrap_or}
use Rattle.std.proofs.lemmas.Bool.{cond-true}
use Rattle.indexmap.specs.IndexMap.{IndexMap, get}
use Rattle.tp_base.proofs.SameNames.{same_id_is, same_id_refl}
use Rattle.tp_base.specs.Limits.{STAMP_LIMIT}
use Rattle.tp_base.specs.Names.{same_id}
use Rattle.tp_base.specs.declared.names.CommandId.{CommandId}
use Rattle.tp_base.specs.declared.names.Pair.{Pair}
use Rattle.tp_base.specs.declared.names.Site.{Site}
use Rattle.tp_ops.specs.declared.command.Command.{Command}
use Rattle.tp_ops.specs.Parts.{is_accessed}
use Rattle.tp_process.proofs.LowStamps.{blank_low, final_low, with_stamp_low}
use Rattle.tp_process.specs.Sheets.{ChangesSheet, sheet_at}
use Rattle.tp_process.specs.State.{Agrees, IsLow, committed, site_sheet}
use Rattle.tp_rules.specs.Process.{Step, ProcessState, bumped, finished, learned, on_commit, start, with_sheet}
use Rattle.tp_rules.specs.Sheet.{Sheet, final_stamp, with_command, ring_rule, stamp_of, with_stamp}
use Rattle.tp_sheet.specs.SiteSheet.{SiteSheet, blank_at, final_after_learning, with_known}
use Rattle.tp_topology.specs.Shape.{Shape}

module _ {S : Type 0} (shape : Shape) (site : Site) (clock told : ℕ) (pairs : List Pair) (sheets : IndexMap CommandId SiteSheet S) where
  -- the sheet of the command that was changed last
  pub sheet_here : (id : CommandId) (sheet : Sheet) (s : ProcessState) → Agrees shape site clock told pairs sheets (with_sheet id sheet s)
      → sheet_at shape site sheets id ≡ site_sheet shape site sheet
  sheet_here id sheet s h =
      h.sheets_are id ∙ ap (λ (kept : Sheet). site_sheet shape site kept) (cond-true (same_id id id) sheet (s.sheets id) (same_id_refl id))

  -- one command's sheet is another one
  pub changed : (new : IndexMap CommandId SiteSheet S) (id : CommandId) (kept : SiteSheet) (sheet : Sheet) (s : ProcessState)
      → ChangesSheet shape site sheets new id kept → kept ≡ site_sheet shape site sheet → IsLow shape sheet
      → Agrees shape site clock told pairs sheets s → Agrees shape site clock told pairs new (with_sheet id sheet s)
  changed new id kept sheet s change is_kept low h = record {
    clock_is = h.clock_is;
    told_is = h.told_is;
    untold_is = h.untold_is;
    attached = h.attached;
    told_low = h.told_low;
    room = h.room;
    sheets_are = λ other. there other (same_id id other) refl;
    low = λ other. low_there other (same_id id other);
  }
    where
      there : (other : CommandId) (b : Bool) → same_id id other ≡ b → sheet_at shape site new other ≡ site_sheet shape site (cond b sheet (s.sheets other))
      there other true e = subst (λ (x : CommandId). sheet_at shape site new x ≡ site_sheet shape site sheet) (same_id_is id other e) (change.here ∙ is_kept)
      there other false e = change.others other e ∙ h.sheets_are other

      low_there : (other : CommandId) (b : Bool) → IsLow shape (cond b sheet (s.sheets other))
      low_there other true = low
      low_there other false = h.low other

  -- the sheet that was changed last is changed once more
  pub changed_again : (id : CommandId) (old sheet : Sheet) (s : ProcessState)
      → Agrees shape site clock told pairs sheets (with_sheet id sheet (with_sheet id old s))
      → Agrees shape site clock told pairs sheets (with_sheet id sheet s)
  changed_again id old sheet s h = record {
    clock_is = h.clock_is;
    told_is = h.told_is;
    untold_is = h.untold_is;
    attached = h.attached;
    told_low = h.told_low;
    room = h.room;
    sheets_are = λ other. h.sheets_are other ∙ ap (λ (kept : Sheet). site_sheet shape site kept) (once other (same_id id other));
    low = λ other. subst (IsLow shape) (once other (same_id id other)) (h.low other);
  }
    where
      once : (other : CommandId) (b : Bool) → cond b sheet (cond b old (s.sheets other)) ≡ cond b sheet (s.sheets other)
      once other true = refl
      once other false = refl

  -- a sheet that is put back as it was
  pub put_back : (id : CommandId) (s : ProcessState) → Agrees shape site clock told pairs sheets (with_sheet id (s.sheets id) s)
      → Agrees shape site clock told pairs sheets s
  put_back id s h = record {
    clock_is = h.clock_is;
    told_is = h.told_is;
    untold_is = h.untold_is;
    attached = h.attached;
    told_low = h.told_low;
    room = h.room;
    sheets_are = λ other. h.sheets_are other ∙ ap (λ (kept : Sheet). site_sheet shape site kept) (same other (same_id id other) refl);
    low = λ other. subst (IsLow shape) (same other (same_id id other) refl) (h.low other);
  }
    where
      same : (other : CommandId) (b : Bool) → same_id id other ≡ b → cond b (s.sheets id) (s.sheets other) ≡ s.sheets other
      same other true e = ap (λ (x : CommandId). s.sheets x) (same_id_is id other e)
      same other false e = refl

-- what is kept once a partition's stamp is known
abbrev pub known_sheet : ℕ → ℕ → Sheet → Sheet
known_sheet q t sheet = cond (is_some (stamp_of sheet q)) sheet (with_stamp q t sheet)

pub known_low : {shape : Shape} (q t : ℕ) (sheet : Sheet) → t < STAMP_LIMIT → IsLow shape sheet → IsLow shape (known_sheet q t sheet)
known_low {shape} q t sheet lt h = go (is_some (stamp_of sheet q))
  where
    go : (b : Bool) → IsLow shape (cond b sheet (with_stamp q t sheet))
    go true = h
    go false = with_stamp_low q t sheet lt h

abbrev finishing : Shape → Site → CommandId → Sheet → ProcessState → Step
finishing shape site id known s = finished site id known known.command (final_stamp shape known known.command) s

-- where no final stamp is known
unfinished : (shape : Shape) (site : Site) (id : CommandId) (known : Sheet) (o : Option Command) (last : Option ℕ) (s : ProcessState) → last ≡ None
    → finished site id known o last s ≡ (with_sheet id known s, [])
unfinished shape site id known None last s e = refl
unfinished shape site id known (Some c) None s e = refl
unfinished shape site id known (Some c) (Some t) s e = absurd cc

pub learned_none : (shape : Shape) (site : Site) (id : CommandId) (q t : ℕ) (sheet : Sheet) (s : ProcessState)
    → final_after_learning q t (site_sheet shape site sheet) ≡ None
    → learned shape site id q t sheet s ≡ (with_sheet id (known_sheet q t sheet) s, [])
learned_none shape site id q t sheet s e = go (is_some (stamp_of sheet q)) e
  where
    known : Sheet
    known = with_stamp q t sheet

    go : (b : Bool) → cond b None (final_stamp shape (cond b sheet known) (cond b sheet known).command) ≡ None
        → cond {A = Step} b (with_sheet id sheet s, []) (finishing shape site id known s) ≡ (with_sheet id (cond b sheet known) s, [])
    go true e = refl
    go false e = unfinished shape site id known known.command (final_stamp shape known known.command) s e

-- where the final stamp is known
finished_some : (shape : Shape) (site : Site) (id : CommandId) (known : Sheet) (o : Option Command) (n : ℕ) (s : ProcessState) → final_stamp shape known o ≡ Some n
    → finished site id known o (final_stamp shape known o) s ≡ (bumped n (with_sheet id known s), committed site o n)
finished_some shape site id known None n s e = absurd cc
finished_some shape site id known (Some c) n s e = ap (λ (last : Option ℕ). finished site id known (Some c) last s) e

pub learned_some : (shape : Shape) (site : Site) (id : CommandId) (q t n : ℕ) (sheet : Sheet) (s : ProcessState)
    → final_after_learning q t (site_sheet shape site sheet) ≡ Some n
    → learned shape site id q t sheet s ≡ (bumped n (with_sheet id (known_sheet q t sheet) s), committed site (known_sheet q t sheet).command n)
learned_some shape site id q t n sheet s e = go (is_some (stamp_of sheet q)) e
  where
    known : Sheet
    known = with_stamp q t sheet

    go : (b : Bool) → cond b None (final_stamp shape (cond b sheet known) (cond b sheet known).command) ≡ Some n
        → cond {A = Step} b (with_sheet id sheet s, []) (finishing shape site id known s)
        ≡ (bumped n (with_sheet id (cond b sheet known) s), committed site (cond b sheet known).command n)
    go true e = absurd cc
    go false e = finished_some shape site id known known.command n s e

-- the final stamp is below the limit
pub final_after_learning_low : (shape : Shape) (site : Site) (q t n : ℕ) (sheet : Sheet) → t < STAMP_LIMIT → IsLow shape sheet → final_after_learning q t (site_sheet shape site sheet) ≡ Some n → n < STAMP_LIMIT
final_after_learning_low shape site q t n sheet lt h e = go (is_some (stamp_of sheet q)) e
  where
    known : Sheet
    known = with_stamp q t sheet

    go : (b : Bool) → cond b None (final_stamp shape (cond b sheet known) (cond b sheet known).command) ≡ Some n → n < STAMP_LIMIT
    go true e = absurd cc
    go false e = final_low shape known known.command n (with_stamp_low q t sheet lt h) e

module _ {S : Type 0} (shape : Shape) (site : Site) (clock told : ℕ) (pairs : List Pair) (sheets new : IndexMap CommandId SiteSheet S)
    (id : CommandId) (q t : ℕ) (sheet : Sheet) (s : ProcessState)
    (change : ChangesSheet shape site sheets new id (with_known q t (sheet_at shape site sheets id)))
    (h : Agrees shape site clock told pairs sheets (with_sheet id sheet s)) (below : t < STAMP_LIMIT) where
  here : sheet_at shape site sheets id ≡ site_sheet shape site sheet
  here = sheet_here shape site clock told pairs sheets id sheet s h

  low_here : IsLow shape sheet
  low_here = subst (IsLow shape) (cond-true (same_id id id) sheet (s.sheets id) (same_id_refl id)) (h.low id)

  -- the stamp is kept in the sheet
  pub knows : Agrees shape site clock told pairs new (with_sheet id (known_sheet q t sheet) s)
  knows =
      changed_again shape site clock told pairs new id sheet (known_sheet q t sheet) s
      (changed shape site clock told pairs sheets new id (with_known q t (sheet_at shape site sheets id)) (known_sheet q t sheet) (with_sheet id sheet s)
      change (ap (λ (kept : SiteSheet). with_known q t kept) here) (known_low q t sheet below low_here) h)

  by_sheet : (o : Option ℕ) → final_after_learning q t (sheet_at shape site sheets id) ≡ o → final_after_learning q t (site_sheet shape site sheet) ≡ o
  by_sheet o e = ap (λ (kept : SiteSheet). final_after_learning q t kept) (sym here) ∙ e

  pub learns_none : final_after_learning q t (sheet_at shape site sheets id) ≡ None → Agrees shape site clock told pairs new (learned shape site id q t sheet s).0
  learns_none e = subst (λ (m : Step). Agrees shape site clock told pairs new m.0) (sym (learned_none shape site id q t sheet s (by_sheet None e))) knows

  pub learns_some : (n : ℕ) → final_after_learning q t (sheet_at shape site sheets id) ≡ Some n
      → (learned shape site id q t sheet s ≡ (bumped n (with_sheet id (known_sheet q t sheet) s), committed site (known_sheet q t sheet).command n)) × (n < STAMP_LIMIT)
  learns_some n e = (
    learned_some shape site id q t n sheet s (by_sheet (Some n) e),
    final_after_learning_low shape site q t n sheet below low_here (by_sheet (Some n) e),
  )

-- where the command accesses the partition
pub commit_taken : (shape : Shape) (site : Site) (c : Command) (q t : ℕ) (s : ProcessState) → is_accessed shape.partitions c q ≡ true
    → on_commit (ring_rule shape) site c q t s ≡ learned shape site c.id q t (with_command c (s.sheets c.id)) s
commit_taken shape site c q t s e =
    cond-true {A = Step} (is_accessed shape.partitions c q) (learned shape site c.id q t (with_command c (s.sheets c.id)) s) (s, []) e

-- a process starts with blank sheets
pub starts : {S : Type 0} (shape : Shape) (site : Site) (none : List Pair) (sheets : IndexMap CommandId SiteSheet S) → none ≡ []
    → ((id : CommandId) → get same_id sheets id ≡ None) → Agrees shape site 0 0 none sheets (start shape)
starts shape site none sheets empty gone = record {
  clock_is = refl;
  told_is = refl;
  untold_is = empty;
  attached = tt;
  told_low = omega arith;
  room = omega arith;
  sheets_are = λ id. ap (λ (o : Option SiteSheet). unwrap_or o (blank_at shape site)) (gone id);
  low = λ id. blank_low shape;
}
