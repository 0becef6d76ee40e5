-- Sheets in the table.
use Rattle.std.proofs.Common.{◌≡◌, Bool, true, false, Option, Some, None, refl, sym, ap, subst, ◌∙◌}
use Rattle.std.specs.Prelude.{cond, is_some, unwrap_or}
use Rattle.indexmap.specs.IndexMap.{IndexMap, get}
use Rattle.tp_base.specs.Names.{same_id}
use Rattle.tp_base.proofs.SameNames.{same_id_is, same_id_refl}
use Rattle.tp_base.specs.declared.names.CommandId.{CommandId}
use Rattle.tp_base.specs.declared.names.Site.{Site}
use Rattle.tp_process.specs.Sheets.{sheet_at, OpensSheet, ChangesSheet}
use Rattle.tp_sheet.specs.SiteSheet.{SiteSheet, blank_at}
use Rattle.tp_topology.specs.Shape.{Shape}

module _ {S : Type 0} (shape : Shape) (site : Site) (sheets : IndexMap CommandId SiteSheet S) (id : CommandId) where
  pub sheet_at-none : get same_id sheets id ≡ None → sheet_at shape site sheets id ≡ blank_at shape site
  sheet_at-none gone = ap (λ (o : Option SiteSheet). unwrap_or o (blank_at shape site)) gone

  pub unchanged : (new : IndexMap CommandId SiteSheet S) (sheet : SiteSheet) → new ≡ sheets → sheet_at shape site sheets id ≡ sheet → ChangesSheet shape site sheets new id sheet
  unchanged new sheet same kept = record {
    here = ap (λ (table : IndexMap CommandId SiteSheet S). sheet_at shape site table id) same ∙ kept;
    others = λ other apart. ap (λ (table : IndexMap CommandId SiteSheet S). sheet_at shape site table other) same;
  }

  -- a blank sheet where there was none
  pub opened : (new : IndexMap CommandId SiteSheet S)
      → ((other : CommandId) → get same_id new other ≡ cond (same_id id other) (Some (blank_at shape site)) (get same_id sheets other))
      → get same_id sheets id ≡ None → OpensSheet shape site sheets new id
  opened new updates gone = record {
    here = ap (λ (o : Option SiteSheet). is_some o) (updates id ∙ ap (λ (b : Bool). cond b (Some (blank_at shape site)) (get same_id sheets id)) (same_id_refl id));
    all = λ other. ap (λ (o : Option SiteSheet). unwrap_or o (blank_at shape site)) (updates other) ∙ there other (same_id id other) refl;
  }
    where
      there : (other : CommandId) (b : Bool) → same_id id other ≡ b
          → unwrap_or (cond b (Some (blank_at shape site)) (get same_id sheets other)) (blank_at shape site) ≡ sheet_at shape site sheets other
      there other true e = sym (subst (λ q. sheet_at shape site sheets q ≡ blank_at shape site) (same_id_is id other e) (sheet_at-none gone))
      there other false e = refl
