-- The records of all sites go on with each entry.
use Rattle.indexmap.specs.IndexMap.{IndexMap, get}
use Rattle.std.proofs.Common.{◌≡◌, ◌⊎◌, inl, inr, Bool, true, false, cond, List, [], ◌∷◌, Option, Some, None, refl, sym, ap, subst, ◌∙◌}
use Rattle.std.specs.Prelude.{is_some, unwrap_or}
use Rattle.tp_base.proofs.Options.{absent}
use Rattle.tp_base.proofs.SameNames.{same_site_is}
use Rattle.tp_base.specs.Names.{same_name, same_site}
use Rattle.tp_base.specs.declared.names.ActorName.TheVariants.{Process, Executor, Session}
use Rattle.tp_base.specs.declared.names.SessionId.{SessionId}
use Rattle.tp_base.specs.declared.names.Site.{Site}
use Rattle.tp_print.proofs.Recording.{other_noted}
use Rattle.tp_print.specs.Recorded.{AreRecorded, IsKept, IsRecorded}
use Rattle.tp_print.specs.declared.site.SiteRecord.{SiteRecord}
use Rattle.tp_rules.specs.declared.event.Entry.{Entry}

-- an entry of another actor
kept_still : (older : List Entry) (s : Site) (e : Entry) (o : Option SiteRecord)
    → same_name e.actor (Process s) ≡ false → same_name e.actor (Executor s) ≡ false
    → IsKept older s o → IsKept (e ∷ older) s o
kept_still older s e None process executor h = λ r new. other_noted older s e r (h r new) process executor
kept_still older s e (Some r) process executor h = other_noted older s e r h process executor

module _ {S : Type 0} (older : List Entry) (old new : IndexMap Site SiteRecord S) where
  -- a new record where there was none
  pub site_opened : (site : Site) (r : SiteRecord) → is_some (get same_site old site) ≡ false
      → ((s : Site) → IsRecorded [] s r)
      → ((s : Site) → get same_site new s ≡ cond (same_site site s) (Some r) (get same_site old s))
      → AreRecorded older old → AreRecorded older new
  site_opened site r missing blank updates h s = subst (IsKept older s) (sym (updates s)) (by (same_site site s) refl)
    where
      by : (b : Bool) → same_site site s ≡ b → IsKept older s (cond b (Some r) (get same_site old s))
      by true e =
          subst (λ (o : Option SiteRecord). IsKept older s o)
          (ap (get same_site old) (sym (same_site_is site s e)) ∙ absent (get same_site old site) missing) (h s) r
          (blank s)
      by false e = h s

  -- an entry of a site's process or executor
  pub site_noted : (e : Entry) (site : Site) → (e.actor ≡ Process site) ⊎ (e.actor ≡ Executor site)
      → AreRecorded older old
      → IsKept (e ∷ older) site (get same_site new site)
      → ((s : Site) → same_site site s ≡ false → get same_site new s ≡ get same_site old s)
      → AreRecorded (e ∷ older) new
  site_noted e site mine h here others s = by (same_site site s) refl mine
    where
      by : (b : Bool) → same_site site s ≡ b → (e.actor ≡ Process site) ⊎ (e.actor ≡ Executor site)
          → IsKept (e ∷ older) s (get same_site new s)
      by true same _ = subst (λ (q : Site). IsKept (e ∷ older) q (get same_site new q)) (same_site_is site s same) here
      by false apart (inl process) =
          subst (IsKept (e ∷ older) s) (sym (others s apart))
          (kept_still older s e (get same_site old s) (ap (λ a. same_name a (Process s)) process ∙ apart)
          (ap (λ a. same_name a (Executor s)) process) (h s))
      by false apart (inr executor) =
          subst (IsKept (e ∷ older) s) (sym (others s apart))
          (kept_still older s e (get same_site old s) (ap (λ a. same_name a (Process s)) executor)
          (ap (λ a. same_name a (Executor s)) executor ∙ apart) (h s))

-- an entry of a session
pub session_noted : {S : Type 0} (older : List Entry) (sites : IndexMap Site SiteRecord S) (e : Entry) (id : SessionId)
    → e.actor ≡ Session id
    → AreRecorded older sites → AreRecorded (e ∷ older) sites
session_noted older sites e id is h s =
    kept_still older s e (get same_site sites s) (ap (λ a. same_name a (Process s)) is)
    (ap (λ a. same_name a (Executor s)) is) (h s)

-- the record that is kept, or a new one
pub kept_or_new : (older : List Entry) (s : Site) (o : Option SiteRecord) (new r : SiteRecord) → r ≡ unwrap_or o new
    → ((q : Site) → IsRecorded [] q new)
    → IsKept older s o → IsRecorded older s r
kept_or_new older s None new r is blank h = subst (λ (k : SiteRecord). IsRecorded older s k) (sym is) (h new (blank s))
kept_or_new older s (Some kept) new r is blank h = subst (λ (k : SiteRecord). IsRecorded older s k) (sym is) h
