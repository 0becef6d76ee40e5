-- The commits of a site, entry by entry, and the first stamp among them.
use Rattle.std.proofs.Common.{◌≡◌, ℕ, ◌<◌, ◌+◌, length, get_or, take, Bool, true, false, cond, List, [], ◌∷◌, ◌++◌, Option, Some, None, refl, sym, ap, subst, ◌∙◌}
use Rattle.std.specs.Option.{option_or}
use Rattle.std.specs.Prelude.{filter, filter_map}
use Rattle.std.proofs.lemmas.List.Elements.{filter_map-append}
use Rattle.tp_base.proofs.SameNames.{same_site_is, same_site_refl}
use Rattle.tp_base.specs.Names.{same_id, same_name, same_site}
use Rattle.tp_base.specs.declared.names.ActorName.{ActorName}
use Rattle.tp_base.specs.declared.names.ActorName.TheVariants.{Process, Executor, Session}
use Rattle.tp_base.specs.declared.names.CommandId.{CommandId}
use Rattle.tp_base.specs.declared.names.SessionId.{SessionId}
use Rattle.tp_base.specs.declared.names.Site.{Site}
use Rattle.tp_base.specs.declared.names.Stamp.{Stamp}
use Rattle.tp_ops.specs.declared.command.Command.{Command}
use Rattle.indexmap.specs.IndexMap.{IndexMap, get}
use Rattle.std.proofs.lemmas.List.{take_more}
use Rattle.std.proofs.lemmas.List.Elements.{filter-append}
use Rattle.tp_print.proofs.KeptFirst.{option_or_none}
use Rattle.tp_print.specs.Recorded.{AreMore, commits_at, commits_sent, first_stamp}
use Rattle.tp_rules.specs.Outcome.{Commit, commit_by, commits}
use Rattle.tp_rules.specs.declared.event.Entry.{Entry}
use Rattle.tp_wire.specs.declared.message.Body.{Body}
use Rattle.tp_wire.specs.declared.message.Body.TheVariants.{MCommitted}
use Rattle.tp_wire.specs.declared.message.Message.{Message}

option_or_assoc : (a b c : Option ℕ) → option_or (option_or a b) c ≡ option_or a (option_or b c)
option_or_assoc (Some n) b c = refl
option_or_assoc None b c = refl

pub first_stamp-append : (xs ys : List Commit) (id : CommandId)
    → first_stamp (xs ++ ys) id ≡ option_or (first_stamp xs id) (first_stamp ys id)
first_stamp-append [] ys id = refl
first_stamp-append (x ∷ xs) ys id = by (same_id x.id id) (first_stamp-append xs ys id)
  where
    by : (b : Bool) → first_stamp (xs ++ ys) id ≡ option_or (first_stamp xs id) (first_stamp ys id)
        → cond b (Some x.stamp) (first_stamp (xs ++ ys) id) ≡ option_or (cond b (Some x.stamp) (first_stamp xs id))
        (first_stamp ys id)
    by true rest = refl
    by false rest = rest

-- a message of another kind commits nothing
pub none_sent : (o : Option ℕ) (s : Site) (m : Message) (id : CommandId)
    → ((c : Command) (t : Stamp) → m.body ≡ MCommitted c t → ⊥)
    → o ≡ option_or o (first_stamp (commits_sent s (m ∷ [])) id)
none_sent o s m id apart = by m.body apart
  where
    by : (b : Body) → ((c : Command) (t : Stamp) → b ≡ MCommitted c t → ⊥)
        → o ≡ option_or o (first_stamp (commits_sent s (record { from = m.from; to = m.to; body = b } ∷ [])) id)
    by (MCommitted c t) none = absurd (none c t refl)
    by _ none = sym (option_or_none o)

-- one message more
pub first_stamp_more : (o : Option ℕ) (s : Site) (ms : List Message) (m : Message) (id : CommandId)
    → option_or o (first_stamp (commits_sent s (ms ++ m ∷ [])) id) ≡ option_or
    (option_or o (first_stamp (commits_sent s ms) id)) (first_stamp (commits_sent s (m ∷ [])) id)
first_stamp_more o s ms m id =
    ap (λ (cs : List Commit). option_or o (first_stamp cs id))
    (filter_map-append (λ (k : Message). commit_by (Process s) k.body) ms (m ∷ []))
    ∙ ap (λ (n : Option ℕ). option_or o n) (first_stamp-append (commits_sent s ms) (commits_sent s (m ∷ [])) id)
    ∙ sym (option_or_assoc o (first_stamp (commits_sent s ms) id) (first_stamp (commits_sent s (m ∷ [])) id))

-- the commits of an entry that are a site's

here : (s : Site) (m : Message) (ms : List Message)
    → filter (λ c. same_site c.site s) (commits_sent s ms) ≡ commits_sent s ms
    → filter (λ c. same_site c.site s) (commits_sent s (m ∷ ms)) ≡ commits_sent s (m ∷ ms)
here s m ms rest = by m.body
  where
    by : (b : Body) → filter (λ c. same_site c.site s)
        (commits_sent s (record { from = m.from; to = m.to; body = b } ∷ ms)) ≡ commits_sent s
        (record { from = m.from; to = m.to; body = b } ∷ ms)
    by (MCommitted c t) =
        ap (λ (b : Bool). cond b (record { site = s; id = c.id; stamp = t.0 } ∷ filter (λ c. same_site c.site s)
        (commits_sent s ms)) (filter (λ c. same_site c.site s) (commits_sent s ms))) (same_site_refl s)
        ∙ ap (λ (cs : List Commit). record { site = s; id = c.id; stamp = t.0 } ∷ cs) rest
    by _ = rest

sent_here : (s : Site) (ms : List Message) → filter (λ c. same_site c.site s) (commits_sent s ms) ≡ commits_sent s ms
sent_here s [] = refl
sent_here s (m ∷ ms) = here s m ms (sent_here s ms)

apart : (s q : Site) (m : Message) (ms : List Message) → same_site q s ≡ false
    → filter (λ c. same_site c.site s) (commits_sent q ms) ≡ []
    → filter (λ c. same_site c.site s) (commits_sent q (m ∷ ms)) ≡ []
apart s q m ms other rest = by m.body
  where
    by : (b : Body) → filter (λ c. same_site c.site s)
        (commits_sent q (record { from = m.from; to = m.to; body = b } ∷ ms)) ≡ []
    by (MCommitted c t) =
        ap (λ (b : Bool). cond b (record { site = q; id = c.id; stamp = t.0 } ∷ filter (λ c. same_site c.site s)
        (commits_sent q ms)) (filter (λ c. same_site c.site s) (commits_sent q ms))) other
        ∙ rest
    by _ = rest

sent_apart : (s q : Site) (ms : List Message) → same_site q s ≡ false
    → filter (λ c. same_site c.site s) (commits_sent q ms) ≡ []
sent_apart s q [] other = refl
sent_apart s q (m ∷ ms) other = apart s q m ms other (sent_apart s q ms other)

abbrev pub sent_by : ActorName → List Message → List Commit
sent_by a ms = filter_map (λ m. commit_by a m.body) ms

none_of_executor : (s : Site) (ms : List Message) → sent_by (Executor s) ms ≡ []
none_of_executor s [] = refl
none_of_executor s (m ∷ ms) = none_of_executor s ms

none_of_session : (s : SessionId) (ms : List Message) → sent_by (Session s) ms ≡ []
none_of_session s [] = refl
none_of_session s (m ∷ ms) = none_of_session s ms

-- what an actor other than the site's process sends commits nothing of the site
pub sent_of_others : (s : Site) (a : ActorName) (ms : List Message) → same_name a (Process s) ≡ false
    → filter (λ c. same_site c.site s) (sent_by a ms) ≡ []
sent_of_others s (Process q) ms other = sent_apart s q ms other
sent_of_others s (Executor q) ms other =
    ap (λ (cs : List Commit). filter (λ c. same_site c.site s) cs) (none_of_executor q ms)
sent_of_others s (Session q) ms other =
    ap (λ (cs : List Commit). filter (λ c. same_site c.site s) cs) (none_of_session q ms)

pub sent_of_process : (s : Site) (a : ActorName) (ms : List Message) → same_name a (Process s) ≡ true
    → filter (λ c. same_site c.site s) (sent_by a ms) ≡ commits_sent s ms
sent_of_process s (Process q) ms same =
    subst (λ (k : Site). filter (λ c. same_site c.site s) (sent_by (Process k) ms) ≡ commits_sent s ms)
    (sym (same_site_is q s same)) (sent_here s ms)
sent_of_process s (Executor q) ms same = absurd cc
sent_of_process s (Session q) ms same = absurd cc

-- one entry more
pub first_stamp_entry : (older : List Entry) (s : Site) (e : Entry) (id : CommandId)
    → first_stamp (commits_at (e ∷ older) s) id ≡ option_or (first_stamp (commits_at older s) id)
    (first_stamp (filter (λ c. same_site c.site s) (sent_by e.actor e.outputs)) id)
first_stamp_entry older s e id =
    ap (λ (cs : List Commit). first_stamp cs id)
    (filter-append (λ (c : Commit). same_site c.site s) (commits older) (sent_by e.actor e.outputs))
    ∙ first_stamp-append (commits_at older s) (filter (λ c. same_site c.site s) (sent_by e.actor e.outputs)) id

-- the stamps go on with one message more
pub stamps_noted : {S : Type 0} (old now new : IndexMap CommandId ℕ S) (xs : List Message) (i : ℕ) (m : Message)
    → i < length xs → m ≡ get_or xs i m
    → AreMore old (λ s. commits_sent s (take i xs)) now → AreMore now (λ s. commits_sent s (m ∷ [])) new
    → AreMore old (λ s. commits_sent s (take (i + 1) xs)) new
stamps_noted old now new xs i m lt is before here = λ s id.
    here s id
    ∙ ap (λ (o : Option ℕ). option_or o (first_stamp (commits_sent s (m ∷ [])) id)) (before s id)
    ∙ sym (first_stamp_more (get same_id old id) s (take i xs) m id)
    ∙ ap (λ (ms : List Message). option_or (get same_id old id) (first_stamp (commits_sent s ms) id))
    (ap (λ (k : Message). take i xs ++ k ∷ []) is ∙ sym (take_more xs i m lt))
