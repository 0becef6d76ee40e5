-- The words behind an actor: what is read as an event is written so, and what is written is read.
use Rattle.std.proofs.Common.{◌≡◌, ℕ, ◌≤◌, inl, inr, true, cond, List, [], ◌∷◌, Result, Ok, Err, refl, sym, ap, subst, ◌∙◌, arith}
use Rattle.std.specs.Fmt.{decimal}
use Rattle.std.specs.Prelude.{codes}
use Rattle.std.specs.Str.{bytes_eq}
use Rattle.tp_base.specs.Lists.{Each}
use Rattle.tp_base.specs.declared.names.ActorName.{ActorName}
use Rattle.tp_base.specs.declared.names.CommandId.{CommandId}
use Rattle.tp_entry.specs.Journals.{IsEntry, IsEvent, IsPlace}
use Rattle.tp_entry.specs.Kinds.{IsCommandName, actor, count, id, most, no_word, place, read_word, row}
use Rattle.tp_entry.specs.Meaning.{entry_at, event_at, event_begun, one_id, one_number, two_places}
use Rattle.tp_entry.specs.Print.{entry_words, event_words}
use Rattle.tp_entry.specs.declared.fault.JournalCause.{JournalCause}
use Rattle.tp_entry.specs.declared.fault.JournalCause.TheVariants.{Word}
use Rattle.tp_rules.specs.declared.event.Entry.{Entry}
use Rattle.tp_rules.specs.declared.event.Event.{Event}
use Rattle.tp_rules.specs.declared.event.Event.TheVariants.{Deliver, Dropped, Inner}
use Rattle.tp_rules.specs.declared.event.Inner.TheVariants.{Submit, Recover, Announce, Declare, Execute, Crash}
use Rattle.tp_text.specs.Names.{actor_word, id_word}
use Rattle.tp_text.specs.Rows.{no_more}
use Rattle.tp_text.specs.Steps.{◌>>=◌}
use Rattle.tp_text.proofs.Joined.{IsPlain}
use Rattle.tp_text.proofs.Plain.{decimal_plain, plain_by, same_bytes}
use Rattle.tp_text.proofs.Rowed.{none_is, row_again, row_plain}
use Rattle.tp_text.proofs.Stepped.{bind_ok, chosen, ok_is}
use Rattle.tp_entry.specs.Kinds.{IsSaid, kinds}
use Rattle.tp_entry.proofs.Worded.{IsKind, actor_written, laws, row_is}

abbrev Words : Type 0
Words = List (List ℕ)

-- ---- the words behind the event's name

places_is : (words : Words) (at : ℕ × ℕ) → two_places words ≡ Ok at → (words ≡ decimal at.0 ∷ decimal at.1 ∷ []) × IsPlace at.0 × IsPlace at.1
unfolding two_places
places_is words at e =
    let a = bind_ok (row (place ∷ place ∷ []) words) (λ said. Ok (said.0, said.1.0)) at e in
    let r = row_is (place ∷ place ∷ []) (omega arith, (omega arith, tt)) words a.0 a.1 in
    subst (λ (y : ℕ × ℕ). (words ≡ decimal y.0 ∷ decimal y.1 ∷ []) × IsPlace y.0 × IsPlace y.1) (ok_is JournalCause (a.0.0, a.0.1.0) at a.2) (r.0, r.1.0, r.1.1.0)

number_is : (words : Words) (n : ℕ) → one_number words ≡ Ok n → (words ≡ decimal n ∷ []) × (n ≤ most)
unfolding one_number
number_is words n e =
    let a = bind_ok (row (count ∷ []) words) (λ said. Ok said.0) n e in
    let r = row_is (count ∷ []) (omega arith, tt) words a.0 a.1 in
    subst (λ (y : ℕ). (words ≡ decimal y ∷ []) × (y ≤ most)) (ok_is JournalCause a.0.0 n a.2) (r.0, r.1.0.1)

id_is : (words : Words) (i : CommandId) → one_id words ≡ Ok i → (words ≡ id_word i ∷ []) × IsCommandName i
unfolding one_id
id_is words i e =
    let a = bind_ok (row (id ∷ []) words) (λ said. Ok said.0) i e in
    let r = row_is (id ∷ []) (tt, tt) words a.0 a.1 in
    subst (λ (y : CommandId). (words ≡ id_word y ∷ []) × IsCommandName y) (ok_is JournalCause a.0.0 i a.2) (r.0, r.1.0)

places_again : (m n : ℕ) → IsPlace m → IsPlace n → two_places (decimal m ∷ decimal n ∷ []) ≡ Ok (m, n)
unfolding two_places
places_again m n first second = rw (row_again kinds IsKind IsSaid laws (place ∷ place ∷ []) (omega arith, (omega arith, tt)) (m, (n, tt)) (first, (second, tt))) refl

number_again' : (n : ℕ) → n ≤ most → one_number (decimal n ∷ []) ≡ Ok n
unfolding one_number
number_again' n le = rw (row_again kinds IsKind IsSaid laws (count ∷ []) (omega arith, tt) (n, tt) ((omega arith, le), tt)) refl

id_again : (i : CommandId) → IsCommandName i → one_id (id_word i ∷ []) ≡ Ok i
unfolding one_id
id_again i fits = rw (row_again kinds IsKind IsSaid laws (id ∷ []) (tt, tt) (i, tt) (fits, tt)) refl

-- ---- events

abbrev Says : Words → Event → Type 0
Says words event = (words ≡ event_words event) × IsEvent event

abbrev Answer : Type 0
Answer = Result Event JournalCause

named : (word name : List ℕ) (words others : Words) → bytes_eq word name ≡ true → words ≡ others → word ∷ words ≡ name ∷ others
named word name words others same e = ap (λ (w : List ℕ). w ∷ words) (same_bytes word name same) ∙ ap (λ (ws : Words). name ∷ ws) e

at_places : (word name : List ℕ) (words : Words) (event : Event) (make : ℕ → ℕ → Event) → ((m n : ℕ) → event_words (make m n) ≡ name ∷ decimal m ∷ decimal n ∷ []) → ((m n : ℕ) → IsPlace m → IsPlace n → IsEvent (make m n))
    → bytes_eq word name ≡ true → (two_places words >>= λ at. Ok (make at.0 at.1)) ≡ Ok event → Says (word ∷ words) event
at_places word name words event make text fits same e =
    let a = bind_ok (two_places words) (λ at. Ok (make at.0 at.1)) event e in
    let p = places_is words a.0 a.1 in
    subst (λ (v : Event). Says (word ∷ words) v) (ok_is JournalCause (make a.0.0 a.0.1) event a.2) (named word name words (decimal a.0.0 ∷ decimal a.0.1 ∷ []) same p.0 ∙ sym (text a.0.0 a.0.1), fits a.0.0 a.0.1 p.1 p.2)

at_number : (word : List ℕ) (words : Words) (event : Event) → bytes_eq word (codes "submit") ≡ true → (one_number words >>= λ n. Ok (Inner (Submit n))) ≡ Ok event → Says (word ∷ words) event
at_number word words event same e =
    let a = bind_ok (one_number words) (λ n. Ok (Inner (Submit n))) event e in
    let p = number_is words a.0 a.1 in
    subst (λ (v : Event). Says (word ∷ words) v) (ok_is JournalCause (Inner (Submit a.0)) event a.2) (named word (codes "submit") words (decimal a.0 ∷ []) same p.0, p.1)

at_id : (word name : List ℕ) (words : Words) (event : Event) (make : CommandId → Event) → ((i : CommandId) → event_words (make i) ≡ name ∷ id_word i ∷ []) → ((i : CommandId) → IsCommandName i → IsEvent (make i))
    → bytes_eq word name ≡ true → (one_id words >>= λ i. Ok (make i)) ≡ Ok event → Says (word ∷ words) event
at_id word name words event make text fits same e =
    let a = bind_ok (one_id words) (λ i. Ok (make i)) event e in
    let p = id_is words a.0 a.1 in
    subst (λ (v : Event). Says (word ∷ words) v) (ok_is JournalCause (make a.0) event a.2) (named word name words (id_word a.0 ∷ []) same p.0 ∙ sym (text a.0), fits a.0 p.1)

at_none : (word name : List ℕ) (words : Words) (event made : Event) → event_words made ≡ name ∷ [] → IsEvent made
    → bytes_eq word name ≡ true → (no_word words >>= λ _. Ok made) ≡ Ok event → Says (word ∷ words) event
at_none word name words event made text fits same e =
    let a = bind_ok (no_word words) (λ _. Ok made) event e in
    subst (λ (v : Event). Says (word ∷ words) v) (ok_is JournalCause made event a.2) (named word name words [] same (none_is Word words a.0 a.1) ∙ sym text, fits)

abbrev from_crash : List ℕ → Words → Answer
from_crash word words = cond (bytes_eq word (codes "crash")) (no_word words >>= λ _. Ok (Inner Crash)) (Err Word)

abbrev from_execute : List ℕ → Words → Answer
from_execute word words = cond (bytes_eq word (codes "execute")) (one_id words >>= λ i. Ok (Inner (Execute i))) (from_crash word words)

abbrev from_declare : List ℕ → Words → Answer
from_declare word words = cond (bytes_eq word (codes "declare")) (one_id words >>= λ i. Ok (Inner (Declare i))) (from_execute word words)

abbrev from_announce : List ℕ → Words → Answer
from_announce word words = cond (bytes_eq word (codes "announce")) (no_word words >>= λ _. Ok (Inner Announce)) (from_declare word words)

abbrev from_recover : List ℕ → Words → Answer
from_recover word words = cond (bytes_eq word (codes "recover")) (one_id words >>= λ i. Ok (Inner (Recover i))) (from_announce word words)

abbrev from_submit : List ℕ → Words → Answer
from_submit word words = cond (bytes_eq word (codes "submit")) (one_number words >>= λ n. Ok (Inner (Submit n))) (from_recover word words)

abbrev from_drop : List ℕ → Words → Answer
from_drop word words = cond (bytes_eq word (codes "drop")) (two_places words >>= λ at. Ok (Dropped at.0 at.1)) (from_submit word words)

at_crash : (word : List ℕ) (words : Words) (event : Event) → from_crash word words ≡ Ok event → Says (word ∷ words) event
at_crash word words event e = elim (chosen (bytes_eq word (codes "crash")) (no_word words >>= λ _. Ok (Inner Crash)) (Err Word) (Ok event) e) [
  | inl p ↦ at_none word (codes "crash") words event (Inner Crash) refl tt p.0 p.1
  | inr z ↦ let wrong : ⊥ = cc in absurd wrong
]

at_execute : (word : List ℕ) (words : Words) (event : Event) → from_execute word words ≡ Ok event → Says (word ∷ words) event
at_execute word words event e = elim (chosen (bytes_eq word (codes "execute")) (one_id words >>= λ i. Ok (Inner (Execute i))) (from_crash word words) (Ok event) e) [
  | inl p ↦ at_id word (codes "execute") words event (λ i. Inner (Execute i)) (λ i. refl) (λ i fits. fits) p.0 p.1
  | inr q ↦ at_crash word words event q.1
]

at_declare : (word : List ℕ) (words : Words) (event : Event) → from_declare word words ≡ Ok event → Says (word ∷ words) event
at_declare word words event e = elim (chosen (bytes_eq word (codes "declare")) (one_id words >>= λ i. Ok (Inner (Declare i))) (from_execute word words) (Ok event) e) [
  | inl p ↦ at_id word (codes "declare") words event (λ i. Inner (Declare i)) (λ i. refl) (λ i fits. fits) p.0 p.1
  | inr q ↦ at_execute word words event q.1
]

at_announce : (word : List ℕ) (words : Words) (event : Event) → from_announce word words ≡ Ok event → Says (word ∷ words) event
at_announce word words event e = elim (chosen (bytes_eq word (codes "announce")) (no_word words >>= λ _. Ok (Inner Announce)) (from_declare word words) (Ok event) e) [
  | inl p ↦ at_none word (codes "announce") words event (Inner Announce) refl tt p.0 p.1
  | inr q ↦ at_declare word words event q.1
]

at_recover : (word : List ℕ) (words : Words) (event : Event) → from_recover word words ≡ Ok event → Says (word ∷ words) event
at_recover word words event e = elim (chosen (bytes_eq word (codes "recover")) (one_id words >>= λ i. Ok (Inner (Recover i))) (from_announce word words) (Ok event) e) [
  | inl p ↦ at_id word (codes "recover") words event (λ i. Inner (Recover i)) (λ i. refl) (λ i fits. fits) p.0 p.1
  | inr q ↦ at_announce word words event q.1
]

at_submit : (word : List ℕ) (words : Words) (event : Event) → from_submit word words ≡ Ok event → Says (word ∷ words) event
at_submit word words event e = elim (chosen (bytes_eq word (codes "submit")) (one_number words >>= λ n. Ok (Inner (Submit n))) (from_recover word words) (Ok event) e) [
  | inl p ↦ at_number word words event p.0 p.1
  | inr q ↦ at_recover word words event q.1
]

at_drop : (word : List ℕ) (words : Words) (event : Event) → from_drop word words ≡ Ok event → Says (word ∷ words) event
at_drop word words event e = elim (chosen (bytes_eq word (codes "drop")) (two_places words >>= λ at. Ok (Dropped at.0 at.1)) (from_submit word words) (Ok event) e) [
  | inl p ↦ at_places word (codes "drop") words event (λ m n. Dropped m n) (λ m n. refl) (λ m n a b. (a, b)) p.0 p.1
  | inr q ↦ at_submit word words event q.1
]

event_is : (word : List ℕ) (words : Words) (event : Event) → event_at word words ≡ Ok event → Says (word ∷ words) event
unfolding event_at
event_is word words event e = elim (chosen (bytes_eq word (codes "deliver")) (two_places words >>= λ at. Ok (Deliver at.0 at.1)) (from_drop word words) (Ok event) e) [
  | inl p ↦ at_places word (codes "deliver") words event (λ m n. Deliver m n) (λ m n. refl) (λ m n a b. (a, b)) p.0 p.1
  | inr q ↦ at_drop word words event q.1
]

begun_is : (words : Words) (event : Event) → event_begun words ≡ Ok event → Says words event
unfolding event_begun
begun_is [] event e = let wrong : ⊥ = cc in absurd wrong
begun_is (word ∷ words) event e = event_is word words event e

event_again : (event : Event) → IsEvent event → event_begun (event_words event) ≡ Ok event
unfolding event_begun event_at no_more
event_again (Deliver m n) fits = ap (λ (r : Result (ℕ × ℕ) JournalCause). let z : Answer = r >>= λ at. Ok (Deliver at.0 at.1) in z) (places_again m n fits.0 fits.1)
event_again (Dropped m n) fits = ap (λ (r : Result (ℕ × ℕ) JournalCause). let z : Answer = r >>= λ at. Ok (Dropped at.0 at.1) in z) (places_again m n fits.0 fits.1)
event_again (Inner (Submit n)) fits = ap (λ (r : Result ℕ JournalCause). let z : Answer = r >>= λ k. Ok (Inner (Submit k)) in z) (number_again' n fits)
event_again (Inner (Recover i)) fits = ap (λ (r : Result CommandId JournalCause). let z : Answer = r >>= λ k. Ok (Inner (Recover k)) in z) (id_again i fits)
event_again (Inner Announce) fits = refl
event_again (Inner (Declare i)) fits = ap (λ (r : Result CommandId JournalCause). let z : Answer = r >>= λ k. Ok (Inner (Declare k)) in z) (id_again i fits)
event_again (Inner (Execute i)) fits = ap (λ (r : Result CommandId JournalCause). let z : Answer = r >>= λ k. Ok (Inner (Execute k)) in z) (id_again i fits)
event_again (Inner Crash) fits = refl

places_plain : (m n : ℕ) → IsPlace m → IsPlace n → Each IsPlain (decimal m ∷ decimal n ∷ [])
places_plain m n first second = row_plain kinds IsKind IsSaid laws (place ∷ place ∷ []) (omega arith, (omega arith, tt)) (m, (n, tt)) (first, (second, tt))

id_plain : (i : CommandId) → IsCommandName i → Each IsPlain (id_word i ∷ [])
id_plain i fits = row_plain kinds IsKind IsSaid laws (id ∷ []) (tt, tt) (i, tt) (fits, tt)

-- no space stands in the words
pub event_plain : (event : Event) → IsEvent event → Each IsPlain (event_words event)
event_plain (Deliver m n) fits = (plain_by (codes "deliver") refl, places_plain m n fits.0 fits.1)
event_plain (Dropped m n) fits = (plain_by (codes "drop") refl, places_plain m n fits.0 fits.1)
event_plain (Inner (Submit n)) fits = (plain_by (codes "submit") refl, (decimal_plain n (omega (arith, fits)), tt))
event_plain (Inner (Recover i)) fits = (plain_by (codes "recover") refl, id_plain i fits)
event_plain (Inner Announce) fits = (plain_by (codes "announce") refl, tt)
event_plain (Inner (Declare i)) fits = (plain_by (codes "declare") refl, id_plain i fits)
event_plain (Inner (Execute i)) fits = (plain_by (codes "execute") refl, id_plain i fits)
event_plain (Inner Crash) fits = (plain_by (codes "crash") refl, tt)

-- ---- an actor and an event

-- an entry without outputs
abbrev pub quiet : ActorName → Event → Entry
quiet name event = record { actor = name; event = event; outputs = [] }

pub record IsRead (words : Words) (entry : Entry) : Type 0 where
  pub text : words ≡ entry_words entry
  pub fits : IsEntry entry

pub entry_is : (word : List ℕ) (words : Words) (entry : Entry) → entry_at word words ≡ Ok entry → IsRead (word ∷ words) entry × (entry.outputs ≡ [])
unfolding entry_at
entry_is word words entry e =
    let a = bind_ok (read_word actor word) (λ name. event_begun words >>= λ event. Ok (quiet name event)) entry e in
    let b = bind_ok (event_begun words) (λ event. Ok (quiet a.0 event)) entry a.2 in
    let w = laws.takes actor tt word a.0 a.1 in
    let v = begun_is words b.0 b.1 in
    let text : word ∷ words ≡ entry_words (quiet a.0 b.0) = ap (λ (x : List ℕ). x ∷ words) w.0 ∙ ap (λ (ws : Words). actor_word a.0 ∷ ws) v.0 in
    subst (λ (y : Entry). IsRead (word ∷ words) y × (y.outputs ≡ [])) (ok_is JournalCause (quiet a.0 b.0) entry b.2) (record { text = text; fits = record { actor = w.1; event = v.1; outputs = tt } }, refl)

pub entry_again : (entry : Entry) → IsEntry entry → entry_at (actor_word entry.actor) (event_words entry.event) ≡ Ok (quiet entry.actor entry.event)
unfolding entry_at
entry_again entry fits = rw (actor_written entry.actor fits.actor, event_again entry.event fits.event) refl
