-- Names of actors and commands, stamps and pairs of an announcement.
use Rattle.std.proofs.Common.{◌≡◌, ℕ, zero, suc, ◌+◌, ◌-◌, ◌^◌, ◌≤◌, ◌<◌, List, [], ◌∷◌, ◌++◌, length, Ok, refl, sym, ap, arith}
use Rattle.std.specs.List.{flat_map}
use Rattle.std.specs.Prelude.{min}
use Rattle.std.proofs.lemmas.List.{append-nil}
use Rattle.tp_base.specs.Limits.{IsFrom, IsId, IsSite}
use Rattle.tp_base.specs.declared.names.ActorName.{ActorName}
use Rattle.tp_base.specs.declared.names.ActorName.TheVariants.{Process, Executor, Session}
use Rattle.tp_base.specs.declared.names.Made.{Made}
use Rattle.tp_base.specs.declared.names.Made.TheVariants.{Proposal, Recovery}
use Rattle.tp_base.specs.declared.names.Pair.{Pair}
use Rattle.tp_base.specs.declared.names.Site.{Site}
use Rattle.tp_wire.specs.Meaning.{executor_at, id_at, made_at, made_of, most, number_at, pair_at, pairs_at, pairs_from, partition_at, process_at, session_at, site_at, stamp_at}
use Rattle.tp_wire.specs.Ranges.{IsAttached, IsClient, IsExecutor, IsNumber, IsProcess}
use Rattle.tp_wire.specs.Spelling.{actor, byte, eight, four, id, joined, made_byte, pair, pairs}
use Rattle.tp_wire.proofs.Fielded.{IsField, ends, last, then_field, whole}
use Rattle.tp_wire.proofs.Listed.{empty}
use Rattle.tp_wire.proofs.Numbered.{byte_field, eight_field, four_field}

-- ---- actors

abbrev site_bytes : Site → List ℕ
site_bytes s = joined (byte s.partition.0 ∷ byte s.rank.0 ∷ [])

abbrev site_of : ℕ → ℕ → Site
site_of p k = record { partition = record { 0 = p }; rank = record { 0 = k } }

site_field : IsField site_at site_bytes IsSite
unfolding site_at
site_field = whole
    (then_field (byte_field 1 4 (omega arith)) (λ p _. then_field (byte_field 1 7 (omega arith)) (λ k _. ends (site_of p k))))
    (λ p fits. (refl, (fits.0, fits.1.0)))
    (λ s fits. ((s.partition.0, (s.rank.0, tt)), refl, (fits.0, (fits.1, tt))))

process_parts : (name : ActorName) → IsProcess name → (p : Site × Unit {0}) × (Process p.0 ≡ name) × (IsSite p.0 × Unit {0})
process_parts (Process site) fits = ((site, tt), refl, (fits, tt))
process_parts (Executor site) fits = absurd fits
process_parts (Session session) fits = absurd fits

pub process_field : IsField process_at actor IsProcess
unfolding process_at actor
process_field = whole (then_field site_field (λ site _. ends (Process site))) (λ p fits. (refl, fits.0)) process_parts

executor_parts : (name : ActorName) → IsExecutor name → (p : Site × Unit {0}) × (Executor p.0 ≡ name) × (IsSite p.0 × Unit {0})
executor_parts (Executor site) fits = ((site, tt), refl, (fits, tt))
executor_parts (Process site) fits = absurd fits
executor_parts (Session session) fits = absurd fits

pub executor_field : IsField executor_at actor IsExecutor
unfolding executor_at actor
executor_field = whole (then_field site_field (λ site _. ends (Executor site))) (λ p fits. (refl, fits.0)) executor_parts

session_parts : (name : ActorName) → IsClient name → (p : ℕ × Unit {0}) × (Session (record { 0 = p.0 }) ≡ name) × (IsFrom 1 16 p.0 × Unit {0})
session_parts (Session session) fits = ((session.0, tt), refl, (fits, tt))
session_parts (Process site) fits = absurd fits
session_parts (Executor site) fits = absurd fits

pub session_field : IsField session_at actor IsClient
unfolding session_at actor
session_field = whole (then_field (byte_field 1 16 (omega arith)) (λ s _. ends (Session (record { 0 = s })))) (λ p fits. (refl, fits.0)) session_parts

-- ---- identifiers, stamps and the like

pub id_field : IsField id_at id IsId
unfolding id_at id
id_field = whole
    (then_field (byte_field 1 16 (omega arith)) (λ s _. then_field (four_field 1 1000 (omega arith)) (λ n _. ends (record { session = record { 0 = s }; number = n }))))
    (λ p fits. (refl, (fits.0, fits.1.0)))
    (λ i fits. ((i.session.0, (i.number, tt)), refl, (fits.0, (fits.1, tt))))

pub partition_field : IsField partition_at (λ q. byte q.0) (λ q. IsFrom 1 4 q.0)
unfolding partition_at
partition_field = whole (then_field (byte_field 1 4 (omega arith)) (λ n _. ends (record { 0 = n }))) (λ p fits. (refl, fits.0)) (λ q fits. ((q.0, tt), refl, (fits, tt)))

pub stamp_field : IsField stamp_at (λ t. eight t.0) (λ t. IsNumber t.0)
unfolding stamp_at
stamp_field = whole (then_field (eight_field 1 most (omega arith)) (λ n _. ends (record { 0 = n }))) (λ p fits. (sym (append-nil (eight p.0)), fits.0)) (λ t fits. ((t.0, tt), refl, (fits, tt)))

pub ballot_field : IsField (number_at 8 1 most) eight IsNumber
ballot_field = eight_field 1 most (omega arith)

made_to : (p : ℕ × Unit {0}) → IsFrom 0 1 p.0 × Unit {0} → (made_byte (made_of p.0) ≡ byte p.0) × Unit {0}
made_to (zero, u) fits = (refl, tt)
made_to (suc zero, u) fits = (refl, tt)
made_to (suc (suc n), u) fits = absurd (omega (arith, fits.0.1))

made_parts : (made : Made) → Unit {0} → (p : ℕ × Unit {0}) × (made_of p.0 ≡ made) × (IsFrom 0 1 p.0 × Unit {0})
made_parts Proposal u = ((0, tt), refl, ((omega arith, omega arith), tt))
made_parts Recovery u = ((1, tt), refl, ((omega arith, omega arith), tt))

pub made_field : IsField made_at made_byte (λ _. Unit {0})
unfolding made_at
made_field = whole (then_field (byte_field 0 1 (omega arith)) (λ n _. ends (made_of n))) made_to made_parts

-- ---- pairs, each stamp above the one before

pair_field : (low high : ℕ) → high < 2 ^ 64 → IsField (pair_at low high) pair (λ p. IsId p.id × IsFrom low high p.stamp.0)
unfolding pair_at pair
pair_field low high small = whole
    (then_field id_field (λ i _. then_field (eight_field low high small) (λ t _. ends (record { id = i; stamp = record { 0 = t } }))))
    (λ p fits. (refl, (fits.0, fits.1.0)))
    (λ p fits. ((p.id, (p.stamp.0, tt)), refl, (fits.0, (fits.1, tt))))

abbrev AreAttached : ℕ → ℕ → ℕ → List Pair → Type 0
AreAttached n lo hi ps = (length ps ≡ n) × IsAttached lo hi ps

no_pairs : (lo hi : ℕ) → IsField {A = List Pair} (λ at. Ok ([], at)) (flat_map pair) (AreAttached zero lo hi)
no_pairs lo hi = whole (ends []) (λ u _. (refl, (refl, tt))) (λ ps fits. (tt, empty ps fits.0, tt))

pairs_parts : (n lo hi : ℕ) (ps : List Pair) → AreAttached (suc n) lo hi ps
    → (p : Pair × (List Pair × Unit {0})) × (p.0 ∷ p.1.0 ≡ ps) × ((IsId p.0.id × IsFrom (lo + 1) hi p.0.stamp.0) × (AreAttached n p.0.stamp.0 hi p.1.0 × Unit {0}))
pairs_parts n lo hi [] fits = absurd (omega (arith, fits.0))
pairs_parts n lo hi (p ∷ ps) fits = ((p, (ps, tt)), refl, ((fits.1.0, fits.1.1), ((omega (arith, fits.0), fits.1.2), tt)))

pairs_from_field : (n lo hi : ℕ) → hi < 2 ^ 64 → IsField (pairs_from n lo hi) (flat_map pair) (AreAttached n lo hi)
unfolding pairs_from
pairs_from_field zero lo hi small = no_pairs lo hi
pairs_from_field (suc n) lo hi small = whole
    (then_field (pair_field (lo + 1) hi small) (λ p _. then_field (pairs_from_field n p.stamp.0 hi small) (λ ps _. ends (p ∷ ps))))
    (λ p fits. (ap (λ (t : List ℕ). pair p.0 ++ t) (sym (append-nil (flat_map pair p.1.0))), (ap (λ (k : ℕ). suc k) fits.1.0.0, (fits.0.0, fits.0.1, fits.1.0.1))))
    (pairs_parts n lo hi)

-- there are no more of them than numbers
attached_few : (lo hi : ℕ) (ps : List Pair) → lo ≤ hi → IsAttached lo hi ps → lo + length ps ≤ hi
attached_few lo hi [] order fits = omega arith
attached_few lo hi (p ∷ ps) order fits =
    let others = attached_few p.stamp.0 hi ps fits.1.1 fits.2 in
    omega (arith, fits.1.0, others)

pub pairs_field : (lo hi : ℕ) → lo ≤ hi → hi < 2 ^ 64 → IsField (pairs_at lo hi) pairs (λ ps. (length ps ≤ 1000) × IsAttached lo hi ps)
unfolding pairs_at pairs
pairs_field lo hi order small = whole
    (then_field (four_field 0 (min (hi - lo) 1000) (omega arith)) (λ count _. last (pairs_from_field count lo hi small)))
    (λ p fits. (ap (λ (n : ℕ). four n ++ (flat_map pair p.1 ++ [])) fits.1.0, (omega (arith, fits.0.1, fits.1.0), fits.1.1)))
    (λ ps fits. ((length ps, ps), refl, ((omega arith, omega (arith, fits.0, attached_few lo hi ps order fits.1)), (refl, fits.1))))
