-- The tests of the rules, as facts: which acknowledgements and answers count, and what is fresh or touched.
-- Used for the cases of a step.
use Rattle.std.proofs.Common.{◌≡◌, ◌≢◌, ℕ, ◌<◌, Bool, true, false, length, Option, Some, None, ap, arith}
use Rattle.std.proofs.lemmas.Bool.{and_parts, eqb-true, eqb-false, ltb-true, not-true}
use Rattle.std.specs.Prelude.{is_none, nat_lt, not, ◌==◌, ◌&&◌}
use Rattle.tp_base.proofs.Options.{none_of}
use Rattle.tp_base.specs.Tables.{kept_at}
use Rattle.tp_paxos.specs.Votes.{PutStamp, is_put_at}
use Rattle.tp_quorum.specs.Choice.{present}
use Rattle.tp_rules.specs.Sheet.{QuorumRule, Sheet, can_acknowledge, can_answer, is_fresh, is_made_by_proposal, is_member, stamp_of}
use Rattle.tp_topology.specs.Shape.{fast_size}

-- the ballot at which a stamp is put, 0 where none is, and the stamp
abbrev pub ballot_put : Option PutStamp → ℕ
ballot_put None = 0
ballot_put (Some put) = put.ballot

abbrev pub stamp_put : Option PutStamp → ℕ
stamp_put None = 0
stamp_put (Some put) = put.stamp

-- an acknowledgement that counts: from the fast quorum, which is not full yet, to a home on the fast path
pub record CanAcknowledge (s : QuorumRule) (p own rank : ℕ) (sheet : Sheet) : Type 0 where
  pub member : is_member s own rank sheet.command ≡ true
  pub made : is_made_by_proposal sheet.proposal ≡ true
  pub ballot : sheet.ballot ≡ 0
  pub putting : ballot_put sheet.put ≡ 0
  pub known : stamp_of sheet p ≡ None
  pub few : length (present sheet.acknowledged) < fast_size s.shape

-- an answer that counts: to the ballot that is being tried, at which nothing was put yet
pub record CanAnswer (p b rank : ℕ) (sheet : Sheet) : Type 0 where
  pub known : stamp_of sheet p ≡ None
  pub tried : sheet.tried ≡ b
  pub putting : ballot_put sheet.put ≢ b

-- a fresh sheet has no proposal
pub fresh_is : (p : ℕ) (sheet : Sheet) → is_fresh p sheet ≡ true → sheet.proposal ≡ None
fresh_is p sheet t =
    let a = and_parts (is_none sheet.proposal && (sheet.ballot == 0)) (is_none (stamp_of sheet p)) t in
    none_of sheet.proposal (and_parts (is_none sheet.proposal) (sheet.ballot == 0) a.0).0

pub can_acknowledge_is : (s : QuorumRule) (p own rank : ℕ) (sheet : Sheet) → can_acknowledge s p own rank sheet ≡ true
    → CanAcknowledge s p own rank sheet
can_acknowledge_is s p own rank sheet t =
    let a = and_parts _ (nat_lt (length (present sheet.acknowledged)) (fast_size s.shape)) t in
    let b = and_parts _ (is_none (kept_at sheet.acknowledged rank)) a.0 in
    let c = and_parts _ (is_none (stamp_of sheet p)) b.0 in
    let d = and_parts _ (is_none sheet.put) c.0 in
    let e = and_parts _ (sheet.ballot == 0) d.0 in
    let f = and_parts (is_member s own rank sheet.command) (is_made_by_proposal sheet.proposal) e.0 in
    record {
      member = f.0;
      made = f.1;
      ballot = eqb-true sheet.ballot 0 e.1;
      putting = ap ballot_put (none_of sheet.put d.1);
      known = none_of (stamp_of sheet p) c.1;
      few = ltb-true (length (present sheet.acknowledged)) (fast_size s.shape) a.1;
    }

-- what is put is at another ballot
put_elsewhere : (b : ℕ) (o : Option PutStamp) → is_put_at b o ≡ false → 0 < b → ballot_put o ≢ b
put_elsewhere b None e some same = absurd (omega (arith, some, same))
put_elsewhere b (Some put) e some same = eqb-false put.ballot b e same

pub can_answer_is : (p b rank : ℕ) (sheet : Sheet) → can_answer p b rank sheet ≡ true → CanAnswer p b rank sheet
can_answer_is p b rank sheet t =
    let x = and_parts _ (is_none (kept_at sheet.answers rank)) t in
    let y = and_parts _ (not (is_put_at b sheet.put)) x.0 in
    let z = and_parts _ (sheet.tried == b) y.0 in
    let u = and_parts (is_none (stamp_of sheet p)) (nat_lt 0 b) z.0 in
    record {
      known = none_of (stamp_of sheet p) u.0;
      tried = eqb-true sheet.tried b z.1;
      putting = put_elsewhere b sheet.put (not-true (is_put_at b sheet.put) y.1) (ltb-true 0 b u.1);
    }

-- a process that is not untouched has proposed, where it has joined no ballot
pub proposed_before : (none : Bool) (ballot : ℕ) → (none && (ballot == 0)) ≡ false → ballot ≡ 0 → none ≡ false
proposed_before none ballot e zero = grind arith
