-- In a partition where nothing is under way some process knows the stamp: else the greatest ballot that was asked or
-- put would have all votes.
use Rattle.std.proofs.Common.{◌≡◌, ◌⊎◌, ℕ, zero, suc, ◌+◌, ◌<◌, ◌≤◌, Bool, inl, inr, true, false, cond, List, [], ◌∷◌, length, max, Option, Some, None, is_some, refl, sym, ap, subst, ◌∙◌, arith}
use Rattle.std.specs.Prelude.{◌-◌, nat_le}
use Rattle.std.proofs.lemmas.Bool.{cases_Bool, cases_eq, cases_lt, leb-true, leb-false}
use Rattle.tp_base.specs.Limits.{IsFrom}
use Rattle.tp_base.specs.Tables.{nth, kept_at}
use Rattle.tp_facts.proofs.RuleTests.{ballot_put}
use Rattle.tp_ops.specs.declared.command.Command.{Command}
use Rattle.tp_paxos.specs.Votes.{count_votes}
use Rattle.tp_quorum.specs.Choice.{present}
use Rattle.tp_rules.specs.Sheet.{QuorumRule, Sheet}
use Rattle.tp_topology.proofs.Passing.{count_more, count_same}
use Rattle.tp_topology.specs.Ballots.{owner}
use Rattle.tp_topology.specs.Counting.{count_up_to}
use Rattle.tp_topology.specs.Shape.{IsShape, fast_size, slow_size, recovery_size}
use Rattle.tp_quiet.proofs.Gains.{all_votes, votes_put}

-- counts

count_front : (p : ℕ → Bool) (n : ℕ) → count_up_to p (suc n) ≡ cond (p 1) 1 0 + count_up_to (λ k. p (suc k)) n
count_front p zero = grind arith
count_front p (suc n) = grind (arith, count_front p n)

shifted : {X : Type 0} (o : Option X) (table : List (Option X)) (k : ℕ) → 1 ≤ k → k ≤ length table
    → is_some (kept_at (o ∷ table) (suc k)) ≡ is_some (kept_at table k)
shifted o table zero low high = absurd (omega arith)
shifted o table (suc i) low high = refl

-- how many places of a table are kept
present_count : {X : Type 0} (table : List (Option X))
    → count_up_to (λ j. is_some (kept_at table j)) (length table) ≡ length (present table)
present_count [] = refl
present_count (None ∷ table) = omega (
  arith,
  present_count table,
  count_front (λ j. is_some (kept_at (None ∷ table) j)) (length table),
  count_same (λ j. is_some (kept_at (None ∷ table) (suc j))) (λ j. is_some (kept_at table j)) (length table)
      (shifted None table),
)
present_count (Some x ∷ table) = omega (
  arith,
  present_count table,
  count_front (λ j. is_some (kept_at (Some x ∷ table) j)) (length table),
  count_same (λ j. is_some (kept_at (Some x ∷ table) (suc j))) (λ j. is_some (kept_at table j)) (length table)
      (shifted (Some x) table),
)

-- where a place is kept for each rank that passes a test, as many are kept as pass
kept_for_each : {X : Type 0} (test : ℕ → Bool) (table : List (Option X)) (n : ℕ) → length table ≡ n
    → ((k : ℕ) → IsFrom 1 n k → test k ≡ true → is_some (kept_at table k) ≡ true)
    → count_up_to test n ≤ length (present table)
kept_for_each test table n size kept =
    let more = count_more test (λ k. is_some (kept_at table k)) n (λ k low high t. kept k (low, high) t) in
    let count : count_up_to (λ k. is_some (kept_at table k)) n ≡ length (present table) =
    subst (λ (m : ℕ). count_up_to (λ k. is_some (kept_at table k)) m ≡ length (present table)) size
    (present_count table) in
    omega (arith, more, count)

pub all_count : (n : ℕ) → count_up_to (λ k. true) n ≡ n
all_count zero = refl
all_count (suc n) = ap (λ (m : ℕ). suc m) (all_count n)

-- ranks

pub record Found (q : ℕ → Bool) (n : ℕ) : Type 0 where
  pub rank : ℕ
  pub in_range : IsFrom 1 n rank
  pub is : q rank ≡ true

pub find_rank : (q : ℕ → Bool) (n : ℕ) → Found q n ⊎ ((k : ℕ) → IsFrom 1 n k → q k ≡ false)
find_rank q zero = inr (λ k range. absurd (omega (arith, range)))
find_rank q (suc n) = elim (cases_Bool (q (suc n))) [
  | inl passes ↦ inl (record { rank = suc n; in_range = (omega arith, omega arith); is = passes })
  | inr no_more ↦ elim (find_rank q n) [
    | inl found ↦ inl (record {
      rank = found.rank;
      in_range = (found.in_range.0, omega (arith, found.in_range.1));
      is = found.is;
    })
    | inr none ↦ inr (λ k range. elim (cases_eq k (suc n)) [
      | inl same ↦ subst (λ (j : ℕ). q j ≡ false) (sym same) no_more
      | inr apart ↦ none k (range.0, omega (arith, range.1))
    ])
  ]
]

-- a rank at which a number is greatest
record Top (f : ℕ → ℕ) (n : ℕ) : Type 0 where
  rank : ℕ
  in_range : IsFrom 1 n rank
  most : (j : ℕ) → IsFrom 1 n j → f j ≤ f rank

top : (f : ℕ → ℕ) (n : ℕ) → Top f (suc n)
top f zero = record {
  rank = 1;
  in_range = (omega arith, omega arith);
  most = λ j range.
      let one : j ≡ 1 = omega (arith, range) in
      subst (λ (k : ℕ). f k ≤ f 1) (sym one) (omega arith);
}
top f (suc n) = let below = top f n in elim (cases_lt (f below.rank) (f (suc (suc n)))) [
  | inl more ↦ record {
    rank = suc (suc n);
    in_range = (omega arith, omega arith);
    most = λ j range. last (f (suc (suc n))) j range (λ low. omega (arith, below.most j low, more)) (omega arith);
  }
  | inr less ↦ record {
    rank = below.rank;
    in_range = (below.in_range.0, omega (arith, below.in_range.1));
    most = λ j range. last (f below.rank) j range (λ low. below.most j low) (omega (arith, less));
  }
]
  where
    last : (m j : ℕ) → IsFrom 1 (suc (suc n)) j → (IsFrom 1 (suc n) j → f j ≤ m) → f (suc (suc n)) ≤ m → f j ≤ m
    last m j range low high = elim (cases_eq j (suc (suc n))) [
      | inl same ↦ subst (λ (k : ℕ). f k ≤ m) (sym same) high
      | inr apart ↦ low (range.0, omega (arith, range.1))
    ]

module _ (s : QuorumRule) (sheet : ℕ → Sheet) where
  abbrev pub IsRank : ℕ → Type 0
  IsRank j = IsFrom 1 s.shape.replicas j

  -- where a ballot that was joined comes from: a stamp put at it or above,
  pub record PutBy (b : ℕ) : Type 0 where
    pub by : ℕ
    pub in_range : IsRank by
    pub low : b ≤ ballot_put (sheet by).put

  -- or a recovery, which has the answer, has put since, or tries a higher ballot
  pub record AskedBy (k b : ℕ) : Type 0 where
    pub by : ℕ
    pub in_range : IsRank by
    pub low : b ≤ (sheet by).tried
    pub answered : (sheet by).tried ≡ b
        → (b ≤ ballot_put (sheet by).put) ⊎ (is_some (kept_at (sheet by).answers k) ≡ true)

  -- what each rank keeps of a command in a partition where nothing is under way and nobody knows the stamp
  pub record IsStuck (c : Command) : Type 0 where
    pub tried : (j : ℕ) → IsRank j → ((sheet j).tried ≡ 0)
        ⊎ ((s.shape.replicas < (sheet j).tried) × (owner s.shape (sheet j).tried ≡ j))
    pub put : (j : ℕ) → IsRank j → ballot_put (sheet j).put ≤ max (sheet j).tried s.shape.replicas
    pub first : (j : ℕ) → IsRank j → 0 < ballot_put (sheet j).put → ballot_put (sheet j).put ≤ s.shape.replicas
        → j ≡ c.home.0
    pub asked : (j k : ℕ) → IsRank j → IsRank k → 0 < (sheet j).tried → (sheet j).tried ≤ (sheet k).ballot
    pub source : (k : ℕ) → IsRank k → 0 < (sheet k).ballot → PutBy (sheet k).ballot ⊎ AskedBy k (sheet k).ballot
    pub voted : (j k : ℕ) → IsRank j → IsRank k → 0 < ballot_put (sheet j).put
        → (ballot_put (sheet j).put < (sheet k).ballot) ⊎ (nth (votes_put (sheet j).put) k ≡ Some true)
    pub undecided : (j : ℕ) → IsRank j → count_votes (votes_put (sheet j).put) < slow_size s.shape
    pub unrecovered : (j : ℕ) → IsRank j → ((sheet j).tried ≤ ballot_put (sheet j).put)
        ⊎ (length (present (sheet j).answers) < recovery_size s.shape)
    pub home : IsRank c.home.0
    pub ungathered : (0 < ballot_put (sheet c.home.0).put)
        ⊎ (length (present (sheet c.home.0).acknowledged) < fast_size s.shape)
    pub acknowledged : (0 < (sheet c.home.0).ballot) ⊎ ((0 < ballot_put (sheet c.home.0).put)
        ⊎ ((j : ℕ) → IsRank j → s.in_quorum c j ≡ true
        → (0 < (sheet j).ballot) ⊎ (is_some (kept_at (sheet c.home.0).acknowledged j) ≡ true)))
    pub votes : (j : ℕ) → IsRank j → 0 < ballot_put (sheet j).put
        → length (votes_put (sheet j).put) ≡ s.shape.replicas
    pub answers : (j : ℕ) → IsRank j → length (sheet j).answers ≡ s.shape.replicas
    pub acknowledgements : length (sheet c.home.0).acknowledged ≡ s.shape.replicas

module _ (s : QuorumRule) (c : Command) (sheet : ℕ → Sheet) (shape : IsShape s.shape)
    (whole : fast_size s.shape ≤ count_up_to (s.in_quorum c) s.shape.replicas) (h : IsStuck s sheet c) where
  abbrev r : ℕ
  r = s.shape.replicas

  -- what is put at a ballot that nobody went beyond is voted for by all
  voted_by_all : (j : ℕ) → IsFrom 1 r j → 0 < ballot_put (sheet j).put
      → ((k : ℕ) → IsFrom 1 r k → (sheet k).ballot ≤ ballot_put (sheet j).put) → ⊥
  voted_by_all j range some most =
      let size : length (votes_put (sheet j).put) ≡ r = h.votes j range some in
      let all : count_votes (votes_put (sheet j).put) ≡ length (votes_put (sheet j).put) =
      all_votes (votes_put (sheet j).put) (λ k low high.
      let in_range : IsFrom 1 r k = (low, omega (arith, size)) in
      elim (h.voted j k range in_range some) [
        | inl beyond ↦ absurd (omega (arith, most k in_range))
        | inr vote ↦ vote
      ]) in
      omega (arith, h.undecided j range, shape.minority, shape.some_replicas)

  -- some recovery was asked for: the greatest ballot
  recovering : (t : Top (λ j. (sheet j).tried) r) → 0 < (sheet t.rank).tried → ⊥
  recovering t some = elim (find_rank (λ j. nat_le (sheet t.rank).tried (ballot_put (sheet j).put)) r) [
    | inl found ↦
        put_at found.rank found.in_range (leb-true (sheet t.rank).tried (ballot_put (sheet found.rank).put) found.is)
    | inr none ↦ absurd (unanswered (λ j range.
        let no_put = none j range in leb-false (sheet t.rank).tried (ballot_put (sheet j).put) no_put))
  ]
    where
      high : r < (sheet t.rank).tried
      high = elim (h.tried t.rank t.in_range) [ inl none ↦ absurd (omega arith) | inr both ↦ both.0 ]

      puts_low : (j : ℕ) → IsFrom 1 r j → ballot_put (sheet j).put ≤ (sheet t.rank).tried
      puts_low j range = omega (arith, h.put j range, t.most j range, high)

      ballots_low : (k : ℕ) → IsFrom 1 r k → (sheet k).ballot ≤ (sheet t.rank).tried
      ballots_low k range = elim (cases_eq (sheet k).ballot 0) [
        | inl none ↦ omega arith
        | inr joined ↦ elim (h.source k range (omega arith)) [
          | inl by ↦ omega (arith, by.low, puts_low by.by by.in_range)
          | inr by ↦ omega (arith, by.low, t.most by.by by.in_range)
        ]
      ]

      put_at : (j : ℕ) → IsFrom 1 r j → (sheet t.rank).tried ≤ ballot_put (sheet j).put → ⊥
      put_at j range least =
          voted_by_all j range (omega (arith, some)) (λ k in_range. omega (arith, ballots_low k in_range))

      unanswered : ((j : ℕ) → IsFrom 1 r j → ballot_put (sheet j).put < (sheet t.rank).tried) → ⊥
      unanswered below =
          let all = kept_for_each (λ k. true) (sheet t.rank).answers r (h.answers t.rank t.in_range)
          (λ k range t. answered k range) in
          elim (h.unrecovered t.rank t.in_range) [
            | inl put ↦ omega (arith, below t.rank t.in_range)
            | inr few ↦ omega (arith, all, all_count r)
          ]
        where
          -- each ballot has one owner
          owned : (j : ℕ) → IsFrom 1 r j → (sheet j).tried ≡ (sheet t.rank).tried → j ≡ t.rank
          owned j range same = elim (h.tried j range) [
            | inl none ↦ absurd (omega (arith, some))
            | inr mine ↦ elim (h.tried t.rank t.in_range) [
              | inl none ↦ absurd (omega (arith, some))
              | inr its ↦ sym mine.1 ∙ ap (owner s.shape) same ∙ its.1
            ]
          ]

          answered : (k : ℕ) → IsFrom 1 r k → is_some (kept_at (sheet t.rank).answers k) ≡ true
          answered k range =
              let joined : (sheet k).ballot ≡ (sheet t.rank).tried =
              omega (arith, h.asked t.rank k t.in_range range some, ballots_low k range) in
              elim (h.source k range (omega (arith, some))) [
                | inl by ↦ absurd (omega (arith, by.low, below by.by by.in_range))
                | inr by ↦
                    let same : (sheet by.by).tried ≡ (sheet t.rank).tried =
                    omega (arith, by.low, t.most by.by by.in_range) in
                    let rank : by.by ≡ t.rank = owned by.by by.in_range same in
                    elim (by.answered (omega arith)) [
                      | inl put ↦ absurd (omega (arith, below by.by by.in_range))
                      | inr there ↦
                          subst (λ (j : ℕ). is_some (kept_at (sheet j).answers k) ≡ true) rank there
                    ]
              ]

  -- no recovery was asked for: the home
  unasked : ((j : ℕ) → IsFrom 1 r j → (sheet j).tried ≡ 0) → ⊥
  unasked none = elim (cases_eq (ballot_put (sheet c.home.0).put) 0) [
    | inl unput ↦
        let untouched : (k : ℕ) → IsFrom 1 r k → (sheet k).ballot ≡ 0 =
        (λ k range. let low = low_ballot k range in omega arith) in
        elim h.acknowledged [
          | inl joined ↦ omega (arith, untouched c.home.0 h.home)
          | inr (inl put) ↦ omega arith
          | inr (inr all) ↦
              let more = kept_for_each (s.in_quorum c) (sheet c.home.0).acknowledged r h.acknowledgements
              (λ j range member. elim (all j range member) [
                | inl joined ↦ absurd (omega (arith, untouched j range))
                | inr there ↦ there
              ]) in
              elim h.ungathered [ inl put ↦ omega arith | inr few ↦ omega (arith, whole, more) ]
        ]
    | inr put ↦ voted_by_all c.home.0 h.home (omega arith) low_ballot
  ]
    where
      low_ballot : (k : ℕ) → IsFrom 1 r k → (sheet k).ballot ≤ ballot_put (sheet c.home.0).put
      low_ballot k range = elim (cases_eq (sheet k).ballot 0) [
        | inl zero_ballot ↦ omega arith
        | inr joined ↦ elim (h.source k range (omega arith)) [
          | inl by ↦
              let at_home : by.by ≡ c.home.0 = h.first by.by by.in_range (omega (arith, by.low))
              (omega (arith, h.put by.by by.in_range, none by.by by.in_range)) in
              subst (λ (j : ℕ). (sheet k).ballot ≤ ballot_put (sheet j).put) at_home by.low
          | inr by ↦ absurd (omega (arith, by.low, none by.by by.in_range))
        ]
      ]

  pub not_stuck : ⊥
  not_stuck =
      let size : r ≡ suc (r - 1) = omega (arith, shape.some_replicas) in
      let t : Top (λ j. (sheet j).tried) r =
      subst (λ (n : ℕ). Top (λ j. (sheet j).tried) n) (sym size) (top (λ j. (sheet j).tried) (r - 1)) in
      elim (cases_eq (sheet t.rank).tried 0) [
        | inl none ↦ unasked (λ j range. omega (arith, t.most j range))
        | inr some ↦ recovering t (omega arith)
      ]
