-- One put rule tried: it fires by the definition's own stores, or it does not; and asked.
use Rattle.std.proofs.Common.{◌≡◌, Bool, true, false, cond, List, [], ℕ, ◌+◌, ◌-◌, ◌*◌, ◌%◌, ◌<◌, min, ltb, get_or, set, ◌∙◌, ap, lt-ltb}
use Rattle.lanes.specs.Lanes.{push_cells, push_used}
use Rattle.evals.specs.Passes.{vals_after, mets_after}
use Rattle.puts.specs.Puts.{Plan, Pass, mk_pass, needed, evaluated, put_test, put_tried, put_done, Asked}

module _ (P : Plan) (q : ℕ) (S : Pass) where
  pub put_stores : (cells used : List ℕ) (flag : List Bool) → q < 512
      → cells ≡ cond (ltb q 512) (push_cells S.cells S.used q (get_or S.vals (get_or P.node q 0 % 1024) 0)) S.cells
      → used ≡ cond (ltb q 512) (push_used S.used q) S.used
      → flag ≡ S.flag
      → mk_pass S.seen (S.fired + 1) cells used (set flag q true) (set S.vals (1024 + q) (get_or cells (q * 16) 0)) (set S.mets (1024 + q) true) ≡ put_done P q S
  unfolding put_done
  put_stores cells used flag h e g k =
      let b : ltb q 512 ≡ true = lt-ltb q 512 h in
      let e' : cells ≡ push_cells S.cells S.used q (get_or S.vals (get_or P.node q 0 % 1024) 0) = e ∙ rw b in
      let g' : used ≡ push_used S.used q = g ∙ rw b in
      rw (e', g', k)

  pub put-fires : (count : List ℕ) → q < 512 → count ≡ P.count → put_test P.node P.from P.depth count P.limit q S.used S.flag S.mets ≡ true → put_done P q S ≡ put_tried P q S
  unfolding put_tried
  put-fires count h k t = rw (lt-ltb q 512 h, ← k, t)

  pub put-waits : (count : List ℕ) → q < 512 → count ≡ P.count → put_test P.node P.from P.depth count P.limit q S.used S.flag S.mets ≡ false → S ≡ put_tried P q S
  unfolding put_tried
  put-waits count h k t = rw (lt-ltb q 512 h, ← k, t)

-- a rule asked: the nodes it needs, and then its test
pub asked_in : (P : Plan) (q n : ℕ) (used : List ℕ) (flag : List Bool) (vals vals' : List ℕ) (mets mets' : List Bool) (r : Bool) → q < 512 → n ≡ needed P q
    → vals' ≡ vals_after P.fields P.held 0 (min n 1024 - 0) vals
    → mets' ≡ mets_after P.fields 0 (min n 1024 - 0) mets
    → r ≡ put_test P.node P.from P.depth P.count P.limit q used flag mets'
    → Asked P q (mk_pass 0 0 [] used flag vals mets) r vals' mets'
unfolding evaluated
asked_in P q n used flag vals vals' mets mets' r h e a b t = rw (lt-ltb q 512 h, ← e) (t ∙ ap (λ m. put_test P.node P.from P.depth P.count P.limit q used flag m) b, a, b)
