-- What a pass over the records' fields computes are the equations of each node's own part: an operand of another part is read from its channel, which is the
-- queue that the finder's map names, and a code looks at no more fields than it uses.
use mathlib.Core.Path.{◌≡◌, refl, sym, ap, ap₂, ◌∙◌, subst}
use mathlib.Core.Logic.{◌≢◌, by_cases}
use mathlib.Core.Bool.{Bool, true, false, cond, not, ◌&&◌, and-false, or-true, false≢true}
use mathlib.Core.List.{[], ◌∷◌, map, Memᴰ}
use Prim.Native.Nat.{ℕ, zero, suc, ◌<◌}
use native.Mathlib.Omega.{arith}
use native.Mathlib.Nat.{not-suc-le-zero}
use native.Mathlib.Decide.{ℕ_discrete}
use borrow.Author.Tests.{eqb-true, eq-eqb, ne_eqb, ltb-true, lt-ltb}
use lib.Dec.{eqb, ltb, lit<}
use lib.ListN.{get_or, take}
use lib.Seq.{take-nil}
use Rattle.base.specs.Checks.{AllGood}
use Rattle.base.proofs.Verdicts.{whole-good}
use Rattle.codes.specs.declared.Record.{Record}
use Rattle.codes.specs.Rows.{rows, place, is_in, is_reg, count_of}
use Rattle.codes.specs.Records.{operands_in}
use Rattle.codes.proofs.Apart.{field_below}
use Rattle.netlist.specs.declared.Netlist.{Netlist}
use Rattle.netlist.specs.Netlists.{record_of}
use Rattle.netlist.specs.Checks.{numbers_good, net_checks}
use Rattle.netlist.proofs.Numbers.{within}
use Rattle.cycles.specs.Drawings.{input, register, oper, operands}
use Rattle.cycles.specs.Netlists.{operator, kind_of, width_of}
use Rattle.cycles.specs.Steps.{register_at}
use Rattle.cycles.proofs.Accepted.{good_record}
use Rattle.cycles.proofs.Arity.{count_is, same_operands, nth_first, nth_second, nth_third}
use Rattle.cycles.proofs.Solved.{byte}
use Rattle.queues.specs.Lists.{member}
use Rattle.queues.specs.Queues.{part_of, input_place, channel_place}
use Rattle.queues.specs.Found.{no_queue, via_of}
use Rattle.queues.proofs.Order.{each-channel, operand_crosses}
use Rattle.cut.specs.declared.Cut.{Cut}
use Rattle.cut.specs.Checks.{cut_checks}
use Rattle.nets.specs.Lists.{all_of, implies}
use Rattle.nets.specs.Net.{Net, Seen}
use Rattle.nets.specs.State.{State, own, some_token, value_in, met_in, read_in, own_value, there_in, own_met, present, needs_met}
use Rattle.nets.specs.Actions.{next_of}
use Rattle.nets.specs.Networks.{place_in, network_of}
use Rattle.nets.specs.Passed.{read_by, there_by, via_a, via_b, via_c, calculated, value_by, all_there, met_by}
use Rattle.nets.proofs.Facts.{and_end, split-on}
use Rattle.nets.proofs.Goods.{place-input, few-queues, good}
use Rattle.nets.proofs.Only.{own-present, own-needs, next-present, next-needs, read-seen}
use Rattle.nets.proofs.Sight.{sees}

-- ---- the operands that are used

member-first : (n a b c : ℕ) → 0 < n → member a (take n (a ∷ b ∷ c ∷ [])) ≡ true
member-first zero a b c h = absurd (not-suc-le-zero h)
member-first (suc n) a b c h = rw (eq-eqb a a refl)

member-second : (n a b c : ℕ) → 1 < n → member b (take n (a ∷ b ∷ c ∷ [])) ≡ true
member-second zero a b c h = absurd (not-suc-le-zero h)
member-second (suc zero) a b c h = let z : ⊥ = omega arith in absurd z
member-second (suc (suc n)) a b c h = rw (eq-eqb b b refl) (or-true (eqb b a))

member-third : (n a b c : ℕ) → 2 < n → member c (take n (a ∷ b ∷ c ∷ [])) ≡ true
member-third zero a b c h = absurd (not-suc-le-zero h)
member-third (suc zero) a b c h = let z : ⊥ = omega arith in absurd z
member-third (suc (suc zero)) a b c h = let z : ⊥ = omega arith in absurd z
member-third (suc (suc (suc n))) a b c h = rw (eq-eqb c c refl) (rw (or-true (eqb c b)) (or-true (eqb c a)))

-- a test of each
and_three : (x y z : Bool) → (x && (y && (z && true))) ≡ (x && y && z)
and_three true y z = ap (λ b. y && b) (and_end z)
and_three false y z = refl

all_three : (f : ℕ → Bool) (n a b c : ℕ) → all_of f (take n (a ∷ b ∷ c ∷ [])) ≡ (implies (ltb 0 n) (f a) && implies (ltb 1 n) (f b) && implies (ltb 2 n) (f c))
all_three f zero a b c = refl
all_three f (suc zero) a b c = sym (and_end (f a && true))
all_three f (suc (suc zero)) a b c = ap (λ x. f a && x) (and_end (f b)) ∙ sym (and_end (f a && f b))
all_three f (suc (suc (suc n))) a b c =
    rw (lt-ltb 0 (suc (suc (suc n))) (omega arith), lt-ltb 1 (suc (suc (suc n))) (omega arith), lt-ltb 2 (suc (suc (suc n))) (omega arith), take-nil {A = ℕ} n) (and_three (f a) (f b) (f c))

-- a REG has one
pub one_operand : (code : ℕ) → code ≡ 2 → 0 < count_of code
unfolding rows place
one_operand code e = rw e (lit< tt)

register-kind : (n : Netlist) (i : ℕ) → register_at n i ≡ true → kind_of n i ≡ register (record_of n i).k (record_of n i).a
register-kind n i e = let o : is_in (record_of n i).code ≡ false = ne_eqb (record_of n i).code 0 (λ z. let y = eqb-true (record_of n i).code 2 e in omega arith) in rw (o, e)

module _ (n : Netlist) (c : Cut) (g : AllGood (net_checks n)) (h : AllGood (cut_checks n c)) (limit : ℕ) where
  abbrev net : Net
  net = network_of n c limit

  -- ---- the queue of an operand that is used: none in its own part, else its channel

  via-own : (k i x : ℕ) → part_of c.part x ≡ part_of c.part i → via_of n c.part k i x ≡ no_queue
  via-own k i x e =
      ap (λ b. cond b (channel_place n c.part x (part_of c.part i)) no_queue)
      (ap (λ b. ltb k (count_of (record_of n i).code) && ltb x n.nodes && not b) (eq-eqb (part_of c.part x) (part_of c.part i) e) ∙ and-false (ltb k (count_of (record_of n i).code) && ltb x n.nodes))

  via-other : (k i x : ℕ) → i < n.nodes → x < n.nodes → k < count_of (record_of n i).code → member x (operands_in (record_of n i)) ≡ true → part_of c.part x ≢ part_of c.part i
      → (via_of n c.part k i x ≡ place_in n c.part (part_of c.part i) x) × (via_of n c.part k i x ≢ no_queue)
  via-other k i x l u v m ne =
      let p : ℕ = part_of c.part i in
      let o = operand_crosses n c.part i x l m ne in
      let st = (each-channel n c.part x p u o.1 o.0).0 in
      let q = few-queues n c g h in
      let e : via_of n c.part k i x ≡ channel_place n c.part x p = rw (lt-ltb k (count_of (record_of n i).code) v, lt-ltb x n.nodes u, ne_eqb (part_of c.part x) p ne) in
      let f : place_in n c.part p x ≡ channel_place n c.part x p =
      ap (λ b. cond b (input_place n c.part x) (channel_place n c.part x p)) (ap (λ b. is_in (record_of n x).code && b) (ne_eqb (part_of c.part x) p ne) ∙ and-false (is_in (record_of n x).code)) in
      (e ∙ sym f, λ z. let y : channel_place n c.part x p ≡ 512 = sym e ∙ z in omega arith)

  read_is : (s : State) (w : ℕ → ℕ) (k i x : ℕ) → i < n.nodes → x < n.nodes → k < count_of (record_of n i).code → member x (operands_in (record_of n i)) ≡ true
      → read_by s w (via_of n c.part k i x) x ≡ read_in net s w (part_of c.part i) x
  read_is s w k i x l u v m =
      by_cases (ℕ_discrete (part_of c.part x) (part_of c.part i))
      (λ e. ap (λ q. read_by s w q x) (via-own k i x e) ∙ sym (ap (λ b. cond b (w x) (get_or (s.queue (net.via (part_of c.part i) x)) 0 0)) (eq-eqb (part_of c.part x) (part_of c.part i) e)))
      (λ ne. let o = via-other k i x l u v m ne in
      ap (λ b. cond b (w x) (get_or (s.queue (via_of n c.part k i x)) 0 0)) (ne_eqb (via_of n c.part k i x) no_queue o.1)
      ∙ ap (λ q. get_or (s.queue q) 0 0) o.0
      ∙ sym (ap (λ b. cond b (w x) (get_or (s.queue (net.via (part_of c.part i) x)) 0 0)) (ne_eqb (part_of c.part x) (part_of c.part i) ne)))

  there_is : (s : State) (t : ℕ → Bool) (k i x : ℕ) → i < n.nodes → x < n.nodes → k < count_of (record_of n i).code → member x (operands_in (record_of n i)) ≡ true
      → there_by s t (via_of n c.part k i x) x ≡ there_in net s t (part_of c.part i) x
  there_is s t k i x l u v m =
      by_cases (ℕ_discrete (part_of c.part x) (part_of c.part i))
      (λ e. ap (λ q. there_by s t q x) (via-own k i x e) ∙ sym (ap (λ b. cond b (t x) (some_token (s.queue (net.via (part_of c.part i) x)))) (eq-eqb (part_of c.part x) (part_of c.part i) e)))
      (λ ne. let o = via-other k i x l u v m ne in
      ap (λ b. cond b (t x) (some_token (s.queue (via_of n c.part k i x)))) (ne_eqb (via_of n c.part k i x) no_queue o.1)
      ∙ ap (λ q. some_token (s.queue q)) o.0
      ∙ sym (ap (λ b. cond b (t x) (some_token (s.queue (net.via (part_of c.part i) x)))) (ne_eqb (part_of c.part x) (part_of c.part i) ne)))

  -- a register's operand is seen in its part
  pub operand_seen : (i : ℕ) → i < n.nodes → register_at n i ≡ true → Seen net (part_of c.part i) (record_of n i).a
  operand_seen i l e =
      let k : kind_of n i ≡ register (record_of n i).k (record_of n i).a = register-kind n i e in
      sees net (good n c g h limit) i (record_of n i).a l (subst (λ x. Memᴰ (record_of n i).a (operands x)) (sym k) (Memᴰ.head refl))

  -- ---- a node

  module _ (s : State) (i : ℕ) (l : i < n.nodes) where
    abbrev r : Record
    r = record_of n i

    abbrev count : ℕ
    count = count_of r.code

    -- each field is a node, used or not
    a_node : r.a < n.nodes
    a_node = field_below (ltb 0 count) n.nodes i r.code r.a (within n (whole-good (numbers_good n) g.0)).some (good_record n g i l).a_good

    b_node : r.b < n.nodes
    b_node = field_below (ltb 1 count) n.nodes i r.code r.b (within n (whole-good (numbers_good n) g.0)).some (good_record n g i l).b_good

    c_node : r.c < n.nodes
    c_node = field_below (ltb 2 count) n.nodes i r.code r.c (within n (whole-good (numbers_good n) g.0)).some (good_record n g i l).c_good

    calculated_is : (w : ℕ → ℕ) → calculated n c.part s w i ≡ operator r (width_of n r.b) (map (read_in net s w (part_of c.part i)) (operands_in r))
    calculated_is w =
        let f : ℕ → ℕ = read_in net s w (part_of c.part i) in
        same_operands r.code r.width (width_of n r.b) r.k (read_by s w (via_a n c.part i) r.a) (read_by s w (via_b n c.part i) r.b) (read_by s w (via_c n c.part i) r.c) _ _ _
        (λ u. count_is r.code (byte r.code (good_record n g i l).known) u (good_record n g i l).known)
        (λ u. read_is s w 0 i r.a l a_node u (member-first count r.a r.b r.c u) ∙ sym (nth_first f count r.a r.b r.c u))
        (λ u. read_is s w 1 i r.b l b_node u (member-second count r.a r.b r.c u) ∙ sym (nth_second f count r.a r.b r.c u))
        (λ u. read_is s w 2 i r.c l c_node u (member-third count r.a r.b r.c u) ∙ sym (nth_third f count r.a r.b r.c u))

    -- a test of a field that is used
    used-same : (k : ℕ) (x y : Bool) → (k < count → x ≡ y) → implies (ltb k count) x ≡ implies (ltb k count) y
    used-same k x y e = split-on (λ b. ltb k count ≡ b → implies b x ≡ implies b y) (ltb k count) (λ _ t. e (ltb-true k count t)) (λ _ _. refl) refl

    all_there_is : (t : ℕ → Bool) → all_there n c.part s t i ≡ all_of (there_in net s t (part_of c.part i)) (operands_in r)
    all_there_is t =
        let f : ℕ → Bool = there_in net s t (part_of c.part i) in
        ap₂ ◌&&◌
        (ap₂ ◌&&◌
        (used-same 0 (there_by s t (via_a n c.part i) r.a) (f r.a) (λ u. there_is s t 0 i r.a l a_node u (member-first count r.a r.b r.c u)))
        (used-same 1 (there_by s t (via_b n c.part i) r.b) (f r.b) (λ u. there_is s t 1 i r.b l b_node u (member-second count r.a r.b r.c u))))
        (used-same 2 (there_by s t (via_c n c.part i) r.c) (f r.c) (λ u. there_is s t 2 i r.c l c_node u (member-third count r.a r.b r.c u)))
        ∙ sym (all_three f count r.a r.b r.c)

    value_on : (w : ℕ → ℕ) (x y : Bool) → (x ≡ true → place_in n c.part (part_of c.part i) i ≡ input_place n c.part i)
        → cond x (get_or (s.queue (input_place n c.part i)) 0 0) (cond y (s.held i) (calculated n c.part s w i))
        ≡ value_in s i (read_in net s w (part_of c.part i)) (own (net.via (part_of c.part i) i) (cond x input (cond y (register r.k r.a) (oper (operator r (width_of n r.b)) (operands_in r)))))
    value_on w true y e = ap (λ q. get_or (s.queue q) 0 0) (sym (e refl))
    value_on w false true e = refl
    value_on w false false e = calculated_is w

    met_on : (t : ℕ → Bool) (x y : Bool) → (x ≡ true → place_in n c.part (part_of c.part i) i ≡ input_place n c.part i)
        → cond x (some_token (s.queue (input_place n c.part i))) (cond y true (all_there n c.part s t i))
        ≡ met_in s (there_in net s t (part_of c.part i)) (own (net.via (part_of c.part i) i) (cond x input (cond y (register r.k r.a) (oper (operator r (width_of n r.b)) (operands_in r)))))
    met_on t true y e = ap (λ q. some_token (s.queue q)) (sym (e refl))
    met_on t false true e = refl
    met_on t false false e = all_there_is t

    pub value-is : (w : ℕ → ℕ) → value_by n c.part s w i ≡ own_value net s w i
    unfolding value_by
    value-is w = value_on w (is_in r.code) (is_reg r.code) (place-input n c g h i)

    pub met_is : (t : ℕ → Bool) → met_by n c.part s t i ≡ own_met net s t i
    unfolding met_by
    met_is t = met_on t (is_in r.code) (is_reg r.code) (place-input n c g h i)

  -- whatever a pass has computed up to a rank is what the rules ask for
  pub passed-values : (s : State) (m : ℕ) (w : ℕ → ℕ) → ((i : ℕ) → i < n.nodes → net.draw.rank i < m → w i ≡ value_by n c.part s w i)
      → (i : ℕ) → i < n.nodes → net.draw.rank i < m → w i ≡ present net s (part_of c.part i) i
  passed-values s m w e = own-present net (good n c g h limit) s m w (λ i l u. e i l u ∙ value-is s i l w)

  pub passed-needs : (s : State) (m : ℕ) (t : ℕ → Bool) → ((i : ℕ) → i < n.nodes → net.draw.rank i < m → t i ≡ met_by n c.part s t i)
      → (i : ℕ) → i < n.nodes → net.draw.rank i < m → t i ≡ needs_met net s (part_of c.part i) i
  passed-needs s m t e = own-needs net (good n c g h limit) s m t (λ i l u. e i l u ∙ met_is s i l t)

  -- one node more, where the nodes of smaller rank are right
  pub next-value : (s : State) (w : ℕ → ℕ) (i : ℕ) → i < n.nodes → ((a : ℕ) → a < n.nodes → net.draw.rank a < net.draw.rank i → w a ≡ present net s (part_of c.part a) a)
      → value_by n c.part s w i ≡ present net s (part_of c.part i) i
  next-value s w i l e = value-is s i l w ∙ next-present net (good n c g h limit) s w i l e

  pub next-met : (s : State) (t : ℕ → Bool) (i : ℕ) → i < n.nodes → ((a : ℕ) → a < n.nodes → net.draw.rank a < net.draw.rank i → t a ≡ needs_met net s (part_of c.part a) a)
      → met_by n c.part s t i ≡ needs_met net s (part_of c.part i) i
  next-met s t i l e = met_is s i l t ∙ next-needs net (good n c g h limit) s t i l e

  -- what a register takes at Finish: its operand's own value where that is in its part, else its channel's token
  pub next-register : (s : State) (w : ℕ → ℕ) (i : ℕ) → i < n.nodes → register_at n i ≡ true
      → (part_of c.part (record_of n i).a ≡ part_of c.part i → w (record_of n i).a ≡ present net s (part_of c.part i) (record_of n i).a)
      → read_by s w (via_a n c.part i) (record_of n i).a ≡ next_of net s (part_of c.part i) i (kind_of n i)
  next-register s w i l e v =
      let u = one_operand (record_of n i).code (eqb-true (record_of n i).code 2 e) in
      read_is s w 0 i (record_of n i).a l (a_node s i l) u (member-first (count_of (record_of n i).code) (record_of n i).a (record_of n i).b (record_of n i).c u)
      ∙ read-seen net (good n c g h limit) s w (part_of c.part i) (record_of n i).a (operand_seen i l e) v
      ∙ sym (ap (next_of net s (part_of c.part i) i) (register-kind n i e))

  -- what is no register keeps what it holds
  pub next-other : (s : State) (p i : ℕ) → register_at n i ≡ false → next_of net s p i (kind_of n i) ≡ s.held i
  next-other s p i e = other_on s p i (is_in (record_of n i).code) (is_reg (record_of n i).code) e
    where
      other_on : (s : State) (p i : ℕ) (x y : Bool) → y ≡ false
          → next_of net s p i (cond x input (cond y (register (record_of n i).k (record_of n i).a) (oper (operator (record_of n i) (width_of n (record_of n i).b)) (operands_in (record_of n i))))) ≡ s.held i
      other_on s p i true y e = refl
      other_on s p i false true e = absurd (false≢true (sym e))
      other_on s p i false false e = refl
