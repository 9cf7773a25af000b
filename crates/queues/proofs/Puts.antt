-- Queues put behind those that are there: all at once or one by one, and a turn of a loop that puts some.
use Rattle.std.proofs.Common.{◌≡◌, ℕ, ◌+◌, Bool, true, false, cond, List, [], ◌∷◌, ◌++◌, length, get_or, set, sym, refl, ap, ap₂, ◌∙◌, add-zero, zero-add, add_assoc, length-append}
use Rattle.base.specs.Lists.{fill}
use Rattle.base.proofs.Fill.{fill_none, fill_step}
use Rattle.codes.specs.Rows.{is_in}
use Rattle.netlist.specs.declared.Netlist.{Netlist}
use Rattle.netlist.specs.Netlists.{record_of}
use Rattle.queues.specs.Lists.{listed, laid, one_if}
use Rattle.queues.specs.Queues.{Queue, input_at, inputs_to}
use Rattle.queues.specs.Found.{input_of}
use Rattle.queues.specs.Pass.{put, put_all}
use Rattle.queues.specs.declared.Queues.{Queues}
use Rattle.queues.proofs.Listed.{laid_append, listed_next}

put_append : (ps qs : List Queue) (s : Queues) → put_all (ps ++ qs) s ≡ put_all qs (put_all ps s)
put_append ps qs s =
    rw (laid_append (λ q. q.node) s.count ps qs s.node, laid_append (λ q. q.from) s.count ps qs s.from, laid_append (λ q. q.into) s.count ps qs s.into, length-append ps qs, add_assoc s.count (length ps) (length qs))

put_none : (s : Queues) → s ≡ put_all [] s
unfolding laid
put_none s = rw (add-zero s.count)

put_one : (q : Queue) (s : Queues) → put q.node q.from q.into s ≡ put_all (q ∷ []) s
unfolding laid
put_one q s = refl

-- a loop that puts some queues in each turn
pub put_start : (g : ℕ → List Queue) (s : Queues) → s ≡ put_all (listed 0 g) s
unfolding listed
put_start g s = put_none s

pub put_turn : (g : ℕ → List Queue) (i : ℕ) (s t u : Queues) → t ≡ put_all (listed i g) s → u ≡ put_all (g i) t → u ≡ put_all (listed (i + 1) g) s
put_turn g i s t u e h = h ∙ ap (λ t. put_all (g i) t) e ∙ sym (ap (λ qs. put_all qs s) (listed_next i g) ∙ put_append (listed i g) (g i) s)

-- one queue
pub put_next : (g : ℕ → List Queue) (q : Queue) (i : ℕ) (s t u : Queues) → t ≡ put_all (listed i g) s → g i ≡ q ∷ [] → u ≡ put q.node q.from q.into t → u ≡ put_all (listed (i + 1) g) s
put_next g q i s t u e f h = put_turn g i s t u e (h ∙ put_one q t ∙ ap (λ qs. put_all qs t) (sym f))

-- and none
pub put_same : (g : ℕ → List Queue) (i : ℕ) (s t : Queues) → t ≡ put_all (listed i g) s → g i ≡ [] → t ≡ put_all (listed (i + 1) g) s
put_same g i s t e f = put_turn g i s t t e (put_none t ∙ ap (λ qs. put_all qs t) (sym f))

abbrev with_places : Queues → List ℕ → Queues
with_places s l = record s { input = l }

-- the loop over the nodes that puts a queue for each IN: what it has put, and the places
abbrev pub inputs_put : Netlist → List ℕ → ℕ → Queues → Queues
inputs_put n part i s = with_places (put_all (inputs_to n part i) s) (fill (input_of n part) i s.input)

module _ (n : Netlist) (part : List ℕ) (s : Queues) where
  pub inputs_start : s ≡ inputs_put n part 0 s
  inputs_start = ap₂ with_places (put_start (λ j. one_if (is_in (record_of n j).code) (input_at part j)) s) (fill_none (input_of n part) s.input)

  pub inputs_turn : (i : ℕ) (t u : Queues) (b : Bool)
      → s.count ≡ 0
      → t ≡ inputs_put n part i s
      → is_in (record_of n i).code ≡ b
      → u ≡ cond b (put i 32 (get_or part i 0) (with_places t (set t.input i t.count))) (with_places t (set t.input i 512))
      → u ≡ inputs_put n part (i + 1) s
  inputs_turn i t u true z e k h =
      let g : ℕ → List Queue = λ j. one_if (is_in (record_of n j).code) (input_at part j) in
      let x = put_next g (input_at part i) i s (put_all (listed i g) s) _ refl (ap (λ b. one_if b (input_at part i)) k) refl in
      let v : s.count + length (listed i g) ≡ input_of n part i = rw (z, k) (zero-add (length (listed i g))) in
      h
      ∙ ap (λ t. put i 32 (get_or part i 0) (with_places t (set t.input i t.count))) e
      ∙ ap₂ with_places x (fill_step (input_of n part) i _ s.input _ refl v)
  inputs_turn i t u false z e k h =
      let g : ℕ → List Queue = λ j. one_if (is_in (record_of n j).code) (input_at part j) in
      let x = put_same g i s (put_all (listed i g) s) refl (ap (λ b. one_if b (input_at part i)) k) in
      let v : ◌≡◌ {A = ℕ} 512 (input_of n part i) = rw k in
      h
      ∙ ap (λ t. with_places t (set t.input i 512)) e
      ∙ ap₂ with_places x (fill_step (input_of n part) i _ s.input _ refl v)
