-- What the arrays of a state hold, place by place; what each action stores; and what they hold when a network is fresh. Each array is the table of a
-- function, so an action's stores are those of the table at the place that the action changes.
use mathlib.Core.Path.{◌≡◌, refl, sym, ◌∙◌}
use mathlib.Core.Logic.{by_cases}
use mathlib.Core.Bool.{Bool, true, false, cond}
use mathlib.Core.List.{List}
use Prim.Native.Nat.{ℕ, suc, ◌+◌, ◌-◌, ◌*◌, ◌≤◌, ◌<◌}
use native.Mathlib.Omega.{arith}
use native.Mathlib.Decide.{dec_lt}
use borrow.Author.Tests.{eqb-true, ne_eqb, lt-ltb, le-ltb}
use lib.Dec.{ltb}
use lib.ListN.{length, get_or, set, replicate, length-replicate}
use lib.Seq.{ext_get_or}
use Rattle.base.specs.Checks.{AllGood}
use Rattle.base.specs.Lists.{fill}
use Rattle.base.proofs.Arrays.{zeros_at}
use Rattle.base.proofs.Fill.{fill_at, fill-past, fill-length}
use Rattle.base.proofs.Verdicts.{whole-good}
use Rattle.codes.specs.Rows.{is_in, is_reg}
use Rattle.netlist.specs.declared.Netlist.{Netlist}
use Rattle.netlist.specs.Netlists.{record_of}
use Rattle.netlist.specs.Checks.{numbers_good, net_checks}
use Rattle.netlist.proofs.Numbers.{within}
use Rattle.cycles.specs.Drawings.{input, register, oper}
use Rattle.cycles.specs.Netlists.{operator, kind_of}
use Rattle.cycles.specs.Steps.{register_at, first_registers}
use Rattle.codes.specs.Records.{operands_in}
use Rattle.codes.specs.declared.Record.{Record}
use Rattle.cut.specs.declared.Cut.{Cut}
use Rattle.nets.specs.Lists.{at, tab}
use Rattle.nets.specs.Net.{Net}
use Rattle.nets.specs.State.{State, first_of, fresh, present}
use Rattle.nets.specs.Actions.{feed, drain, put, finish, done}
use Rattle.nets.specs.Networks.{network_of}
use Rattle.nets.specs.Stored.{cell, cells_of, used_of, flags_of, held_of, counts_of}
use Rattle.nets.proofs.Tables.{length-tab, get_d_tab, tab_const, set-tab, push_stores, cell_head, push_used_lem, take-used, shifted, take-stores}

-- ---- what stands where

module _ (s : State) where
  pub cells-long : length (cells_of s) ≡ 8192
  unfolding cells_of
  cells-long = length-tab 8192 (cell s.queue)

  pub used-long : length (used_of s) ≡ 512
  unfolding used_of
  used-long = length-tab 512 (λ q. length (s.queue q))

  pub flags_long : length (flags_of s) ≡ 512
  unfolding flags_of
  flags_long = length-tab 512 s.flag

  pub held-long : length (held_of s) ≡ 1024
  unfolding held_of
  held-long = length-tab 1024 s.held

  pub counts-long : length (counts_of s) ≡ 32
  unfolding counts_of
  counts-long = length-tab 32 s.count

  -- a queue's oldest token, how many it holds, its flag
  pub head_at : (q : ℕ) → q < 512 → get_or (cells_of s) (16 * q) 0 ≡ get_or (s.queue q) 0 0
  unfolding cells_of
  head_at q h = get_d_tab 8192 (cell s.queue) (16 * q) 0 (omega arith) ∙ cell_head s.queue q

  pub used_at : (q : ℕ) → q < 512 → get_or (used_of s) q 0 ≡ length (s.queue q)
  unfolding used_of
  used_at q h = get_d_tab 512 (λ q. length (s.queue q)) q 0 h

  pub flag_at : (q : ℕ) → q < 512 → get_or (flags_of s) q false ≡ s.flag q
  unfolding flags_of
  flag_at q h = get_d_tab 512 s.flag q false h

  pub held_at : (i : ℕ) → i < 1024 → get_or (held_of s) i 0 ≡ s.held i
  unfolding held_of
  held_at i h = get_d_tab 1024 s.held i 0 h

  pub count_at : (p : ℕ) → p < 32 → get_or (counts_of s) p 0 ≡ s.count p
  unfolding counts_of
  count_at p h = get_d_tab 32 s.count p 0 h

-- ---- what feed, drain and put store

module _ (N : Net) (s : State) where
  pub feed-cells : (q x : ℕ) → length (s.queue q) < 16 → set (cells_of s) (16 * q + length (s.queue q)) x ≡ cells_of (done N s (feed q x))
  unfolding cells_of done
  feed-cells q x h = push_stores 8192 s.queue q x h

  pub feed-used : (q x : ℕ) → set (used_of s) q (length (s.queue q) + 1) ≡ used_of (done N s (feed q x))
  unfolding used_of done
  feed-used q x = push_used_lem 512 s.queue q x

  pub feed-rest : (q x : ℕ) → (flags_of (done N s (feed q x)) ≡ flags_of s) × (held_of (done N s (feed q x)) ≡ held_of s) × (counts_of (done N s (feed q x)) ≡ counts_of s)
  unfolding flags_of held_of counts_of done
  feed-rest q x = (refl, refl, refl)

  pub drain-cells : (q : ℕ) → q < 512 → length (s.queue q) ≤ 16 → set (shifted (cells_of s) q 15) (16 * q + 15) 0 ≡ cells_of (done N s (drain q))
  unfolding cells_of done
  drain-cells q l h = take-stores 8192 s.queue q (omega arith) h

  pub drain-used : (q : ℕ) → 0 < length (s.queue q) → set (used_of s) q (length (s.queue q) - 1) ≡ used_of (done N s (drain q))
  unfolding used_of done
  drain-used q h = take-used 512 s.queue q h

  pub drain_rest : (q : ℕ) → (flags_of (done N s (drain q)) ≡ flags_of s) × (held_of (done N s (drain q)) ≡ held_of s) × (counts_of (done N s (drain q)) ≡ counts_of s)
  unfolding flags_of held_of counts_of done
  drain_rest q = (refl, refl, refl)

  pub put-cells : (q : ℕ) → length (s.queue q) < 16 → set (cells_of s) (16 * q + length (s.queue q)) (present N s (N.from q) (N.node q)) ≡ cells_of (done N s (put q))
  unfolding cells_of done
  put-cells q h = push_stores 8192 s.queue q (present N s (N.from q) (N.node q)) h

  pub put-used : (q : ℕ) → set (used_of s) q (length (s.queue q) + 1) ≡ used_of (done N s (put q))
  unfolding used_of done
  put-used q = push_used_lem 512 s.queue q (present N s (N.from q) (N.node q))

  pub put-flags : (q : ℕ) → set (flags_of s) q true ≡ flags_of (done N s (put q))
  unfolding flags_of done
  put-flags q = set-tab 512 s.flag q true

  pub put_rest : (q : ℕ) → (held_of (done N s (put q)) ≡ held_of s) × (counts_of (done N s (put q)) ≡ counts_of s)
  unfolding held_of counts_of done
  put_rest q = (refl, refl)

  pub finish-counts : (p : ℕ) → set (counts_of s) p (suc (s.count p)) ≡ counts_of (done N s (finish p))
  unfolding counts_of done
  finish-counts p = set-tab 32 s.count p (suc (s.count p))

-- ---- a fresh network: zeros, flags off, and the stepper's first registers

module _ (N : Net) where
  pub fresh_cells : cells_of (fresh N) ≡ replicate 8192 0
  unfolding cells_of fresh cell
  fresh_cells = tab_const 8192 0

  pub fresh-used : used_of (fresh N) ≡ replicate 512 0
  unfolding used_of fresh
  fresh-used = tab_const 512 0

  pub fresh-flags : flags_of (fresh N) ≡ replicate 512 false
  unfolding flags_of fresh
  fresh-flags = tab_const 512 false

  pub fresh-counts : counts_of (fresh N) ≡ replicate 32 0
  unfolding counts_of fresh
  fresh-counts = tab_const 32 0

first_on : (r : Record) (f : List ℕ → ℕ) (x y : Bool) → (x ≡ true → y ≡ false) → first_of (cond x input (cond y (register r.k r.a) (oper f (operands_in r)))) ≡ cond y r.k 0
first_on r f true y h = rw (h refl)
first_on r f false true h = refl
first_on r f false false h = refl

-- an IN is no REG
pub in_not_reg : (code : ℕ) → is_in code ≡ true → is_reg code ≡ false
in_not_reg code e = ne_eqb code 2 (λ z. let o : code ≡ 0 = eqb-true code 0 e in omega arith)

first-held : (n : Netlist) (i : ℕ) → first_of (kind_of n i) ≡ cond (register_at n i) (record_of n i).k 0
first-held n i =
    first_on (record_of n i) (operator (record_of n i) (get_or n.width (record_of n i).b 0)) (is_in (record_of n i).code) (is_reg (record_of n i).code)
    (in_not_reg (record_of n i).code)

pub fresh-held : (n : Netlist) → AllGood (net_checks n) → (c : Cut) (limit : ℕ) → held_of (fresh (network_of n c limit)) ≡ first_registers n
unfolding held_of fresh first_registers
fresh-held n g c limit =
    let w = within n (whole-good (numbers_good n) g.0) in
    let long : n.nodes ≤ length {A = ℕ} (replicate 1024 0) = rw (length-replicate {A = ℕ} 1024 0) w.nodes in
    ext_get_or 0 (tab 1024 held) (fill first n.nodes (replicate 1024 0))
    (length-tab 1024 held ∙ sym (fill-length first n.nodes (replicate 1024 0) ∙ length-replicate {A = ℕ} 1024 0))
    (λ i l. get_d_tab 1024 held i 0 (rw (length-tab 1024 held) at l)
    ∙ by_cases (dec_lt i n.nodes)
    (λ u. rw (lt-ltb i n.nodes u) (first-held n i ∙ sym (fill_at first n.nodes i (replicate 1024 0) u long)))
    (λ u. rw (le-ltb i n.nodes (omega arith)) (sym (fill-past first n.nodes i (replicate 1024 0) (omega arith) ∙ zeros_at 1024 i))))
  where
    held : ℕ → ℕ
    held i = cond (ltb i n.nodes) (first_of (kind_of n i)) 0

    first : ℕ → ℕ
    first i = cond (register_at n i) (record_of n i).k 0
