-- Demand 3, from the theorems over any network that is what a cut must be: queues are told by their numbers here and by their ends there.
use mathlib.Core.Path.{sym, ap₂}
use mathlib.Core.Logic.{by_cases}
use mathlib.Core.List.{List}
use Prim.Native.Nat.{ℕ, ◌+◌, ◌-◌, ◌≤◌, ◌<◌}
use native.Mathlib.Omega.{arith}
use native.Mathlib.Decide.{dec_lt}
use borrow.Author.Tests.{ltb-true}
use lib.ListN.{length, get_or}
use Rattle.cycles.specs.Drawings.{Runs}
use Rattle.cycles.proofs.Meaning.{each-run}
use Rattle.nets.specs.Net.{Net, Good}
use Rattle.nets.specs.State.{State, fresh}
use Rattle.nets.specs.Actions.{Action, room}
use Rattle.nets.specs.Networks.{network_of}
use Rattle.nets.proofs.Calls.{input-ends}
use Rattle.nets.proofs.Goods.{good}
use Rattle.nets.proofs.Kept.{fresh_is_kept, plays_are_kept}
use Rattle.demand.specs.History.{Past, nothing, state_after, past_after}
use Rattle.demand.specs.Demands.{IsInput, IsOutput, Begins, Faithful, Waits, SomeReady, EachDemand3}
use Rattle.demand.proofs.Keep.{keep-fresh, keep-play}
use Rattle.demand.proofs.Faith.{Starts, faithful}
use Rattle.demand.proofs.Live.{live}
use Rattle.demand.proofs.Round.{numbered, round-fires}
use Rattle.demand.proofs.Sum.{firings, counts}

module _ (N : Net) (G : Good N) where
  -- a queue from outside into a part is an input's
  is_input : (q : ℕ) → N.parts ≤ N.from q → N.into q < N.parts → IsInput N q
  is_input q o i =
      by_cases (dec_lt q N.ins) (λ l. l)
      (λ l. let k = G.take_queue q i in let f = G.after_put q (omega arith) k in let z : ⊥ = omega arith in absurd z)

  -- a queue from a part to outside is an output's
  is_output : (q : ℕ) → N.from q < N.parts → N.parts ≤ N.into q → IsOutput N q
  is_output q i o = (
    by_cases (dec_lt (q + N.outs) N.queues) (λ l. let k = G.before_take q l in omega arith) (λ l. omega arith),
    G.put_queue q i,
  )

  starts : (s : ℕ → ℕ → ℕ) (h : Past) → Begins N s h → Starts N s h
  starts s h B q o i = B q (is_input q o i)

  is_faithful : (xs : List Action) (s v : ℕ → ℕ → ℕ) → Runs N.draw s v → Begins N s (past_after N xs) → Faithful N v (state_after N xs) (past_after N xs)
  is_faithful xs s v R B =
      let F = faithful N G xs s v R (starts s (past_after N xs) B) in
      record {
        puts = λ q p. F.puts q (G.after_put q p.0 p.1);
        many = λ q p. F.many q (G.after_put q p.0 p.1);
        takes = λ q p. F.takes q (G.after_put q p.0 p.1);
        taken = λ q l. F.taken q (G.before_take q l);
        holds = F.holds;
        fits = F.fits;
        regs = F.regs;
      }

  some-ready : (xs : List Action) (m : ℕ) → Waits N m (state_after N xs) (past_after N xs) → SomeReady N (state_after N xs)
  unfolding room
  some-ready xs m W =
      let s : State = state_after N xs in
      let r = live N G s (past_after N xs) (keep-play N G (fresh N) nothing (keep-fresh N) xs) m W.within
      (λ q o i. W.fed q (is_input q o i))
      (λ q i o. ltb-true (length (s.queue q)) (N.depth q) (W.space q (is_output q i o)))
      W.who W.is_part W.behind in
      numbered N G s r.0 r.1 r.2

-- streams of the fed tokens, each IN's from its queue
streams_of : (N : Net) → Good N → (h : Past) → (s : ℕ → ℕ → ℕ) × Begins N s h
streams_of N G h = (
  λ i m. get_or (h.came (N.via (N.part i) i)) (m - 1) 0,
  λ q l j u.
      let e = input-ends N G q l in
      ap₂ (λ k m. get_or (h.came k) m 0) (sym (G.source_via q e.0 e.1)) (omega arith),
)

pub demand_3 : EachDemand3
demand_3 n c g h limit =
    let N : Net = network_of n c limit in
    let G : Good N = good n c g h limit in
    record {
      streams = λ xs. streams_of N G (past_after N xs);
      runs = each-run n g;
      faithful = λ xs s v B R. is_faithful N G xs s v R B;
      live = some-ready N G;
      fires = λ xs m W. round-fires N (state_after N xs) (some-ready N G xs m W);
      sum = firings N G;
      counts = counts N G;
      kept = λ xs. plays_are_kept n c g h limit (fresh N) xs (fresh_is_kept n c g h limit);
    }
