-- The history of a network: what came on each queue since opening and what went, oldest first, and how many rules fired. No rule looks at it.
use Rattle.std.specs.Prelude.{cond, List, [], ◌∷◌, ◌++◌, ℕ, suc, eqb, get_or}
use Rattle.nets.specs.Lists.{at}
use Rattle.nets.specs.Net.{Net}
use Rattle.nets.specs.State.{State, fresh, present}
use Rattle.nets.specs.Actions.{Action, feed, drain, put, finish, ready, step, play}

pub record Past : Type 0 where
  pub came : ℕ → List ℕ
  pub went : ℕ → List ℕ
  pub fired : ℕ

unfoldable pub nothing : Past
nothing = record { came = λ q. []; went = λ q. []; fired = 0 }

-- an action that was ready, in state s: a feed and a put bring a token, a drain and a Finish take the oldest
unfoldable pub noted : Net → State → Action → Past → Past
noted N s (feed q x) h = record { came = at q (h.came q ++ (x ∷ [])) h.came; went = h.went; fired = h.fired }
noted N s (drain q) h = record { came = h.came; went = at q (h.went q ++ (get_or (s.queue q) 0 0 ∷ [])) h.went; fired = h.fired }
noted N s (put q) h =
    record { came = at q (h.came q ++ (present N s (N.from q) (N.node q) ∷ [])) h.came; went = h.went; fired = suc h.fired }
noted N s (finish p) h =
    record {
      came = h.came;
      went = λ q. cond (eqb (N.into q) p) (h.went q ++ (get_or (s.queue q) 0 0 ∷ [])) (h.went q);
      fired = suc h.fired;
    }

unfoldable pub note : Net → State → Action → Past → Past
note N s a h = cond (ready N s a) (noted N s a h) h

unfoldable pub story : Net → State → List Action → Past → Past
story N s [] h = h
story N s (a ∷ xs) h = story N (step N s a) xs (note N s a h)

-- the state and the history of a fresh network, after some actions
abbrev pub state_after : Net → List Action → State
state_after N xs = play N (fresh N) xs

abbrev pub past_after : Net → List Action → Past
past_after N xs = story N (fresh N) xs nothing
