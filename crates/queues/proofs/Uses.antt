-- The nodes' uses as two lists: their words, and the numbers of their first channels. What is written of one node is written in its list.
use Rattle.std.proofs.Common.{◌≡◌, ℕ, zero, suc, ◌^◌, Bool, true, List, ◌∷◌, get_or, set, replicate, refl, sym, ap, ◌∙◌}
use Rattle.std.proofs.lemmas.List.{map-set}
use Rattle.std.proofs.Math.ListN.{get_or-map}
use Rattle.std.proofs.Math.Seq.{map-set_same}
use lib.Bits.{bit_or}
use Rattle.queues.specs.Pass.{marks_of, firsts_of, mark_if}
use Rattle.queues.specs.declared.channels.Uses.{Uses}

-- a node that no part uses
abbrev pub unused : Uses
unused = record { mark = 0; first = 0 }

pub mark_of : (u : List Uses) (i : ℕ) → get_or (marks_of u) i 0 ≡ (get_or u i unused).mark
mark_of u i = get_or-map (λ u. u.mark) u i unused

pub first_of : (u : List Uses) (i : ℕ) → get_or (firsts_of u) i 0 ≡ (get_or u i unused).first
first_of u i = get_or-map (λ u. u.first) u i unused

pub no_marks : (k : ℕ) → marks_of (replicate k unused) ≡ replicate k 0
no_marks zero = refl
no_marks (suc k) = ap (λ l. 0 ∷ l) (no_marks k)

pub no_firsts : (k : ℕ) → firsts_of (replicate k unused) ≡ replicate k 0
no_firsts zero = refl
no_firsts (suc k) = ap (λ l. 0 ∷ l) (no_firsts k)

-- one bit of one word is set
pub mark_set : (b : Bool) (x p w : ℕ) (u : List Uses)
    → b ≡ true
    → w ≡ 2 ^ p
    → (marks_of (set u x (record { mark = bit_or (get_or u x unused).mark w; first = (get_or u x unused).first })) ≡ mark_if b x p (marks_of u))
    × (firsts_of (set u x (record { mark = bit_or (get_or u x unused).mark w; first = (get_or u x unused).first })) ≡ firsts_of u)
mark_set b x p w u e h =
    let y : Uses = record { mark = bit_or (get_or u x unused).mark w; first = (get_or u x unused).first } in (
      rw (e, ← h) (map-set (λ u. u.mark) u x y ∙ ap (λ k. set (marks_of u) x (bit_or k w)) (sym (mark_of u x))),
      map-set_same (λ u. u.first) u x y unused refl,
    )

-- one node's first channel gets its number
pub first_set : (i f : ℕ) (u : List Uses)
    → (marks_of (set u i (record { mark = (get_or u i unused).mark; first = f })) ≡ marks_of u) × (firsts_of (set u i (record { mark = (get_or u i unused).mark; first = f })) ≡ set (firsts_of u) i f)
first_set i f u =
    let y : Uses = record { mark = (get_or u i unused).mark; first = f } in
    (map-set_same (λ u. u.mark) u i y unused refl, map-set (λ u. u.first) u i y)
