-- Tokens moved up by one copy: place by place it is the definition.
use Rattle.std.proofs.Common.{◌≡◌, refl, sym, ap, ap₂, ◌∙◌, List, ℕ, zero, suc, ◌+◌, ◌*◌, ◌<◌, ◌≤◌, length, get_or, set, drop, arith, get_or-set_other, length-drop}
use Rattle.std.proofs.lemmas.List.{get_or-drop}
use Rattle.std.proofs.Math.Seq.{paste, paste-zero, paste-suc}
use Rattle.lanes.specs.Lanes.{place_of, shifted, take_cells}

-- behind the places that were moved, everything stands as it was
shifted_past : (cells : List ℕ) (q k m : ℕ) → q * 16 + k ≤ m → get_or (shifted cells q k) m 0 ≡ get_or cells m 0
unfolding shifted
shifted_past cells q zero m h = refl
shifted_past cells q (suc k) m h = get_or-set_other (shifted cells q k) (place_of q k) m _ 0 (omega arith) ∙ shifted_past cells q k m (omega arith)

pub copied : (cells : List ℕ) (q k : ℕ) → q * 16 + 16 ≤ length cells → k ≤ 15 → shifted cells q k ≡ paste cells (q * 16) (drop (q * 16 + 1) cells) k
unfolding shifted
copied cells q zero h l = paste-zero cells (q * 16) (drop (q * 16 + 1) cells)
copied cells q (suc k) h l =
    let s : List ℕ = drop (q * 16 + 1) cells in
    let e : q * 16 + 1 + k ≡ place_of q (suc k) = omega arith in
    let v : get_or (shifted cells q k) (place_of q (suc k)) 0 ≡ get_or s k 0 = shifted_past cells q k (place_of q (suc k)) (omega arith) ∙ sym (get_or-drop (q * 16 + 1) cells k 0 ∙ ap (λ i. get_or cells i 0) e) in
    let w : k < length s = rw length-drop (omega arith) in
    ap₂ (λ xs x. set xs (q * 16 + k) x) (copied cells q k h (omega arith)) v
    ∙ paste-suc cells (q * 16) s k 0 (omega arith) w

-- one copy, and the last place cleared, are the oldest token taken
pub taken : (cells moved : List ℕ) (q n : ℕ) → q * 16 + 16 ≤ length cells → n ≡ 15 → moved ≡ paste cells (q * 16) (drop (q * 16 + 1) cells) n → set moved (q * 16 + 15) 0 ≡ take_cells cells q
taken cells moved q n h l e =
    ap (λ xs. set xs (q * 16 + 15) 0) (e ∙ ap (λ m. paste cells (q * 16) (drop (q * 16 + 1) cells) m) l ∙ sym (copied cells q 15 h (omega arith)))
