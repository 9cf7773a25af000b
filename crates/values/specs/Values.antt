-- What each code gives (outline, "The nineteen codes"): w is the node's width, x, y and z are the values of its operands a, b and c, v is b's width.
use Rattle.std.specs.Prelude.{ℕ, ◌+◌, ◌-◌, ◌*◌, ◌/◌, ◌%◌, ◌^◌, Bool, cond, ◌&&◌, ◌==◌, bit_and, bit_or, bit_xor, count_ones, nat_le, nat_lt}

-- a number in w bits
abbrev pub low : ℕ → ℕ → ℕ
low w n = n % 2 ^ w

-- whether, as a value
abbrev pub flag : Bool → ℕ
flag b = cond b 1 0

-- CONST
unfoldable pub constant_of : ℕ → ℕ → ℕ
constant_of code k = cond (code == 0x01) k 0

-- NOT; NEG is 0 less a, wrapped; ANY; PAR: an odd number of ones
unfoldable pub one_of : ℕ → ℕ → ℕ → ℕ
one_of code w x =
    cond (code == 0x10) (2 ^ w - 1 - low w x)
    (cond (code == 0x11) (0 + (2 ^ w - low w x))
    (cond (code == 0x12) (flag (nat_lt 0 x))
    (cond (code == 0x13) (count_ones x % 2) 0)))

-- AND, OR, XOR; ADD and SUB wrap at the node's width
unfoldable pub two_of : ℕ → ℕ → ℕ → ℕ → ℕ
two_of code w x y =
    cond (code == 0x20) (bit_and x y)
    (cond (code == 0x21) (bit_or x y)
    (cond (code == 0x22) (bit_xor x y)
    (cond (code == 0x23) (x + y)
    (cond (code == 0x24) (x + (2 ^ w - low w y)) 0))))

-- EQ; LTU: unsigned a < b
unfoldable pub compared_of : ℕ → ℕ → ℕ → ℕ
compared_of code x y = cond (code == 0x30) (flag (x == y)) (cond (code == 0x31) (flag (nat_lt x y)) 0)

-- SHL and SHR: the amount is b's low five bits
unfoldable pub shifted_of : ℕ → ℕ → ℕ → ℕ
shifted_of code x y = cond (code == 0x40) (x * 2 ^ (y % 32)) (cond (code == 0x41) (x / 2 ^ (y % 32)) 0)

-- MUX: b when a is 1, else c; CAT: a above b; SLICE: from bit k up
unfoldable pub wired_of : ℕ → ℕ → ℕ → ℕ → ℕ → ℕ → ℕ
wired_of code v k x y z =
    cond (code == 0x50) (cond (x == 1) y z)
    (cond (code == 0x51) (x * 2 ^ v + y)
    (cond (code == 0x52) (x / 2 ^ k) 0))

-- by the ranges that the codes fall in; no code gives 0
unfoldable pub code_of : ℕ → ℕ → ℕ → ℕ → ℕ → ℕ → ℕ → ℕ
code_of code w v k x y z =
    cond (nat_lt code 0x10) (constant_of code k)
    (cond (nat_lt code 0x20) (one_of code w x)
    (cond (nat_lt code 0x30) (two_of code w x y)
    (cond (nat_lt code 0x40) (compared_of code x y)
    (cond (nat_lt code 0x50) (shifted_of code x y)
    (wired_of code v k x y z)))))

-- A node's value: its code of its operands, in w bits. A width above 32, which no drawing has, gives 0.
unfoldable pub value_of : ℕ → ℕ → ℕ → ℕ → ℕ → ℕ → ℕ → ℕ
value_of code w v k x y z = cond (nat_le w 32 && nat_le v 32) (low w (code_of code w v k x y z)) 0
