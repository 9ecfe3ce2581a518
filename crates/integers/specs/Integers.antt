-- The arithmetic of signed 32-bit numbers, in terms of the whole numbers. Assumes nothing.
use Rattle.std.specs.Prelude.{ℕ, ◌-◌, ◌/◌, ◌%◌, ◌^◌, Bool, true, false, cond, not, ◌&&◌, ℤ, pos, negsuc, neg_ℤ, ◌==◌, int_le, nat_lt, unsigned_abs}
use Rattle.std.specs.Bool.{beq}

-- z modulo 2 ^ 32, from 0 up: -1 - n leaves what is missing to the last residue, 2 ^ 32 - 1
abbrev pub residue : ℤ → ℕ
residue (pos n) = n % 2 ^ 32
residue (negsuc n) = 2 ^ 32 - 1 - n % 2 ^ 32

-- The number of -2 ^ 31 .. 2 ^ 31 - 1 that is congruent to z modulo 2 ^ 32: its residue read as two's complement.
abbrev pub wrap : ℤ → ℤ
wrap z = cond (nat_lt (residue z) (2 ^ 31)) (pos (residue z)) (negsuc (2 ^ 32 - 1 - residue z))

abbrev pub is_negative : ℤ → Bool
is_negative (pos n) = false
is_negative (negsuc n) = true

abbrev pub is_zero : ℤ → Bool
is_zero z = unsigned_abs z == 0

-- the number of a magnitude, negative where s says so
abbrev pub with_sign : Bool → ℕ → ℤ
with_sign false m = pos m
with_sign true m = neg_ℤ (pos m)

-- Division toward zero: the magnitudes are divided, and the quotient is negative where the signs differ. The remainder has the dividend's sign.
abbrev pub toward_zero : ℤ → ℤ → ℤ
toward_zero x y = with_sign (not (beq (is_negative x) (is_negative y))) (unsigned_abs x / unsigned_abs y)

abbrev pub left_over : ℤ → ℤ → ℤ
left_over x y = with_sign (is_negative x) (unsigned_abs x % unsigned_abs y)

-- the operators: by zero both answer 0
abbrev pub quotient_of : ℤ → ℤ → ℤ
quotient_of x y = cond (is_zero y) (pos 0) (wrap (toward_zero x y))

abbrev pub remainder_of : ℤ → ℤ → ℤ
remainder_of x y = cond (is_zero y) (pos 0) (left_over x y)

-- equal: neither is greater
abbrev pub same : ℤ → ℤ → Bool
same x y = int_le x y && int_le y x
