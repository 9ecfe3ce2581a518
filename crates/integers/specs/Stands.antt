-- What the arithmetic of set 1 comes to, as theorems. Assumes nothing.
use Rattle.std.specs.Prelude.{◌≡◌, ◌-◌, ◌^◌, ◌<◌, true, ◌⊎◌, ℤ, pos, negsuc, ◌+ℤ◌, ◌*ℤ◌, ◌≤ℤ◌, ◌≢◌, unsigned_abs}
use Rattle.integers.specs.Integers.{wrap, is_negative, toward_zero, left_over, quotient_of, remainder_of, same}

-- -2 ^ 31 ≤ z ≤ 2 ^ 31 - 1
pub record InRange (z : ℤ) : Type 0 where
  pub least : negsuc (2 ^ 31 - 1) ≤ℤ z
  pub most : z ≤ℤ pos (2 ^ 31 - 1)

-- z and w differ by a multiple of 2 ^ 32
abbrev pub Congruent : ℤ → ℤ → Type 0
Congruent z w = (k : ℤ) × (z ≡ w +ℤ k *ℤ pos (2 ^ 32))

pub record ArithmeticStands : Type 0 where
  -- wrap z is the one number of the range that is congruent to z, so it is z in the range
  pub in_range : (z : ℤ) → InRange (wrap z)
  pub congruent : (z : ℤ) → Congruent z (wrap z)
  pub unique : (z w : ℤ) → InRange w → Congruent z w → w ≡ wrap z
  pub keeps : (z : ℤ) → InRange z → wrap z ≡ z
  -- division: the dividend again, by a remainder that is smaller than the divisor and has the dividend's sign or is 0
  pub divides : (x y : ℤ) → (y ≢ pos 0) → x ≡ toward_zero x y *ℤ y +ℤ left_over x y
  pub smaller : (x y : ℤ) → (y ≢ pos 0) → unsigned_abs (left_over x y) < unsigned_abs y
  pub its_sign : (x y : ℤ) → (left_over x y ≡ pos 0) ⊎ (is_negative (left_over x y) ≡ is_negative x)
  -- a quotient and a remainder by 0 are 0, and a remainder wraps nothing
  pub by_zero : (x : ℤ) → (quotient_of x (pos 0) ≡ pos 0) × (remainder_of x (pos 0) ≡ pos 0)
  pub remains : (x y : ℤ) → InRange x → InRange (remainder_of x y)
  -- `same` tells whether two numbers are equal
  pub same_yes : (x y : ℤ) → x ≡ y → same x y ≡ true
  pub same_only : (x y : ℤ) → same x y ≡ true → x ≡ y
