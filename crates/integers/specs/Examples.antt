-- Worked cases of set 1. Assumes nothing.
use Rattle.std.specs.Prelude.{◌≡◌, ℕ, true, false, ℤ, pos, neg_ℤ, Some, None, Option}
use Rattle.opset.specs.declared.scalar.Scalar.{Scalar}
use Rattle.opset.specs.declared.scalar.Scalar.TheVariants.{Bool, Number}
use Rattle.integers.specs.Set.{integers_meaning}

abbrev pub literal : ℕ → Option (Scalar ℤ)
literal payload = integers_meaning.literal 1 payload

abbrev pub answer : ℕ → ℤ → ℤ → Scalar ℤ
answer op x y = integers_meaning.apply op (Number x) (Some (Number y))

abbrev pub minus : ℕ → ℤ
minus n = neg_ℤ (pos n)

pub record Examples : Type 0 where
  -- a payload's highest bit is its sign
  pub zero_payload : literal 0 ≡ Some (Number (pos 0))
  pub most_payload : literal 0x7fffff ≡ Some (Number (pos 8388607))
  pub least_payload : literal 0x800000 ≡ Some (Number (minus 8388608))
  pub last_payload : literal 0xffffff ≡ Some (Number (minus 1))
  pub no_payload : literal 0x1000000 ≡ None
  -- sums, differences and products wrap
  pub add_past : answer 128 (pos 2147483647) (pos 1) ≡ Number (minus 2147483648)
  pub subtract_past : answer 129 (minus 2147483648) (pos 1) ≡ Number (pos 2147483647)
  pub multiply_past : answer 130 (pos 65536) (pos 65536) ≡ Number (pos 0)
  -- division is toward zero, and the remainder has the dividend's sign
  pub divide_down : answer 131 (minus 7) (pos 2) ≡ Number (minus 3)
  pub remainder_down : answer 132 (minus 7) (pos 2) ≡ Number (minus 1)
  pub remainder_up : answer 132 (pos 7) (minus 2) ≡ Number (pos 1)
  pub divide_past : answer 131 (minus 2147483648) (minus 1) ≡ Number (minus 2147483648)
  pub divide_zero : (x : ℤ) → answer 131 x (pos 0) ≡ Number (pos 0)
  pub remainder_zero : (x : ℤ) → answer 132 x (pos 0) ≡ Number (pos 0)
  -- comparisons at equality
  pub less_equal : answer 137 (pos 5) (pos 5) ≡ Bool false
  pub at_most_equal : answer 138 (pos 5) (pos 5) ≡ Bool true
