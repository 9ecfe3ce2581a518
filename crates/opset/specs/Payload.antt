-- A payload's 24 bits, read as a signed number. Assumes nothing.
use Rattle.std.specs.Prelude.{◌≡◌, ℕ, ◌-◌, ◌^◌, ◌<◌, cond, ℤ, pos, negsuc, ◌+ℤ◌, ◌*ℤ◌, ◌≤ℤ◌, nat_lt}

-- The number whose two's complement of 24 bits is b: b itself below 2 ^ 23, and b - 2 ^ 24 from there on.
abbrev pub signed24 : ℕ → ℤ
signed24 b = cond (nat_lt b (2 ^ 23)) (pos b) (negsuc (2 ^ 24 - 1 - b))

-- It lies in -2 ^ 23 .. 2 ^ 23 - 1, differs from b by a multiple of 2 ^ 24, and no two payloads have the same.
pub record PayloadStands : Type 0 where
  pub least : (b : ℕ) → b < 2 ^ 24 → negsuc (2 ^ 23 - 1) ≤ℤ signed24 b
  pub most : (b : ℕ) → b < 2 ^ 24 → signed24 b ≤ℤ pos (2 ^ 23 - 1)
  pub congruent : (b : ℕ) → b < 2 ^ 24 → (k : ℤ) × (pos b ≡ signed24 b +ℤ k *ℤ pos (2 ^ 24))
  pub one_to_one : (b c : ℕ) → b < 2 ^ 24 → c < 2 ^ 24 → signed24 b ≡ signed24 c → b ≡ c
