-- The arithmetic of set 2 stands. Assumes nothing.
use Rattle.std.proofs.Common.{◌≡◌, ℕ, suc, ◌*◌, ◌^◌, ◌<◌, ◌≤◌, Bool as Truth, true, false, not, ℤ, pos, negsuc, nat_abs, sym, refl, ◌∙◌, mul-one, arith}
use lib.Ieee.{Float, nan, inf, fin, binary64, round, of_int, neg, add, sub, mul, div, eq, lt, le, up, unlike}
use lib.Ieee.Exact.{HasValue}
use lib.Ieee.Back.{round_whole}
use Rattle.std.proofs.lemmas.Bool.Decides.{nat_tests}
use Rattle.opset.specs.Payload.{signed24}
use Rattle.opset.specs.declared.scalar.Scalar.TheVariants.{Bool, Number}
use Rattle.doubles.specs.Stands.{answer, is_negative, Exactly, signed_zero, ArithmeticStands}

-- what has a whole number's value is exactly that number
valued : (x : Float) (z : ℤ) → HasValue x (is_negative z) (nat_abs z) 1 → Exactly x z
valued nan z h = h
valued (inf s) z h = h
valued (fin s m e) z h = (h.0, sym (mul-one (m * up e)) ∙ h.1)

small_whole : (z : ℤ) → nat_abs z ≤ 2 ^ 53 → Exactly (of_int binary64 z) z
unfolding of_int
small_whole (pos n) h = valued (round binary64 false n 1) (pos n) (round_whole binary64 false n h)
small_whole (negsuc n) h = valued (round binary64 true (suc n) 1) (negsuc n) (round_whole binary64 true (suc n) h)

payload_size : (p : ℕ) → p < 2 ^ 24 → nat_abs (signed24 p) ≤ 2 ^ 53
payload_size p h = grind (arith, nat_tests)

exact : (p : ℕ) → p < 2 ^ 24 → Exactly (of_int binary64 (signed24 p)) (signed24 p)
exact p h = small_whole (signed24 p) (payload_size p h)

nan_left : (y : Float) → (answer 136 nan y ≡ Bool false) × (answer 137 nan y ≡ Bool false) × (answer 138 nan y ≡ Bool false)
unfolding eq lt le
nan_left y = (refl, refl, refl)

nan_right : (x : Float) → (answer 136 x nan ≡ Bool false) × (answer 137 x nan ≡ Bool false) × (answer 138 x nan ≡ Bool false)
unfolding eq lt le
nan_right nan = (refl, refl, refl)
nan_right (inf s) = (refl, refl, refl)
nan_right (fin s m e) = (refl, refl, refl)

nan_first : (y : Float) → (answer 128 nan y ≡ Number nan) × (answer 129 nan y ≡ Number nan) × (answer 130 nan y ≡ Number nan) × (answer 131 nan y ≡ Number nan)
unfolding add sub mul div
nan_first y = (refl, refl, refl, refl)

nan_second : (x : Float) → (answer 128 x nan ≡ Number nan) × (answer 129 x nan ≡ Number nan) × (answer 130 x nan ≡ Number nan) × (answer 131 x nan ≡ Number nan)
unfolding add sub mul div neg
nan_second nan = (refl, refl, refl, refl)
nan_second (inf s) = (refl, refl, refl, refl)
nan_second (fin s m e) = (refl, refl, refl, refl)

by_zero : (s t : Truth) (m : ℕ) (e : ℤ) → answer 131 (fin s (suc m) e) (signed_zero t) ≡ Number (inf (unlike s t))
unfolding div
by_zero s t m e = grind (arith, nat_tests)

opposite : (s : Truth) → answer 128 (inf s) (inf (not s)) ≡ Number nan
unfolding add
opposite true = refl
opposite false = refl

zeros_equal : (s t : Truth) → (answer 136 (signed_zero s) (signed_zero t) ≡ Bool true) × (answer 137 (signed_zero s) (signed_zero t) ≡ Bool false) × (answer 138 (signed_zero s) (signed_zero t) ≡ Bool true)
unfolding eq lt le
zeros_equal true true = (refl, refl, refl)
zeros_equal true false = (refl, refl, refl)
zeros_equal false true = (refl, refl, refl)
zeros_equal false false = (refl, refl, refl)

pub arithmetic_stands : ArithmeticStands
unfolding of_int neg div
arithmetic_stands = record {
  exact = exact;
  zero_payload = refl;
  nan_left = nan_left;
  nan_right = nan_right;
  nan_negated = refl;
  nan_first = nan_first;
  nan_second = nan_second;
  zero_by_zero = λ s t. refl;
  by_zero = by_zero;
  opposite = opposite;
  zeros_equal = zeros_equal;
  no_remainder = λ x y. refl;
}
