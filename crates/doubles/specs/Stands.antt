-- What IEEE 754 makes of the operators of set 2, as theorems. Assumes nothing.
use Rattle.std.specs.Prelude.{◌≡◌, ℕ, suc, ◌*◌, ◌^◌, ◌<◌, Bool as Truth, true, false, not, ℤ, pos, negsuc, Some, None, unsigned_abs, Float}
use Rattle.std.specs.Float.{nan, inf, fin}
use Rattle.std.specs.Float.Ieee.{up, down, unlike}
use Rattle.opset.specs.Payload.{signed24}
use Rattle.opset.specs.declared.scalar.Scalar.{Scalar}
use Rattle.opset.specs.declared.scalar.Scalar.TheVariants.{Bool, Number}
use Rattle.doubles.specs.Set.{doubles, doubles_meaning}

abbrev pub answer : ℕ → Float → Float → Scalar Float
answer op x y = doubles_meaning.apply op (Number x) (Some (Number y))

abbrev pub is_negative : ℤ → Truth
is_negative (pos n) = false
is_negative (negsuc n) = true

-- x is the whole number z and no other: it is finite, has z's sign, and its size m * 2 ^ e, which is m * up e / down e, is z's. 0 is +0.
abbrev pub Exactly : Float → ℤ → Type 0
Exactly nan z = ⊥
Exactly (inf s) z = ⊥
Exactly (fin s m e) z = (s ≡ is_negative z) × (m * up e ≡ unsigned_abs z * down e)

-- a zero with the sign s
abbrev pub signed_zero : Truth → Float
signed_zero s = fin s 0 (pos 0)

pub record ArithmeticStands : Type 0 where
  -- a payload's number is not rounded
  pub exact : (p : ℕ) → p < 2 ^ 24 → Exactly (doubles.whole (signed24 p)) (signed24 p)
  pub zero_payload : doubles_meaning.literal 2 0 ≡ Some (Number (signed_zero false))
  -- not-a-number is equal to nothing, itself too, and neither below nor above anything
  pub nan_left : (y : Float) → (answer 136 nan y ≡ Bool false) × (answer 137 nan y ≡ Bool false) × (answer 138 nan y ≡ Bool false)
  pub nan_right : (x : Float) → (answer 136 x nan ≡ Bool false) × (answer 137 x nan ≡ Bool false) × (answer 138 x nan ≡ Bool false)
  -- any arithmetic on it answers it again
  pub nan_negated : doubles_meaning.apply 2 (Number nan) None ≡ Number nan
  pub nan_first : (y : Float) → (answer 128 nan y ≡ Number nan) × (answer 129 nan y ≡ Number nan) × (answer 130 nan y ≡ Number nan) × (answer 131 nan y ≡ Number nan)
  pub nan_second : (x : Float) → (answer 128 x nan ≡ Number nan) × (answer 129 x nan ≡ Number nan) × (answer 130 x nan ≡ Number nan) × (answer 131 x nan ≡ Number nan)
  -- zero by zero is not a number, and any other finite number by zero is an infinity: negative where the signs differ
  pub zero_by_zero : (s t : Truth) → answer 131 (signed_zero s) (signed_zero t) ≡ Number nan
  pub by_zero : (s t : Truth) (m : ℕ) (e : ℤ) → answer 131 (fin s (suc m) e) (signed_zero t) ≡ Number (inf (unlike s t))
  -- an infinity and its opposite add up to no number
  pub opposite : (s : Truth) → answer 128 (inf s) (inf (not s)) ≡ Number nan
  -- the two zeros are equal
  pub zeros_equal : (s t : Truth) → (answer 136 (signed_zero s) (signed_zero t) ≡ Bool true) × (answer 137 (signed_zero s) (signed_zero t) ≡ Bool false) × (answer 138 (signed_zero s) (signed_zero t) ≡ Bool true)
  -- there is no remainder: operator 132 answers its first operand
  pub no_remainder : (x y : Float) → answer 132 x y ≡ Number x
