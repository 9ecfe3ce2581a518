-- Worked cases of set 2. `fin s m e` is the number m * 2 ^ e, negative where s is true. Assumes nothing.
use Rattle.std.specs.Prelude.{◌≡◌, ℕ, true, false, pos, negsuc, Some, None, Option, Float}
use Rattle.std.specs.Float.{inf, fin}
use Rattle.opset.specs.declared.scalar.Scalar.{Scalar}
use Rattle.opset.specs.declared.scalar.Scalar.TheVariants.{Bool, Number}
use Rattle.doubles.specs.Set.{doubles_meaning}
use Rattle.doubles.specs.Stands.{answer}

abbrev pub literal : ℕ → Option (Scalar Float)
literal payload = doubles_meaning.literal 2 payload

abbrev pub one : Float
one = fin false 1 (pos 0)

abbrev pub three : Float
three = fin false 3 (pos 0)

pub record Examples : Type 0 where
  -- a payload's highest bit is its sign: 8388607, -8388608 and -1
  pub most_payload : literal 0x7fffff ≡ Some (Number (fin false 8388607 (pos 0)))
  pub least_payload : literal 0x800000 ≡ Some (Number (fin true 1 (pos 23)))
  pub last_payload : literal 0xffffff ≡ Some (Number (fin true 1 (pos 0)))
  pub no_payload : literal 0x1000000 ≡ None
  -- 1 + 3 = 4, 1 - 3 = -2, 3 * 3 = 9, 3 / 2 = 1.5
  pub added : answer 128 one three ≡ Number (fin false 1 (pos 2))
  pub subtracted : answer 129 one three ≡ Number (fin true 1 (pos 1))
  pub multiplied : answer 130 three three ≡ Number (fin false 9 (pos 0))
  pub divided : answer 131 three (fin false 1 (pos 1)) ≡ Number (fin false 3 (negsuc 0))
  -- 1 / 3 is rounded, to 6004799503160661 * 2 ^ -54
  pub rounded : answer 131 one three ≡ Number (fin false 6004799503160661 (negsuc 53))
  -- 2 ^ 1023 doubled is past the largest number
  pub past_largest : answer 128 (fin true 1 (pos 1023)) (fin true 1 (pos 1023)) ≡ Number (inf true)
  -- comparisons at equality
  pub less_equal : answer 137 three three ≡ Bool false
  pub at_most_equal : answer 138 three three ≡ Bool true
