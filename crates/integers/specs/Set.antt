-- What set 1 means: booleans, and signed 32-bit numbers as type 1. Assumes nothing.
use Rattle.std.specs.Prelude.{ℤ, ◌+ℤ◌, ◌-ℤ◌, ◌*ℤ◌, neg_ℤ, Some}
use Rattle.std.specs.Int.Signed.{lt_z, le_z}
use Rattle.opset.specs.Meaning.{Meaning}
use Rattle.opset.specs.Scalars.{Arithmetic, scalars}
use Rattle.opset.specs.declared.scalar.Scalar.{Scalar}
use Rattle.integers.specs.Integers.{wrap, quotient_of, remainder_of, same}

abbrev pub integers : Arithmetic ℤ
integers = record {
  numeric = 1;
  whole = λ z. z;
  negated = λ x. wrap (neg_ℤ x);
  sum = λ x y. wrap (x +ℤ y);
  difference = λ x y. wrap (x -ℤ y);
  product = λ x y. wrap (x *ℤ y);
  quotient = Some quotient_of;
  remainder = Some remainder_of;
  equal = same;
  less = lt_z;
  at_most = le_z;
}

abbrev pub integers_meaning : Meaning (Scalar ℤ)
integers_meaning = scalars integers
