-- What set 2 means: booleans, and binary64 as type 2, where not-a-number is one value. IEEE 754 decides what an operator answers. Assumes nothing.
use Rattle.std.specs.Float.Ieee as Ieee
use Rattle.std.specs.Float.{binary64}
use Rattle.std.specs.Prelude.{Some, None, Float}
use Rattle.opset.specs.Meaning.{Meaning}
use Rattle.opset.specs.Scalars.{Arithmetic, scalars}
use Rattle.opset.specs.declared.scalar.Scalar.{Scalar}

abbrev pub doubles : Arithmetic Float
doubles = record {
  numeric = 2;
  whole = λ z. Ieee.of_int binary64 z;
  negated = λ x. Ieee.neg x;
  sum = λ x y. Ieee.add binary64 x y;
  difference = λ x y. Ieee.sub binary64 x y;
  product = λ x y. Ieee.mul binary64 x y;
  quotient = Some (λ x y. Ieee.div binary64 x y);
  remainder = None;
  equal = λ x y. Ieee.eq x y;
  less = λ x y. Ieee.lt x y;
  at_most = λ x y. Ieee.le x y;
}

abbrev pub doubles_meaning : Meaning (Scalar Float)
doubles_meaning = scalars doubles
