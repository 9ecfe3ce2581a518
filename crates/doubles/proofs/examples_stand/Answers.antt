use Rattle.std.proofs.Common.{refl}
use lib.Ieee.{of_int, add, sub, mul, div, lt, le}
use Rattle.doubles.proofs.examples_stand.Goals as goal

pub returns : goal.returns
unfolding of_int add sub mul div lt le
returns c = record {
  most_payload = refl;
  least_payload = refl;
  last_payload = refl;
  no_payload = refl;
  added = refl;
  subtracted = refl;
  multiplied = refl;
  divided = refl;
  rounded = refl;
  past_largest = refl;
  less_equal = refl;
  at_most_equal = refl;
}
