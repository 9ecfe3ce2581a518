use Rattle.std.proofs.Common.{refl}
use Rattle.integers.proofs.examples_stand.Goals as goal

pub returns : goal.returns
returns c = record {
  zero_payload = refl;
  most_payload = refl;
  least_payload = refl;
  last_payload = refl;
  no_payload = refl;
  add_past = refl;
  subtract_past = refl;
  multiply_past = refl;
  divide_down = refl;
  remainder_down = refl;
  remainder_up = refl;
  divide_past = refl;
  divide_zero = λ x. refl;
  remainder_zero = λ x. refl;
  less_equal = refl;
  at_most_equal = refl;
}
