-- The arithmetic of set 1 stands. Assumes nothing.
use Rattle.std.proofs.Common.{◌≡◌, ◌≤◌, true, false, cond, ℤ, pos, negsuc, refl, ap, arith}
use lib.Signed.{mag, rem_z, mag_rem}
use Rattle.std.proofs.lemmas.Bool.Decides.{nat_tests}
use Rattle.integers.specs.Integers.{is_zero, left_over, remainder_of, same}
use Rattle.integers.specs.Stands.{InRange, ArithmeticStands}
use Rattle.integers.proofs.Wraps.{in_range, congruent, unique, keeps, range_fits, fits_range}
use Rattle.integers.proofs.Divides.{divides, smaller, its_sign}

same_yes : (x y : ℤ) → x ≡ y → same x y ≡ true
same_yes (pos a) (pos b) h = grind (arith, nat_tests)
same_yes (pos a) (negsuc b) h = grind (arith, nat_tests)
same_yes (negsuc a) (pos b) h = grind (arith, nat_tests)
same_yes (negsuc a) (negsuc b) h = grind (arith, nat_tests)

same_only : (x y : ℤ) → same x y ≡ true → x ≡ y
same_only (pos a) (pos b) h = ap pos (grind (arith, nat_tests))
same_only (pos a) (negsuc b) h = grind (arith, nat_tests)
same_only (negsuc a) (pos b) h = grind (arith, nat_tests)
same_only (negsuc a) (negsuc b) h = ap negsuc (grind (arith, nat_tests))

left_is : (x y : ℤ) → rem_z x y ≡ left_over x y
left_is (pos a) y = refl
left_is (negsuc a) y = refl

left_mag : (x y : ℤ) → mag (left_over x y) ≤ mag x
left_mag x y = rw (← left_is x y) (mag_rem x y)

-- by zero or not, the remainder is no larger than the dividend
remains : (x y : ℤ) → InRange x → InRange (remainder_of x y)
remains x y h =
    let f = (range_fits x h).sfits in
    let m = left_mag x y in
    elim (is_zero y) as (λ b. InRange (cond b (pos 0) (left_over x y)))
    [ true ↦ fits_range (pos 0) (omega arith) | false ↦ fits_range (left_over x y) (omega arith) ]

pub arithmetic_stands : ArithmeticStands
arithmetic_stands = record {
  in_range = in_range;
  congruent = congruent;
  unique = unique;
  keeps = keeps;
  divides = divides;
  smaller = smaller;
  its_sign = its_sign;
  by_zero = λ x. (refl, refl);
  remains = remains;
  same_yes = same_yes;
  same_only = same_only;
}
