-- What wrapping is: the kit's `int_wrap` at 32 bits, and so the one congruent number of the range. Assumes nothing.
use Rattle.std.proofs.Common.{◌≡◌, ℕ, suc, ◌-◌, ◌/◌, ◌^◌, ◌<◌, ◌≤◌, ℤ, pos, negsuc, ◌+ℤ◌, ◌*ℤ◌, neg_ℤ, sym, ap, ◌∙◌, subst, ⊎_elim, le_of_suc-le-suc, arith, w32, SFits}
use lib.IntN.{+ℤ_idr, *ℤ-zero}
use lib.Signed.{mag}
use Rattle.std.specs.Int.{int_wrap}
use Rattle.std.proofs.lemmas.Int.{ints, SFits-int_wrap, int_wrap_fits, int_wrap-add_right, int_wrap-mul_right}
use Rattle.std.proofs.lemmas.Bool.Decides.{nat_tests, leb_tells}
use Rattle.integers.specs.Integers.{wrap, residue}
use Rattle.integers.specs.Stands.{InRange, Congruent}

pub wrap_is : (z : ℤ) → int_wrap w32 z ≡ wrap z
unfolding int_wrap
wrap_is (pos n) = grind (arith, nat_tests)
wrap_is (negsuc n) = grind (arith, nat_tests)

-- the range, as the kit has it
pub range_fits : (z : ℤ) → InRange z → SFits w32 z
range_fits z h = record { sfits = fits z h }
  where
    fits : (z : ℤ) → InRange z → mag z < 2 ^ 31
    fits (pos n) h = omega (arith, ints, h.most)
    fits (negsuc n) h = omega (arith, ints, h.least)

pub fits_range : (z : ℤ) → mag z < 2 ^ 31 → InRange z
fits_range (pos n) h = record { least = omega (arith, ints); most = omega (arith, ints) }
fits_range (negsuc n) h = record { least = omega (arith, ints); most = omega (arith, ints) }

pub in_range : (z : ℤ) → InRange (wrap z)
in_range z = subst InRange (wrap_is z) (fits_range (int_wrap w32 z) (SFits-int_wrap w32 z).sfits)

pub keeps : (z : ℤ) → InRange z → wrap z ≡ z
keeps z h = sym (wrap_is z) ∙ int_wrap_fits w32 z (range_fits z h)

-- a multiple of 2 ^ 32 wraps to 0
multiple : (k : ℤ) → int_wrap w32 (k *ℤ pos (2 ^ 32)) ≡ pos 0
unfolding int_wrap
multiple k = sym (int_wrap-mul_right w32 k (pos (2 ^ 32))) ∙ ap (int_wrap w32) (*ℤ-zero k)

pub unique : (z w : ℤ) → InRange w → Congruent z w → w ≡ wrap z
unique z w h (k, e) =
    sym (int_wrap_fits w32 w (range_fits w h))
    ∙ sym (ap (int_wrap w32) (+ℤ_idr w))
    ∙ sym (ap (λ m. int_wrap w32 (w +ℤ m)) (multiple k))
    ∙ int_wrap-add_right w32 w (k *ℤ pos (2 ^ 32))
    ∙ sym (ap (int_wrap w32) e)
    ∙ wrap_is z

-- how often 2 ^ 32 goes into z, by where the residue stands
wrap_low : (z : ℤ) → residue z < 2 ^ 31 → wrap z ≡ pos (residue z)
wrap_low z h = grind (arith, nat_tests)

wrap_high : (z : ℤ) → 2 ^ 31 ≤ residue z → wrap z ≡ negsuc (2 ^ 32 - 1 - residue z)
wrap_high z h = grind (arith, nat_tests)

by_residue : {P : Type 0} (r : ℕ) → (r < 2 ^ 31 → P) → (2 ^ 31 ≤ r → P) → P
by_residue r low high = ⊎_elim (λ t. low t.1) (λ t. high (le_of_suc-le-suc t.1)) (leb_tells (suc r) (2 ^ 31))

pos_low : (n : ℕ) → residue (pos n) < 2 ^ 31 → pos n ≡ wrap (pos n) +ℤ pos (n / 2 ^ 32) *ℤ pos (2 ^ 32)
pos_low n h = rw (wrap_low (pos n) h) (omega (arith, ints))

pos_high : (n : ℕ) → 2 ^ 31 ≤ residue (pos n) → pos n ≡ wrap (pos n) +ℤ pos (suc (n / 2 ^ 32)) *ℤ pos (2 ^ 32)
pos_high n h = rw (wrap_high (pos n) h) (omega (arith, ints))

negsuc_low : (n : ℕ) → residue (negsuc n) < 2 ^ 31 → negsuc n ≡ wrap (negsuc n) +ℤ negsuc (n / 2 ^ 32) *ℤ pos (2 ^ 32)
negsuc_low n h = rw (wrap_low (negsuc n) h) (omega (arith, ints))

negsuc_high : (n : ℕ) → 2 ^ 31 ≤ residue (negsuc n) → negsuc n ≡ wrap (negsuc n) +ℤ neg_ℤ (pos (n / 2 ^ 32)) *ℤ pos (2 ^ 32)
negsuc_high n h = rw (wrap_high (negsuc n) h) (omega (arith, ints))

pub congruent : (z : ℤ) → Congruent z (wrap z)
congruent (pos n) =
    by_residue (residue (pos n)) (λ h. (pos (n / 2 ^ 32), pos_low n h)) (λ h. (pos (suc (n / 2 ^ 32)), pos_high n h))
congruent (negsuc n) =
    by_residue (residue (negsuc n)) (λ h. (negsuc (n / 2 ^ 32), negsuc_low n h)) (λ h. (neg_ℤ (pos (n / 2 ^ 32)), negsuc_high n h))
