-- Division toward zero and its remainder give the dividend again. Assumes nothing.
use Rattle.std.proofs.Common.{◌≡◌, ℕ, zero, suc, ◌+◌, ◌*◌, ◌/◌, ◌%◌, ◌<◌, ◌⊎◌, ℤ, pos, negsuc, ◌+ℤ◌, ◌*ℤ◌, neg_ℤ, nat_abs, sym, refl, ap, inl, inr, mod-lt, div-add-mod', arith}
use Rattle.std.proofs.lemmas.Int.{ints}
use Rattle.integers.specs.Integers.{is_negative, toward_zero, left_over}

-- the four signs, over a quotient q and a remainder r of the magnitudes
plus_plus : (a b q r : ℕ) → q * b + r ≡ a → pos a ≡ pos q *ℤ pos b +ℤ pos r
plus_plus a b q r e = ap pos (sym e)

plus_minus : (a b q r : ℕ) → q * suc b + r ≡ a → pos a ≡ neg_ℤ (pos q) *ℤ negsuc b +ℤ pos r
plus_minus a b zero r e = omega (arith, ints)
plus_minus a b (suc q) r e = ap pos (sym e)

minus_plus : (a b q r : ℕ) → q * b + r ≡ suc a → negsuc a ≡ neg_ℤ (pos q) *ℤ pos b +ℤ neg_ℤ (pos r)
minus_plus a b zero r e = omega (arith, ints)
minus_plus a b (suc q) r e = omega (arith, ints)

minus_minus : (a b q r : ℕ) → q * suc b + r ≡ suc a → negsuc a ≡ pos q *ℤ negsuc b +ℤ neg_ℤ (pos r)
minus_minus a b q r e = omega (arith, ints)

pub divides : (x y : ℤ) → (y ≡ pos 0 → ⊥) → x ≡ toward_zero x y *ℤ y +ℤ left_over x y
divides (pos a) (pos b) ne = plus_plus a b (a / b) (a % b) (div-add-mod' a b)
divides (pos a) (negsuc b) ne = plus_minus a b (a / suc b) (a % suc b) (div-add-mod' a (suc b))
divides (negsuc a) (pos b) ne = minus_plus a b (suc a / b) (suc a % b) (div-add-mod' (suc a) b)
divides (negsuc a) (negsuc b) ne = minus_minus a b (suc a / suc b) (suc a % suc b) (div-add-mod' (suc a) (suc b))

nonzero : (y : ℤ) → (y ≡ pos 0 → ⊥) → 0 < nat_abs y
nonzero (pos zero) ne = elim (ne refl) [ ]
nonzero (pos (suc n)) ne = omega arith
nonzero (negsuc n) ne = omega arith

abs_neg : (n : ℕ) → nat_abs (neg_ℤ (pos n)) ≡ n
abs_neg zero = refl
abs_neg (suc n) = refl

pub smaller : (x y : ℤ) → (y ≡ pos 0 → ⊥) → nat_abs (left_over x y) < nat_abs y
smaller (pos a) y ne = mod-lt a (nonzero y ne)
smaller (negsuc a) y ne = omega (arith, abs_neg (suc a % nat_abs y), mod-lt (suc a) (nonzero y ne))

negative_sign : (r : ℕ) → (neg_ℤ (pos r) ≡ pos 0) ⊎ (is_negative (neg_ℤ (pos r)) ≡ is_negative (negsuc 0))
negative_sign zero = inl refl
negative_sign (suc r) = inr refl

pub its_sign : (x y : ℤ) → (left_over x y ≡ pos 0) ⊎ (is_negative (left_over x y) ≡ is_negative x)
its_sign (pos a) y = inr refl
its_sign (negsuc a) y = negative_sign (suc a % nat_abs y)
