-- The bits of a number.
use Rattle.std.proofs.Common.{◌≡◌, ℕ, zero, suc, ◌+◌, ◌-◌, ◌*◌, ◌/◌, ◌%◌, ◌^◌, ◌<◌, Bool, true, false, ◌&&◌, ◌||◌, eqb, ◌⊎◌, sym, ap, ◌∙◌, inl, inr, arith}
use lib.Bits.{bit_and, bit_or}
use native.Mathlib.Nat.{div-eq_of_lt, div-eq_of_lt-le, div_self, zero-div}
use Rattle.std.proofs.lemmas.Nat.{pow_pos, pow-add, pow_below, shl-shr, or_shr, or_mod, and_shr, and_mod, leading_top}
use Rattle.std.proofs.lemmas.Bool.{cases_order, eq-eqb, ne_eqb}

abbrev pub on : ℕ → ℕ → Bool
on m x = eqb (m / 2 ^ x % 2) 1

cases_bit : (n : ℕ) → (n % 2 ≡ 0) ⊎ (n % 2 ≡ 1)
cases_bit n = search arith

or_low : (a b : ℕ) → eqb (bit_or a b % 2) 1 ≡ (eqb (a % 2) 1 || eqb (b % 2) 1)
or_low a b =
    let e = or_mod a b 1 in
    elim (cases_bit a) [
      | inl p ↦ elim (cases_bit b) [ inl q ↦ rw (e, p, q) | inr q ↦ rw (e, p, q) ]
      | inr p ↦ elim (cases_bit b) [ inl q ↦ rw (e, p, q) | inr q ↦ rw (e, p, q) ]
    ]

pub or_on : (a b x : ℕ) → on (bit_or a b) x ≡ (on a x || on b x)
or_on a b x = ap (λ n. eqb (n % 2) 1) (or_shr a b x) ∙ or_low (a / 2 ^ x) (b / 2 ^ x)

and_low : (a b : ℕ) → eqb (bit_and a b % 2) 1 ≡ (eqb (a % 2) 1 && eqb (b % 2) 1)
and_low a b =
    let e = and_mod a b 1 in
    elim (cases_bit a) [
      | inl p ↦ rw (e, p)
      | inr p ↦ elim (cases_bit b) [ inl q ↦ rw (e, p, q) | inr q ↦ rw (e, p, q) ]
    ]

pub and_on : (a b x : ℕ) → on (bit_and a b) x ≡ (on a x && on b x)
and_on a b x = ap (λ n. eqb (n % 2) 1) (and_shr a b x) ∙ and_low (a / 2 ^ x) (b / 2 ^ x)

pub none_on : (x : ℕ) → on 0 x ≡ false
none_on x = ap (λ n. eqb (n % 2) 1) (zero-div (2 ^ x))

pow_even : (n : ℕ) → 0 < n → 2 ^ n % 2 ≡ 0
pow_even zero h = absurd (omega arith)
pow_even (suc n) h =
    let e : suc n ≡ n + 1 = omega arith in
    let p = ap (λ m. 2 ^ m) e ∙ pow-add 2 n 1 in
    omega (arith, p)

pub one_on : (x y : ℕ) → on (2 ^ x) y ≡ eqb y x
one_on x y =
    elim (cases_order y x) [
      | inl e ↦ ap (on (2 ^ x)) e ∙ ap (λ n. eqb (n % 2) 1) (div_self (pow_pos x)) ∙ sym (eq-eqb y x e)
      | inr o ↦ elim o [
        | inl l ↦
            let q : x ≡ (x - y) + y = omega arith in
            ap (λ n. on n y) (ap (λ m. 2 ^ m) q ∙ pow-add 2 (x - y) y) ∙ ap (λ n. eqb (n % 2) 1) (shl-shr (2 ^ (x - y)) y)
            ∙ ap (λ n. eqb n 1) (pow_even (x - y) (omega arith)) ∙ sym (ne_eqb y x (λ e. omega arith))
        | inr g ↦ ap (λ n. eqb (n % 2) 1) (div-eq_of_lt (pow_below x y g)) ∙ sym (ne_eqb y x (λ e. omega arith))
      ]
    ]

pow_more : (n : ℕ) → 2 ^ suc n ≡ 2 * 2 ^ n
pow_more n = let e : suc n ≡ 1 + n = omega arith in ap (λ m. 2 ^ m) e ∙ pow-add 2 1 n

-- a number that is not 0 has a bit
pub some_on : (n : ℕ) → 0 < n → n < 2 ^ 64 → (x : ℕ) × (x < 64) × (on n x ≡ true)
some_on n p h =
    let t = leading_top 64 n p h in
    let j = t.0 in
    let two = pow_more j in
    let q : n / 2 ^ j ≡ 1 = div-eq_of_lt-le {k = 1} (2 ^ j) {m = n} (omega (arith, t.2)) (omega (arith, t.3, two)) in
    (j, omega (arith, t.1), ap (λ m. eqb (m % 2) 1) q)
