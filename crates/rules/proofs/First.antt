-- The first failure of a test: the steps of a loop that looks for it, and what it says.
use Rattle.std.proofs.Common.{◌≡◌, ℕ, zero, suc, ◌+◌, ◌<◌, Bool, true, false, ◌⊎◌, Some, None, refl, inl, inr, add-one, arith}
use Rattle.rules.specs.First.{first_bad}

split : (i n : ℕ) → i < suc n → (i < n) ⊎ (i ≡ n)
split i n h = search arith

pub bad_more : (p : ℕ → Bool) (i : ℕ) → first_bad p i ≡ None → p i ≡ true → first_bad p (i + 1) ≡ None
bad_more p i a b = rw (add-one, a, b)

pub bad_at : (p : ℕ → Bool) (i n : ℕ) → i < n → first_bad p i ≡ None → p i ≡ false → first_bad p n ≡ Some i
bad_at p i zero h a b = absurd (omega arith)
bad_at p i (suc n) h a b =
    elim (split i n h) [ inl l ↦ rw (bad_at p i n l a b) | inr e ↦ rw (← e, a, b) ]

-- what None and Some say, in plain words
none_parts : (p : ℕ → Bool) (n : ℕ) → first_bad p (suc n) ≡ None → (first_bad p n ≡ None) × (p n ≡ true)
none_parts p n e = grind arith

pub bad_none : (p : ℕ → Bool) (n : ℕ) → first_bad p n ≡ None → (k : ℕ) → k < n → p k ≡ true
bad_none p zero e k h = absurd (omega arith)
bad_none p (suc n) e k h =
    let w = none_parts p n e in elim (split k n h) [ inl l ↦ bad_none p n w.0 k l | inr q ↦ rw q w.1 ]

pub none_from : (p : ℕ → Bool) (n : ℕ) → ((k : ℕ) → k < n → p k ≡ true) → first_bad p n ≡ None
none_from p zero all = refl
none_from p (suc n) all =
    let a = none_from p n (λ k h. all k (omega arith)) in let b = all n (omega arith) in rw (a, b)

-- the one that is found fails, and all below it pass
pub record Found (p : ℕ → Bool) (n i : ℕ) : Type 0 where
  pub below : i < n
  pub fails : p i ≡ false
  pub passed : (k : ℕ) → k < i → p k ≡ true

some_parts : (p : ℕ → Bool) (n i : ℕ) → first_bad p (suc n) ≡ Some i → (first_bad p n ≡ Some i) ⊎ ((first_bad p n ≡ None) × (p n ≡ false) × (i ≡ n))
some_parts p n i e = grind arith

pub bad_some : (p : ℕ → Bool) (n i : ℕ) → first_bad p n ≡ Some i → Found p n i
bad_some p zero i e = let z : ◌≡◌ {A = ℕ} 0 1 = cc in absurd (omega arith)
bad_some p (suc n) i e =
    elim (some_parts p n i e) [ inl q ↦ let r = bad_some p n i q in record { below = omega arith; fails = r.fails; passed = r.passed } | inr q ↦ record { below = omega (arith, q.2); fails = rw q.2 q.1; passed = λ k h. bad_none p n q.0 k (omega (arith, q.2)) } ]

-- tests that agree below n have one first failure
pub bad_same : (p q : ℕ → Bool) (n : ℕ) → ((k : ℕ) → k < n → p k ≡ q k) → first_bad p n ≡ first_bad q n
bad_same p q zero h = refl
bad_same p q (suc n) h = let a = bad_same p q n (λ k l. h k (omega arith)) in let b = h n (omega arith) in rw (a, b)
