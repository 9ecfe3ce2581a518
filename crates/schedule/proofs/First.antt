-- What `every` and `first_of` say.
use Rattle.std.proofs.Common.{◌≡◌, ℕ, zero, suc, ◌+◌, ◌<◌, Bool, true, false, ◌⊎◌, Some, None, Decides, refl, inl, inr, add-one, arith}
use Rattle.std.proofs.lemmas.Bool.Decides.{Decides-below_and}
use Rattle.schedule.specs.Found.{every, first_of}

every_decides : (p : ℕ → Bool) (n : ℕ) → Decides (every p n) ((i : ℕ) → i < n → p i ≡ true)
every_decides p n = Decides-below_and p (λ i. p i ≡ true) (every p) (λ k. (λ h. h, λ h. h)) refl (λ _. refl) n

pub every_all : (p : ℕ → Bool) (n : ℕ) → every p n ≡ true → (i : ℕ) → i < n → p i ≡ true
every_all p n = (every_decides p n).0

pub all_every : (p : ℕ → Bool) (n : ℕ) → ((i : ℕ) → i < n → p i ≡ true) → every p n ≡ true
all_every p n = (every_decides p n).1

pub every_more : (p : ℕ → Bool) (i : ℕ) → every p i ≡ true → p i ≡ true → every p (i + 1) ≡ true
every_more p i a b = rw (add-one, a, b)

pub every_same : (p q : ℕ → Bool) (n : ℕ) → ((k : ℕ) → k < n → p k ≡ q k) → every p n ≡ every q n
every_same p q zero h = refl
every_same p q (suc n) h = let a = every_same p q n (λ k l. h k (omega arith)) in let b = h n (omega arith) in rw (a, b)

below_or_last : (i n : ℕ) → i < suc n → (i < n) ⊎ (i ≡ n)
below_or_last i n h = search arith

-- one that fails is passed over
pub first_more : (p : ℕ → Bool) (i : ℕ) → first_of p i ≡ None → p i ≡ false → first_of p (i + 1) ≡ None
first_more p i a b = rw (add-one, a, b)

-- the one that passes is the first
pub first_at : (p : ℕ → Bool) (i n : ℕ) → i < n → first_of p i ≡ None → p i ≡ true → first_of p n ≡ Some i
first_at p i zero h a b = absurd (omega arith)
first_at p i (suc n) h a b =
    elim (below_or_last i n h) [ inl l ↦ rw (first_at p i n l a b) | inr e ↦ rw (← e, a, b) ]

none_parts : (p : ℕ → Bool) (n : ℕ) → first_of p (suc n) ≡ None → (first_of p n ≡ None) × (p n ≡ false)
none_parts p n e = grind arith

pub first_none : (p : ℕ → Bool) (n : ℕ) → first_of p n ≡ None → (k : ℕ) → k < n → p k ≡ false
first_none p zero e k h = absurd (omega arith)
first_none p (suc n) e k h =
    let w = none_parts p n e in elim (below_or_last k n h) [ inl l ↦ first_none p n w.0 k l | inr q ↦ rw q w.1 ]

-- i passes, and all before it fail
pub record First (p : ℕ → Bool) (n i : ℕ) : Type 0 where
  pub below : i < n
  pub passes : p i ≡ true
  pub fail : (k : ℕ) → k < i → p k ≡ false

some_parts : (p : ℕ → Bool) (n i : ℕ) → first_of p (suc n) ≡ Some i → (first_of p n ≡ Some i) ⊎ ((first_of p n ≡ None) × (p n ≡ true) × (i ≡ n))
some_parts p n i e = grind arith

pub first_some : (p : ℕ → Bool) (n i : ℕ) → first_of p n ≡ Some i → First p n i
first_some p zero i e = let z : ◌≡◌ {A = ℕ} 0 1 = cc in absurd (omega arith)
first_some p (suc n) i e =
    elim (some_parts p n i e) [
      | inl q ↦ let r = first_some p n i q in record { below = omega arith; passes = r.passes; fail = r.fail }
      | inr q ↦ record { below = omega (arith, q.2); passes = rw q.2 q.1; fail = λ k h. first_none p n q.0 k (omega (arith, q.2)) }
    ]

pub first_same : (p q : ℕ → Bool) (n : ℕ) → ((k : ℕ) → k < n → p k ≡ q k) → first_of p n ≡ first_of q n
first_same p q zero h = refl
first_same p q (suc n) h = let a = first_same p q n (λ k l. h k (omega arith)) in let b = h n (omega arith) in rw (a, b)
