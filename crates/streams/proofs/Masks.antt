-- A machine that is restarted shows, where the count is k, what a fresh one shows under the rows of count k.
use Rattle.std.proofs.Common.{◌≡◌, ℕ, zero, suc, ◌<◌, ◌≤◌, Bool, true, false, cond, None, sym, refl, ap, ◌∙◌, ap₂, inl, inr, arith}
use Rattle.std.proofs.lemmas.Bool.{cases_eq, eq-eqb, ne_eqb}
use Rattle.streams.specs.Streams.{Rows, count_before, masked}
use Rattle.streams.specs.Machine.{Tree, Machine, memory, run}
use Rattle.streams.proofs.Settled.{Idles}

-- `used` are the memories with which the instants begin: the start where the count has grown
module _ {V : Type 0} (c : Machine V) (idles : Idles c) (count : ℕ → ℕ) (grows : (i : ℕ) → count i ≤ count (suc i))
    (rows : Rows V) (used : ℕ → Tree V) (first : used 0 ≡ c.start)
    (goes_on : (i : ℕ) → count (suc i) ≡ count i → used (suc i) ≡ c.next (used i) (rows i))
    (anew : (i : ℕ) → count i < count (suc i) → used (suc i) ≡ c.start) (k : ℕ) where
  off : (i : ℕ) → (count i ≡ k → ⊥) → masked count k rows i ≡ None
  off i n = rw (ne_eqb (count i) k n)

  on : (i : ℕ) → count i ≡ k → masked count k rows i ≡ rows i
  on i e = rw (eq-eqb (count i) k e)

  waits : (i : ℕ) → (count i ≡ k → ⊥) → memory c (masked count k rows) (suc i) ≡ memory c (masked count k rows) i
  waits i n = ap (c.next (memory c (masked count k rows) i)) (off i n) ∙ idles.next (memory c (masked count k rows) i)

  fresh : (i : ℕ) → (count i < k → memory c (masked count k rows) i ≡ c.start) × (count i ≡ k → memory c (masked count k rows) i ≡ used i)
  fresh zero = (λ l. refl, λ e. sym first)
  fresh (suc i) = (
    λ l. waits i (λ q. omega (arith, grows i)) ∙ (fresh i).0 (omega (arith, grows i)),
    λ e. elim (cases_eq (count i) k) [
      | inl q ↦ ap₂ (λ t vs. c.next t vs) ((fresh i).1 q) (on i q) ∙ sym (goes_on i (omega arith))
      | inr n ↦ waits i n ∙ (fresh i).0 (omega (arith, grows i)) ∙ sym (anew i (omega (arith, grows i)))
    ],
  )

  pub masked_run : (i : ℕ) → count i ≡ k → (y : ℕ) → run c (masked count k rows) i y ≡ c.shows (used i) (rows i) y
  masked_run i e y = ap₂ (λ t vs. c.shows t vs y) ((fresh i).1 e) (on i e)

-- an instance that is restarted where rs says so, before the instant
module _ {V : Type 0} (c : Machine V) (idles : Idles c) (rs : ℕ → Bool) (rows : Rows V) (I : ℕ → Tree V) (first : I 0 ≡ c.start)
    (more : (i : ℕ) → I (suc i) ≡ c.next (cond (rs i) c.start (I i)) (rows i)) (k : ℕ) where
  abbrev used : ℕ → Tree V
  used i = cond (rs i) c.start (I i)

  least : (b : Bool) (n : ℕ) → n ≤ cond b (suc n) n
  least true n = omega arith
  least false n = omega arith

  begins : (b : Bool) → cond b c.start (I 0) ≡ c.start
  begins true = refl
  begins false = first

  goes : (b : Bool) (n : ℕ) (t : Tree V) → cond b (suc n) n ≡ n → cond b c.start t ≡ t
  goes true n t e = absurd (omega arith)
  goes false n t e = refl

  breaks : (b : Bool) (n : ℕ) (t : Tree V) → n < cond b (suc n) n → cond b c.start t ≡ c.start
  breaks true n t l = refl
  breaks false n t l = absurd (omega arith)

  pub instance_run : (i : ℕ) → count_before rs (suc i) ≡ k → (y : ℕ)
      → run c (masked (λ j. count_before rs (suc j)) k rows) i y ≡ c.shows (cond (rs i) c.start (I i)) (rows i) y
  instance_run =
      masked_run c idles (λ j. count_before rs (suc j)) (λ j. least (rs (suc j)) (count_before rs (suc j))) rows used (begins (rs 0))
      (λ j e. goes (rs (suc j)) (count_before rs (suc j)) (I (suc j)) e ∙ more j)
      (λ j l. breaks (rs (suc j)) (count_before rs (suc j)) (I (suc j)) l) k
