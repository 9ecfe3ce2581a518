-- The steps of the scan for the equation that is next.
use Rattle.std.proofs.Common.{◌≡◌, ℕ, ◌+◌, ◌<◌, Bool, true, false, not, inl, inr, arith}
use Rattle.std.proofs.lemmas.Bool.{cases_Bool, both_ways}
use Rattle.schedule.specs.Found.{every, holds_back, ready}
use Rattle.schedule.proofs.First.{every_all, every_more}

module _ (before : ℕ → ℕ → Bool) (n : ℕ) (placed : ℕ → Bool) (j : ℕ) where
  -- none of the first k holds j back
  abbrev pub free : ℕ → Bool
  free k = every (λ i. not (holds_back before placed i j)) k

  pub placed_already : placed j ≡ true → ready before n placed j ≡ false
  placed_already h = rw h

  pub held_back : (i : ℕ) → i < n → true ≡ holds_back before placed i j → ready before n placed j ≡ false
  held_back i l e =
      elim (cases_Bool (free n)) [
        | inl t ↦ absurd (both_ways (not (holds_back before placed i j)) (rw (← e)) (every_all (λ i. not (holds_back before placed i j)) n t i l))
        | inr f ↦ grind (arith, f)
      ]

  pub free_more : (i : ℕ) → free i ≡ true → false ≡ holds_back before placed i j → free (i + 1) ≡ true
  free_more i f e = every_more (λ i. not (holds_back before placed i j)) i f (rw (← e))

  pub ready_now : placed j ≡ false → free n ≡ true → ready before n placed j ≡ true
  ready_now p f = rw (p, f)
