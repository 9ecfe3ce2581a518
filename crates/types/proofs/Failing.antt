-- The steps of a loop that looks for the first failure of a test, and returns its place.
use Rattle.std.proofs.Common.{◌≡◌, ℕ, ◌+◌, ◌<◌, Bool, true, false, Some, None, sym, ap, ◌∙◌}
use Rattle.std.specs.Option.{option_map}
use Rattle.rules.specs.First.{first_bad}
use Rattle.rules.proofs.First.{bad_more, bad_at}

module _ (p : ℕ → Bool) (i : ℕ) (none : first_bad p i ≡ None) where
  pub passes : true ≡ p i → first_bad p (i + 1) ≡ None
  passes t = bad_more p i none (sym t)

  pub fails : false ≡ p i → (n : ℕ) → i < n → (place_of : ℕ → ℕ) (place : ℕ) → place ≡ place_of i → Some place ≡ option_map place_of (first_bad p n)
  fails t n h place_of place e = ap Some e ∙ sym (ap (option_map place_of) (bad_at p i n h none (sym t)))
