-- Orders of n equations, of which some come before others: `before i j` says that i comes before j.
use Rattle.std.specs.Prelude.{◌≡◌, ℕ, ◌<◌, Bool, true, false, List, [], ◌∷◌, ◌++◌, Some, None, Option}
use Rattle.rules.specs.Definitions.{is_in}

-- j may come next, ps being placed: it is not among them, and all that come before it are
pub record Ready (before : ℕ → ℕ → Bool) (n : ℕ) (ps : List ℕ) (j : ℕ) : Type 0 where
  pub fresh : is_in j ps ≡ false
  pub after : (i : ℕ) → i < n → before i j ≡ true → is_in i ps ≡ true

-- each of js is one of the n, and is ready when its turn comes
abbrev pub Follows : (ℕ → ℕ → Bool) → ℕ → List ℕ → List ℕ → Type 0
Follows before n ps [] = Unit {0}
Follows before n ps (j ∷ js) = (j < n) × Ready before n ps j × Follows before n (ps ++ j ∷ []) js

-- an order has every equation, once, after all that come before it
pub record Order (before : ℕ → ℕ → Bool) (n : ℕ) (os : List ℕ) : Type 0 where
  pub all : (i : ℕ) → i < n → is_in i os ≡ true
  pub turns : Follows before n [] os

-- each is the one nearest the front that is ready
abbrev pub Nearest : (ℕ → ℕ → Bool) → ℕ → List ℕ → List ℕ → Type 0
Nearest before n ps [] = Unit {0}
Nearest before n ps (j ∷ js) = ((k : ℕ) → k < j → Ready before n ps k → ⊥) × Nearest before n (ps ++ j ∷ []) js

-- the order that is meant, or that there is none
abbrev pub Scheduled : (ℕ → ℕ → Bool) → ℕ → Option (List ℕ) → Type 0
Scheduled before n (Some os) = Order before n os × Nearest before n [] os
Scheduled before n None = (os : List ℕ) → Order before n os → ⊥
