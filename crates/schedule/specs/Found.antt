-- The order that is found: next is always the equation nearest the front that is ready.
use Rattle.std.specs.Prelude.{◌≡◌, ℕ, zero, suc, ◌<◌, Bool, true, cond, not, ◌&&◌, List, [], ◌∷◌, ◌++◌, is_some, Some, None, Option}
use Rattle.std.specs.Option.{option_or}
use Rattle.rules.specs.Definitions.{is_in}
use Rattle.schedule.specs.Order.{Order, Nearest, Scheduled}

abbrev pub every : (ℕ → Bool) → ℕ → Bool
every p zero = true
every p (suc n) = p n && every p n

-- the first of n that passes
abbrev pub first_of : (ℕ → Bool) → ℕ → Option ℕ
first_of p zero = None
first_of p (suc n) = option_or (first_of p n) (cond (p n) (Some n) None)

-- i comes before j, and is not placed
abbrev pub holds_back : (ℕ → ℕ → Bool) → (ℕ → Bool) → ℕ → ℕ → Bool
holds_back before placed i j = before i j && not (placed i)

-- j is not placed, and none of the n holds it back
abbrev pub ready : (ℕ → ℕ → Bool) → ℕ → (ℕ → Bool) → ℕ → Bool
ready before n placed j = not (placed j) && every (λ i. not (holds_back before placed i j)) n

abbrev pub next_of : (ℕ → ℕ → Bool) → ℕ → (ℕ → Bool) → Option ℕ
next_of before n placed = first_of (ready before n placed) n

-- with the one that is next, if there is one, go on
abbrev pub grown : (List ℕ → Option (List ℕ)) → List ℕ → Option ℕ → Option (List ℕ)
grown go ps None = None
grown go ps (Some j) = go (ps ++ j ∷ [])

-- k more behind ps
abbrev pub grow : (ℕ → ℕ → Bool) → ℕ → ℕ → List ℕ → Option (List ℕ)
grow before n zero ps = Some ps
grow before n (suc k) ps = grown (grow before n k) ps (next_of before n (λ i. is_in i ps))

abbrev pub order_of : (ℕ → ℕ → Bool) → ℕ → Option (List ℕ)
order_of before n = grow before n n []

-- what is found is the order that is meant, and where nothing is found, no order exists
abbrev pub OrderStands : Type 0
OrderStands = (before : ℕ → ℕ → Bool) (n : ℕ) → Scheduled before n (order_of before n)

-- no other order has at each place the one nearest the front that is ready
abbrev pub OrderUnique : Type 0
OrderUnique =
    (before : ℕ → ℕ → Bool) (n : ℕ) (os qs : List ℕ) → Order before n os → Nearest before n [] os →
    Order before n qs → Nearest before n [] qs → os ≡ qs

-- an order exists exactly when one is found
pub record Exists (before : ℕ → ℕ → Bool) (n : ℕ) : Type 0 where
  pub found : (os : List ℕ) → Order before n os → is_some (order_of before n) ≡ true
  pub exists : is_some (order_of before n) ≡ true → (os : List ℕ) × Order before n os

abbrev pub OrderExists : Type 0
OrderExists = (before : ℕ → ℕ → Bool) (n : ℕ) → Exists before n

-- only what comes before what among the n equations matters
pub record Same (b c : ℕ → ℕ → Bool) (n : ℕ) : Type 0 where
  pub found : order_of b n ≡ order_of c n
  pub meant : (r : Option (List ℕ)) → Scheduled b n r → Scheduled c n r

abbrev pub OrderSame : Type 0
OrderSame = (b c : ℕ → ℕ → Bool) (n : ℕ) → ((i j : ℕ) → i < n → j < n → b i j ≡ c i j) → Same b c n
