-- What a tally says of the equations that it has counted.
use Rattle.std.specs.Prelude.{◌≡◌, ℕ, ◌+◌, ◌<◌, ◌≤◌, Bool, false, cond, not, ◌&&◌, ◌||◌, List, ◌==◌, nat_lt, slice_index, slice_index_or}
use Rattle.table.specs.Syntax.{Equation}
use Rattle.rules.specs.Definitions.{defined, definitions, delayed, is_delay, is_in, times}
use Rattle.definitions.specs.declared.tally.Tally.{Tally}

-- how often a variable is defined, and whether by a DELAY
abbrev pub count_of : Tally → ℕ → ℕ
count_of t x = slice_index t.counts x

abbrev pub delay_in : Tally → ℕ → Bool
delay_in t x = slice_index_or t.delays x false

-- the definitions of one more equation fit
abbrev pub Room : Tally → Type 0
Room t = (x : ℕ) → x < 64 → count_of t x ≤ 1024

-- from one tally to the next: variables that are defined
pub record Adds (t u : Tally) (xs : List ℕ) : Type 0 where
  pub counts : (x : ℕ) → x < 64 → count_of u x ≡ count_of t x + times x xs
  pub delays : (x : ℕ) → x < 64 → delay_in u x ≡ delay_in t x

-- a variable that a DELAY defines
pub record AddsDelay (t u : Tally) (y : ℕ) : Type 0 where
  pub counts : (x : ℕ) → x < 64 → count_of u x ≡ count_of t x + cond (x == y) 1 0
  pub delays : (x : ℕ) → x < 64 → delay_in u x ≡ (delay_in t x || x == y)

-- an equation
pub record AddsEquation (t u : Tally) (e : Equation) : Type 0 where
  pub counts : (x : ℕ) → x < 64 → count_of u x ≡ count_of t x + times x (defined e)
  pub delays : (x : ℕ) → x < 64 → delay_in u x ≡ (delay_in t x || (is_delay e && is_in x (defined e)))

-- a tally has counted these equations
pub record Tallies (t : Tally) (es : List Equation) : Type 0 where
  pub counts : (x : ℕ) → x < 64 → count_of t x ≡ definitions x es
  pub delays : (x : ℕ) → x < 64 → delay_in t x ≡ delayed x es

-- the rule, by a tally
abbrev pub keeps : Tally → ℕ → ℕ → ℕ → Bool
keeps t inputs outputs x =
    cond (nat_lt x inputs) (count_of t x == 0)
    (count_of t x == 1 && (not (nat_lt x (inputs + outputs)) || not (delay_in t x)))
