-- The first place at which a test fails.
use Rattle.std.specs.Prelude.{ℕ, zero, suc, Bool, cond, Some, None, Option}

-- what was found before, else what comes next
abbrev pub or_else : {X : Type 0} → Option X → Option X → Option X
or_else (Some x) o = Some x
or_else None o = o

-- the first of 0 .. n - 1 whose test fails
abbrev pub first_bad : (ℕ → Bool) → ℕ → Option ℕ
first_bad p zero = None
first_bad p (suc n) = or_else (first_bad p n) (cond (p n) None (Some n))
