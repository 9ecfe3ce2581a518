-- Marks that are all false.
use Rattle.std.proofs.Common.{◌≡◌, ℕ, zero, suc, false, get_or, replicate, refl}

pub no_marks : (k i : ℕ) → get_or (replicate k false) i false ≡ false
no_marks zero i = refl
no_marks (suc k) zero = refl
no_marks (suc k) (suc i) = no_marks k i
