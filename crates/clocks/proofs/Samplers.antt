-- The steps along a chain of samplers.
use Rattle.std.proofs.Common.{◌≡◌, ℕ, zero, suc, ◌-◌, ◌<◌, Bool, true, false, arith}
use Rattle.words.specs.declared.kinds.Clock.TheVariants.{Base, On}
use Rattle.table.specs.Syntax.{Node}
use Rattle.rules.specs.Clocks.{clock_of, reaches}

pub on_base : (d : ℕ) (N : Node) (x : ℕ) → Base ≡ clock_of N x → true ≡ reaches d N x
on_base zero N x e = rw (← e)
on_base (suc d) N x e = rw (← e)

pub too_long : (d : ℕ) (N : Node) (x s : ℕ) (sense : Bool) → d ≡ 0 → On s sense ≡ clock_of N x → false ≡ reaches d N x
too_long zero N x s sense h e = rw (← e)
too_long (suc d) N x s sense h e = absurd (omega arith)

pub by_sampler : (d : ℕ) (N : Node) (x s : ℕ) (sense : Bool) → 0 < d → On s sense ≡ clock_of N x → reaches (d - 1) N s ≡ reaches d N x
by_sampler zero N x s sense h e = absurd (omega arith)
by_sampler (suc d) N x s sense h e = let p : suc d - 1 ≡ d = omega arith in rw (p, ← e)
