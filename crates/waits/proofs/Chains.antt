-- The steps along a variable's chain.
use Rattle.std.proofs.Common.{◌≡◌, ℕ, zero, suc, ◌+◌, ◌-◌, ◌<◌, Bool, [], ◌∷◌, refl, ap, ◌∙◌, arith}
use Rattle.words.specs.declared.kinds.Clock.TheVariants.{Base, On}
use Rattle.table.specs.Syntax.{Node}
use Rattle.rules.specs.Clocks.{clock_of}
use Rattle.schedule.specs.Reads.{chain_by, chain_to}

pub chain_base : (d : ℕ) (N : Node) (x : ℕ) → clock_of N x ≡ Base → chain_to d N x ≡ []
chain_base zero N x e = refl
chain_base (suc d) N x e = ap (chain_by (chain_to d N)) e

pub chain_on : (i : ℕ) (N : Node) (x s : ℕ) (b : Bool) → i < 8 → clock_of N x ≡ On s b → chain_to (8 - i) N x ≡ s ∷ chain_to (8 - (i + 1)) N s
chain_on i N x s b h e =
    let q : 8 - i ≡ suc (8 - (i + 1)) = omega arith in
    ap (λ d. chain_to d N x) q ∙ ap (chain_by (chain_to (8 - (i + 1)) N)) e
