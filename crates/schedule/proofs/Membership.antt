-- What is in a list with one more at its end.
use Rattle.std.proofs.Common.{◌≡◌, ℕ, true, ◌||◌, eqb, ◌⊎◌, List, [], ◌∷◌, ◌++◌, sym, refl, ◌∙◌, inl, inr, arith}
use Rattle.std.proofs.lemmas.Bool.{eqb-true, eq-eqb, ne_eqb, or_cases}
use Rattle.rules.specs.Definitions.{is_in}

is_in_push : (x : ℕ) (ps : List ℕ) (j : ℕ) → is_in x (ps ++ j ∷ []) ≡ (is_in x ps || eqb x j)
is_in_push x [] j = grind arith
is_in_push x (p ∷ ps) j = let e = is_in_push x ps j in grind (arith, e)

pub is_in_last : (ps : List ℕ) (j : ℕ) → is_in j (ps ++ j ∷ []) ≡ true
is_in_last ps j = let e = eq-eqb j j refl in let f = is_in_push j ps j in grind (arith, e, f)

pub is_in_other : (x : ℕ) (ps : List ℕ) (j : ℕ) → (x ≡ j → ⊥) → is_in x (ps ++ j ∷ []) ≡ is_in x ps
is_in_other x ps j ne = let e = ne_eqb x j ne in let f = is_in_push x ps j in grind (arith, e, f)

pub is_in_cases : (x : ℕ) (ps : List ℕ) (j : ℕ) → is_in x (ps ++ j ∷ []) ≡ true → (is_in x ps ≡ true) ⊎ (x ≡ j)
is_in_cases x ps j h =
    elim (or_cases (is_in x ps) (eqb x j) (sym (is_in_push x ps j) ∙ h)) [ inl a ↦ inl a | inr b ↦ inr (eqb-true x j b) ]
