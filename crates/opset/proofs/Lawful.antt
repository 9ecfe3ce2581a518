-- A set of booleans beside one kind of number keeps the laws, whatever its arithmetic is. Assumes nothing.
use Rattle.std.proofs.Common.{◌≡◌, ℕ, ◌<◌, Bool as Truth, true, false, eqb, eq-eqb, pos, Some, None, Option, refl, ap, ⊎_elim, arith}
use Rattle.std.proofs.lemmas.Bool.Decides.{nat_tests, eqb_tells}
use Rattle.opset.specs.Meaning.{Laws}
use Rattle.opset.specs.Scalars.{Arithmetic, scalars, present, performed, either_type, literal_of, unary_type, numbers_type, binary_type, on_bools, on_numbers, applied, truth_of, of_type}
use Rattle.opset.specs.declared.scalar.Scalar.{Scalar}
use Rattle.opset.specs.declared.scalar.Scalar.TheVariants.{Bool, Number}

zero_literal : {N : Type 0} (A : Arithmetic N) (ty : ℕ) → either_type A.numeric ty ≡ true → (v : Scalar N) × (literal_of A ty 0 ≡ Some v)
zero_literal A ty h = ⊎_elim (λ e. (Bool false, grind (arith, nat_tests))) (λ e. (Number (A.whole (pos 0)), grind (arith, nat_tests))) (eqb_tells ty 0)

no_more : {N : Type 0} (A : Arithmetic N) (p : ℕ) → 1 < p → literal_of A 0 p ≡ None
no_more A p h = grind (arith, nat_tests)

literal_belongs : {N : Type 0} (A : Arithmetic N) (ty p : ℕ) (v : Scalar N) → literal_of A ty p ≡ Some v → of_type A.numeric v ty ≡ true
literal_belongs A ty p (Bool b) h = grind (arith, nat_tests)
literal_belongs A ty p (Number x) h = grind (arith, nat_tests)

unary_belongs : {N : Type 0} (A : Arithmetic N) → (A.numeric ≡ 0 → ⊥) → (op a t : ℕ) (x : Scalar N) → unary_type A.numeric op a ≡ Some t → of_type A.numeric x a ≡ true → of_type A.numeric (applied A op x None) t ≡ true
unary_belongs A ne op a t (Bool p) h k = grind (arith, nat_tests)
unary_belongs A ne op a t (Number x) h k = grind (arith, nat_tests)

binary_belongs : {N : Type 0} (A : Arithmetic N) → (A.numeric ≡ 0 → ⊥) → (op a b t : ℕ) (x y : Scalar N) → binary_type A.numeric (present A.quotient) (present A.remainder) op a b ≡ Some t → of_type A.numeric x a ≡ true → of_type A.numeric y b ≡ true → of_type A.numeric (applied A op x (Some y)) t ≡ true
binary_belongs A ne op a b t (Bool p) (Bool q) h k l = grind (arith, nat_tests)
binary_belongs A ne op a b t (Bool p) (Number y) h k l = grind (arith, nat_tests)
binary_belongs A ne op a b t (Number x) (Bool q) h k l = grind (arith, nat_tests)
binary_belongs A ne op a b t (Number x) (Number y) h k l = grind (arith, nat_tests)

same_type : (n ty : ℕ) → either_type n ty ≡ true → unary_type n 0 ty ≡ Some ty
same_type n ty h = grind (arith, nat_tests)

same_value : {N : Type 0} (A : Arithmetic N) (x : Scalar N) → applied A 0 x None ≡ x
same_value A (Bool p) = refl
same_value A (Number x) = refl

eqb_self : (n : ℕ) → eqb n n ≡ true
eqb_self n = grind (arith, nat_tests)

unary_else : {N : Type 0} (A : Arithmetic N) (op : ℕ) (x : Scalar N) → ((a : ℕ) → of_type A.numeric x a ≡ true → unary_type A.numeric op a ≡ None) → applied A op x None ≡ x
unary_else A op (Bool p) h = let e = h 0 refl in ap Bool (grind (arith, nat_tests))
unary_else A op (Number x) h = let e = h A.numeric (eqb_self A.numeric) in ap Number (grind (arith, nat_tests))

absent : {N : Type 0} (q : Option (N → N → N)) (x y : N) → present q ≡ false → performed q x y ≡ x
absent None x y h = refl
absent (Some f) x y h = grind arith

numbers_else : {N : Type 0} (A : Arithmetic N) (op : ℕ) (x y : N) → numbers_type A.numeric (present A.quotient) (present A.remainder) op ≡ None → on_numbers A op x y ≡ Number x
numbers_else A op x y h =
    let q : present A.quotient ≡ false → performed A.quotient x y ≡ x = absent A.quotient x y in
    let r : present A.remainder ≡ false → performed A.remainder x y ≡ x = absent A.remainder x y in
    grind (arith, nat_tests)

bools_else : (n : ℕ) (d r : Truth) (op : ℕ) (p q : Truth) → (n ≡ 0 → ⊥) → binary_type n d r op 0 0 ≡ None → on_bools op p q ≡ p
bools_else n d r op p q ne h = grind (arith, nat_tests)

both_numbers : (n : ℕ) (d r : Truth) (op : ℕ) → binary_type n d r op n n ≡ None → numbers_type n d r op ≡ None
both_numbers n d r op h = grind (arith, nat_tests)

binary_else : {N : Type 0} (A : Arithmetic N) → (A.numeric ≡ 0 → ⊥) → (op : ℕ) (x y : Scalar N) → ((a b : ℕ) → of_type A.numeric x a ≡ true → of_type A.numeric y b ≡ true → binary_type A.numeric (present A.quotient) (present A.remainder) op a b ≡ None) → applied A op x (Some y) ≡ x
binary_else A ne op (Bool p) (Bool q) h = ap Bool (bools_else A.numeric (present A.quotient) (present A.remainder) op p q ne (h 0 0 refl refl))
binary_else A ne op (Bool p) (Number y) h = refl
binary_else A ne op (Number x) (Bool q) h = refl
binary_else A ne op (Number x) (Number y) h =
    let own = eqb_self A.numeric in
    numbers_else A op x y (both_numbers A.numeric (present A.quotient) (present A.remainder) op (h A.numeric A.numeric own own))

truth_else : {N : Type 0} (n : ℕ) (v : Scalar N) → of_type n v 0 ≡ false → truth_of v ≡ false
truth_else n (Bool p) h = grind arith
truth_else n (Number x) h = refl

pub scalars_lawful : {N : Type 0} (A : Arithmetic N) → (A.numeric ≡ 0 → ⊥) → Laws (scalars A)
scalars_lawful A ne = record {
  zero_literal = zero_literal A;
  is_false = (Bool false, refl, refl);
  is_true = (Bool true, refl, refl);
  no_more = no_more A;
  literal_belongs = literal_belongs A;
  unary_belongs = unary_belongs A ne;
  binary_belongs = binary_belongs A ne;
  same_value = same_value A;
  same_type = same_type A.numeric;
  unary_else = unary_else A;
  binary_else = binary_else A ne;
  truth_else = truth_else A.numeric;
}

-- the same by a test that computes, for a set to cite
pub lawful_of : {N : Type 0} (A : Arithmetic N) → eqb A.numeric 0 ≡ false → Laws (scalars A)
lawful_of A other = scalars_lawful A (λ e. let same : eqb A.numeric 0 ≡ true = eq-eqb A.numeric 0 e in cc)
