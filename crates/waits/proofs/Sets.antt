-- Sets of variables as the lists of their members.
use Rattle.std.proofs.Common.{◌≡◌, ℕ, ◌*◌, ◌%◌, ◌^◌, ◌<◌, Bool, true, false, not, ◌&&◌, ◌||◌, eqb, List, [], ◌∷◌, ◌++◌, sym, refl, ap, ◌∙◌, subst, inl, inr, arith}
use lib.Bits.{bit_and, bit_or}
use Rattle.std.specs.List.{AllByRecursion}
use Rattle.std.proofs.lemmas.Nat.{one_shl, and_le_l}
use Rattle.std.proofs.lemmas.Bool.{cases_eq, eq-eqb, ne_eqb, eqb-true, or_cases, or_right}
use Rattle.rules.specs.Definitions.{is_in}
use Rattle.schedule.specs.Reads.{meets}
use Rattle.waits.specs.declared.variable_set.VariableSet.{VariableSet}
use Rattle.waits.specs.Members.{Holds}
use Rattle.waits.proofs.Bits.{on, or_on, and_on, none_on, one_on, some_on}

or_assoc : (a b c : Bool) → ((a || b) || c) ≡ (a || (b || c))
or_assoc true b c = refl
or_assoc false b c = refl

or_comm : (a b : Bool) → (a || b) ≡ (b || a)
or_comm true true = refl
or_comm true false = refl
or_comm false true = refl
or_comm false false = refl

pub in_append : (x : ℕ) (l m : List ℕ) → is_in x (l ++ m) ≡ (is_in x l || is_in x m)
in_append x [] m = refl
in_append x (y ∷ l) m = ap (λ b. eqb x y || b) (in_append x l m) ∙ sym (or_assoc (eqb x y) (is_in x l) (is_in x m))

pub holds_none : (s : VariableSet) → s.0 ≡ 0 → Holds s []
holds_none s e = record { members = λ x h. ap (λ n. on n x) e ∙ none_on x }

pub holds_union : (s t u : VariableSet) (l m : List ℕ) → u.0 ≡ bit_or s.0 t.0 → Holds s l → Holds t m → Holds u (l ++ m)
holds_union s t u l m e h k =
    record {
      members = λ x b.
          let p = h.members x b in
          let q = k.members x b in
          ap (λ n. on n x) e ∙ or_on s.0 t.0 x ∙ rw (p, q) (sym (in_append x l m));
    }

pub holds_insert : (s u : VariableSet) (l : List ℕ) (x : ℕ) → x < 64 → u.0 ≡ bit_or s.0 ((1 * 2 ^ x) % 2 ^ 64) → Holds s l → Holds u (x ∷ l)
holds_insert s u l x b e h =
    record {
      members = λ y c.
          let p = h.members y c in
          let o = one_on x y in
          ap (λ n. on n y) (e ∙ ap (bit_or s.0) (one_shl x 64 b)) ∙ or_on s.0 (2 ^ x) y ∙ rw (p, o) (or_comm (is_in y l) (eqb y x));
    }

-- the order of a list does not matter
pub holds_swap : (s : VariableSet) (l m : List ℕ) → Holds s (l ++ m) → Holds s (m ++ l)
holds_swap s l m h = record { members = λ x b. h.members x b ∙ in_append x l m ∙ or_comm (is_in x l) (is_in x m) ∙ sym (in_append x m l) }

pub holds_as : (s : VariableSet) (l m : List ℕ) → l ≡ m → Holds s l → Holds s m
holds_as s l m e h = let F : List ℕ → Type 0 = λ x. Holds s x in subst F e h

-- lists with a member in common
meets_some : (l m : List ℕ) (x : ℕ) → is_in x l ≡ true → is_in x m ≡ true → meets l m ≡ true
meets_some [] m x a b = let z : ◌≡◌ {A = ℕ} 0 1 = cc in absurd (omega arith)
meets_some (y ∷ l) m x a b =
    elim (or_cases (eqb x y) (is_in x l) a) [
      | inl e ↦ let q = ap (λ z. is_in z m) (sym (eqb-true x y e)) ∙ b in rw q
      | inr e ↦ or_right (is_in y m) (meets l m) (meets_some l m x e b)
    ]

-- and with none
meets_none : (l m : List ℕ) → ((x : ℕ) → x < 64 → is_in x l ≡ true → is_in x m ≡ false) → AllByRecursion (λ x. x < 64) l → meets l m ≡ false
meets_none [] m f a = refl
meets_none (y ∷ l) m f a =
    let p = f y a.0 (ap (λ b. b || is_in y l) (eq-eqb y y refl)) in
    let q = meets_none l m (λ x h e. f x h (or_right (eqb x y) (is_in x l) e)) a.1 in
    rw (p, q)

and_right : (a b : Bool) → (a && b) ≡ true → (a ≡ true) × (b ≡ true)
and_right true true e = (refl, refl)
and_right true false e = (refl, e)
and_right false b e = let z : ◌≡◌ {A = ℕ} 0 1 = cc in absurd (omega arith)

pub holds_meet : (s t : VariableSet) (l m : List ℕ) → s.0 < 2 ^ 64 → Holds s l → Holds t m → AllByRecursion (λ x. x < 64) l → not (eqb (bit_and s.0 t.0) 0) ≡ meets l m
holds_meet s t l m small h k a =
    let n = bit_and s.0 t.0 in
    elim (cases_eq n 0) [
      | inl z ↦
          ap not (eq-eqb n 0 z)
          ∙ sym (meets_none l m (λ x b e.
          let o = sym (and_on s.0 t.0 x) ∙ ap (λ v. on v x) z ∙ none_on x in
          let p = h.members x b ∙ e in
          sym (k.members x b) ∙ (rw p at o)) a)
      | inr z ↦
          let w = some_on n (omega (arith, z)) (omega (arith, and_le_l s.0 t.0)) in
          let x = w.0 in
          let b = and_right (on s.0 x) (on t.0 x) (sym (and_on s.0 t.0 x) ∙ w.2) in
          ap not (ne_eqb n 0 z) ∙ sym (meets_some l m x (sym (h.members x w.1) ∙ b.0) (sym (k.members x w.1) ∙ b.1))
    ]
