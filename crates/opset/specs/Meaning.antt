-- What a set of operators means, over its values V, and the laws that every set keeps. Assumes nothing.
-- Types are numbered 0 to 15, and type 0 is the boolean one. A payload has 24 bits. Operators 0 to 127 take one operand, and 128 to 255 two: the second is `None` where there is one.
use Rattle.std.specs.Prelude.{◌≡◌, ℕ, ◌<◌, Bool, true, false, Some, None, Option}

-- Six functions of their arguments alone.
pub record Meaning (V : Type 0) : Type 0 where
  -- whether the set has the type
  pub has_type : ℕ → Bool
  -- the value of a type and a payload, or none
  pub literal : ℕ → ℕ → Option V
  -- the type of an operator's result on operands of these types, or none
  pub result_type : ℕ → ℕ → Option ℕ → Option ℕ
  -- the result of an operator on these values
  pub apply : ℕ → V → Option V → V
  -- a value's truth
  pub truth : V → Bool
  -- whether a value belongs to a type
  pub belongs : V → ℕ → Bool

pub record Laws {V : Type 0} (m : Meaning V) : Type 0 where
  -- payload 0 has a value in every type of the set
  pub zero_literal : (ty : ℕ) → m.has_type ty ≡ true → (v : V) × (m.literal ty 0 ≡ Some v)
  -- the boolean payloads are 0, which is false, and 1, which is true, and no other
  pub is_false : (v : V) × (m.literal 0 0 ≡ Some v) × (m.truth v ≡ false)
  pub is_true : (v : V) × (m.literal 0 1 ≡ Some v) × (m.truth v ≡ true)
  pub no_more : (payload : ℕ) → 1 < payload → m.literal 0 payload ≡ None
  -- a literal's value belongs to its type
  pub literal_belongs : (ty payload : ℕ) (v : V) → m.literal ty payload ≡ Some v → m.belongs v ty ≡ true
  -- an operator's result belongs to its result type, where the operands belong to theirs
  pub unary_belongs : (op a t : ℕ) (x : V) → m.result_type op a None ≡ Some t → m.belongs x a ≡ true → m.belongs (m.apply op x None) t ≡ true
  pub binary_belongs : (op a b t : ℕ) (x y : V) → m.result_type op a (Some b) ≡ Some t → m.belongs x a ≡ true → m.belongs y b ≡ true → m.belongs (m.apply op x (Some y)) t ≡ true
  -- operator 0 answers its operand, in the operand's type
  pub same_value : (x : V) → m.apply 0 x None ≡ x
  pub same_type : (ty : ℕ) → m.has_type ty ≡ true → m.result_type 0 ty None ≡ Some ty
  -- an operator that has no result type on any types of its operands answers the first operand
  pub unary_else : (op : ℕ) (x : V) → ((a : ℕ) → m.belongs x a ≡ true → m.result_type op a None ≡ None) → m.apply op x None ≡ x
  pub binary_else : (op : ℕ) (x y : V) → ((a b : ℕ) → m.belongs x a ≡ true → m.belongs y b ≡ true → m.result_type op a (Some b) ≡ None) → m.apply op x (Some y) ≡ x
  -- only a boolean can be true
  pub truth_else : (v : V) → m.belongs v 0 ≡ false → m.truth v ≡ false
