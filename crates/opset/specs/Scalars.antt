-- What a set of booleans beside one kind of number N means. Assumes nothing.
use Rattle.std.specs.Prelude.{ℕ, ◌^◌, Bool as Truth, true, false, cond, not, ◌&&◌, ◌||◌, ℤ, Some, None, Option, ◌==◌, nat_le, nat_lt}
use Rattle.std.specs.Bool.{beq}
use Rattle.opset.specs.declared.scalar.Scalar.{Scalar}
use Rattle.opset.specs.declared.scalar.Scalar.TheVariants.{Bool, Number}
use Rattle.opset.specs.declared.numeric_type.NumericType.{NumericType}
use Rattle.opset.specs.Meaning.{Meaning}
use Rattle.opset.specs.Payload.{signed24}

-- What a set says of its numbers.
pub record Arithmetic (N : Type 0) : Type 0 where
  -- the number of the numeric type
  pub numeric : ℕ
  -- the value that stands for a whole number, as a payload has it
  pub whole : ℤ → N
  -- operator 2
  pub negated : N → N
  -- operators 128, 129, 130
  pub sum : N → N → N
  pub difference : N → N → N
  pub product : N → N → N
  -- operators 131 and 132, where the set has them
  pub quotient : Option (N → N → N)
  pub remainder : Option (N → N → N)
  -- operators 136, 137, 138
  pub equal : N → N → Truth
  pub less : N → N → Truth
  pub at_most : N → N → Truth

-- whether there is an operator, and what it answers: where there is none, the first operand
abbrev pub present : {N : Type 0} → Option (N → N → N) → Truth
present None = false
present (Some f) = true

abbrev pub performed : {N : Type 0} → Option (N → N → N) → N → N → N
performed None x y = x
performed (Some f) x y = f x y

-- the numeric type, as the code has it
abbrev pub numeric_type : {N : Type 0} → Arithmetic N → NumericType
numeric_type A = record { number = A.numeric; division = present A.quotient; remainder = present A.remainder }

-- the types are the booleans and the numeric type n
abbrev pub either_type : ℕ → ℕ → Truth
either_type n ty = ty == 0 || ty == n

-- the boolean of a payload
abbrev pub bool_literal : {N : Type 0} → ℕ → Option (Scalar N)
bool_literal p = cond (p == 0) (Some (Bool false)) (cond (p == 1) (Some (Bool true)) None)

-- one operand: operator 0 keeps any type, 1 is of booleans, 2 of numbers
abbrev pub unary_type : ℕ → ℕ → ℕ → Option ℕ
unary_type n op a =
    cond (op == 0 && either_type n a) (Some a)
    (cond (op == 1 && a == 0) (Some 0)
    (cond (op == 2 && a == n) (Some n) None))

-- two numbers: the arithmetic operators answer a number, and the comparisons a boolean. d and r say whether there is a division and a remainder
abbrev pub numbers_type : ℕ → Truth → Truth → ℕ → Option ℕ
numbers_type n d r op =
    cond (nat_le 128 op && nat_le op 130) (Some n)
    (cond (d && op == 131) (Some n)
    (cond (r && op == 132) (Some n)
    (cond (nat_le 136 op && nat_le op 138) (Some 0) None)))

-- two booleans
abbrev pub bools_type : ℕ → Option ℕ
bools_type op = cond (nat_le 133 op && nat_le op 135) (Some 0) None

abbrev pub binary_type : ℕ → Truth → Truth → ℕ → ℕ → ℕ → Option ℕ
binary_type n d r op a b =
    cond (a == n && b == n) (numbers_type n d r op) (cond (a == 0 && b == 0) (bools_type op) None)

abbrev pub operator_type : ℕ → Truth → Truth → ℕ → ℕ → Option ℕ → Option ℕ
operator_type n d r op a None = unary_type n op a
operator_type n d r op a (Some b) = binary_type n d r op a b

-- the operators of booleans: not; and, or, exclusive or. Any other answers its first operand
abbrev pub on_bool : ℕ → Truth → Truth
on_bool op p = cond (op == 1) (not p) p

abbrev pub on_bools : ℕ → Truth → Truth → Truth
on_bools op p q = cond (op == 133) (p && q) (cond (op == 134) (p || q) (cond (op == 135) (not (beq p q)) p))

-- the operators of numbers. Any other answers its first operand
abbrev pub on_number : {N : Type 0} → Arithmetic N → ℕ → N → N
on_number A op x = cond (op == 2) (A.negated x) x

abbrev pub on_numbers : {N : Type 0} → Arithmetic N → ℕ → N → N → Scalar N
on_numbers A op x y =
    cond (op == 128) (Number (A.sum x y))
    (cond (op == 129) (Number (A.difference x y))
    (cond (op == 130) (Number (A.product x y))
    (cond (op == 131) (Number (performed A.quotient x y))
    (cond (op == 132) (Number (performed A.remainder x y))
    (cond (op == 136) (Bool (A.equal x y))
    (cond (op == 137) (Bool (A.less x y))
    (cond (op == 138) (Bool (A.at_most x y))
    (Number x))))))))

-- no operator is of a boolean and a number: the first operand
abbrev pub applied : {N : Type 0} → Arithmetic N → ℕ → Scalar N → Option (Scalar N) → Scalar N
applied A op (Bool p) None = Bool (on_bool op p)
applied A op (Number x) None = Number (on_number A op x)
applied A op (Bool p) (Some (Bool q)) = Bool (on_bools op p q)
applied A op (Bool p) (Some (Number y)) = Bool p
applied A op (Number x) (Some (Bool q)) = Number x
applied A op (Number x) (Some (Number y)) = on_numbers A op x y

-- only the boolean true is true
abbrev pub truth_of : {N : Type 0} → Scalar N → Truth
truth_of (Bool p) = p
truth_of (Number x) = false

-- a boolean belongs to type 0, and a number to the numeric type n
abbrev pub of_type : {N : Type 0} → ℕ → Scalar N → ℕ → Truth
of_type n (Bool p) ty = ty == 0
of_type n (Number x) ty = ty == n

-- a boolean's literal, or the number of a payload's 24 bits
abbrev pub literal_of : {N : Type 0} → Arithmetic N → ℕ → ℕ → Option (Scalar N)
literal_of A ty p =
    cond (ty == 0) (bool_literal p) (cond (ty == A.numeric && nat_lt p (2 ^ 24)) (Some (Number (A.whole (signed24 p)))) None)

-- the set
abbrev pub scalars : {N : Type 0} → Arithmetic N → Meaning (Scalar N)
scalars A = record {
  has_type = either_type A.numeric;
  literal = literal_of A;
  result_type = operator_type A.numeric (present A.quotient) (present A.remainder);
  apply = applied A;
  truth = truth_of;
  belongs = of_type A.numeric;
}
