-- What is read from cells that agree with an instant: where a variable is present, its cell has its value.
use Rattle.std.proofs.Common.{◌≡◌, ℕ, ◌<◌, true, false, List, [], ◌++◌, is_some, Some, None, Option, sym, refl, ap, ◌∙◌}
use Rattle.std.specs.Option.{option_map}
use Rattle.std.proofs.lemmas.Bool.{both_ways}
use Rattle.words.specs.declared.kinds.Operand.{Operand}
use Rattle.words.specs.declared.kinds.Operand.TheVariants.{Take, Literal as Constant}
use Rattle.opset.specs.Meaning.{Meaning, Laws}
use Rattle.table.specs.Syntax.{Node, variable_count}
use Rattle.rules.specs.Definitions.{is_in}
use Rattle.schedule.specs.Reads.{operand_reads, second_reads}
use Rattle.streams.specs.Streams.{Env, value_of, second_of, applied}
use Rattle.streams.proofs.Places.{in_left, in_right, in_head}

abbrev pub Agrees : {V : Type 0} → Env V → Env V → ℕ → Type 0
Agrees {V} E w y = (v : V) → E y ≡ Some v → w y ≡ Some v

abbrev pub AgreesOn : {V : Type 0} → Env V → Env V → List ℕ → Type 0
AgreesOn E w l = (y : ℕ) → is_in y l ≡ true → Agrees E w y

-- a variable of the node that a statement may read
abbrev pub Readable : {V : Type 0} → Node → Env V → Env V → ℕ → Type 0
Readable N E w y = (y < variable_count N) × Agrees E w y

pub some_of : {X : Type 0} (o : Option X) → is_some o ≡ true → (v : X) × (o ≡ Some v)
some_of None h = absurd (both_ways false refl h)
some_of (Some v) h = (v, refl)

module _ {V : Type 0} (E w : Env V) where
  pub on_left : (l k : List ℕ) → AgreesOn E w (l ++ k) → AgreesOn E w l
  on_left l k h y i = h y (in_left y l k i)

  pub on_right : (l k : List ℕ) → AgreesOn E w (l ++ k) → AgreesOn E w k
  on_right l k h y i = h y (in_right y l k i)

module _ {V : Type 0} (m : Meaning V) where
  -- operator 0 copies
  pub copied : Laws m → (o : Option V) → applied m 0 o (Some None) ≡ o
  copied laws None = refl
  copied laws (Some v) = ap Some (laws.same_value v)

  module _ (E w : Env V) where
    pub value_same : (a : Operand) → AgreesOn E w (operand_reads a) → is_some (value_of m E a) ≡ true → value_of m w a ≡ value_of m E a
    value_same (Take x) h s = let q = some_of (E x) s in h x (in_head x []) q.0 q.1 ∙ sym q.1
    value_same (Constant l) h s = refl

    was_some : (o : Option V) → is_some (option_map {U = Option V} Some o) ≡ true → is_some o ≡ true
    was_some None h = h
    was_some (Some v) h = refl

    pub second_same : (b : Option Operand) → AgreesOn E w (second_reads b) → is_some (second_of m E b) ≡ true → second_of m w b ≡ second_of m E b
    second_same None h s = refl
    second_same (Some b) h s = ap (option_map Some) (value_same b h (was_some (value_of m E b) s))
