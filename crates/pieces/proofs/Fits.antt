-- What a described table names fits the fields of code words.
use Rattle.std.proofs.Common.{◌≡◌, ℕ, ◌<◌, ◌≤◌, Bool, eqb, List, length, take, Some, None, Option, sym, refl, subst, inl, inr, arith}
use Rattle.std.proofs.ByRecursion.{All-get_or}
use Rattle.std.proofs.lemmas.Bool.{cases_Bool}
use Rattle.words.specs.declared.kinds.Clock.{Clock}
use Rattle.words.specs.declared.kinds.Clock.TheVariants.{Base, On}
use Rattle.words.specs.declared.kinds.Operand.{Operand}
use Rattle.words.specs.declared.kinds.Operand.TheVariants.{Literal as Constant}
use Rattle.words.specs.declared.kinds.Variable.{Variable}
use Rattle.words.specs.Bits.{kind_of}
use Rattle.words.specs.Format.{ClockFits, OperandFits, RestartFits, operand_in}
use Rattle.reader.specs.declared.outline.Outline.{Outline}
use Rattle.table.specs.Syntax.{Equation, operate, sample, merge, choose, delay, call, Table, an_equation, equation_at, equation_count, node_at, variable_at, variable_count}
use Rattle.table.specs.Spelling.{EquationKeeps, SecondKeeps}
use Rattle.table.specs.Decoding.{table_of}
use Rattle.table.specs.Access.{Described}
use Rattle.rules.specs.Clocks.{clock_of}
use Rattle.table.proofs.Decoded.{operand_fits, restart_fits_lem}
use Rattle.waits.proofs.Small.{sampler_small}
use Rattle.pieces.specs.Fitting.{SecondFits}

pub operand_in_fits : (w : ℕ) (a : Operand) → a ≡ operand_in w → OperandFits a
operand_in_fits w a e =
    let F : Operand → Type 0 = λ x. OperandFits x in
    let b = eqb (kind_of w) 10 in
    subst F (sym e) (elim (cases_Bool b) [ inl q ↦ rw q (omega arith, omega arith) | inr q ↦ rw q (omega arith) ])

clock_by : (c : Clock) → ((s : ℕ) (b : Bool) → c ≡ On s b → s < 64) → ClockFits c
clock_by Base f = tt
clock_by (On s b) f = f s b refl

abbrev pub EquationFits : Equation → Type 0
EquationFits (operate op a b x) = (x < 64) × OperandFits a × SecondFits b
EquationFits (sample a x) = (x < 64) × OperandFits a
EquationFits (merge s a b x) = (s < 64) × (x < 64) × OperandFits a × OperandFits b
EquationFits (choose s a b x) = (s < 64) × (x < 64) × OperandFits a × OperandFits b
EquationFits (delay l a x) = (x < 64) × OperandFits (Constant l) × OperandFits a
EquationFits (call g r ops gs) = RestartFits r

second_fits : (v : ℕ) → v ≤ 64 → (op : ℕ) (b : Option Operand) → SecondKeeps v op b → SecondFits b
second_fits v h op None k = tt
second_fits v h op (Some b) k = operand_fits v h b k.2

keeps_fits : (P : Table) (v : ℕ) → v ≤ 64 → (E : Equation) → EquationKeeps P v E → EquationFits E
keeps_fits P v h (operate op a b x) k = (omega (arith, k.2), operand_fits v h a k.0, second_fits v h op b k.1)
keeps_fits P v h (sample a x) k = (omega (arith, k.1), operand_fits v h a k.0)
keeps_fits P v h (merge s a b x) k = (omega (arith, k.0), omega (arith, k.3), operand_fits v h a k.1, operand_fits v h b k.2)
keeps_fits P v h (choose s a b x) k = (omega (arith, k.0), omega (arith, k.3), operand_fits v h a k.1, operand_fits v h b k.2)
keeps_fits P v h (delay l a x) k = (omega (arith, k.2), (k.0.ty, k.0.payload), operand_fits v h a k.1)
keeps_fits P v h (call g r ops gs) k = restart_fits_lem v r h k.1

module _ (ws : List ℕ) (o : Outline) (d : Described ws o) where
  pub clock_fits : (k x : ℕ) (v : Variable) → v ≡ variable_at (node_at (table_of ws) k) x → ClockFits v.clock
  clock_fits k x v e =
      let F : Variable → Type 0 = λ u. ClockFits u.clock in
      subst F (sym e) (clock_by (clock_of (node_at (table_of ws) k) x) (sampler_small ws o d k x))

  module _ (k : ℕ) (h : k < length (table_of ws)) (e : ℕ) (l : e < equation_count (node_at (table_of ws) k)) where
    pub equation_fits : EquationFits (equation_at (node_at (table_of ws) k) e)
    equation_fits =
        let T = table_of ws in
        let N = node_at T k in
        let K = d.spells.keeps.nodes k h in
        keeps_fits (take k T) (variable_count N) K.count.1 (equation_at N e)
        (All-get_or (EquationKeeps (take k T) (variable_count N)) N.equations e an_equation l K.equations)

    -- by an equation that is drawn
    pub drawn_fits : (E : Equation) → equation_at (node_at (table_of ws) k) e ≡ E → EquationFits E
    drawn_fits E q = let F : Equation → Type 0 = λ x. EquationFits x in subst F q equation_fits
