-- A table that is read, and its parts as they stand in its words.
use Rattle.std.specs.Prelude.{◌≡◌, ℕ, zero, suc, ◌+◌, ◌<◌, cond, List, [], ◌∷◌, Some, None, ◌==◌, nat_lt, slice_index}
use Rattle.words.specs.declared.kinds.Operand.{Operand}
use Rattle.words.specs.Bits.{field, kind_of}
use Rattle.words.specs.Format.{literal_in, operand_in, restart_in}
use Rattle.reader.specs.declared.outline.Outline.{Outline}
use Rattle.table.specs.declared.drawn.Drawn.{Drawn}
use Rattle.table.specs.declared.drawn.Drawn.TheVariants.{Operate, Sample, Merge, Choose, Delay, Call}
use Rattle.table.specs.Syntax.{Equation, operate, sample, merge, choose, delay, call, Table, node_at}
use Rattle.table.specs.Reading.{Spells}

-- the words spell a table for some operator set, and the outline has it
pub record Described (ws : List ℕ) (o : Outline) : Type 0 where
  pub own : ℕ
  pub spells : Spells own ws o

-- so many operands, or gives, from a place on
abbrev pub operands_at : List ℕ → ℕ → ℕ → List Operand
operands_at ws at zero = []
operands_at ws at (suc n) = operand_in (slice_index ws at) ∷ operands_at ws (at + 1) n

abbrev pub gives_at : List ℕ → ℕ → ℕ → List ℕ
gives_at ws at zero = []
gives_at ws at (suc n) = field (slice_index ws at) 0 6 ∷ gives_at ws (at + 1) n

-- an equation of node k of table T, which ws spell; the operands of a call stand at a place, and its gives behind them
abbrev pub Draws : List ℕ → Table → ℕ → Drawn → Equation → Type 0
Draws ws T k (Operate op a b x) E = E ≡ operate op a b x
Draws ws T k (Sample a x) E = E ≡ sample a x
Draws ws T k (Merge s a b x) E = E ≡ merge s a b x
Draws ws T k (Choose s a b x) E = E ≡ choose s a b x
Draws ws T k (Delay l a x) E = E ≡ delay l a x
Draws ws T k (Call g r at) E =
    (g < k) × (E ≡ call g r (operands_at ws at (node_at T g).inputs) (gives_at ws (at + (node_at T g).inputs) (node_at T g).outputs))

abbrev pub drawn_operate : ℕ → ℕ → ℕ → Drawn
drawn_operate w first second =
    Operate (field w 20 8) (operand_in first) (cond (nat_lt (field w 20 8) 128) None (Some (operand_in second))) (field w 0 6)

-- the equation whose head is w, of kind k at a place, with the words behind it
abbrev pub drawn_as : ℕ → ℕ → ℕ → ℕ → ℕ → Drawn
drawn_as k w first second at =
    cond (k == 3) (drawn_operate w first second)
    (cond (k == 4) (Sample (operand_in first) (field w 0 6))
    (cond (k == 5) (Merge (field w 8 6) (operand_in first) (operand_in second) (field w 0 6))
    (cond (k == 6) (Choose (field w 8 6) (operand_in first) (operand_in second) (field w 0 6))
    (cond (k == 7) (Delay (literal_in first) (operand_in second) (field w 0 6))
    (Call (field w 20 8) (restart_in w) (at + 1))))))

abbrev pub drawn_at : List ℕ → ℕ → Drawn
drawn_at ws at = drawn_as (kind_of (slice_index ws at)) (slice_index ws at) (slice_index ws (at + 1)) (slice_index ws (at + 2)) at
