-- A list of cells, and what is stored in it. Cells are read as an instant's variables are: cell x of `cells` is `slice_get cells x`.
use Rattle.std.specs.Prelude.{ℕ, ◌+◌, List, [], ◌∷◌, ◌++◌, length, take, drop, Some, None, Option, slice_set}
use Rattle.std.specs.List.{slice_get}
use Rattle.opset.specs.Meaning.{Meaning}
use Rattle.words.specs.declared.kinds.Operand.{Operand}
use Rattle.streams.specs.Streams.{value_of}

-- a value goes into a cell; nothing leaves the cells as they are
abbrev pub stored : {V : Type 0} → List V → ℕ → Option V → List V
stored cells x None = cells
stored cells x (Some v) = slice_set cells x v

-- on the segment that begins at a cell
abbrev pub inside : {V : Type 0} → ℕ → (List V → List V) → List V → List V
inside off f cells = take off cells ++ f (drop off cells)

-- operands are copied into the cells from a place on, one by one
abbrev pub copied_in : {V : Type 0} → Meaning V → List V → ℕ → List Operand → List V
copied_in m cells at [] = cells
copied_in m cells at (a ∷ l) = copied_in m (stored cells at (value_of m (slice_get cells) a)) (at + 1) l

-- the cells from a place on are copied out to variables
abbrev pub copied_out : {V : Type 0} → List V → ℕ → List ℕ → List V
copied_out cells at [] = cells
copied_out cells at (x ∷ l) = copied_out (stored cells x (slice_get cells at)) (at + 1) l

-- what the two blocks of each node do to the cells of a segment
pub record Blocks (V : Type 0) : Type 0 where
  pub resets : ℕ → List V → List V
  pub steps : ℕ → List V → List V

-- no node's
abbrev pub no_blocks : {V : Type 0} → Blocks V
no_blocks = record { resets = λ g cells. cells; steps = λ g cells. cells }

-- a call: operands are copied in, the block runs, outputs are copied out
abbrev pub stepped : {V : Type 0} → Meaning V → Blocks V → ℕ → ℕ → List Operand → List ℕ → List V → List V
stepped m B g off ops gs cells = copied_out (inside off (B.steps g) (copied_in m cells off ops)) (off + length ops) gs
