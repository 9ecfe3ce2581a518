-- What statements do to cells.
use Rattle.std.specs.Prelude.{ℕ, zero, suc, Bool, true, cond, ◌&&◌, List, [], ◌∷◌, Some, None, ◌==◌}
use Rattle.std.specs.List.{slice_get}
use Rattle.opset.specs.Meaning.{Meaning}
use Rattle.table.specs.Syntax.{Table, node_at}
use Rattle.schedule.specs.Need.{needs}
use Rattle.admission.specs.Verdict.{node_order}
use Rattle.streams.specs.Streams.{sensed, value_of, second_of, applied}
use Rattle.code.specs.Statements.{Test, Action, assign, select, reset, step, Statement, step_statements, reset_statements}
use Rattle.code.specs.Code.{ordered}
use Rattle.execution.specs.Cells.{stored, inside, Blocks, no_blocks, stepped}

module _ {V : Type 0} (m : Meaning V) (B : Blocks V) where
  -- an operand selected is copied by operator 0
  abbrev pub performed : Action → List V → List V
  performed (assign op a b x) cells = stored cells x (applied m op (value_of m (slice_get cells) a) (second_of m (slice_get cells) b))
  performed (select s a b x) cells =
      cond (sensed m (slice_get cells s) true)
      (stored cells x (applied m 0 (value_of m (slice_get cells) a) (Some None)))
      (stored cells x (applied m 0 (value_of m (slice_get cells) b) (Some None)))
  performed (reset g off) cells = inside off (B.resets g) cells
  performed (step g off ops gs) cells = stepped m B g off ops gs cells

  -- every test lets the statement run
  abbrev pub passes : List Test → List V → Bool
  passes [] cells = true
  passes (t ∷ ts) cells = sensed m (slice_get cells t.variable) t.sense && passes ts cells

  abbrev pub executed : Statement → List V → List V
  executed s cells = cond (passes s.tests cells) (performed s.action cells) cells

  abbrev pub all_executed : List Statement → List V → List V
  all_executed [] cells = cells
  all_executed (s ∷ ss) cells = all_executed ss (executed s cells)

-- the blocks of node n, whose calls are of earlier nodes
abbrev pub reset_of : {V : Type 0} → Meaning V → Blocks V → Table → ℕ → List V → List V
reset_of m B T n = all_executed m B (reset_statements (needs T) (node_at T n))

abbrev pub step_of : {V : Type 0} → Meaning V → Blocks V → Table → ℕ → List V → List V
step_of m B T n = all_executed m B (step_statements (needs T) (node_at T n) (ordered (node_order T n)))

-- the blocks of the nodes below n
abbrev pub table_blocks : {V : Type 0} → Meaning V → Table → ℕ → Blocks V
table_blocks m T zero = no_blocks
table_blocks m T (suc n) = record {
  resets = λ g cells. cond (g == n) (reset_of m (table_blocks m T n) T n cells) ((table_blocks m T n).resets g cells);
  steps = λ g cells. cond (g == n) (step_of m (table_blocks m T n) T n cells) ((table_blocks m T n).steps g cells);
}
