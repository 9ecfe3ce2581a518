-- The front of a table's code in numbered pieces: HEAD, three words for each node, and main's ports with their first values.
use Rattle.std.specs.Prelude.{ℕ, List, [], ◌∷◌, length, slice_index}
use Rattle.instructions.specs.declared.code_word.CodeWord.{CodeWord}
use Rattle.instructions.specs.declared.code_word.CodeWord.TheVariants.{Head, ResetAt, StepAt, Need, Ports}
use Rattle.table.specs.Syntax.{Table}
use Rattle.schedule.specs.Need.{needs}
use Rattle.code.specs.Code.{reset_at, step_at, main_of, first_values}
use Rattle.blocks.specs.Numbered.{Pieces, and_then, only}

abbrev pub index_piece : Table → Pieces
index_piece T k = ResetAt (reset_at T k) ∷ StepAt (step_at T k) ∷ Need (slice_index (needs T) k) ∷ []

abbrev pub ports_piece : Table → List CodeWord
ports_piece T = Ports (main_of T).inputs (main_of T).outputs ∷ first_values (main_of T) (main_of T).inputs

unfoldable pub front_piece : ℕ → Table → Pieces
front_piece own T j = and_then 1 (only (Head (length T) own ∷ [])) (and_then (length T) (index_piece T) (only (ports_piece T))) j
