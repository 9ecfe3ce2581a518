-- The blocks of a node in numbered pieces.
use Rattle.std.specs.Prelude.{ℕ, zero, suc, ◌+◌, ◌-◌, cond, List, [], ◌∷◌, ◌++◌, nat_lt, slice_index}
use Rattle.instructions.specs.declared.code_word.CodeWord.{CodeWord}
use Rattle.instructions.specs.declared.code_word.CodeWord.TheVariants.{End}
use Rattle.table.specs.Syntax.{Node, Table, node_at, equation_at, equation_count}
use Rattle.schedule.specs.Need.{needs}
use Rattle.admission.specs.Verdict.{node_order}
use Rattle.code.specs.Statements.{offset, statements, delay_reset, call_reset}
use Rattle.code.specs.Code.{statements_words, ordered, reset_block, step_block}
use Rattle.blocks.specs.declared.block.Block.{Block}
use Rattle.blocks.specs.declared.block.Block.TheVariants.{Resets, Steps}

abbrev pub Pieces : Type 0
Pieces = ℕ → List CodeWord

-- the first n pieces, one behind another
unfoldable pub up_to : Pieces → ℕ → List CodeWord
up_to f zero = []
up_to f (suc n) = up_to f n ++ f n

-- n pieces of f, and then those of g
abbrev pub and_then : ℕ → Pieces → Pieces → Pieces
and_then n f g j = cond (nat_lt j n) (f j) (g (j - n))

abbrev pub only : List CodeWord → Pieces
only xs j = xs

module _ (T : Table) (k : ℕ) where
  abbrev pub delay_piece : Pieces
  delay_piece e = statements_words (delay_reset (equation_at (node_at T k) e))

  abbrev pub call_piece : Pieces
  call_piece e = statements_words (call_reset (offset (needs T) (node_at T k) e) (equation_at (node_at T k) e))

  -- the equation at a place of the order
  abbrev pub placed : ℕ → ℕ
  placed i = slice_index (ordered (node_order T k)) i

  abbrev pub step_piece : Pieces
  step_piece i = statements_words (statements (node_at T k) (offset (needs T) (node_at T k) (placed i)) (equation_at (node_at T k) (placed i)))

  -- a block of a node of n equations: the delays are reset and then the calls, or the equations have their turns; END closes it
  unfoldable pub block_piece : Block → Pieces
  block_piece Resets j = and_then (equation_count (node_at T k)) delay_piece (and_then (equation_count (node_at T k)) call_piece (only (End ∷ []))) j
  block_piece Steps j = and_then (equation_count (node_at T k)) step_piece (only (End ∷ [])) j

  unfoldable pub block_words : Block → List CodeWord
  block_words Resets = reset_block T k
  block_words Steps = step_block T k

abbrev pub piece_count : Node → Block → ℕ
piece_count N Resets = equation_count N + (equation_count N + 1)
piece_count N Steps = equation_count N + 1
