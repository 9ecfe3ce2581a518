-- Where the blocks of a table's code begin, and how long the code is.
use Rattle.std.specs.Prelude.{◌≡◌, ℕ, ◌+◌, ◌<◌, length, slice_index}
use Rattle.table.specs.Syntax.{Table}
use Rattle.code.specs.Code.{blocks, front_length, reset_at, step_at}
use Rattle.blocks.specs.declared.lengths.Places.{Places}

pub record PlacesOf (T : Table) (p : Places) : Type 0 where
  pub resets : (k : ℕ) → k < length T → slice_index p.resets k ≡ reset_at T k
  pub steps : (k : ℕ) → k < length T → slice_index p.steps k ≡ step_at T k
  pub whole : p.length ≡ front_length T + length (blocks T (length T))
