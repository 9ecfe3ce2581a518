-- Which of up to 64 equations come before which, as marks.
use Rattle.std.specs.Prelude.{ℕ, ◌+◌, ◌*◌, Bool, false, List, slice_index_or}

-- mark 64 * i + j: equation i comes before equation j
abbrev pub comes_before : List Bool → ℕ → ℕ → Bool
comes_before marks i j = slice_index_or marks (64 * i + j) false
