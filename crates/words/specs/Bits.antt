-- The fields of a word.
use Rattle.std.specs.Prelude.{ℕ, ◌/◌, ◌%◌, ◌^◌, Bool, ◌==◌}

-- m bits of w, from bit k up
abbrev pub field : ℕ → ℕ → ℕ → ℕ
field w k m = w / 2 ^ k % 2 ^ m

-- bits 31 to 28
abbrev pub kind_of : ℕ → ℕ
kind_of w = w / 2 ^ 28

abbrev pub is_kind : ℕ → ℕ → Bool
is_kind k w = kind_of w == k

abbrev pub is_set : ℕ → ℕ → Bool
is_set w k = field w k 1 == 1
