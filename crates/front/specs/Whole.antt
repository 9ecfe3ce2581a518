-- The whole code of the table that words spell, and whether it is short enough.
use Rattle.std.specs.Prelude.{◌≡◌, ℕ, Bool, true, false, ◌&&◌, List, length, Some, None, Option, nat_le, slice_index}
use Rattle.words.specs.Bits.{field}
use Rattle.table.specs.Decoding.{table_of}
use Rattle.code.specs.Code.{code_words}
use Rattle.blocks.specs.declared.lengths.Places.{Places}
use Rattle.blocks.specs.Places.{PlacesOf}

-- for the operator set that the table's HEAD names
unfoldable pub table_code : List ℕ → List ℕ
table_code ws = code_words (field (slice_index ws 0) 0 8) (table_of ws)

-- code has at most 16,384 words, and no more than its buffer
unfoldable pub fits_in : List ℕ → ℕ → Bool
fits_in code room = nat_le (length code) 16384 && nat_le (length code) room

pub record Placed (ws : List ℕ) (room : ℕ) (p : Places) : Type 0 where
  pub fits : fits_in (table_code ws) room ≡ true
  pub places : PlacesOf (table_of ws) p
  pub whole : p.length ≡ length (table_code ws)

-- the places in the code, if it is short enough
abbrev pub PlacedIf : List ℕ → ℕ → Option Places → Type 0
PlacedIf ws room (Some p) = Placed ws room p
PlacedIf ws room None = fits_in (table_code ws) room ≡ false
