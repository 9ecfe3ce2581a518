-- What reading a table comes to.
use Rattle.std.specs.Prelude.{◌≡◌, ℕ, ◌≤◌, List, length, Result, MatchResult, ◌≢◌}
use Rattle.reader.specs.declared.outline.Outline.{Outline}
use Rattle.reader.specs.declared.faults.ReadFault.{ReadFault}
use Rattle.table.specs.Syntax.{Table}
use Rattle.table.specs.Spelling.{spelled, KeepsLimits, Outlines}
use Rattle.table.specs.Decoding.{table_of}

-- the words spell a table within the limits, and the outline has it
pub record Spells (own : ℕ) (ws : List ℕ) (o : Outline) : Type 0 where
  pub words : ws ≡ spelled own (table_of ws)
  pub short : length ws ≤ 16384
  pub keeps : KeepsLimits (table_of ws)
  pub outlines : Outlines (table_of ws) o

-- the words spell no table within the limits
abbrev pub SpellsNone : ℕ → List ℕ → Type 0
SpellsNone own ws = (T : Table) → KeepsLimits T → length ws ≤ 16384 → ws ≢ spelled own T

abbrev pub Reads : ℕ → List ℕ → Result Outline ReadFault → Type 0
Reads own ws r = MatchResult r (Spells own ws) (λ f. SpellsNone own ws)
