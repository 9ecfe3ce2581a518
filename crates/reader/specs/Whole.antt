-- A whole table, word by word.
use Rattle.std.specs.Prelude.{ℕ, ◌+◌, cond, ◌||◌, List, [], ◌∷◌, length, Ok, Err, Result, ◌==◌, nat_lt}
use Rattle.reader.specs.declared.faults.ReadFault.{ReadFault}
use Rattle.reader.specs.declared.faults.ReadFault.TheVariants.{Length, Kind}
use Rattle.reader.specs.declared.outline.Outline.{Outline}
use Rattle.reader.specs.declared.scan.Scan.{Scan}
use Rattle.reader.specs.Scanning.{Fed, feed_of, may_end, site_of, start}

abbrev pub Read : Type 0
Read = Result Outline ReadFault

abbrev pub and_go : (Scan → Read) → Fed → Read
and_go go (Ok s) = go s
and_go go (Err f) = Err f

-- the words from place `at` on, where s is read so far; a table that ends early is at fault at its length
abbrev pub scanned : ℕ → ℕ → Scan → List ℕ → Read
scanned own at s [] = cond (may_end s) (Ok s.outline) (Err (Kind (site_of s at)))
scanned own at s (w ∷ ws) = and_go (λ t. scanned own (at + 1) t ws) (feed_of own s at w)

-- the table of 1 to 16,384 words, read for the operator set of number `own`
abbrev pub scan_of : ℕ → List ℕ → Read
scan_of own ws = cond (length ws == 0 || nat_lt 16384 (length ws)) (Err Length) (scanned own 0 start ws)
