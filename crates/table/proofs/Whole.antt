-- The reader accepts the words of tables within the limits, and no others.
use Rattle.std.proofs.Common.{◌≡◌, ℕ, zero, suc, ◌^◌, ◌<◌, ◌≤◌, List, [], ◌∷◌, length, get_or, is_ok, Ok, Err, sym, refl, ap, ◌∙◌, subst, arith}
use Rattle.std.specs.List.{AllByRecursion}
use Rattle.reader.specs.Whole.{Read, scan_of}
use Rattle.table.specs.Syntax.{Table}
use Rattle.reader.specs.declared.outline.Outline.{Outline}
use Rattle.table.specs.Spelling.{spelled, KeepsLimits, Outlines}
use Rattle.table.specs.Decoding.{table_of}
use Rattle.table.specs.Reading.{Spells, Reads}
use Rattle.table.proofs.Accepted.{accepted}
use Rattle.table.proofs.Sound.{SpellsSome, sound}
use Rattle.table.proofs.Decoded.{decoded_back}

all_small : (ws : List ℕ) → ((i : ℕ) → get_or ws i 0 < 2 ^ 32) → AllByRecursion (λ w. w < 2 ^ 32) ws
all_small [] f = tt
all_small (w ∷ ws) f = (f zero, all_small ws (λ i. f (suc i)))

-- the table that is read back is the one that is spelled
the_table : (own : ℕ) (ws : List ℕ) (o : Outline) → own < 256 → SpellsSome own ws o → Spells own ws o
the_table own ws o n s =
    let same : s.table ≡ table_of ws = sym (ap table_of s.words ∙ decoded_back own s.table n s.keeps) in
    let F : Table → Type 0 = KeepsLimits in
    let G : Table → Type 0 = λ T. Outlines T o in
    record {
      words = s.words ∙ ap (spelled own) same;
      short = s.short;
      keeps = subst F same s.keeps;
      outlines = subst G same s.outlines;
    }

reads_by : (own : ℕ) (ws : List ℕ) (r : Read) → own < 256 → AllByRecursion (λ w. w < 2 ^ 32) ws → scan_of own ws ≡ r → Reads own ws r
reads_by own ws (Ok o) n a e = the_table own ws o n (sound own ws o a e)
reads_by own ws (Err f) n a e = λ T k h s.
    let short : length (spelled own T) ≤ 16384 = omega (arith, ap length s, h) in
    let good = accepted own T n k short in
    let same : scan_of own (spelled own T) ≡ Err f = ap (scan_of own) (sym s) ∙ e in
    let no : ◌≡◌ {A = ℕ} 0 1 = cc (ap is_ok same) in
    omega arith

pub reads_stand : (own : ℕ) (ws : List ℕ) → own < 256 → ((i : ℕ) → get_or ws i 0 < 2 ^ 32) → Reads own ws (scan_of own ws)
reads_stand own ws n f = reads_by own ws (scan_of own ws) n (all_small ws f) refl
