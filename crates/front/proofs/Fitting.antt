-- The whole code, its length, and the test of that.
use Rattle.std.proofs.Common.{◌≡◌, ℕ, ◌+◌, ◌<◌, ◌≤◌, true, false, leb, List, ◌++◌, map, length, get_or, arith, le-leb, leb-true}
use borrow.Author.Tests.{lt-leb}
use Rattle.std.proofs.lemmas.List.{length-append, length-map, map-append}
use Rattle.std.proofs.lemmas.Bool.{and_parts}
use Rattle.words.specs.Bits.{field}
use Rattle.instructions.specs.Format.{code_word}
use Rattle.table.specs.Decoding.{table_of}
use Rattle.code.specs.Code.{blocks, code_of, front, front_length}
use Rattle.front.specs.Whole.{fits_in, table_code}
use Rattle.front.proofs.Fronts.{front_length_lem}

pub code_parts : (ws : List ℕ)
    → table_code ws ≡ map code_word (front (field (get_or ws 0 0) 0 8) (table_of ws)) ++ map code_word (blocks (table_of ws) (length (table_of ws)))
unfolding table_code
code_parts ws = map-append code_word (front (field (get_or ws 0 0) 0 8) (table_of ws)) (blocks (table_of ws) (length (table_of ws)))

pub code_length : (ws : List ℕ) → length (table_code ws) ≡ front_length (table_of ws) + length (blocks (table_of ws) (length (table_of ws)))
unfolding table_code
code_length ws =
    let T = table_of ws in
    let own = field (get_or ws 0 0) 0 8 in
    let l = length-map (code_of own T) code_word in
    let m = length-append (front own T) (blocks T (length T)) in
    omega (arith, l, m, front_length_lem own T)

module _ (code : List ℕ) (room : ℕ) where
  pub fits_from : length code ≤ 16384 → length code ≤ room → fits_in code room ≡ true
  unfolding fits_in
  fits_from h l = let a = le-leb (length code) 16384 h in let b = le-leb (length code) room l in rw (a, b)

  pub not_most : 16384 < length code → fits_in code room ≡ false
  unfolding fits_in
  not_most h = let a = lt-leb (length code) 16384 h in rw a

  pub not_room : length code ≤ 16384 → room < length code → fits_in code room ≡ false
  unfolding fits_in
  not_room h l = let a = le-leb (length code) 16384 h in let b = lt-leb (length code) room l in rw (a, b)

  pub fits_bounds : fits_in code room ≡ true → (length code ≤ 16384) × (length code ≤ room)
  unfolding fits_in
  fits_bounds e =
      let p = and_parts (leb (length code) 16384) (leb (length code) room) e in
      (leb-true (length code) 16384 p.0, leb-true (length code) room p.1)
