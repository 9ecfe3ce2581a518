-- What a piece of code holds.
use Rattle.std.specs.Prelude.{◌≡◌, ℕ, ◌+◌, List, ◌++◌, map, length, take}
use Rattle.instructions.specs.declared.code_word.CodeWord.{CodeWord}
use Rattle.instructions.specs.Format.{code_word}
use Rattle.pieces.specs.declared.piece.Piece.{Piece}

abbrev pub contents : Piece → List ℕ
contents p = take p.len p.words

pub record Holds (p : Piece) (xs : List CodeWord) : Type 0 where
  pub count : p.len ≡ length xs
  pub spelled : contents p ≡ map code_word xs

-- q has what p has, and the words of xs behind it
pub record Adds (p q : Piece) (xs : List CodeWord) : Type 0 where
  pub count : q.len ≡ p.len + length xs
  pub spelled : contents q ≡ contents p ++ map code_word xs
