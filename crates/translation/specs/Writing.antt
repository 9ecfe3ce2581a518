-- Words written into a buffer.
use Rattle.std.specs.Prelude.{◌≡◌, ℕ, ◌+◌, List, ◌++◌, map, length, take, drop}
use Rattle.instructions.specs.declared.code_word.CodeWord.{CodeWord}
use Rattle.instructions.specs.Format.{code_word}

-- xs stand from a place on, and what else there was stays
unfoldable pub written : ℕ → List ℕ → List ℕ → List ℕ
written at xs buffer = take at buffer ++ (xs ++ drop (at + length xs) buffer)

-- from a place on the words of xs were written into a buffer, and the next place is known
pub record Wrote (at : ℕ) (xs : List CodeWord) (buffer : List ℕ) (next : ℕ) (after : List ℕ) : Type 0 where
  pub place : next ≡ at + length xs
  pub stands : after ≡ written at (map code_word xs) buffer
