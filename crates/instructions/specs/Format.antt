-- The words of code, and what a word of code is read as.
use Rattle.std.specs.Prelude.{ℕ, ◌+◌, ◌*◌, ◌^◌, ◌<◌, cond, ◌≡◌, eqb}
use Rattle.words.specs.declared.kinds.Operand.TheVariants.{Take, Literal as Constant}
use Rattle.words.specs.Bits.{field, kind_of, is_set}
use Rattle.words.specs.Format.{of_kind, operand_word, literal_in, OperandFits}
use Rattle.instructions.specs.declared.code_word.CodeWord.{CodeWord}
use Rattle.instructions.specs.declared.code_word.CodeWord.TheVariants.{Head, ResetAt, StepAt, Operate, Unless, Skip, Need, Reset, Step, Operand as With, Give, End, Ports}

-- the word that spells each thing
abbrev pub code_word : CodeWord → ℕ
code_word (Head nodes set) = of_kind 0 (nodes * 2 ^ 8 + set)
code_word (ResetAt p) = of_kind 1 p
code_word (StepAt p) = of_kind 2 p
code_word (Operate op x) = of_kind 3 (op * 2 ^ 20 + x)
code_word (Unless sense x distance) = of_kind 4 (cond sense 1 0 * 2 ^ 27 + x * 2 ^ 14 + distance)
code_word (Skip distance) = of_kind 5 distance
code_word (Need cells) = of_kind 6 cells
code_word (Reset node offset) = of_kind 7 (node * 2 ^ 20 + offset)
code_word (Step node offset) = of_kind 8 (node * 2 ^ 20 + offset)
code_word (With a) = operand_word a
code_word (Give x) = of_kind 11 x
code_word End = of_kind 12 0
code_word (Ports inputs outputs) = of_kind 15 (inputs * 2 ^ 16 + outputs * 2 ^ 8)

-- what a word of kind k says; kinds that code does not have end a block as END does
abbrev pub says_as : ℕ → ℕ → CodeWord
says_as k w =
    cond (eqb k 3) (Operate (field w 20 8) (field w 0 6))
    (cond (eqb k 4) (Unless (is_set w 27) (field w 14 6) (field w 0 14))
    (cond (eqb k 5) (Skip (field w 0 14))
    (cond (eqb k 7) (Reset (field w 20 8) (field w 0 13))
    (cond (eqb k 8) (Step (field w 20 8) (field w 0 13))
    (cond (eqb k 9) (With (Take (field w 0 6)))
    (cond (eqb k 10) (With (Constant (literal_in w)))
    (cond (eqb k 11) (Give (field w 0 6))
    (cond (eqb k 0) (Head (field w 8 8) (field w 0 8))
    (cond (eqb k 1) (ResetAt (field w 0 14))
    (cond (eqb k 2) (StepAt (field w 0 14))
    (cond (eqb k 6) (Need (field w 0 13))
    (cond (eqb k 15) (Ports (field w 16 8) (field w 8 8))
    End))))))))))))

abbrev pub says : ℕ → CodeWord
says w = says_as (kind_of w) w

-- each number fits its field
abbrev pub CodeWordFits : CodeWord → Type 0
CodeWordFits (Head nodes set) = (nodes < 2 ^ 8) × (set < 2 ^ 8)
CodeWordFits (ResetAt p) = p < 2 ^ 14
CodeWordFits (StepAt p) = p < 2 ^ 14
CodeWordFits (Operate op x) = (op < 2 ^ 8) × (x < 2 ^ 6)
CodeWordFits (Unless sense x distance) = (x < 2 ^ 6) × (distance < 2 ^ 14)
CodeWordFits (Skip distance) = distance < 2 ^ 14
CodeWordFits (Need cells) = cells < 2 ^ 13
CodeWordFits (Reset node offset) = (node < 2 ^ 8) × (offset < 2 ^ 13)
CodeWordFits (Step node offset) = (node < 2 ^ 8) × (offset < 2 ^ 13)
CodeWordFits (With a) = OperandFits a
CodeWordFits (Give x) = x < 2 ^ 6
CodeWordFits End = Unit {0}
CodeWordFits (Ports inputs outputs) = (inputs < 2 ^ 8) × (outputs < 2 ^ 8)

-- what fits its fields is read back from its word, which has 32 bits
pub record CodeWordsStand : Type 0 where
  pub reads : (x : CodeWord) → CodeWordFits x → says (code_word x) ≡ x
  pub small : (x : CodeWord) → CodeWordFits x → code_word x < 2 ^ 32
