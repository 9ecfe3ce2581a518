-- What words say by their kinds.
use Rattle.std.proofs.Common.{◌≡◌, ℕ, ◌≤◌, true, cond, eqb, refl, ap, arith}
use Rattle.std.proofs.lemmas.Bool.{cond_both, eqb-true, ltb-true, lt-ltb}
use Rattle.words.specs.Bits.{field, kind_of, is_set}
use Rattle.words.specs.Format.{literal_in}
use Rattle.words.specs.declared.kinds.Operand.{Operand}
use Rattle.words.specs.declared.kinds.Operand.TheVariants.{Take, Literal as Constant}
use Rattle.instructions.specs.declared.code_word.CodeWord.{CodeWord}
use Rattle.instructions.specs.declared.code_word.CodeWord.TheVariants.{Head, ResetAt, StepAt, Operate, Unless, Skip, Need, Reset, Step, Operand as With, Give, End, Ports}
use Rattle.instructions.specs.Format.{says, says_as}
use Rattle.execution.specs.Sound.{operand_fine, word_fine}

pub by_kind : (w k : ℕ) → kind_of w ≡ k → says w ≡ says_as k w
by_kind w k e = ap (λ k. says_as k w) e

-- what holds of each thing that a word of kind k may say, holds of what it says
pub says_cases : (P : CodeWord → Type 0) (w k : ℕ)
    → (k ≡ 3 → P (Operate (field w 20 8) (field w 0 6)))
    → (k ≡ 4 → P (Unless (is_set w 27) (field w 14 6) (field w 0 14)))
    → (k ≡ 5 → P (Skip (field w 0 14)))
    → (k ≡ 7 → P (Reset (field w 20 8) (field w 0 13)))
    → (k ≡ 8 → P (Step (field w 20 8) (field w 0 13)))
    → (k ≡ 9 → P (With (Take (field w 0 6))))
    → (k ≡ 10 → P (With (Constant (literal_in w))))
    → (k ≡ 11 → P (Give (field w 0 6)))
    → P (Head (field w 8 8) (field w 0 8)) → P (ResetAt (field w 0 14)) → P (StepAt (field w 0 14)) → P (Need (field w 0 13)) → P (Ports (field w 16 8) (field w 8 8)) → P End
    → P (says_as k w)
says_cases P w k operate unless skip reset step takes literal give head reset_at step_at need ports end =
    when 3 operate (when 4 unless (when 5 skip (when 7 reset (when 8 step (when 9 takes (when 10 literal (when 11 give
    (when 0 (λ e. head) (when 1 (λ e. reset_at) (when 2 (λ e. step_at) (when 6 (λ e. need) (when 15 (λ e. ports) end))))))))))))
  where
    when : {x y : CodeWord} (j : ℕ) → (k ≡ j → P x) → P y → P (cond (eqb k j) x y)
    when j p q = cond_both (eqb k j) _ _ P (λ e. p (eqb-true k j e)) (λ e. q)

-- more cells are enough too
pub operand_wider : (n size : ℕ) (a : Operand) → n ≤ size → operand_fine n a ≡ true → operand_fine size a ≡ true
operand_wider n size (Take x) l h = lt-ltb x size (omega (arith, ltb-true x n h))
operand_wider n size (Constant v) l h = refl

pub word_wider : (n size : ℕ) (w : CodeWord) → n ≤ size → word_fine n w ≡ true → word_fine size w ≡ true
word_wider n size (Head nodes set) l h = h
word_wider n size (ResetAt p) l h = h
word_wider n size (StepAt p) l h = h
word_wider n size (Operate op x) l h = h
word_wider n size (Unless sense x d) l h = h
word_wider n size (Skip d) l h = h
word_wider n size (Need c) l h = h
word_wider n size (Reset g off) l h = h
word_wider n size (Step g off) l h = h
word_wider n size (With a) l h = operand_wider n size a l h
word_wider n size (Give x) l h = h
word_wider n size End l h = h
word_wider n size (Ports i o) l h = h
