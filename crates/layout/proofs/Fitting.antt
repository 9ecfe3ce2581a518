-- Each number in a block's words fits its field.
use Rattle.std.proofs.Common.{ℕ, ◌+◌, ◌<◌, ◌≤◌, List, [], ◌∷◌, map, length, Some, None, Option, arith}
use Rattle.std.specs.List.{AllByRecursion}
use Rattle.std.proofs.lemmas.List.{length-append}
use Rattle.std.proofs.ByRecursion.{All-append, All-map, All-weaker}
use Rattle.words.specs.declared.kinds.Operand.{Operand}
use Rattle.words.specs.declared.kinds.Operand.TheVariants.{Take, Literal as Constant}
use Rattle.words.specs.Format.{OperandFits}
use Rattle.instructions.specs.declared.code_word.CodeWord.{CodeWord}
use Rattle.instructions.specs.declared.code_word.CodeWord.TheVariants.{Operate, Operand as With, Give, End}
use Rattle.instructions.specs.Format.{CodeWordFits}
use Rattle.table.specs.Spelling.{OperandKeeps, SecondKeeps}
use Rattle.code.specs.Statements.{Test, Action, assign, select, reset, step, Statement}
use Rattle.code.specs.Code.{second, action_words, tests_words, statement_words, statements_words, block_words}
use Rattle.layout.proofs.Kept.{TestKeeps, ActionKeeps, StatementKeeps, BlockKeeps}
use Rattle.layout.proofs.Blocks.{guarded_length, block_length}

operand_fits : (v : ℕ) (a : Operand) → v ≤ 64 → OperandKeeps v a → OperandFits a
operand_fits v (Take x) l h = omega arith
operand_fits v (Constant c) l h = (h.ty, h.payload)

second_fits : (v op : ℕ) (b : Option Operand) → v ≤ 64 → SecondKeeps v op b → (op < 256) × AllByRecursion CodeWordFits (second b)
second_fits v op None l h = (omega arith, tt)
second_fits v op (Some b) l h = (h.1, (operand_fits v b l h.2, tt))

module _ (need : ℕ → ℕ) (k v : ℕ) (few : v ≤ 64) (node : k < 32) (cells : need k ≤ 4096) where
  action_fits : (a : Action) → ActionKeeps need k v a → AllByRecursion CodeWordFits (action_words a)
  action_fits (assign op a b x) h =
      let s = second_fits v op b few h.1 in
      ((s.0, omega (arith, h.2)), (operand_fits v a few h.0, s.1))
  action_fits (select s a b x) h =
      let copy : CodeWordFits (Operate 0 x) = (omega arith, omega (arith, h.3)) in
      let here = operand_fits v a few h.1 in
      let there = operand_fits v b few h.2 in
      ((omega (arith, h.0), omega arith), (copy, (here, (omega arith, (copy, (there, tt))))))
  action_fits (reset g off) h = ((omega (arith, h.0), omega (arith, h.1)), tt)
  action_fits (step g off ops gs) h = (
    (omega (arith, h.0.0), omega (arith, h.0.1)),
    All-append CodeWordFits (map With ops) (map Give gs)
        (All-map CodeWordFits With ops (All-weaker (OperandKeeps v) (λ a. CodeWordFits (With a)) (λ a. operand_fits v a few) ops h.1))
        (All-map CodeWordFits Give gs (All-weaker (λ x. x < v) (λ x. CodeWordFits (Give x)) (λ x l. omega arith) gs h.2)),
  )

  -- a distance is less than what the statement takes
  tests_fit : (ts : List Test) (n : ℕ) → AllByRecursion (TestKeeps v) ts → length ts + n ≤ 16384 → AllByRecursion CodeWordFits (tests_words ts n)
  tests_fit [] n h l = tt
  tests_fit (t ∷ ts) n h l = ((omega (arith, h.0), omega arith), tests_fit ts n h.1 (omega arith))

  statement_fits : (s : Statement) → StatementKeeps need k v s → length (statement_words s) ≤ 16384 → AllByRecursion CodeWordFits (statement_words s)
  statement_fits s h l =
      let ws : List CodeWord = action_words s.action in
      All-append CodeWordFits (tests_words s.tests (length ws)) ws
      (tests_fit s.tests (length ws) h.tests
      (omega (arith, guarded_length s.tests ws)))
      (action_fits s.action h.action)

  statements_fit : (ss : List Statement) → AllByRecursion (StatementKeeps need k v) ss → length (statements_words ss) ≤ 16384 → AllByRecursion CodeWordFits (statements_words ss)
  statements_fit [] h l = tt
  statements_fit (s ∷ ss) h l =
      let e = length-append (statement_words s) (statements_words ss) in
      All-append CodeWordFits (statement_words s) (statements_words ss)
      (statement_fits s h.0 (omega arith)) (statements_fit ss h.1 (omega arith))

pub block_fits : (need : ℕ → ℕ) (k v : ℕ) (ss : List Statement) → BlockKeeps need k v ss → length (block_words ss) ≤ 16384 → AllByRecursion CodeWordFits (block_words ss)
block_fits need k v ss b l =
    All-append CodeWordFits (statements_words ss) (End ∷ [])
    (statements_fit need k v b.few b.node b.cells ss b.each (omega (arith, block_length ss))) (tt, tt)
