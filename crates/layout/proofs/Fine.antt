-- A block's words can be run with no test of a word or a cell.
use Rattle.std.proofs.Common.{◌≡◌, ℕ, zero, suc, ◌+◌, ◌<◌, ◌≤◌, Bool, true, ◌&&◌, ltb, leb, List, [], ◌∷◌, ◌++◌, length, Some, None, Option, refl, ap, ◌∙◌, arith}
use Rattle.std.specs.List.{AllByRecursion}
use Rattle.std.proofs.lemmas.Bool.{lt-ltb, le-ltb, le-leb, and_from, cond-true, cond-false}
use Rattle.words.specs.declared.kinds.Operand.{Operand}
use Rattle.words.specs.declared.kinds.Operand.TheVariants.{Take, Literal as Constant}
use Rattle.instructions.specs.declared.code_word.CodeWord.{CodeWord}
use Rattle.instructions.specs.declared.code_word.CodeWord.TheVariants.{Operate, Skip, Operand as With}
use Rattle.table.specs.Spelling.{OperandKeeps, SecondKeeps}
use Rattle.code.specs.Statements.{Test, Action, assign, select, reset, step, Statement}
use Rattle.code.specs.Code.{action_words, tests_words, block_words}
use Rattle.execution.specs.Words.{gives_behind, need_at}
use Rattle.execution.specs.Sound.{operand_fine, operands_fine, gives_fine, call_fine, fine}
use Rattle.layout.proofs.Kept.{TestKeeps, CallKeeps, ActionKeeps, StatementKeeps}
use Rattle.layout.proofs.Behind.{Apart, behind_step, operands_behind, gives_behind_lem, behind_length}
use Rattle.layout.proofs.Blocks.{guarded_length, block_more, block_apart}

operand_fine_lem : (size v : ℕ) (a : Operand) → v ≤ size → OperandKeeps v a → operand_fine size a ≡ true
operand_fine_lem size v (Take x) l h = lt-ltb x size (omega arith)
operand_fine_lem size v (Constant c) l h = refl

operands_fine_lem : (size v : ℕ) (ops : List Operand) → v ≤ size → AllByRecursion (OperandKeeps v) ops → operands_fine size ops ≡ true
operands_fine_lem size v [] l h = refl
operands_fine_lem size v (a ∷ ops) l h = and_from _ _ (operand_fine_lem size v a l h.0) (operands_fine_lem size v ops l h.1)

gives_fine_lem : (size v : ℕ) (gs : List ℕ) → v ≤ size → AllByRecursion (λ x. x < v) gs → gives_fine size gs ≡ true
gives_fine_lem size v [] l h = refl
gives_fine_lem size v (x ∷ gs) l h = and_from _ _ (lt-ltb x size (omega (arith, h.0))) (gives_fine_lem size v gs l h.1)

-- what the words say that nodes need is what they need
module _ (ws : List ℕ) (need : ℕ → ℕ) (k v : ℕ) (agrees : (g : ℕ) → g ≤ k → need_at ws g ≡ need g) (room : v ≤ need k) where
  within : v ≤ need_at ws k
  within = omega (arith, agrees k (omega arith))

  below : (x : ℕ) → x < v → ltb x (need_at ws k) ≡ true
  below x h = lt-ltb x (need_at ws k) (omega (arith, within))

  fine_passed : (xs more : List CodeWord) (n : ℕ) → length xs ≡ n → fine ws k n (xs ++ more) ≡ fine ws k 0 more
  fine_passed [] more n e = rw (← e)
  fine_passed (x ∷ xs) more zero e = absurd (omega arith)
  fine_passed (x ∷ xs) more (suc n) e = fine_passed xs more n (omega arith)

  call_fine_lem : (g off : ℕ) → CallKeeps need k g off → call_fine ws k g off ≡ true
  call_fine_lem g off h =
      and_from _ _ (lt-ltb g k h.0)
      (le-leb (off + need_at ws g) (need_at ws k) (omega (arith, h.0, h.1, agrees g (omega (arith, h.0)), agrees k (omega arith))))

  fine_assign : (op : ℕ) (a : Operand) (b : Option Operand) (x : ℕ) → OperandKeeps v a → SecondKeeps v op b → x < v → (more : List CodeWord)
      → fine ws k 0 more ≡ true → fine ws k 0 (action_words (assign op a b x) ++ more) ≡ true
  fine_assign op a None x p q r more f =
      and_from _ _ (below x r) (and_from _ _ (operand_fine_lem (need_at ws k) v a within p) (cond-true _ _ _ (lt-ltb op 128 q) ∙ f))
  fine_assign op a (Some b) x p q r more f =
      and_from _ _ (below x r) (and_from _ _ (operand_fine_lem (need_at ws k) v a within p)
      (cond-false _ _ _ (le-ltb op 128 q.0) ∙ and_from _ _ (operand_fine_lem (need_at ws k) v b within q.2) f))

  fine_step : (g off : ℕ) (ops : List Operand) (gs : List ℕ) → ActionKeeps need k v (step g off ops gs) → (more : List CodeWord) → Apart more
      → fine ws k 0 more ≡ true → fine ws k 0 (action_words (step g off ops gs) ++ more) ≡ true
  fine_step g off ops gs h more p f =
      let words : List CodeWord = behind_step ops gs ++ more in
      let test : List Operand → List ℕ → Bool =
      λ os xs. call_fine ws k g off && (operands_fine (need_at ws k) os && (gives_fine (need_at ws k) xs &&
      (leb (length os + length xs) (need_at ws g) && fine ws k (length os + length xs) words))) in
      ap (λ os. test os (gives_behind words)) (operands_behind ops gs more p) ∙ ap (test ops) (gives_behind_lem ops gs more p)
      ∙ and_from _ _ (call_fine_lem g off h.0) (and_from _ _ (operands_fine_lem (need_at ws k) v ops within h.1) (and_from _ _ (gives_fine_lem (need_at ws k) v gs within h.2)
      (and_from _ _ (le-leb (length ops + length gs) (need_at ws g) (omega (arith, h.3, agrees g (omega (arith, h.0.0)))))
      (fine_passed (behind_step ops gs) more (length ops + length gs) (behind_length ops gs) ∙ f))))

  fine_action : (a : Action) → ActionKeeps need k v a → (more : List CodeWord) → Apart more → fine ws k 0 more ≡ true → fine ws k 0 (action_words a ++ more) ≡ true
  fine_action (assign op a b x) h more p f = fine_assign op a b x h.0 h.1 h.2 more f
  fine_action (select s a b x) h more p f =
      and_from _ _ (below s h.0) (and_from _ _
      (fine_assign 0 a None x h.1 (omega arith) h.3 (Skip 2 ∷ Operate 0 x ∷ With b ∷ more) f)
      (fine_assign 0 b None x h.2 (omega arith) h.3 more f))
  fine_action (reset g off) h more p f = and_from _ _ (call_fine_lem g off h) f
  fine_action (step g off ops gs) h more p f = fine_step g off ops gs h more p f

  -- a test that fails passes over what it guards
  fine_tests : (ts : List Test) → AllByRecursion (TestKeeps v) ts → (xs more : List CodeWord) → fine ws k 0 (xs ++ more) ≡ true → fine ws k 0 more ≡ true
      → fine ws k 0 ((tests_words ts (length xs) ++ xs) ++ more) ≡ true
  fine_tests [] h xs more f f' = f
  fine_tests (t ∷ ts) h xs more f f' =
      and_from _ _ (below t.variable h.0) (and_from _ _ (fine_tests ts h.1 xs more f f')
      (fine_passed (tests_words ts (length xs) ++ xs) more (length ts + length xs) (guarded_length ts xs) ∙ f'))

  pub fine_block : (ss : List Statement) → AllByRecursion (StatementKeeps need k v) ss → (more : List CodeWord) → fine ws k 0 (block_words ss ++ more) ≡ true
  fine_block [] h more = refl
  fine_block (s ∷ ss) h more =
      let rest : List CodeWord = block_words ss ++ more in
      let f = fine_block ss h.1 more in
      ap (fine ws k 0) (block_more s ss more)
      ∙ fine_tests s.tests h.0.tests (action_words s.action) rest (fine_action s.action h.0.action rest (block_apart ss more) f) f
