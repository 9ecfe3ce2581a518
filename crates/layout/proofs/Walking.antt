-- A run of a block's words does what the block's statements do.
use Rattle.std.proofs.Common.{◌≡◌, ℕ, zero, suc, ◌+◌, Bool, true, false, cond, ◌&&◌, List, [], ◌∷◌, ◌++◌, length, Some, None, Option, refl, ap, ◌∙◌, arith}
use Rattle.std.specs.Option.{option_map}
use Rattle.std.specs.List.{AllByRecursion, slice_get}
use Rattle.std.proofs.lemmas.Bool.{lt-ltb, le-ltb}
use Rattle.words.specs.declared.kinds.Operand.{Operand}
use Rattle.opset.specs.Meaning.{Meaning}
use Rattle.instructions.specs.declared.code_word.CodeWord.{CodeWord}
use Rattle.instructions.specs.declared.code_word.CodeWord.TheVariants.{Operate, Skip, Operand as With}
use Rattle.table.specs.Spelling.{SecondKeeps}
use Rattle.streams.specs.Streams.{sensed, value_of, applied}
use Rattle.code.specs.Statements.{Test, Action, assign, select, reset, step, Statement}
use Rattle.code.specs.Code.{action_words, tests_words, block_words}
use Rattle.execution.specs.Cells.{stored, Blocks, stepped}
use Rattle.execution.specs.Statements.{performed, passes, executed, all_executed}
use Rattle.execution.specs.Words.{gives_behind, value_in, word_at, walk}
use Rattle.layout.proofs.Kept.{ActionKeeps, StatementKeeps}
use Rattle.layout.proofs.Behind.{Apart, behind_step, operands_behind, gives_behind_lem, behind_length}
use Rattle.layout.proofs.Blocks.{guarded_length, block_more, block_apart}

module _ {V : Type 0} (m : Meaning V) (B : Blocks V) where
  passed : (xs more : List CodeWord) (n : ℕ) (cells : List V) → length xs ≡ n → walk m B n (xs ++ more) cells ≡ walk m B 0 more cells
  passed [] more n cells e = rw (← e)
  passed (x ∷ xs) more zero cells e = absurd (omega arith)
  passed (x ∷ xs) more (suc n) cells e = passed xs more n cells (omega arith)

  -- by whether the operator takes one operand
  abbrev assigned : ℕ → Operand → ℕ → List CodeWord → List V → Bool → List V
  assigned op a x rest cells one =
      walk m B (cond one 1 2) rest
      (stored cells x (applied m op (value_of m (slice_get cells) a) (cond one (Some None) (option_map Some (value_in m cells (word_at rest 1))))))

  walk_assign : (op : ℕ) (a : Operand) (b : Option Operand) (x v : ℕ) → SecondKeeps v op b → (more : List CodeWord) (cells : List V)
      → walk m B 0 (action_words (assign op a b x) ++ more) cells ≡ walk m B 0 more (performed m B (assign op a b x) cells)
  walk_assign op a None x v h more cells = ap (assigned op a x (With a ∷ more) cells) (lt-ltb op 128 h)
  walk_assign op a (Some b) x v h more cells = ap (assigned op a x (With a ∷ With b ∷ more) cells) (le-ltb op 128 h.0)

  walk_select : (t : Bool) (a b : Operand) (x : ℕ) (more : List CodeWord) (cells : List V)
      → walk m B (cond t 0 3) (Operate 0 x ∷ With a ∷ Skip 2 ∷ Operate 0 x ∷ With b ∷ more) cells
      ≡ walk m B 0 more (cond t (stored cells x (applied m 0 (value_of m (slice_get cells) a) (Some None))) (stored cells x (applied m 0 (value_of m (slice_get cells) b) (Some None))))
  walk_select true a b x more cells = refl
  walk_select false a b x more cells = refl

  walk_step : (g off : ℕ) (ops : List Operand) (gs : List ℕ) (more : List CodeWord) (cells : List V) → Apart more
      → walk m B 0 (action_words (step g off ops gs) ++ more) cells ≡ walk m B 0 more (stepped m B g off ops gs cells)
  walk_step g off ops gs more cells p =
      let words : List CodeWord = behind_step ops gs ++ more in
      let run : List Operand → List ℕ → List V = λ os xs. walk m B (length os + length xs) words (stepped m B g off os xs cells) in
      ap (λ os. run os (gives_behind words)) (operands_behind ops gs more p) ∙ ap (run ops) (gives_behind_lem ops gs more p)
      ∙ passed (behind_step ops gs) more (length ops + length gs) (stepped m B g off ops gs cells) (behind_length ops gs)

  walk_action : (need : ℕ → ℕ) (k v : ℕ) (a : Action) → ActionKeeps need k v a → (more : List CodeWord) (cells : List V) → Apart more
      → walk m B 0 (action_words a ++ more) cells ≡ walk m B 0 more (performed m B a cells)
  walk_action need k v (assign op a b x) h more cells p = walk_assign op a b x v h.1 more cells
  walk_action need k v (select s a b x) h more cells p = walk_select (sensed m (slice_get cells s) true) a b x more cells
  walk_action need k v (reset g off) h more cells p = refl
  walk_action need k v (step g off ops gs) h more cells p = walk_step g off ops gs more cells p

  -- under tests
  walk_tests : (ts : List Test) (ws more : List CodeWord) (cells after : List V)
      → walk m B 0 (ws ++ more) cells ≡ walk m B 0 more after
      → walk m B 0 ((tests_words ts (length ws) ++ ws) ++ more) cells ≡ walk m B 0 more (cond (passes m B ts cells) after cells)
  walk_tests [] ws more cells after h = h
  walk_tests (t ∷ ts) ws more cells after h = go (sensed m (slice_get cells t.variable) t.sense) (walk_tests ts ws more cells after h)
    where
      go : (b : Bool) → walk m B 0 ((tests_words ts (length ws) ++ ws) ++ more) cells ≡ walk m B 0 more (cond (passes m B ts cells) after cells)
          → walk m B (cond b 0 (length ts + length ws)) ((tests_words ts (length ws) ++ ws) ++ more) cells
          ≡ walk m B 0 more (cond (b && passes m B ts cells) after cells)
      go true ih = ih
      go false ih = passed (tests_words ts (length ws) ++ ws) more (length ts + length ws) cells (guarded_length ts ws)

  -- what stands behind the end does not matter
  pub walk_block : (need : ℕ → ℕ) (k v : ℕ) (ss : List Statement) → AllByRecursion (StatementKeeps need k v) ss → (more : List CodeWord) (cells : List V)
      → walk m B 0 (block_words ss ++ more) cells ≡ all_executed m B ss cells
  walk_block need k v [] h more cells = refl
  walk_block need k v (s ∷ ss) h more cells =
      let rest : List CodeWord = block_words ss ++ more in
      ap (λ l. walk m B 0 l cells) (block_more s ss more)
      ∙ walk_tests s.tests (action_words s.action) rest cells (performed m B s.action cells)
      (walk_action need k v s.action h.0.action rest cells (block_apart ss more))
      ∙ walk_block need k v ss h.1 more (executed m B s cells)
