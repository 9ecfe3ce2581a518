-- The pieces of a block are the block.
use Rattle.std.proofs.Common.{◌≡◌, ℕ, zero, suc, ◌+◌, ◌-◌, ◌<◌, ◌≤◌, [], ◌∷◌, ◌++◌, length, sym, refl, ap, ◌∙◌, arith, le-ltb, lt-ltb}
use Rattle.std.proofs.lemmas.List.{append_assoc}
use Rattle.instructions.specs.declared.code_word.CodeWord.TheVariants.{End}
use Rattle.table.specs.Syntax.{Node, Table, node_at, equation_at, equation_count}
use Rattle.schedule.specs.Need.{needs}
use Rattle.admission.specs.Verdict.{node_order}
use Rattle.code.specs.Statements.{offset, statements, step_statements, delay_reset, delay_resets, call_reset, call_resets}
use Rattle.code.specs.Code.{ordered, statements_words}
use Rattle.pieces.proofs.Stated.{statements_append}
use Rattle.blocks.specs.declared.block.Block.{Block}
use Rattle.blocks.specs.declared.block.Block.TheVariants.{Resets, Steps}
use Rattle.blocks.specs.Numbered.{up_to, and_then, only, delay_piece, call_piece, step_piece, block_piece, block_words, piece_count}
use Rattle.blocks.proofs.Runs.{run_one, run_over, run_then}

pub pieces_few : (N : Node) (b : Block) → equation_count N ≤ 64 → piece_count N b ≤ 129
pieces_few N Resets h = omega arith
pieces_few N Steps h = omega arith

module _ (T : Table) (k : ℕ) where
  delays : (n : ℕ) → up_to (delay_piece T k) n ≡ statements_words (delay_resets (node_at T k) n)
  unfolding up_to
  delays zero = refl
  delays (suc n) =
      let N = node_at T k in
      ap (λ l. l ++ delay_piece T k n) (delays n) ∙ sym (statements_append (delay_resets N n) (delay_reset (equation_at N n)))

  calls : (n : ℕ) → up_to (call_piece T k) n ≡ statements_words (call_resets (needs T) (node_at T k) n)
  unfolding up_to
  calls zero = refl
  calls (suc n) =
      let N = node_at T k in
      ap (λ l. l ++ call_piece T k n) (calls n)
      ∙ sym (statements_append (call_resets (needs T) N n) (call_reset (offset (needs T) N n) (equation_at N n)))

  turns : (n : ℕ) → length (ordered (node_order T k)) ≡ n
      → up_to (step_piece T k) n ≡ statements_words (step_statements (needs T) (node_at T k) (ordered (node_order T k)))
  turns n e =
      let N = node_at T k in
      ap (up_to (step_piece T k)) (sym e)
      ∙ run_over (λ x. statements_words (statements N (offset (needs T) N x) (equation_at N x))) (λ xs. statements_words (step_statements (needs T) N xs)) refl
      (λ x xs. statements_append (statements N (offset (needs T) N x) (equation_at N x)) (step_statements (needs T) N xs))
      (ordered (node_order T k))

  pub block_pieces : length (ordered (node_order T k)) ≡ equation_count (node_at T k) → (b : Block) → up_to (block_piece T k b) (piece_count (node_at T k) b) ≡ block_words T k b
  unfolding block_piece block_words
  block_pieces e Resets =
      let N = node_at T k in
      let n = equation_count N in
      let end = only (End ∷ []) in
      run_then (delay_piece T k) (and_then n (call_piece T k) end) n (n + 1)
      ∙ ap (λ l. up_to (delay_piece T k) n ++ l) (run_then (call_piece T k) end n 1 ∙ ap (λ l. up_to (call_piece T k) n ++ l) (run_one (End ∷ [])))
      ∙ sym (append_assoc (up_to (delay_piece T k) n) (up_to (call_piece T k) n) (End ∷ []))
      ∙ ap (λ l. (l ++ up_to (call_piece T k) n) ++ End ∷ []) (delays n)
      ∙ ap (λ l. (statements_words (delay_resets N n) ++ l) ++ End ∷ []) (calls n)
      ∙ ap (λ l. l ++ End ∷ []) (sym (statements_append (delay_resets N n) (call_resets (needs T) N n)))
  block_pieces e Steps =
      let n = equation_count (node_at T k) in
      run_then (step_piece T k) (only (End ∷ [])) n 1
      ∙ ap (λ l. up_to (step_piece T k) n ++ l) (run_one (End ∷ []))
      ∙ ap (λ l. l ++ End ∷ []) (turns n e)

  -- the pieces of a block, by their numbers
  pub delay_at : (j : ℕ) → j < equation_count (node_at T k) → block_piece T k Resets j ≡ delay_piece T k j
  unfolding block_piece
  delay_at j h = let t = lt-ltb j (equation_count (node_at T k)) h in rw t

  pub call_at : (j : ℕ) → equation_count (node_at T k) ≤ j → j - equation_count (node_at T k) < equation_count (node_at T k)
      → block_piece T k Resets j ≡ call_piece T k (j - equation_count (node_at T k))
  unfolding block_piece
  call_at j h l =
      let n = equation_count (node_at T k) in
      let t = le-ltb j n h in
      let u = lt-ltb (j - n) n l in rw (t, u)

  pub reset_end : (j : ℕ) → equation_count (node_at T k) ≤ j → equation_count (node_at T k) ≤ j - equation_count (node_at T k) → block_piece T k Resets j ≡ End ∷ []
  unfolding block_piece
  reset_end j h l =
      let n = equation_count (node_at T k) in
      let t = le-ltb j n h in
      let u = le-ltb (j - n) n l in rw (t, u)

  pub turn_at : (j : ℕ) → j < equation_count (node_at T k) → block_piece T k Steps j ≡ step_piece T k j
  unfolding block_piece
  turn_at j h = let t = lt-ltb j (equation_count (node_at T k)) h in rw t

  pub step_end : (j : ℕ) → equation_count (node_at T k) ≤ j → block_piece T k Steps j ≡ End ∷ []
  unfolding block_piece
  step_end j h = let t = le-ltb j (equation_count (node_at T k)) h in rw t
