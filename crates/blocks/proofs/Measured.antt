-- The places of blocks, one node after another.
use Rattle.std.proofs.Common.{◌≡◌, ℕ, zero, suc, ◌+◌, ◌*◌, ◌<◌, ◌≤◌, ◌≢◌, ◌⊎◌, List, ◌++◌, length, get_or, set, refl, ap, ◌∙◌, inl, inr, add-one, arith, below_more}
use Rattle.std.proofs.lemmas.List.{get_or-set_other, get_or-set_same, length-append, length_push, length-set}
use Rattle.instructions.specs.declared.code_word.CodeWord.TheVariants.{End}
use Rattle.table.specs.Syntax.{Table, node_at}
use Rattle.schedule.specs.Need.{needs}
use Rattle.admission.specs.Verdict.{node_order}
use Rattle.code.specs.Statements.{reset_statements, step_statements}
use Rattle.code.specs.Code.{blocks, front_length, ordered, reset_at, reset_block, statements_words, step_at, step_block}
use Rattle.blocks.specs.declared.block.Block.TheVariants.{Resets, Steps}
use Rattle.blocks.specs.Numbered.{block_words}

-- the places of the first k nodes are found, and where the next block begins
pub record Measured (T : Table) (k : ℕ) (resets steps : List ℕ) (next : ℕ) : Type 0 where
  pub next_is : next ≡ reset_at T k
  pub resets_are : (i : ℕ) → i < k → get_or resets i 0 ≡ reset_at T i
  pub steps_are : (i : ℕ) → i < k → get_or steps i 0 ≡ step_at T i
  pub resets_size : length resets ≡ 32
  pub steps_size : length steps ≡ 32
  pub small : next ≤ 200 + 80000 * k

module _ (T : Table) where
  pub blocks_more : (k : ℕ) → blocks T (k + 1) ≡ blocks T k ++ (block_words T k Resets ++ block_words T k Steps)
  unfolding block_words
  blocks_more k = ap (blocks T) (add-one k)

  two_blocks : (k : ℕ) → length (blocks T (k + 1)) ≡ length (blocks T k) + length (block_words T k Resets) + length (block_words T k Steps)
  two_blocks k =
      let a = block_words T k Resets in
      let b = block_words T k Steps in
      omega (arith, ap length (blocks_more k), length-append (blocks T k) (a ++ b), length-append a b)

  step_place_lem : (k : ℕ) → step_at T k ≡ reset_at T k + length (block_words T k Resets)
  unfolding block_words
  step_place_lem k = refl

  pub measured_more : (k : ℕ) (resets steps : List ℕ) (next a b : ℕ) → k < 32 → Measured T k resets steps next
      → a ≡ length (block_words T k Resets) → a ≤ 40000 → b ≡ length (block_words T k Steps) → b ≤ 40000
      → Measured T (k + 1) (set resets k next) (set steps k (next + a)) (next + a + b)
  measured_more k resets steps next a b h m e l f g =
      record {
        next_is = omega (arith, m.next_is, two_blocks k, e, f);
        resets_are = below_more (λ i. get_or (set resets k next) i 0 ≡ reset_at T i) k
            (λ i j. let ne : i ≢ k = λ z. omega arith in get_or-set_other resets k i next 0 ne ∙ m.resets_are i j)
            (get_or-set_same resets k next 0 (omega (arith, m.resets_size)) ∙ m.next_is);
        steps_are = below_more (λ i. get_or (set steps k (next + a)) i 0 ≡ step_at T i) k
            (λ i j. let ne : i ≢ k = λ z. omega arith in get_or-set_other steps k i (next + a) 0 ne ∙ m.steps_are i j)
            (get_or-set_same steps k (next + a) 0 (omega (arith, m.steps_size)) ∙ omega (arith, m.next_is, step_place_lem k, e));
        resets_size = length-set resets k next ∙ m.resets_size;
        steps_size = length-set steps k (next + a) ∙ m.steps_size;
        small = omega (arith, m.small);
      }

  -- each block has an END at least
  some_words : (k : ℕ) → (1 ≤ length (reset_block T k)) × (1 ≤ length (step_block T k))
  some_words k =
      let N = node_at T k in
      (omega (arith, length_push (statements_words (reset_statements (needs T) N)) End), omega (arith, length_push (statements_words (step_statements (needs T) N (ordered (node_order T k)))) End))

  blocks_within : (k n : ℕ) → k < n → length (blocks T k) + (length (reset_block T k) + length (step_block T k)) ≤ length (blocks T n)
  blocks_within k zero h = absurd (omega arith)
  blocks_within k (suc n) h =
      let l = length-append (blocks T n) (reset_block T n ++ step_block T n) in
      let r = length-append (reset_block T n) (step_block T n) in
      elim (split k n h) [
        | inl q ↦ omega (arith, blocks_within k n q, l)
        | inr q ↦ omega (arith, ap (λ i. length (blocks T i) + (length (reset_block T i) + length (step_block T i))) q, l, r)
      ]
    where
      split : (i m : ℕ) → i < suc m → (i < m) ⊎ (i ≡ m)
      split i m l = search arith

  -- a block begins before the code's end
  pub begins_within : (k : ℕ) → k < length T → (reset_at T k < front_length T + length (blocks T (length T))) × (step_at T k < front_length T + length (blocks T (length T)))
  begins_within k h =
      let w = blocks_within k (length T) h in
      let s = some_words k in
      (omega (arith, w, s.0, s.1), omega (arith, w, s.0, s.1))

  pub block_within : (k : ℕ) → k < length T → length (blocks T k) + (length (block_words T k Resets) + length (block_words T k Steps)) ≤ length (blocks T (length T))
  unfolding block_words
  block_within k h = blocks_within k (length T) h
