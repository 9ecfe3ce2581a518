-- Where the words of a table's code stand.
use Rattle.std.proofs.Common.{◌≡◌, ℕ, zero, suc, ◌+◌, ◌-◌, ◌*◌, ◌<◌, List, [], ◌∷◌, ◌++◌, length, drop, sym, refl, ap, ◌∙◌, subst, inl, inr, arith}
use Rattle.std.proofs.lemmas.List.{append-nil, append_assoc, length-append, length_push, get_or_append_left, get_or-append_right, get_or_at, get_or_push, drop_at}
use Rattle.std.proofs.lemmas.Bool.{cases_eq}
use Rattle.words.specs.declared.kinds.Operand.TheVariants.{Literal as Constant}
use Rattle.instructions.specs.declared.code_word.CodeWord.{CodeWord}
use Rattle.instructions.specs.declared.code_word.CodeWord.TheVariants.{ResetAt, StepAt, Need, Operand as With, End, Ports}
use Rattle.table.specs.Syntax.{Node, Table, node_at}
use Rattle.rules.specs.Types.{type_of}
use Rattle.schedule.specs.Need.{needs}
use Rattle.admission.specs.Verdict.{node_order}
use Rattle.code.specs.Statements.{step_statements, reset_statements}
use Rattle.code.specs.Code.{ordered, reset_block, step_block, blocks, main_of, front_length, reset_at, step_at, index, first_values, front, code_of}
use Rattle.execution.specs.Words.{word_at}
use Rattle.layout.proofs.Blocks.{block_length}
use Rattle.layout.proofs.Needed.{need_of}

-- the words that code has for a node
abbrev pub node_index : Table → ℕ → List CodeWord
node_index T k = ResetAt (reset_at T k) ∷ StepAt (step_at T k) ∷ Need (need_of T k) ∷ []

abbrev pub first_value : Node → ℕ → CodeWord
first_value N x = With (Constant (record { ty = type_of N x; payload = 0 }))

index_length : (T : Table) (n : ℕ) → length (index T n) ≡ 3 * n
index_length T zero = refl
index_length T (suc n) = omega (arith, length-append (index T n) (node_index T n), index_length T n)

values_length : (N : Node) (n : ℕ) → length (first_values N n) ≡ n
values_length N zero = refl
values_length N (suc n) = omega (arith, length_push (first_values N n) (first_value N n), values_length N n)

index_at : (T : Table) (n k i : ℕ) → k < n → i < 3 → word_at (index T n) (3 * k + i) ≡ word_at (node_index T k) i
index_at T zero k i h l = absurd (omega arith)
index_at T (suc n) k i h l =
    let e = index_length T n in
    elim (cases_eq k n) [
      | inl same ↦
          let here : 3 * k + i - 3 * n ≡ i = omega arith in
          get_or-append_right (index T n) (node_index T n) (3 * n) (3 * k + i) End e (omega arith)
          ∙ ap (word_at (node_index T n)) here ∙ ap (λ j. word_at (node_index T j) i) (sym same)
      | inr other ↦
          get_or_append_left (index T n) (node_index T n) End (3 * k + i) (omega arith) ∙ index_at T n k i (omega arith) l
    ]

value_at : (N : Node) (n i : ℕ) → i < n → word_at (first_values N n) i ≡ first_value N i
value_at N zero i h = absurd (omega arith)
value_at N (suc n) i h =
    let e = values_length N n in
    elim (cases_eq i n) [
      | inl same ↦ get_or_push (first_values N n) (first_value N n) End i (omega arith) ∙ ap (first_value N) (sym same)
      | inr other ↦ get_or_append_left (first_values N n) (first_value N n ∷ []) End i (omega arith) ∙ value_at N n i (omega arith)
    ]

-- behind HEAD: the index, PORTS and the literals
abbrev tail : Table → List CodeWord
tail T = Ports (main_of T).inputs (main_of T).outputs ∷ first_values (main_of T) (main_of T).inputs

tail_length : (T : Table) → length (index T (length T) ++ tail T) ≡ 3 * length T + (1 + (main_of T).inputs)
tail_length T = omega (arith, length-append (index T (length T)) (tail T), index_length T (length T), values_length (main_of T) (main_of T).inputs)

front_length_lem : (own : ℕ) (T : Table) → length (front own T) ≡ front_length T
front_length_lem own T = omega (arith, tail_length T)

behind_head : (own : ℕ) (T : Table) (j : ℕ) → j < 3 * length T + (1 + (main_of T).inputs) → word_at (code_of own T) (suc j) ≡ word_at (index T (length T) ++ tail T) j
behind_head own T j h = get_or_append_left (index T (length T) ++ tail T) (blocks T (length T)) End j (omega (arith, tail_length T))

pub node_words_lem : (own : ℕ) (T : Table) (k i : ℕ) → k < length T → i < 3 → word_at (code_of own T) (1 + 3 * k + i) ≡ word_at (node_index T k) i
node_words_lem own T k i h l =
    let place : 1 + 3 * k + i ≡ suc (3 * k + i) = omega arith in
    ap (word_at (code_of own T)) place ∙ behind_head own T (3 * k + i) (omega arith)
    ∙ get_or_append_left (index T (length T)) (tail T) End (3 * k + i) (omega (arith, index_length T (length T))) ∙ index_at T (length T) k i h l

pub ports_word_lem : (own : ℕ) (T : Table) → word_at (code_of own T) (1 + 3 * length T) ≡ Ports (main_of T).inputs (main_of T).outputs
ports_word_lem own T =
    let place : 1 + 3 * length T ≡ suc (3 * length T) = omega arith in
    ap (word_at (code_of own T)) place ∙ behind_head own T (3 * length T) (omega arith)
    ∙ get_or_at (index T (length T)) (Ports (main_of T).inputs (main_of T).outputs) (first_values (main_of T) (main_of T).inputs) End (3 * length T) (index_length T (length T))

pub value_word : (own : ℕ) (T : Table) (i : ℕ) → i < (main_of T).inputs → word_at (code_of own T) (2 + 3 * length T + i) ≡ first_value (main_of T) i
value_word own T i h =
    let place : 2 + 3 * length T + i ≡ suc (3 * length T + suc i) = omega arith in
    let here : 3 * length T + suc i - 3 * length T ≡ suc i = omega arith in
    ap (word_at (code_of own T)) place ∙ behind_head own T (3 * length T + suc i) (omega arith)
    ∙ get_or-append_right (index T (length T)) (tail T) (3 * length T) (3 * length T + suc i) End (index_length T (length T)) (omega arith)
    ∙ ap (word_at (tail T)) here ∙ value_at (main_of T) (main_of T).inputs i h

-- the blocks of node k, and what stands behind them
blocks_split : (T : Table) (n k : ℕ) → k < n → (more : List CodeWord) × (blocks T n ≡ blocks T k ++ ((reset_block T k ++ step_block T k) ++ more))
blocks_split T zero k h = absurd (omega arith)
blocks_split T (suc n) k h =
    elim (cases_eq k n) [
      | inl same ↦ (
        [],
        subst (λ j. blocks T (suc n) ≡ blocks T j ++ ((reset_block T j ++ step_block T j) ++ [])) (sym same)
            (ap (λ l. blocks T n ++ l) (sym (append-nil (reset_block T n ++ step_block T n)))),
      )
      | inr other ↦
          let r = blocks_split T n k (omega arith) in
          let pair = reset_block T k ++ step_block T k in
          let last = reset_block T n ++ step_block T n in (
            r.0 ++ last,
            ap (λ l. l ++ last) r.1 ∙ append_assoc (blocks T k) (pair ++ r.0) last ∙ ap (λ l. blocks T k ++ l) (append_assoc pair r.0 last),
          )
    ]

-- how far code reaches beyond the places of a node's blocks
pub record Spans (own : ℕ) (T : Table) (k : ℕ) : Type 0 where
  pub behind : ℕ
  pub resets : 0 < length (reset_block T k)
  pub steps : 0 < length (step_block T k)
  pub total : length (code_of own T) ≡ reset_at T k + length (reset_block T k) + length (step_block T k) + behind

pub code_length : (own : ℕ) (T : Table) → length (code_of own T) ≡ front_length T + length (blocks T (length T))
code_length own T = omega (arith, length-append (front own T) (blocks T (length T)), front_length_lem own T)

pub spans : (own : ℕ) (T : Table) (k : ℕ) → k < length T → Spans own T k
spans own T k h =
    let r = blocks_split T (length T) k h in
    let pair = reset_block T k ++ step_block T k in
    let e : length (blocks T (length T)) ≡ length (blocks T k) + (length (reset_block T k) + length (step_block T k) + length r.0) =
    ap length r.1 ∙ length-append (blocks T k) (pair ++ r.0)
    ∙ ap (λ n. length (blocks T k) + n) (length-append pair r.0 ∙ ap (λ n. n + length r.0) (length-append (reset_block T k) (step_block T k))) in
    record {
      behind = length r.0;
      resets = omega (arith, block_length (reset_statements (needs T) (node_at T k)));
      steps = omega (arith, block_length (step_statements (needs T) (node_at T k) (ordered (node_order T k))));
      total = code_length own T ∙ omega (arith, e);
    }

module _ (own : ℕ) (T : Table) (k : ℕ) (h : k < length T) (rest : List CodeWord) where
  abbrev ahead : List CodeWord
  ahead = front own T ++ blocks T k

  ahead_length : length ahead ≡ reset_at T k
  ahead_length = omega (arith, length-append (front own T) (blocks T k), front_length_lem own T)

  split : (more : List CodeWord) × (code_of own T ++ rest ≡ ahead ++ (reset_block T k ++ (step_block T k ++ more)))
  split =
      let r = blocks_split T (length T) k h in
      (r.0 ++ rest, ap (λ l. (front own T ++ l) ++ rest) r.1 ∙ simp append_assoc)

  pub reset_words : (more : List CodeWord) × (drop (reset_at T k) (code_of own T ++ rest) ≡ reset_block T k ++ more)
  reset_words =
      let s = split in
      (step_block T k ++ s.0, ap (drop (reset_at T k)) s.1 ∙ drop_at ahead (reset_block T k ++ (step_block T k ++ s.0)) (reset_at T k) ahead_length)

  pub step_words : (more : List CodeWord) × (drop (step_at T k) (code_of own T ++ rest) ≡ step_block T k ++ more)
  step_words =
      let s = split in (
        s.0,
        ap (drop (step_at T k)) (s.1 ∙ sym (append_assoc ahead (reset_block T k) (step_block T k ++ s.0)))
            ∙ drop_at (ahead ++ reset_block T k) (step_block T k ++ s.0) (step_at T k) (omega (arith, length-append ahead (reset_block T k), ahead_length)),
      )
