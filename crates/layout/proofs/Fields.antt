-- What the words in front of the blocks say.
use Rattle.std.proofs.Common.{◌≡◌, ℕ, ◌+◌, ◌*◌, ◌^◌, ◌<◌, ◌≤◌, List, length, get_or, refl, ap, ◌∙◌, subst, arith}
use Rattle.words.specs.Bits.{field}
use Rattle.instructions.specs.declared.code_word.CodeWord.{CodeWord}
use Rattle.instructions.specs.declared.code_word.CodeWord.TheVariants.{Head, ResetAt, StepAt, Need, Ports}
use Rattle.instructions.specs.Format.{code_word, CodeWordFits}
use Rattle.table.specs.Syntax.{Table}
use Rattle.rules.specs.Types.{type_of}
use Rattle.code.specs.Code.{main_of, reset_at, step_at, code_of}
use Rattle.execution.specs.Words.{word_at, reset_place, step_place, need_at}
use Rattle.execution.specs.Sound.{nodes_in, set_in, ports_word, inputs_in, outputs_in, input_type}
use Rattle.layout.specs.Layout.{Begins, Front}
use Rattle.layout.proofs.Needed.{need_of}
use Rattle.layout.proofs.Places.{node_index, first_value, code_length, node_words_lem, ports_word_lem, value_word}
use Rattle.layout.proofs.Reading.{word_is, word_fits}

head_fields : (n s : ℕ) → CodeWordFits (Head n s) → (field (code_word (Head n s)) 8 8 ≡ n) × (field (code_word (Head n s)) 0 8 ≡ s)
head_fields n s h = (omega arith, omega arith)

ports_fields : (i o : ℕ) → CodeWordFits (Ports i o) → (field (code_word (Ports i o)) 16 8 ≡ i) × (field (code_word (Ports i o)) 8 8 ≡ o)
ports_fields i o h = (omega arith, omega arith)

reset_field : (p : ℕ) → CodeWordFits (ResetAt p) → field (code_word (ResetAt p)) 0 14 ≡ p
reset_field p h = omega arith

step_field : (p : ℕ) → CodeWordFits (StepAt p) → field (code_word (StepAt p)) 0 14 ≡ p
step_field p h = omega arith

need_field : (n : ℕ) → CodeWordFits (Need n) → field (code_word (Need n)) 0 13 ≡ n
need_field n h = omega arith

module _ (own : ℕ) (T : Table) (ws : List ℕ) (b : Begins own T ws) where
  -- a word of the front, by its place
  stands : (j : ℕ) (x : CodeWord) → j < length (code_of own T) → word_at (code_of own T) j ≡ x → (get_or ws j 0 ≡ code_word x) × CodeWordFits x
  stands j x h e = (word_is own T ws b j h ∙ ap code_word e, subst CodeWordFits e (word_fits own T ws b j h))

  front_reaches : 2 + 3 * length T + (main_of T).inputs ≤ length (code_of own T)
  front_reaches = omega (arith, code_length own T)

  node_stands : (k i j : ℕ) → k < length T → i < 3 → j ≡ 1 + 3 * k + i → (get_or ws j 0 ≡ code_word (word_at (node_index T k) i)) × CodeWordFits (word_at (node_index T k) i)
  node_stands k i j h l e = stands j (word_at (node_index T k) i) (omega (arith, front_reaches)) (ap (word_at (code_of own T)) e ∙ node_words_lem own T k i h l)

  pub reset_place_lem : (k : ℕ) → k < length T → reset_place ws k ≡ reset_at T k
  reset_place_lem k h = let s = node_stands k 0 (1 + 3 * k) h (omega arith) (omega arith) in ap (λ w. field w 0 14) s.0 ∙ reset_field (reset_at T k) s.1

  pub step_place_lem : (k : ℕ) → k < length T → step_place ws k ≡ step_at T k
  step_place_lem k h = let s = node_stands k 1 (2 + 3 * k) h (omega arith) (omega arith) in ap (λ w. field w 0 14) s.0 ∙ step_field (step_at T k) s.1

  pub need_is : (k : ℕ) → k < length T → need_at ws k ≡ need_of T k
  need_is k h = let s = node_stands k 2 (3 + 3 * k) h (omega arith) (omega arith) in ap (λ w. field w 0 13) s.0 ∙ need_field (need_of T k) s.1

  head_stands : (get_or ws 0 0 ≡ code_word (Head (length T) own)) × CodeWordFits (Head (length T) own)
  head_stands = stands 0 (Head (length T) own) (omega (arith, front_reaches)) refl

  nodes_is : nodes_in ws ≡ length T
  nodes_is = let s = head_stands in ap (λ w. field w 8 8) s.0 ∙ (head_fields (length T) own s.1).0

  set_is : set_in ws ≡ own
  set_is = let s = head_stands in ap (λ w. field w 0 8) s.0 ∙ (head_fields (length T) own s.1).1

  ports_stand : (ports_word ws ≡ code_word (Ports (main_of T).inputs (main_of T).outputs)) × CodeWordFits (Ports (main_of T).inputs (main_of T).outputs)
  ports_stand =
      let s = stands (1 + 3 * length T) (Ports (main_of T).inputs (main_of T).outputs) (omega (arith, front_reaches)) (ports_word_lem own T) in
      (ap (λ n. get_or ws (1 + 3 * n) 0) nodes_is ∙ s.0, s.1)

  inputs_is : inputs_in ws ≡ (main_of T).inputs
  inputs_is = let s = ports_stand in ap (λ w. field w 16 8) s.0 ∙ (ports_fields (main_of T).inputs (main_of T).outputs s.1).0

  outputs_is : outputs_in ws ≡ (main_of T).outputs
  outputs_is = let s = ports_stand in ap (λ w. field w 8 8) s.0 ∙ (ports_fields (main_of T).inputs (main_of T).outputs s.1).1

  type_is : (i : ℕ) → i < (main_of T).inputs → input_type ws i ≡ type_of (main_of T) i
  type_is i h =
      let s = stands (2 + 3 * length T + i) (first_value (main_of T) i) (omega (arith, front_reaches)) (value_word own T i h) in
      ap (λ n. field (get_or ws (2 + 3 * n + i) 0) 24 4) nodes_is ∙ ap (λ w. field w 24 4) s.0
      ∙ type_field (type_of (main_of T) i) s.1.0
    where
      type_field : (t : ℕ) → t < 2 ^ 4 → field (10 * 2 ^ 28 + (t * 2 ^ 24 + 0)) 24 4 ≡ t
      type_field t l = omega arith

  pub front_is : Front own T ws
  front_is = record { nodes = nodes_is; set = set_is; inputs = inputs_is; outputs = outputs_is; types = type_is; needed = need_is }
