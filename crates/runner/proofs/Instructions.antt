-- What each instruction of a fine place needs, and where a run goes on behind it.
use Rattle.std.proofs.Common.{◌≡◌, ℕ, ◌+◌, ◌<◌, ◌≤◌, Bool, true, false, not, ◌&&◌, ltb, List, length, get_or, drop, sym, refl, ap, ◌∙◌, ⊎_elim, arith}
use mathlib.Core.Bool.{beq}
use Rattle.std.specs.List.{slice_get}
use Rattle.std.proofs.lemmas.Bool.{and_parts, cases_lt, cond-true, cond-false, lt-ltb, le-ltb, ltb-true, not-true, not-false}
use Rattle.std.proofs.lemmas.Option.{slice_get_read}
use Rattle.opset.specs.Meaning.{Meaning}
use Rattle.words.specs.Bits.{field, is_set, kind_of}
use Rattle.instructions.specs.declared.code_word.CodeWord.{CodeWord}
use Rattle.instructions.specs.Format.{says, says_as}
use Rattle.streams.specs.Streams.{sensed}
use Rattle.execution.specs.Words.{go, stop, need_at, operand_count, operated, program, turn, word_at, word_blocks}
use Rattle.execution.specs.Sound.{fine, word_fine}
use Rattle.runner.specs.From.{fine_from, OperandsAt, run_from}
use Rattle.runner.proofs.Places.{fine_in, fine_past, fine_word, walk_go, walk_stop, word_behind, word_here}
use Rattle.runner.proofs.Readings.{by_kind, says_cases, word_wider}
use Rattle.runner.proofs.Operators.{one_operand, two_operands}

-- a run from p on is one from r on, which is fine
pub record Reaches {V : Type 0} (m : Meaning V) (ws : List ℕ) (k p : ℕ) (cells : List V) (r : ℕ) (after : List V) : Type 0 where
  pub within : r < length ws
  pub still : fine_from ws k r ≡ true
  pub same : run_from m ws k p cells ≡ run_from m ws k r after

pub record Operates (ws : List ℕ) (k p w size : ℕ) : Type 0 where
  pub cell : field w 0 6 < size
  pub operands : OperandsAt ws (field w 20 8) size (p + 1)
  pub next : fine_from ws k (p + 1 + operand_count (field w 20 8)) ≡ true

-- at a place with the word w
module _ (ws : List ℕ) (k p w : ℕ) (good : fine_from ws k p ≡ true) (at : w ≡ get_or ws p 0) where
  pub said : (j : ℕ) → kind_of w ≡ j → says (get_or ws p 0) ≡ says_as j w
  said j e = ap says (sym at) ∙ by_kind w j e

  -- a turn leads so many words beyond the next one
  pub goes : {V : Type 0} (m : Meaning V) (cells : List V) (s r : ℕ) (after : List V) (c : CodeWord) → says (get_or ws p 0) ≡ c
      → turn m (word_blocks m ws k) c (drop (p + 1) (program ws)) cells ≡ go s after → fine_from ws k (p + 1 + s) ≡ true → r ≡ p + 1 + s
      → Reaches m ws k p cells r after
  goes m cells s r after c e t f i =
      let still : fine_from ws k r ≡ true = ap (fine_from ws k) i ∙ f in
      record {
        within = fine_in ws k r still;
        still = still;
        same = walk_go m (word_blocks m ws k) ws p s c cells after (fine_in ws k p good) e t ∙ ap (λ r. run_from m ws k r after) (sym i);
      }

  pub operates : (size : ℕ) → need_at ws k ≤ size → kind_of w ≡ 3 → Operates ws k p w size
  operates size room e =
      let op = field w 20 8 in
      let n = need_at ws k in
      let rest = drop (p + 1) (program ws) in
      let q0 = and_parts _ _ (fine_word ws k p _ good (said 3 e)) in
      let q1 = and_parts _ _ q0.1 in
      let both : 128 ≤ op → (word_fine n (word_at rest 1) ≡ true) × (fine ws k 2 rest ≡ true) =
      λ l. and_parts _ _ (sym (cond-false _ _ _ (le-ltb op 128 l)) ∙ q1.1) in
      let next : fine_from ws k (p + 1 + operand_count op) ≡ true =
      ⊎_elim
      (λ l. ap (λ s. fine_from ws k (p + 1 + s)) (one_operand op l) ∙ fine_past ws k p 1 (sym (cond-true _ _ _ (lt-ltb op 128 l)) ∙ q1.1))
      (λ l. ap (λ s. fine_from ws k (p + 1 + s)) (two_operands op l) ∙ fine_past ws k p 2 (both l).1)
      (cases_lt op 128) in
      let last = fine_in ws k (p + 1 + operand_count op) next in
      let near : p + 1 + 1 < length ws =
      ⊎_elim (λ l. omega (arith, one_operand op l)) (λ l. omega (arith, two_operands op l)) (cases_lt op 128) in
      record {
        cell = omega (arith, ltb-true _ _ q0.0);
        operands = record {
          near = near;
          first = word_wider n size (says (get_or ws (p + 1) 0)) room (ap (word_fine n) (sym (word_here ws (p + 1) (omega arith))) ∙ q1.0);
          far = λ l. omega (arith, two_operands op l);
          second = λ l. word_wider n size (says (get_or ws (p + 1 + 1) 0)) room (ap (word_fine n) (sym (word_behind ws (p + 1) 1 near)) ∙ (both l).0);
        };
        next = next;
      }

  pub operate_reaches : {V : Type 0} (m : Meaning V) (cells : List V) (r : ℕ) (after : List V) → need_at ws k ≤ length cells → kind_of w ≡ 3
      → r ≡ p + 1 + operand_count (field w 20 8) → after ≡ operated m (field w 20 8) (field w 0 6) (drop (p + 1) (program ws)) cells
      → Reaches m ws k p cells r after
  operate_reaches m cells r after room e i a =
      goes m cells (operand_count (field w 20 8)) r after _ (said 3 e) (ap (go (operand_count (field w 20 8))) (sym a)) (operates (length cells) room e).next i

  -- a test's cell, and where it leads
  unless_fine : kind_of w ≡ 4 → (ltb (field w 14 6) (need_at ws k) ≡ true) × ((fine ws k 0 (drop (p + 1) (program ws)) ≡ true) × (fine ws k (field w 0 14) (drop (p + 1) (program ws)) ≡ true))
  unless_fine e =
      let rest = drop (p + 1) (program ws) in
      let both = fine ws k 0 rest && fine ws k (field w 0 14) rest in
      let q = and_parts (ltb (field w 14 6) (need_at ws k)) both (fine_word ws k p _ good (said 4 e)) in
      (q.0, and_parts (fine ws k 0 rest) (fine ws k (field w 0 14) rest) q.1)

  pub unless_cell : kind_of w ≡ 4 → field w 14 6 < need_at ws k
  unless_cell e = ltb-true (field w 14 6) (need_at ws k) (unless_fine e).0

  -- x is the tested cell, which holds v, t its truth, and s the sense
  module _ {V : Type 0} (m : Meaning V) (cells : List V) (room : need_at ws k ≤ length cells) (e : kind_of w ≡ 4)
      (x : ℕ) (v : V) (t s : Bool) (x-is : x ≡ field w 14 6) (v-is : v ≡ get_or cells x v) (t-is : t ≡ m.truth v) (s-is : s ≡ is_set w 27) where
    sensed_as : sensed m (slice_get cells (field w 14 6)) (is_set w 27) ≡ beq t s
    sensed_as =
        let l : x < length cells = omega (arith, unless_cell e) in
        ap (λ y. sensed m (slice_get cells y) (is_set w 27)) (sym x-is)
        ∙ ap (λ o. sensed m o (is_set w 27)) (slice_get_read cells (length cells) x v refl l v-is)
        ∙ ap (λ b. beq b (is_set w 27)) (sym t-is) ∙ ap (beq t) (sym s-is)

    pub unless_on : not (beq t s) ≡ false → Reaches m ws k p cells (p + 1) cells
    unless_on h =
        let holds = sensed_as ∙ not-false (beq t s) h in
        goes m cells 0 (p + 1) cells _ (said 4 e) (ap (λ s. go s cells) (cond-true _ 0 (field w 0 14) holds)) (fine_past ws k p 0 (unless_fine e).1.0) (omega arith)

    pub unless_over : (d : ℕ) → not (beq t s) ≡ true → d ≡ field w 0 14 → Reaches m ws k p cells (p + 1 + d) cells
    unless_over d h d-is =
        let fails = sensed_as ∙ not-true (beq t s) h in
        goes m cells (field w 0 14) (p + 1 + d) cells _ (said 4 e) (ap (λ s. go s cells) (cond-false _ 0 (field w 0 14) fails))
        (fine_past ws k p (field w 0 14) (unless_fine e).1.1) (ap (λ n. p + 1 + n) d-is)

  pub skip_over : {V : Type 0} (m : Meaning V) (cells : List V) (d : ℕ) → kind_of w ≡ 5 → d ≡ field w 0 14 → Reaches m ws k p cells (p + (1 + d)) cells
  skip_over m cells d e d-is =
      goes m cells (field w 0 14) (p + (1 + d)) cells _ (said 5 e) refl (fine_past ws k p (field w 0 14) (fine_word ws k p _ good (said 5 e))) (omega arith)

  -- any other word ends a block
  pub ends : {V : Type 0} (m : Meaning V) (cells : List V) → (kind_of w ≡ 3 → ⊥) → (kind_of w ≡ 4 → ⊥) → (kind_of w ≡ 5 → ⊥) → (kind_of w ≡ 7 → ⊥) → (kind_of w ≡ 8 → ⊥)
      → run_from m ws k p cells ≡ cells
  ends m cells n3 n4 n5 n7 n8 =
      walk_stop m (word_blocks m ws k) ws p cells (fine_in ws k p good)
      (ap (λ v. turn m (word_blocks m ws k) (says v) (drop (p + 1) (program ws)) cells) (sym at)
      ∙ says_cases (λ c. turn m (word_blocks m ws k) c (drop (p + 1) (program ws)) cells ≡ stop cells) w (kind_of w)
      (λ e. absurd (n3 e)) (λ e. absurd (n4 e)) (λ e. absurd (n5 e)) (λ e. absurd (n7 e)) (λ e. absurd (n8 e)) (λ e. refl) (λ e. refl) (λ e. refl) refl refl refl refl refl refl)
