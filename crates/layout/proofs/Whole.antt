-- Words that begin with the code of a table can be run untested, and a run of them does what the table's statements do.
use Rattle.std.proofs.Common.{◌≡◌, ℕ, zero, suc, ◌-◌, ◌<◌, ◌≤◌, true, cond, eqb, List, ◌++◌, map, length, drop, refl, ap, ◌∙◌, arith}
use Rattle.std.proofs.lemmas.List.{length-take, length-map}
use Rattle.opset.specs.Meaning.{Meaning}
use Rattle.instructions.specs.declared.code_word.CodeWord.{CodeWord}
use Rattle.instructions.specs.Format.{code_word, says}
use Rattle.table.specs.Syntax.{Table, node_at, variable_count}
use Rattle.schedule.specs.Need.{needs}
use Rattle.admission.specs.Verdict.{node_order}
use Rattle.code.specs.Statements.{step_statements, reset_statements}
use Rattle.code.specs.Code.{ordered, reset_block, step_block, reset_at, step_at, code_of, code_words}
use Rattle.execution.specs.Cells.{Blocks}
use Rattle.execution.specs.Statements.{reset_of, step_of, table_blocks}
use Rattle.execution.specs.Words.{walk, program, reset_place, step_place, need_at, reset_run, step_run, word_blocks}
use Rattle.execution.specs.Sound.{fine, main_in, Sound}
use Rattle.layout.specs.Layout.{Begins, Runs, CodeIsSound, CodeRunsStatements}
use Rattle.layout.proofs.Kept.{BlockKeeps}
use Rattle.layout.proofs.Walking.{walk_block}
use Rattle.layout.proofs.Fine.{fine_block}
use Rattle.layout.proofs.Needed.{need_of, ports_fit}
use Rattle.layout.proofs.Keeping.{step_block_keeps, reset_block_keeps}
use Rattle.layout.proofs.Places.{code_length, reset_words, step_words}
use Rattle.layout.proofs.Reading.{program_is}
use Rattle.layout.proofs.Fields.{reset_place_lem, step_place_lem, need_is, front_is}

module _ (own : ℕ) (T : Table) (ws : List ℕ) (b : Begins own T ws) where
  abbrev more : List CodeWord
  more = map says (drop (length (code_words own T)) ws)

  -- the words from the place of a node's block on
  resets_at : (k : ℕ) → k < length T → (rest : List CodeWord) × (drop (reset_place ws k) (program ws) ≡ reset_block T k ++ rest)
  resets_at k h =
      let r = reset_words own T k h more in
      (r.0, ap (λ p. drop p (program ws)) (reset_place_lem own T ws b k h) ∙ ap (drop (reset_at T k)) (program_is own T ws b) ∙ r.1)

  steps_at : (k : ℕ) → k < length T → (rest : List CodeWord) × (drop (step_place ws k) (program ws) ≡ step_block T k ++ rest)
  steps_at k h =
      let r = step_words own T k h more in
      (r.0, ap (λ p. drop p (program ws)) (step_place_lem own T ws b k h) ∙ ap (drop (step_at T k)) (program_is own T ws b) ∙ r.1)

  reset_keeps : (k : ℕ) → k < length T → BlockKeeps (need_of T) k (variable_count (node_at T k)) (reset_statements (needs T) (node_at T k))
  reset_keeps k h = reset_block_keeps T b.limits k h (b.needed k h)

  step_keeps : (k : ℕ) → k < length T → BlockKeeps (need_of T) k (variable_count (node_at T k)) (step_statements (needs T) (node_at T k) (ordered (node_order T k)))
  step_keeps k h = step_block_keeps T b.limits k h (b.needed k h)

  agrees : (k : ℕ) → k < length T → (g : ℕ) → g ≤ k → need_at ws g ≡ need_of T g
  agrees k h g l = need_is own T ws b g (omega arith)

  resets_fine : (k : ℕ) → k < length T → fine ws k 0 (drop (reset_place ws k) (program ws)) ≡ true
  resets_fine k h =
      let r = resets_at k h in
      let K = reset_keeps k h in
      ap (fine ws k 0) r.1 ∙ fine_block ws (need_of T) k (variable_count (node_at T k)) (agrees k h) K.room (reset_statements (needs T) (node_at T k)) K.each r.0

  steps_fine : (k : ℕ) → k < length T → fine ws k 0 (drop (step_place ws k) (program ws)) ≡ true
  steps_fine k h =
      let r = steps_at k h in
      let K = step_keeps k h in
      ap (fine ws k 0) r.1
      ∙ fine_block ws (need_of T) k (variable_count (node_at T k)) (agrees k h) K.room (step_statements (needs T) (node_at T k) (ordered (node_order T k))) K.each r.0

  long : length (code_of own T) ≤ length ws
  long = omega (arith, ap length b.front, length-take (length (code_words own T)) ws, length-map (code_of own T) code_word)

  sound : Sound ws
  sound =
      let F = front_is own T ws b in
      let last : length T - 1 < length T = omega (arith, b.limits.count.0) in
      let main : need_at ws (main_in ws) ≡ need_of T (length T - 1) = ap (λ n. need_at ws (n - 1)) F.nodes ∙ F.needed (length T - 1) last in
      record {
        nodes = omega (arith, F.nodes, b.limits.count.0);
        front = omega (arith, F.nodes, F.inputs, code_length own T, long);
        ports = omega (arith, F.inputs, F.outputs, main, ports_fit T b.limits (length T - 1) last);
        resets = λ k h. resets_fine k (omega (arith, F.nodes));
        steps = λ k h. steps_fine k (omega (arith, F.nodes));
      }

  module _ {V : Type 0} (m : Meaning V) where
    resets_same : (B : Blocks V) (k : ℕ) → k < length T → (cells : List V) → reset_run m B ws k cells ≡ reset_of m B T k cells
    resets_same B k h cells =
        let r = resets_at k h in
        ap (λ l. walk m B 0 l cells) r.1
        ∙ walk_block m B (need_of T) k (variable_count (node_at T k)) (reset_statements (needs T) (node_at T k)) (reset_keeps k h).each r.0 cells

    steps_same : (B : Blocks V) (k : ℕ) → k < length T → (cells : List V) → step_run m B ws k cells ≡ step_of m B T k cells
    steps_same B k h cells =
        let r = steps_at k h in
        ap (λ l. walk m B 0 l cells) r.1
        ∙ walk_block m B (need_of T) k (variable_count (node_at T k)) (step_statements (needs T) (node_at T k) (ordered (node_order T k))) (step_keeps k h).each r.0 cells

    -- the earlier nodes' blocks do the same, and so do those of one node more
    blocks_same : (n : ℕ) → n ≤ length T → word_blocks m ws n ≡ table_blocks m T n
    blocks_same zero l = refl
    blocks_same (suc n) l =
        let ih = blocks_same n (omega arith) in
        let B : Blocks V = table_blocks m T n in
        let h : n < length T = omega arith in
        let resets : (g : ℕ) (cells : List V) → (word_blocks m ws (suc n)).resets g cells ≡ (table_blocks m T (suc n)).resets g cells =
        λ g cells. ap (λ (C : Blocks V). cond (eqb g n) (reset_run m C ws n cells) (C.resets g cells)) ih
        ∙ ap (λ q. cond (eqb g n) q (B.resets g cells)) (resets_same B n h cells) in
        let steps : (g : ℕ) (cells : List V) → (word_blocks m ws (suc n)).steps g cells ≡ (table_blocks m T (suc n)).steps g cells =
        λ g cells. ap (λ (C : Blocks V). cond (eqb g n) (step_run m C ws n cells) (C.steps g cells)) ih
        ∙ ap (λ q. cond (eqb g n) q (B.steps g cells)) (steps_same B n h cells) in
        λ i. record { resets = λ g cells. resets g cells i; steps = λ g cells. steps g cells i }

    runs : Runs m T ws
    runs = record {
      resets = λ k h cells.
          ap (λ (C : Blocks V). reset_run m C ws k cells) (blocks_same k (omega arith)) ∙ resets_same (table_blocks m T k) k h cells;
      steps = λ k h cells.
          ap (λ (C : Blocks V). step_run m C ws k cells) (blocks_same k (omega arith)) ∙ steps_same (table_blocks m T k) k h cells;
    }

pub code_is_sound : CodeIsSound
code_is_sound own T ws b = (sound own T ws b, front_is own T ws b)

pub code_runs_statements : {V : Type 0} (m : Meaning V) → CodeRunsStatements m
code_runs_statements m own T ws b = runs own T ws b m
