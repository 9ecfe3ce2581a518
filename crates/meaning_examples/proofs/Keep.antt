-- The tables of the examples keep the rules.
use Rattle.std.proofs.Common.{ℕ, zero, suc, ◌<◌, ◌≤◌, List, [], ◌∷◌, get_or, take, refl, arith}
use Rattle.integers.specs.Set.{integers_meaning}
use Rattle.table.specs.Syntax.{Node, Table, node_at}
use Rattle.table.specs.Spelling.{NodeKeeps}
use Rattle.schedule.specs.Need.{needs}
use Rattle.admission.specs.Keeps.{KeepsNode, KeepsRules}
use Rattle.meaning_examples.specs.Tables.{counter, resettable, gated, gated_both, slow, nested, halved}
use Rattle.meaning_examples.proofs.Checked.{Passes, passes}

only : (P : ℕ → Type 0) → P 0 → (k : ℕ) → k < 1 → P k
only P p zero l = p
only P p (suc k) l = absurd (omega arith)

both : (P : ℕ → Type 0) → P 0 → P 1 → (k : ℕ) → k < 2 → P k
both P p q zero l = p
both P p q (suc zero) l = q
both P p q (suc (suc k)) l = absurd (omega arith)

three : (P : ℕ → Type 0) → P 0 → P 1 → P 2 → (k : ℕ) → k < 3 → P k
three P p q r zero l = p
three P p q r (suc zero) l = q
three P p q r (suc (suc zero)) l = r
three P p q r (suc (suc (suc k))) l = absurd (omega arith)

alone : (N : Node) (os : List ℕ) → NodeKeeps [] N → Passes integers_meaning [] N os → get_or (needs (N ∷ [])) 0 0 ≤ 4096 → KeepsRules integers_meaning (N ∷ [])
alone N os l p n =
    let T : Table = N ∷ [] in
    record {
      limits = record { count = omega arith; nodes = only (λ k. NodeKeeps (take k T) (node_at T k)) l };
      nodes = only (λ k. KeepsNode integers_meaning (take k T) (node_at T k)) (passes integers_meaning [] N os p);
      need = only (λ k. get_or (needs T) k 0 ≤ 4096) n;
    }

-- behind the counter
second : (N : Node) (os : List ℕ) → NodeKeeps (counter ∷ []) N → Passes integers_meaning (counter ∷ []) N os → get_or (needs (counter ∷ N ∷ [])) 1 0 ≤ 4096
    → KeepsRules integers_meaning (counter ∷ N ∷ [])
second N os l p n =
    let T : Table = counter ∷ N ∷ [] in
    record {
      limits = record { count = omega arith; nodes = both (λ k. NodeKeeps (take k T) (node_at T k)) (omega arith) l };
      nodes = both (λ k. KeepsNode integers_meaning (take k T) (node_at T k))
          (passes integers_meaning [] counter (0 ∷ 1 ∷ []) (refl, refl, refl, refl, refl, refl, refl)) (passes integers_meaning (counter ∷ []) N os p);
      need = both (λ k. get_or (needs T) k 0 ≤ 4096) (omega arith) n;
    }

pub counter_keeps : KeepsRules integers_meaning (counter ∷ [])
counter_keeps = alone counter (0 ∷ 1 ∷ []) (omega arith) (refl, refl, refl, refl, refl, refl, refl) (omega arith)

pub slow_keeps : KeepsRules integers_meaning (slow ∷ [])
slow_keeps = alone slow (2 ∷ 1 ∷ 0 ∷ []) (omega arith) (refl, refl, refl, refl, refl, refl, refl) (omega arith)

pub resettable_keeps : KeepsRules integers_meaning (counter ∷ resettable ∷ [])
resettable_keeps = second resettable (0 ∷ []) (omega arith) (refl, refl, refl, refl, refl, refl, refl) (omega arith)

pub gated_keeps : KeepsRules integers_meaning (counter ∷ gated ∷ [])
gated_keeps = second gated (1 ∷ 0 ∷ []) (omega arith) (refl, refl, refl, refl, refl, refl, refl) (omega arith)

pub gated_both_keeps : KeepsRules integers_meaning (counter ∷ gated_both ∷ [])
gated_both_keeps = second gated_both (2 ∷ 1 ∷ 0 ∷ []) (omega arith) (refl, refl, refl, refl, refl, refl, refl) (omega arith)

pub halved_keeps : KeepsRules integers_meaning (counter ∷ halved ∷ [])
halved_keeps =
    second halved (2 ∷ 3 ∷ 0 ∷ 1 ∷ [])
    (record { inputs = omega arith; outputs = omega arith; count = omega arith; variables = omega arith; equation_count = omega arith; equations = omega arith })
    (refl, refl, refl, refl, refl, refl, refl) (omega arith)

pub nested_keeps : KeepsRules integers_meaning (counter ∷ resettable ∷ nested ∷ [])
nested_keeps =
    let T : Table = counter ∷ resettable ∷ nested ∷ [] in
    record {
      limits = record { count = omega arith; nodes = three (λ k. NodeKeeps (take k T) (node_at T k)) (omega arith) (omega arith) (omega arith) };
      nodes = three (λ k. KeepsNode integers_meaning (take k T) (node_at T k))
          (passes integers_meaning [] counter (0 ∷ 1 ∷ []) (refl, refl, refl, refl, refl, refl, refl))
          (passes integers_meaning (counter ∷ []) resettable (0 ∷ []) (refl, refl, refl, refl, refl, refl, refl))
          (passes integers_meaning (counter ∷ resettable ∷ []) nested (1 ∷ 2 ∷ 0 ∷ []) (refl, refl, refl, refl, refl, refl, refl));
      need = three (λ k. get_or (needs T) k 0 ≤ 4096) (omega arith) (omega arith) (omega arith);
    }
