-- What the examples show, computed by the machine.
use Rattle.std.proofs.Common.{◌≡◌, ℕ, zero, suc, ◌+◌, ◌<◌, List, ◌∷◌, Option, refl, ◌∙◌, ap₂, arith}
use Rattle.integers.specs.Set.{integers_meaning}
use Rattle.table.specs.Syntax.{Table}
use Rattle.admission.specs.Keeps.{KeepsRules}
use Rattle.streams.specs.Streams.{Streams}
use Rattle.streams.specs.History.{History, instants, HistoryLong}
use Rattle.streams.specs.Machine.{history_shows, main_machine}
use Rattle.streams.specs.Statements.{main_variables}
use Rattle.streams.proofs.Histories.{machine_shows, streams_unique}
use Rattle.meaning_examples.specs.Examples.{Value, seen, Shows, Examples}
use Rattle.meaning_examples.proofs.Keep.{counter_keeps, slow_keeps, resettable_keeps, gated_keeps, gated_both_keeps, halved_keeps, nested_keeps}

seen_same : (S S' : Streams Value) (y n i : ℕ) → ((j : ℕ) → j < i + n → S j y ≡ S' j y) → seen S y i n ≡ seen S' y i n
seen_same S S' y zero i h = refl
seen_same S S' y (suc n) i h = ap₂ (λ o l. o ∷ l) (h i (omega arith)) (seen_same S S' y n (suc i) (λ j l. h j (omega arith)))

-- a table that keeps the rules shows what its machine does
shows : (T : Table) → KeepsRules integers_meaning T → (h : History Value) → HistoryLong T h → (y : ℕ) → y < main_variables T
    → (vs : List (Option Value)) → seen (history_shows (main_machine integers_meaning T) h) y 0 (instants h) ≡ vs → Shows T h y vs
shows T K h long y l vs e =
    let M : Streams Value = history_shows (main_machine integers_meaning T) h in
    let a = (machine_shows integers_meaning T K).masked h long in
    record {
      some = (M, a);
      each = λ S s. seen_same S M y (instants h) 0 (λ j q. (streams_unique integers_meaning T K).masked h S M s a j y (omega arith) l) ∙ e;
    }

pub examples : Examples
examples = record {
  restarted = shows _ resettable_keeps _ (omega arith) 1 (omega arith) _ refl;
  while_absent = shows _ gated_keeps _ (omega arith) 2 (omega arith) _ refl;
  not_absent = shows _ gated_both_keeps _ (omega arith) 2 (omega arith) _ refl;
  across = shows _ slow_keeps _ (omega arith) 4 (omega arith) _ refl;
  history = shows _ counter_keeps _ (omega arith) 1 (omega arith) _ refl;
  inner = shows _ nested_keeps _ (omega arith) 3 (omega arith) _ refl;
  every_second = shows _ halved_keeps _ (omega arith) 1 (omega arith) _ refl;
}
