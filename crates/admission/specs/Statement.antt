-- A table is admitted exactly when it keeps the rules.
use Rattle.std.specs.Prelude.{◌≡◌, ℕ, ◌<◌, true, List, length, is_some, None}
use Rattle.opset.specs.Meaning.{Meaning}
use Rattle.table.specs.Syntax.{Table, node_at, equation_count}
use Rattle.table.specs.Spelling.{KeepsLimits}
use Rattle.schedule.specs.Reads.{before}
use Rattle.schedule.specs.Order.{Order}
use Rattle.admission.specs.Keeps.{KeepsRules}
use Rattle.admission.specs.Verdict.{first_fault, node_order}

module _ {V : Type 0} (m : Meaning V) where
  -- of a table within the limits of its format
  pub record Exactly (T : Table) : Type 0 where
    pub admitted : KeepsRules m T → first_fault m T (length T) ≡ None
    pub only : first_fault m T (length T) ≡ None → KeepsRules m T
    -- an order of a node's equations exists exactly when one is found
    pub ordered : (k : ℕ) → k < length T → (os : List ℕ) → Order (before (node_at T k)) (equation_count (node_at T k)) os → is_some (node_order T k) ≡ true
    pub found : (k : ℕ) → k < length T → is_some (node_order T k) ≡ true → (os : List ℕ) × Order (before (node_at T k)) (equation_count (node_at T k)) os

  abbrev pub AdmissionStands : Type 0
  AdmissionStands = (T : Table) → KeepsLimits T → Exactly T
