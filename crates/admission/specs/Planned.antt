-- A table that was admitted, with its plan.
use Rattle.std.specs.Prelude.{ℕ, List}
use Rattle.table.specs.Decoding.{table_of}
use Rattle.table.specs.Access.{Described}
use Rattle.admission.specs.declared.found.Plan.{Plan}
use Rattle.admission.specs.Keeps.{KeepsShape}
use Rattle.admission.specs.Admission.{Plans}

pub record Planned (ws : List ℕ) (p : Plan) : Type 0 where
  pub described : Described ws p.outline
  pub plans : Plans (table_of ws) p
  pub shape : KeepsShape (table_of ws)
