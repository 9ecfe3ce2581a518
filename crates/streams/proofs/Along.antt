-- Induction along a node's equations: what holds of the inputs, and of what an equation defines if of all that it uses, holds of each variable.
use Rattle.std.proofs.Common.{◌≡◌, ℕ, ◌<◌, true, ltb, refl, inl, inr, arith}
use Rattle.std.proofs.lemmas.Bool.{cases_Bool, ltb-true}
use Rattle.opset.specs.Meaning.{Meaning}
use Rattle.table.specs.Syntax.{Node, Table, variable_count}
use Rattle.table.specs.Spelling.{NodeKeeps}
use Rattle.rules.specs.Definitions.{defined, is_in}
use Rattle.schedule.specs.Reads.{equation_at}
use Rattle.admission.specs.Keeps.{equation_count, KeepsNode}
use Rattle.streams.specs.Machine.{definer}
use Rattle.streams.proofs.Places.{strongly}
use Rattle.streams.proofs.Uses.{uses}
use Rattle.streams.proofs.Facts.{uses_in, has_definer}
use Rattle.streams.proofs.Rank.{rank_of, ranked}

module _ {V : Type 0} (m : Meaning V) (earlier : Table) (N : Node) (L : NodeKeeps earlier N) (K : KeepsNode m earlier N) where
  abbrev rank : ℕ → ℕ
  rank = rank_of N K.ordered.0

  pub along : (P : ℕ → Type 0) → ((x : ℕ) → x < N.inputs → P x)
      → ((j y : ℕ) → j < equation_count N → is_in y (defined (equation_at N j)) ≡ true → ((z : ℕ) → is_in z (uses N (equation_at N j)) ≡ true → P z) → P y)
      → (y : ℕ) → y < variable_count N → P y
  along P input step y l =
      strongly (λ r. (y : ℕ) → y < variable_count N → rank y ≡ r → P y)
      (λ r more y l e. elim (cases_Bool (ltb y N.inputs)) [
        | inl t ↦ input y (ltb-true y N.inputs t)
        | inr f ↦
            let d = has_definer m earlier N L K y l f in
            step (definer N y) y d.0 d.1 (λ z i.
            let q = (ranked m earlier N L K).falls (definer N y) y z d.0 d.1 i in
            more (rank z) (omega arith) z (uses_in m earlier N L K (definer N y) z d.0 i) refl)
      ])
      (rank y) y l refl
