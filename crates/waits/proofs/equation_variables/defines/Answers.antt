use Rattle.std.proofs.Common.{◌≡◌, [], ◌∷◌, ap, subst, inl, inr}
use Rattle.table.specs.Access.{Draws}
use Rattle.table.specs.Decoding.{table_of}
use Rattle.table.specs.Syntax.{equation_at, node_at}
use Rattle.table.specs.declared.drawn.Drawn.{Drawn}
use Rattle.rules.specs.Definitions.{defined}
use Rattle.waits.proofs.Small.{one_small}
use Rattle.waits.proofs.equation_variables.defines.Goals as goal

pub only-requires : goal.only-requires
only-requires c =
    let ws = c.args.words.now in
    let E = equation_at (node_at (table_of ws) c.args.k) c.args.e in
    let x = c.in-Operate.x in
    let F : Drawn → Type 0 = λ D. Draws ws (table_of ws) c.args.k D E in
    let one : defined E ≡ x ∷ [] =
    elim c.in-Operate.is [
      | inl p ↦ ap defined (subst F p.3 c.equation.ensures)
      | inr q ↦ elim q [
        | inl p ↦ ap defined (subst F p.1 c.equation.ensures)
        | inr r ↦ elim r [
          | inl p ↦ ap defined (subst F p.3 c.equation.ensures)
          | inr t ↦ elim t [
            | inl p ↦ ap defined (subst F p.3 c.equation.ensures)
            | inr p ↦ ap defined (subst F p.2 c.equation.ensures)
          ]
        ]
      ]
    ] in
    one_small ws c.args.outline.now c.requires.described c.args.k c.requires.node c.args.e c.requires.equation x one
