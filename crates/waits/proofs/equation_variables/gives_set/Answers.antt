use Rattle.std.proofs.Common.{[], ◌∷◌, ◌++◌, ap, ◌∙◌, arith}
use Rattle.table.specs.Access.{gives_at}
use Rattle.waits.proofs.Places.{gives_more}
use Rattle.waits.proofs.Sets.{holds_as, holds_swap}
use Rattle.waits.proofs.equation_variables.gives_set.Goals as goal

pub insert-requires : goal.insert-requires
insert-requires c = omega (arith, c.give_at.ensures)

pub gives-preserved : goal.gives-preserved
gives-preserved c =
    let ws = c.args.words.now in
    let l = gives_at ws c.args.at c.gives.i in
    holds_as _ _ _ (ap (λ y. l ++ y ∷ []) c.give_at.ensures ∙ gives_more ws c.args.at c.gives.i)
    (holds_swap _ (c.give_at.result ∷ []) l (c.insert.ensures l c.gives.invariant))
