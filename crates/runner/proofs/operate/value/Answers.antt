use Rattle.std.proofs.Common.{◌<◌, length, sym, refl, ap, ◌∙◌, rules}
use Rattle.std.proofs.lemmas.Option.{slice_get_read}
use Rattle.std.specs.List.{slice_get}
use Rattle.execution.specs.Words.{value_in}
use Rattle.runner.proofs.Readings.{by_kind}
use Rattle.runner.proofs.operate.value.Goals as goal

pub returns-then-kind-eq-TAKE : goal.returns-then-kind-eq-TAKE
returns-then-kind-eq-TAKE g c =
    let cells = c.args.cells.now in
    let x = c.variable.result in
    let e = by_kind c.args.w 9 (sym c.kind.ensures ∙ c.if-kind-eq-TAKE.true) in
    let l : x < length cells = search rules in
    sym (ap (value_in g.S.OperatorSet.meaning cells) e ∙ ap (slice_get cells) (sym c.variable.ensures)
    ∙ slice_get_read cells (length cells) x c.index-cells-variable.result refl l c.index-cells-variable.is)
