use Rattle.std.proofs.Common.{◌+◌, ◌<◌, length, ap, ◌∙◌, arith}
use Rattle.std.proofs.lemmas.List.{take_all}
use Rattle.table.specs.Decoding.{table_of}
use Rattle.table.specs.Syntax.{node_at, variable_count}
use Rattle.schedule.specs.Need.{calls_need}
use Rattle.needs.proofs.Sums.{calls_more}
use Rattle.needs.proofs.node_need.Goals as goal

pub equations-preserved : goal.equations-preserved
equations-preserved c =
    let es = (node_at (table_of c.args.words.now) c.args.k).equations in
    let l : c.equations.e < length es = omega (arith, c.equation_count-e-end.ensures) in
    let m = calls_more c.args.needs.now es c.equations.e l in
    (omega (arith, c.equations.invariant.0, c.equation_need-need.ensures.value, m), omega (arith, c.equations.invariant.1, c.equation_need-need.ensures.small))

pub returns : goal.returns
returns c =
    let N = node_at (table_of c.args.words.now) c.args.k in
    let e = take_all c.equations.e N.equations (omega (arith, c.equation_count-e-end.ensures)) in
    c.equations.invariant.0 ∙ ap (λ l. variable_count N + calls_need c.args.needs.now l) e
