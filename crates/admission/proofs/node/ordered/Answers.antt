use Rattle.std.proofs.Common.{Some, None, ap, arith}
use Rattle.schedule.specs.Placed.{sequence}
use Rattle.table.specs.Syntax.{node_at}
use Rattle.table.specs.Decoding.{table_of}
use Rattle.admission.specs.declared.faults.OrderFault.TheVariants.{NoOrder}
use Rattle.admission.specs.Verdict.{site}
use Rattle.admission.proofs.Ordering.{by_marks, few_equations}
use Rattle.admission.proofs.node.ordered.Goals as goal

pub returns-in-Some : goal.returns-in-Some
returns-in-Some c =
    let ws = c.args.words.now in
    let few = few_equations ws c.args.outline.now c.requires.described c.args.k c.requires.node in
    by_marks (node_at (table_of ws) c.args.k) c.fill.new.marks c.equation_count.result (Some (sequence c.in-Some.order))
    c.fill.ensures c.equation_count.ensures (c.in-Some.ensures.value (omega (arith, few, c.equation_count.ensures)))

pub returns-in-None : goal.returns-in-None
returns-in-None c =
    let ws = c.args.words.now in
    let k = c.args.k in
    let few = few_equations ws c.args.outline.now c.requires.described k c.requires.node in (
      by_marks (node_at (table_of ws) k) c.fill.new.marks c.equation_count.result None
          c.fill.ensures c.equation_count.ensures (c.in-None.ensures.value (omega (arith, few, c.equation_count.ensures))),
      ap (λ p. NoOrder (site k p)) (c.requires.described.spells.outlines.each k c.requires.node).start,
    )
