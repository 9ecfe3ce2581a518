use Rattle.std.proofs.Common.{sym, ap, arith}
use Rattle.table.specs.Syntax.{variable_count}
use Rattle.table.proofs.Accessed.{no_node, ports_count}
use Rattle.table.proofs.access.variable_count.Goals as goal

pub returns-then-k-outline : goal.returns-then-k-outline
returns-then-k-outline c = sym (ap variable_count (no_node c.args.words.now c.args.outline.now c.requires c.args.k (omega arith)))

pub returns : goal.returns
returns c =
    let ws = c.args.words.now in
    let o = c.args.outline.now in
    let e = c.node_ports-ports.ensures in
    let n = ports_count ws o c.requires c.args.k (omega (arith, c.requires.spells.outlines.nodes)) in
    omega (arith, ap (λ p. p.inputs) e, ap (λ p. p.outputs) e, ap (λ p. p.locals) e, n)
