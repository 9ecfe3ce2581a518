use Rattle.table.specs.Decoding.{table_of}
use Rattle.table.specs.Syntax.{equation_at, node_at}
use Rattle.waits.proofs.order.comes_before.Goals as goal

pub returns : goal.returns
returns c =
    let N = node_at (table_of c.args.words.now) c.args.k in
    c.goes_first.ensures N (equation_at N c.args.i) (equation_at N c.args.j) c.links_of.ensures c.links_of-2.ensures
