use Rattle.std.proofs.Common.{sym, arith}
use Rattle.table.specs.Syntax.{equation_at, equation_count, node_at}
use Rattle.table.specs.Decoding.{table_of}
use Rattle.rules.specs.Clocks.{equation_clocked}
use Rattle.rules.proofs.First.{bad_at, bad_more}
use Rattle.clocks.proofs.nodes.first_unclocked_equation.Goals as goal

pub returns-then-not-equation_clocked : goal.returns-then-not-equation_clocked
returns-then-not-equation_clocked c =
    let N = node_at (table_of c.args.words.now) c.args.k in
    sym (bad_at (λ e. equation_clocked N (equation_at N e)) c.equations.e (equation_count N) (omega (arith, c.equation_count-e-end.ensures)) c.equations.invariant (sym {b = equation_clocked N (equation_at N c.equations.e)} c.if-not-equation_clocked.ensures))

pub equations-preserved : goal.equations-preserved
equations-preserved c =
    let N = node_at (table_of c.args.words.now) c.args.k in
    bad_more (λ e. equation_clocked N (equation_at N e)) c.equations.e c.equations.invariant (sym {b = equation_clocked N (equation_at N c.equations.e)} c.if-not-equation_clocked.ensures)
