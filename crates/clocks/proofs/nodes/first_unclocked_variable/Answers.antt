use Rattle.std.proofs.Common.{sym, arith}
use Rattle.table.specs.Syntax.{node_at, variable_count}
use Rattle.table.specs.Decoding.{table_of}
use Rattle.rules.specs.Clocks.{variable_clocked}
use Rattle.rules.proofs.First.{bad_at, bad_more}
use Rattle.clocks.proofs.nodes.first_unclocked_variable.Goals as goal

pub returns-then-not-variable_clocked : goal.returns-then-not-variable_clocked
returns-then-not-variable_clocked c =
    let N = node_at (table_of c.args.words.now) c.args.k in
    sym (bad_at (variable_clocked N) c.variables.x (variable_count N) (omega (arith, c.variable_count-x-end.ensures)) c.variables.invariant (sym {b = variable_clocked N c.variables.x} c.if-not-variable_clocked.ensures))

pub variables-preserved : goal.variables-preserved
variables-preserved c =
    let N = node_at (table_of c.args.words.now) c.args.k in
    bad_more (variable_clocked N) c.variables.x c.variables.invariant (sym {b = variable_clocked N c.variables.x} c.if-not-variable_clocked.ensures)
