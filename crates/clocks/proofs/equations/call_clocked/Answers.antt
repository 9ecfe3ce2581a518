use Rattle.table.specs.Syntax.{node_at}
use Rattle.table.specs.Decoding.{table_of}
use Rattle.clocks.proofs.Suffixes.{call_held}
use Rattle.clocks.proofs.equations.call_clocked.Goals as goal

pub returns : goal.returns
returns c =
    call_held c.args.words.now (node_at (table_of c.args.words.now) c.args.k) c.args.called c.args.at _ _ c.min.ensures c.call_within.ensures
