use Rattle.std.proofs.Common.{◌∙◌, arith}
use Rattle.table.specs.Syntax.{node_at}
use Rattle.table.specs.Decoding.{table_of}
use Rattle.clocks.proofs.Suffixes.{gives_more, gives_wrong, gives_ended}
use Rattle.clocks.proofs.operands.gives_on.Goals as goal

pub returns-then-not-variable_on : goal.returns-then-not-variable_on
returns-then-not-variable_on c =
    gives_wrong (node_at (table_of c.args.words.now) c.args.k) c.args.clock c.args.words.now c.args.at c.args.count c.gives.i (omega arith)
    _ _ c.give_at.ensures c.gives.invariant c.if-not-variable_on.ensures

pub gives-preserved : goal.gives-preserved
gives-preserved c =
    gives_more (node_at (table_of c.args.words.now) c.args.k) c.args.clock c.args.words.now c.args.at c.args.count c.gives.i (omega arith)
    _ _ c.give_at.ensures c.gives.invariant c.if-not-variable_on.ensures

pub returns : goal.returns
returns c =
    gives_ended (node_at (table_of c.args.words.now) c.args.k) c.args.clock c.args.words.now c.args.at c.args.count c.gives.i (omega arith)
    ∙ c.gives.invariant
