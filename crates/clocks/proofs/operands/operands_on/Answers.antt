use Rattle.std.proofs.Common.{◌∙◌, arith}
use Rattle.table.specs.Syntax.{node_at}
use Rattle.table.specs.Decoding.{table_of}
use Rattle.clocks.proofs.Suffixes.{operands_more, operands_wrong, operands_ended}
use Rattle.clocks.proofs.operands.operands_on.Goals as goal

pub returns-then-not-operand_on : goal.returns-then-not-operand_on
returns-then-not-operand_on c =
    operands_wrong (node_at (table_of c.args.words.now) c.args.k) c.args.clock c.args.words.now c.args.at c.args.count c.operands.i (omega arith)
    _ _ c.operand_at.ensures c.operands.invariant c.if-not-operand_on.ensures

pub operands-preserved : goal.operands-preserved
operands-preserved c =
    operands_more (node_at (table_of c.args.words.now) c.args.k) c.args.clock c.args.words.now c.args.at c.args.count c.operands.i (omega arith)
    _ _ c.operand_at.ensures c.operands.invariant c.if-not-operand_on.ensures

pub returns : goal.returns
returns c =
    operands_ended (node_at (table_of c.args.words.now) c.args.k) c.args.clock c.args.words.now c.args.at c.args.count c.operands.i (omega arith)
    ∙ c.operands.invariant
