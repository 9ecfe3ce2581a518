use Rattle.std.proofs.Common.{arith}
use Rattle.table.specs.Decoding.{table_of}
use Rattle.table.specs.Syntax.{node_at}
use Rattle.types.proofs.Called.{operands_more, operands_fail, operands_end}
use Rattle.types.proofs.calls.operands_have.Goals as goal

pub returns-then-not-operand_suits : goal.returns-then-not-operand_suits
returns-then-not-operand_suits g c =
    let T = table_of c.args.words.now in
    let G = node_at T c.args.g in
    operands_fail g.S.OperatorSet.meaning (node_at T c.args.k) G c.args.words.now c.args.at G.inputs c.inputs.i (omega (arith, c.input_count-i-end.ensures)) c.inputs.invariant c.if-not-operand_suits.ensures

pub inputs-preserved : goal.inputs-preserved
inputs-preserved g c =
    let T = table_of c.args.words.now in
    let G = node_at T c.args.g in
    operands_more g.S.OperatorSet.meaning (node_at T c.args.k) G c.args.words.now c.args.at G.inputs c.inputs.i (omega (arith, c.input_count-i-end.ensures)) c.inputs.invariant c.if-not-operand_suits.ensures

pub returns : goal.returns
returns g c =
    let T = table_of c.args.words.now in
    let G = node_at T c.args.g in
    operands_end g.S.OperatorSet.meaning (node_at T c.args.k) G c.args.words.now c.args.at G.inputs c.inputs.i (omega (arith, c.input_count-i-end.ensures)) c.inputs.invariant
