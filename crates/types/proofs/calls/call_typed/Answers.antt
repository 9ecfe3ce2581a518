use Rattle.std.proofs.Common.{arith}
use Rattle.table.specs.Decoding.{table_of}
use Rattle.table.specs.Syntax.{node_at}
use Rattle.types.proofs.Called.{call_decided, call_fails}
use Rattle.types.proofs.Placed.{few_inputs}
use Rattle.types.proofs.calls.call_typed.Goals as goal

pub overflow_add-first : goal.overflow_add-first
overflow_add-first g c =
    let few = few_inputs c.args.words.now c.args.outline.now c.requires.described c.args.g (omega arith) in
    omega (arith, c.min-first.ensures, c.requires.described.spells.short, few, c.input_count.ensures)

pub gives_have-requires : goal.gives_have-requires
gives_have-requires g c =
    let few = few_inputs c.args.words.now c.args.outline.now c.requires.described c.args.g (omega arith) in
    record {
      described = c.requires.described;
      called = omega arith;
      place = omega (arith, c.min-first.ensures, c.requires.described.spells.short, few, c.input_count.ensures);
    }

pub returns-then-operands_have : goal.returns-then-operands_have
returns-then-operands_have g c =
    let T = table_of c.args.words.now in
    call_decided g.S.OperatorSet.meaning T (node_at T c.args.k) c.args.k c.args.g c.args.restart c.args.words.now c.args.at c.requires.called c.min-first.result c.min-first.ensures c.if-not-restart_boolean.ensures c.if-operands_have.ensures c.input_count.result c.input_count.ensures c.gives_have.result c.gives_have.ensures

pub returns-else-operands_have : goal.returns-else-operands_have
returns-else-operands_have g c =
    let T = table_of c.args.words.now in
    call_fails g.S.OperatorSet.meaning T (node_at T c.args.k) c.args.k c.args.g c.args.restart c.args.words.now c.args.at c.requires.called c.min-first.result c.min-first.ensures c.if-not-restart_boolean.ensures c.if-operands_have.ensures c.operands_have.result c.if-operands_have.false
