use Rattle.std.proofs.Common.{arith}
use Rattle.table.specs.Decoding.{table_of}
use Rattle.table.specs.Syntax.{node_at}
use Rattle.types.proofs.Called.{gives_more, gives_fail, gives_end}
use Rattle.types.proofs.calls.gives_have.Goals as goal

pub returns-then-not-give_suits : goal.returns-then-not-give_suits
returns-then-not-give_suits g c =
    let T = table_of c.args.words.now in
    let G = node_at T c.args.g in
    gives_fail g.S.OperatorSet.meaning (node_at T c.args.k) G c.args.words.now c.args.at G.outputs G.inputs c.outputs.i (omega (arith, c.output_count-i-end.ensures)) c.outputs.invariant c.if-not-give_suits.ensures

pub outputs-preserved : goal.outputs-preserved
outputs-preserved g c =
    let T = table_of c.args.words.now in
    let G = node_at T c.args.g in
    gives_more g.S.OperatorSet.meaning (node_at T c.args.k) G c.args.words.now c.args.at G.outputs G.inputs c.outputs.i (omega (arith, c.output_count-i-end.ensures)) c.outputs.invariant c.if-not-give_suits.ensures

pub returns : goal.returns
returns g c =
    let T = table_of c.args.words.now in
    let G = node_at T c.args.g in
    gives_end g.S.OperatorSet.meaning (node_at T c.args.k) G c.args.words.now c.args.at G.outputs G.inputs c.outputs.i (omega (arith, c.output_count-i-end.ensures)) c.outputs.invariant
