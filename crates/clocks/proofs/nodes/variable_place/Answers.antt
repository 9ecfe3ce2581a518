use Rattle.std.proofs.Common.{arith}
use Rattle.clocks.proofs.Limits.{variable_within}
use Rattle.clocks.proofs.nodes.variable_place.Goals as goal

pub overflow_cast-result-2 : goal.overflow_cast-result-2
overflow_cast-result-2 c =
    let d = c.requires.described in
    let small = variable_within c.args.words.now c.args.outline.now d c.args.k c.requires.node c.args.x c.requires.within in
    omega (arith, small, (d.spells.outlines.each c.args.k c.requires.node).start)
