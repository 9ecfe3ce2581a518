use Rattle.std.proofs.Common.{arith}
use Rattle.clocks.proofs.Limits.{few_ports}
use Rattle.clocks.proofs.equations.call_within.Goals as goal

pub overflow_add-gives : goal.overflow_add-gives
overflow_add-gives c =
    let few = few_ports c.args.words.now c.args.outline.now c.requires.described c.args.called in
    omega (arith, few.0, c.input_count-inputs.ensures, c.requires.within)

pub operands_on-requires : goal.operands_on-requires
operands_on-requires c =
    let few = few_ports c.args.words.now c.args.outline.now c.requires.described c.args.called in
    record { described = c.requires.described; within = omega (arith, few.0, c.input_count-inputs.ensures, c.requires.within) }

pub gives_on-requires : goal.gives_on-requires
gives_on-requires c =
    let few = few_ports c.args.words.now c.args.outline.now c.requires.described c.args.called in
    record { described = c.requires.described; within = omega (arith, few.0, few.1, c.input_count-inputs.ensures, c.output_count-outputs.ensures, c.requires.within) }
