use Rattle.std.proofs.Common.{arith}
use Rattle.clocks.proofs.Limits.{few_ports}
use Rattle.clocks.proofs.chains.port_count.Goals as goal

pub overflow_add-result : goal.overflow_add-result
overflow_add-result c =
    let few = few_ports c.args.words.now c.args.outline.now c.requires c.args.k in
    omega (arith, few.0, few.1, c.input_count.ensures, c.output_count.ensures)
