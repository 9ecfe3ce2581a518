use Rattle.std.proofs.Common.{◌+◌, length, arith}
use Rattle.waits.proofs.Places.{gives_past, operands_past}
use Rattle.waits.proofs.equation_variables.within.Goals as goal

pub returns-else-at-words : goal.returns-else-at-words
returns-else-at-words c =
    let ws = c.args.words.now in
    record {
      bound = omega arith;
      operands = λ n. operands_past ws n (length ws) c.args.at (omega arith) (omega arith);
      gives = λ i n. gives_past ws n (length ws + i) (c.args.at + i) (omega arith) (omega arith);
    }
