use Rattle.std.proofs.Common.{◌+◌, ◌*◌, sym, ap, arith}
use Rattle.std.proofs.lemmas.List.{get_or_past}
use Rattle.words.specs.Bits.{field}
use Rattle.execution.specs.Sound.{nodes_in}
use Rattle.run.proofs.front.input_type.Goals as goal

pub returns-then-i-words : goal.returns-then-i-words
returns-then-i-words c =
    sym (ap (λ w. field w 24 4) (get_or_past c.args.words.now (2 + 3 * nodes_in c.args.words.now + c.args.i) 0 (omega arith)))
