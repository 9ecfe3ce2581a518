use Rattle.std.proofs.Common.{true, sym, arith}
use Rattle.std.proofs.lemmas.List.{set_past}
use Rattle.run.proofs.calls_in_instant.mark.Goals as goal

pub returns-else-input-lt16 : goal.returns-else-input-lt16
returns-else-input-lt16 c = sym (set_past c.args.offered.now c.args.input true (omega arith))
