use Rattle.std.proofs.Common.{false, sym, ◌∙◌, arith}
use Rattle.std.proofs.lemmas.List.{get_or_past}
use Rattle.std.proofs.lemmas.Bool.{le-ltb}
use Rattle.run.proofs.refusing.was_offered.Goals as goal

pub returns-else-input-lt16 : goal.returns-else-input-lt16
returns-else-input-lt16 c = le-ltb c.args.input 16 c.if-input-lt16.false ∙ sym (get_or_past c.args.offered.now c.args.input false (omega arith))
