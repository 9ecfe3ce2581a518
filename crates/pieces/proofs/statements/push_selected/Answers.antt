use Rattle.pieces.proofs.Adding.{adds_join}
use Rattle.pieces.proofs.statements.push_selected.Goals as goal

pub returns : goal.returns
returns c = adds_join c.push_clock.ensures c.push_select.ensures
