use Rattle.pieces.proofs.Adding.{adds_join}
use Rattle.pieces.proofs.actions.push_select.Goals as goal

pub returns : goal.returns
returns c =
    adds_join c.push.ensures (adds_join c.push-2.ensures
    (adds_join c.push-3.ensures (adds_join c.push-4.ensures (adds_join c.push-5.ensures c.push-6.ensures))))
