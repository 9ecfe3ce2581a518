use Rattle.drawing.proofs.Held.{lent}
use Rattle.drawing.specs.Held.{words_of}
use Rattle.drawing.proofs.drawing.Drawing.plan.Goals as goal

pub returns : goal.returns
returns c =
    let d = c.args.self.now in
    let value = c.as_ref.ensures.value in
    record { value = value; planned = lent (words_of d) d.plan c.as_ref.result d.planned value }
