use Rattle.std.proofs.Common.{refl}
use Rattle.admission.proofs.Sole.{planned}
use Rattle.admission.proofs.admitted.Admitted.plan.Goals as goal

pub returns : goal.returns
returns c =
    let a = c.args.self.now in
    record { value = refl; planned = planned a.words.now a.plan.now a.planned }
