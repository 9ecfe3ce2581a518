use Rattle.admission.proofs.Exactly.{admission_stands}
use Rattle.admission.proofs.admission_stands.Goals as goal

pub returns : goal.returns
returns g c = admission_stands g.S.OperatorSet.meaning
