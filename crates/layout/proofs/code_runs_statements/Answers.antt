use Rattle.layout.proofs.Whole.{code_runs_statements}
use Rattle.layout.proofs.code_runs_statements.Goals as goal

pub returns : goal.returns
returns g c = code_runs_statements g.S.OperatorSet.meaning
