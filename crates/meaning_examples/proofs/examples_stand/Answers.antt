use Rattle.meaning_examples.proofs.Stand.{examples}
use Rattle.meaning_examples.proofs.examples_stand.Goals as goal

pub returns : goal.returns
returns c = examples
