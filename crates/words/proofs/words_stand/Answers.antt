use Rattle.words.proofs.Format.{words_stand}
use Rattle.words.proofs.words_stand.Goals as goal

pub returns : goal.returns
returns c = words_stand
