use Rattle.instructions.proofs.Format.{code_words_stand}
use Rattle.instructions.proofs.code_words_stand.Goals as goal

pub returns : goal.returns
returns c = code_words_stand
