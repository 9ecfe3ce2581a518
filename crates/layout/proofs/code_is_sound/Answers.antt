use Rattle.layout.proofs.Whole.{code_is_sound}
use Rattle.layout.proofs.code_is_sound.Goals as goal

pub returns : goal.returns
returns c = code_is_sound
