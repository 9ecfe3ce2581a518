use mathlib.Core.Logic.{∥∥₁_elim}
use Rattle.std.proofs.Common.{rules}
use Rattle.run.proofs.Sole.{sound_sole}
use Rattle.run.proofs.bound_code.Code.words.Goals as goal

pub returns : goal.returns
returns c = record { value = search rules; sound = ∥∥₁_elim c.args.self.now.sound (sound_sole c.args.self.now.words.now) (λ s. s) }
