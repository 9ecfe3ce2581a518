use Rattle.std.proofs.Common.{◌+◌, ◌*◌}
use Rattle.schedule.proofs.Marks.{no_marks}
use Rattle.schedule.proofs.waits.Waits.none.Goals as goal

pub returns : goal.returns
returns c = λ a b. no_marks 4096 (64 * a + b)
