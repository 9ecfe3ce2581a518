use Rattle.std.proofs.Common.{false}
use Rattle.std.proofs.lemmas.List.{get_or-replicate}
use Rattle.definitions.proofs.tally.Tally.new.Goals as goal

pub returns : goal.returns
returns c = record { counts = λ x h. get_or-replicate 64 x 0 0 h; delays = λ x h. get_or-replicate 64 x false false h }
