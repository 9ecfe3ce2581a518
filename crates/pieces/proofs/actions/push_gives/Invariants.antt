use Rattle.std.proofs.Common.{map}
use Rattle.instructions.specs.declared.code_word.CodeWord.TheVariants.{Give}
use Rattle.table.specs.Access.{gives_at}
use Rattle.pieces.specs.Holding.{Adds}
use Rattle.pieces.proofs.actions.push_gives.Given as goal

abbrev pub invariant-gives : goal.invariant-gives
invariant-gives l = Adds l.initial.piece l.piece (map Give (gives_at l.words l.at l.i))
