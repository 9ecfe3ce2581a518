use Rattle.std.proofs.Common.{map}
use Rattle.instructions.specs.declared.code_word.CodeWord.TheVariants.{Operand as With}
use Rattle.table.specs.Access.{operands_at}
use Rattle.pieces.specs.Holding.{Adds}
use Rattle.pieces.proofs.actions.push_operands.Given as goal

abbrev pub invariant-operands : goal.invariant-operands
invariant-operands l = Adds l.initial.piece l.piece (map With (operands_at l.words l.at l.i))
