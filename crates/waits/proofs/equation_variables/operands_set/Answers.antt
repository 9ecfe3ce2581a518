use Rattle.std.proofs.Common.{◌+◌, ◌++◌, get_or, sym, ap, ◌∙◌, subst}
use Rattle.words.specs.declared.kinds.Operand.{Operand}
use Rattle.table.specs.Access.{operands_at}
use Rattle.schedule.specs.Reads.{operand_reads, operands_read}
use Rattle.waits.specs.Members.{OperandSmall}
use Rattle.waits.proofs.Places.{operands_more}
use Rattle.waits.proofs.Sets.{holds_as, holds_swap}
use Rattle.waits.proofs.Small.{operand_in_small}
use Rattle.waits.proofs.equation_variables.operands_set.Goals as goal

pub insert_operand-requires : goal.insert_operand-requires
insert_operand-requires c =
    let F : Operand → Type 0 = λ a. OperandSmall a in
    subst F (sym c.operand_at.ensures) (operand_in_small (get_or c.args.words.now (c.args.at + c.operands.i) 0))

pub operands-preserved : goal.operands-preserved
operands-preserved c =
    let ws = c.args.words.now in
    let l = operands_read (operands_at ws c.args.at c.operands.i) in
    holds_as _ _ _ (ap (λ a. l ++ operand_reads a) c.operand_at.ensures ∙ operands_more ws c.args.at c.operands.i)
    (holds_swap _ (operand_reads c.operand_at.result) l (c.insert_operand.ensures l c.operands.invariant))
