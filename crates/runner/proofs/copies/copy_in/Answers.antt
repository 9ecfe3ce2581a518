use Rattle.std.proofs.Common.{◌+◌, ◌<◌, ◌≤◌, length, get_or, drop, sym, refl, ap, ◌∙◌, arith, rules}
use Rattle.execution.specs.Cells.{stored}
use Rattle.execution.specs.Words.{operands_in, program}
use Rattle.runner.proofs.Copying.{no_operand, operands_copied, take_cell, take_place, take_copied, literal_place, literal_copied}
use Rattle.runner.proofs.copies.copy_in.Goals as goal
use Rattle.runner.proofs.copies.copy_in.Goals.{in-9, in-10+in-Some, in-10+in_default-literal}

pub offset_bounds-cells-variable : goal.offset_bounds-cells-variable
offset_bounds-cells-variable g c =
    let here : c.args.p + c.operands.i < length c.args.words.now = omega (arith, c.operands.invariant.count, c.requires.behind) in
    let l = take_cell g.S.OperatorSet.meaning c.args.words.now c.args.cells.now c.operands.cells c.args.p c.args.at c.operands.i (get_or c.args.words.now (c.args.p + c.operands.i) 0) here refl c.operands.invariant (sym c.kind.ensures ∙ c.in-9.is) in
    let i : c.variable.result < length c.operands.cells = omega (arith, l, c.variable.ensures) in search rules

pub bounds-cells-variable : goal.bounds-cells-variable
bounds-cells-variable g c =
    let here : c.args.p + c.operands.i < length c.args.words.now = omega (arith, c.operands.invariant.count, c.requires.behind) in
    let l = take_cell g.S.OperatorSet.meaning c.args.words.now c.args.cells.now c.operands.cells c.args.p c.args.at c.operands.i (get_or c.args.words.now (c.args.p + c.operands.i) 0) here refl c.operands.invariant (sym c.kind.ensures ∙ c.in-9.is) in
    omega (arith, l, c.variable.ensures)

pub bounds-cells-at : goal.bounds-cells-at
bounds-cells-at g c =
    let here : c.args.p + c.operands.i < length c.args.words.now = omega (arith, c.operands.invariant.count, c.requires.behind) in
    let room : c.args.at + length (operands_in (drop c.args.p (program c.args.words.now))) ≤ length c.operands.cells = omega (arith, c.requires.room, c.operands.auto.cells) in
    take_place g.S.OperatorSet.meaning c.args.words.now c.args.cells.now c.operands.cells c.args.p c.args.at c.operands.i (get_or c.args.words.now (c.args.p + c.operands.i) 0) here refl c.operands.invariant (sym c.kind.ensures ∙ c.in-9.is) room

pub bounds-cells-at-in-Some : goal.bounds-cells-at-in-Some
bounds-cells-at-in-Some g c =
    let here : c.args.p + c.operands.i < length c.args.words.now = omega (arith, c.operands.invariant.count, c.requires.behind) in
    let room : c.args.at + length (operands_in (drop c.args.p (program c.args.words.now))) ≤ length c.operands.cells = omega (arith, c.requires.room, c.operands.auto.cells) in
    literal_place g.S.OperatorSet.meaning c.args.words.now c.args.cells.now c.operands.cells c.args.p c.args.at c.operands.i (get_or c.args.words.now (c.args.p + c.operands.i) 0) here refl c.operands.invariant (sym c.kind.ensures ∙ c.in-10.is) room

pub returns-in_default : goal.returns-in_default
returns-in_default g c =
    let here : c.args.p + c.operands.i < length c.args.words.now = omega (arith, c.operands.invariant.count, c.requires.behind) in
    let ws = c.args.words.now in
    let none = no_operand ws c.args.p c.operands.i (get_or ws (c.args.p + c.operands.i) 0) here refl (λ e. omega (arith, c.kind.ensures)) (λ e. omega (arith, c.kind.ensures)) in
    let done = operands_copied g.S.OperatorSet.meaning c.args.cells.now c.operands.cells c.args.at c.operands.i _ _ c.operands.invariant none in
    record { count = done.0; copied = done.1 }

pub operands-preserved : goal.operands-preserved
operands-preserved g c =
    let here : c.args.p + c.operands.i < length c.args.words.now = omega (arith, c.operands.invariant.count, c.requires.behind) in
    let cells = c.operands.cells in
    let to = c.args.at + c.operands.i in
    elim c.match-kind.branch [
      | in-9 w ↦
          take_copied g.S.OperatorSet.meaning c.args.words.now c.args.cells.now c.operands.cells c.args.p c.args.at c.operands.i (get_or c.args.words.now (c.args.p + c.operands.i) 0) here refl c.operands.invariant
          w.variable.result w.index-cells-variable.result c.match-kind.cells (sym c.kind.ensures ∙ w.in-9.is) w.variable.ensures w.index-cells-variable.is w.cells-is
      | in-10+in-Some w ↦
          literal_copied g.S.OperatorSet.meaning c.args.words.now c.args.cells.now c.operands.cells c.args.p c.args.at c.operands.i (get_or c.args.words.now (c.args.p + c.operands.i) 0) here refl c.operands.invariant
          w.literal_in-l.result w.literal.result c.match-kind.cells (sym c.kind.ensures ∙ w.in-10.is) w.literal_in-l.ensures w.literal.ensures (w.cells-is ∙ ap (stored cells to) (sym w.in-Some.is))
      | in-10+in_default-literal w ↦
          literal_copied g.S.OperatorSet.meaning c.args.words.now c.args.cells.now c.operands.cells c.args.p c.args.at c.operands.i (get_or c.args.words.now (c.args.p + c.operands.i) 0) here refl c.operands.invariant
          w.literal_in-l.result w.literal.result c.match-kind.cells (sym c.kind.ensures ∙ w.in-10.is) w.literal_in-l.ensures w.literal.ensures (w.cells-is ∙ ap (stored cells to) (sym w.in_default-literal.is))
    ]
