use Rattle.std.proofs.Common.{false, cond, get_or, sym, ap, ◌∙◌, add-one}
use Rattle.execution.specs.Cells.{stored}
use Rattle.execution.specs.Sound.{input_type}
use Rattle.calls.specs.Calls.{defaulted}
use Rattle.run.proofs.inputs.give_defaults.Goals as goal

pub inputs-preserved : goal.inputs-preserved
inputs-preserved g c =
    let m = g.S.OperatorSet.meaning in
    let ws = c.args.words.now in
    let offered = c.args.offered.now in
    let i = c.inputs.i in
    c.give_default.ensures
    ∙ ap (λ cells. cond (get_or offered i false) cells (stored cells i (m.literal (input_type ws i) 0))) c.inputs.invariant
    ∙ ap (λ n. defaulted m ws offered n c.args.cells.now) (sym (add-one i))
