use Rattle.std.proofs.Common.{◌<◌, length, rules}
use mathlib.Core.Logic.{∥∥₁_elim}
use native.Mathlib.Bridge.{le_prop}
use Rattle.run.proofs.Granted.{offer_within}
use Rattle.run.proofs.state.Instant.offer.Goals as goal

-- the input's cell is in the memory
within : (g : _) (c : goal.After-mark g) → c.args.input < length c.args.cells.now
within g c =
    ∥∥₁_elim c.args.code.now.sound le_prop
    (λ s. offer_within g.S.OperatorSet.meaning g.S.OperatorSet.numbered c.args.code.now.words.now c.args.cells.now c.args.self.now.offered c.args.input c.args.value s
    c.in_ok-test_offer.ensures)

pub offset_bounds-cells-input : goal.offset_bounds-cells-input
offset_bounds-cells-input g c = let h = within g c in search rules

pub bounds-cells-input : goal.bounds-cells-input
bounds-cells-input g c = within g c
