use Rattle.drawing.proofs.drawing.Drawing.extend.Goals as goal

pub invariant_of-self-2 : goal.invariant_of-self-2
invariant_of-self-2 c = record { planned = ∣ tt ∣₁ }
