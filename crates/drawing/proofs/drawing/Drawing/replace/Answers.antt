use Rattle.drawing.proofs.drawing.Drawing.replace.Goals as goal

pub invariant_of-self : goal.invariant_of-self
invariant_of-self c = record { planned = ∣ tt ∣₁ }
