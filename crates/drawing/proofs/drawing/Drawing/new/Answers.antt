use Rattle.drawing.proofs.drawing.Drawing.new.Goals as goal

pub invariant_of-result : goal.invariant_of-result
invariant_of-result c = record { planned = ∣ tt ∣₁ }
