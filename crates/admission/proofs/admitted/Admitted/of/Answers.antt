use Rattle.admission.proofs.admitted.Admitted.of.Goals as goal

pub invariant_of-result : goal.invariant_of-result
invariant_of-result c = record { planned = ∣ c.requires ∣₁ }
