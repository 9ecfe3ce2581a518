use Rattle.run.proofs.bound_code.Code.of.Goals as goal

pub invariant_of-result : goal.invariant_of-result
invariant_of-result c = record { sound = ∣ c.requires ∣₁ }
