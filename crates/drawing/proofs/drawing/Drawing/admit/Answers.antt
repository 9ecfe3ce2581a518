use Rattle.std.proofs.Common.{ℕ, List, refl, ◌∙◌, subst}
use Rattle.admission.specs.Planned.{Planned}
use Rattle.drawing.specs.Held.{words_of}
use Rattle.drawing.proofs.Held.{granted, denied}
use Rattle.drawing.proofs.drawing.Drawing.admit.Goals as goal

pub invariant_of-self-in-Err : goal.invariant_of-self-in-Err
invariant_of-self-in-Err c = record { planned = ∣ tt ∣₁ }

pub invariant_of-self : goal.invariant_of-self
invariant_of-self c =
    let F : List ℕ → Type 0 = λ l. Planned l c.in-Ok.plan in
    record { planned = ∣ subst F c.as_slice.ensures.value c.in-Ok.ensures.planned ∣₁ }

pub returns-in-Ok : goal.returns-in-Ok
returns-in-Ok c = record {
  value = granted c.args.set (words_of c.args.self.now) c.as_slice.result.now c.of.result.words.now c.size_of-size.result
      c.as_slice.ensures.value (c.of.ensures.words ∙ c.as_slice-in-Ok.ensures.value) c.in-Ok.ensures.fault c.size_of-size.ensures;
  words = refl;
  plan = refl;
}

pub returns-in-Err : goal.returns-in-Err
returns-in-Err c = record {
  value = denied c.args.set (words_of c.args.self.now) c.as_slice.result.now c.in-Err.fault c.as_slice.ensures.value c.in-Err.ensures.fault;
  words = refl;
  plan = refl;
}
