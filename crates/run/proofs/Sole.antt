-- That words are sound holds in one way at most.
use mathlib.Core.Bool.{Bool-set}
use Rattle.std.proofs.Common.{ℕ, List}
use mathlib.Core.HLevel.{Π_prop}
use native.Mathlib.Bridge.{le_prop}
use Rattle.execution.specs.Sound.{Sound}

pub sound_sole : (ws : List ℕ) → IsProp (Sound ws)
sound_sole ws a b = λ i. record {
  nodes = le_prop a.nodes b.nodes i;
  front = le_prop a.front b.front i;
  ports = le_prop a.ports b.ports i;
  resets = Π_prop (λ k. Π_prop (λ h. Bool-set _ _)) a.resets b.resets i;
  steps = Π_prop (λ k. Π_prop (λ h. Bool-set _ _)) a.steps b.steps i;
}
