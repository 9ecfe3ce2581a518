-- Worked histories, as theorems.
use Rattle.std.specs.Prelude.{◌≡◌, ℕ, zero, suc, Bool as Truth, true as t, false as f, List, [], ◌∷◌, map, ℤ, pos, negsuc, Some, None, Option}
use Rattle.opset.specs.declared.scalar.Scalar.{Scalar}
use Rattle.opset.specs.declared.scalar.Scalar.TheVariants.{Bool, Number}
use Rattle.integers.specs.Set.{integers_meaning}
use Rattle.table.specs.Syntax.{Table}
use Rattle.streams.specs.Streams.{Streams}
use Rattle.streams.specs.History.{Event, row, idle, restart, History, instants, MaskedStreams}
use Rattle.meaning_examples.specs.Tables.{counter, resettable, gated, gated_both, slow, nested, halved}

abbrev pub Value : Type 0
Value = Scalar ℤ

-- variable y from instant i on, over n instants
abbrev pub seen : Streams Value → ℕ → ℕ → ℕ → List (Option Value)
seen S y i zero = []
seen S y i (suc n) = S i y ∷ seen S y (suc i) n

abbrev pub numbers : List ℤ → List (Option Value)
numbers = map (λ z. Some (Number z))

-- a history has masked streams, and in them variable y is as listed
pub record Shows (T : Table) (h : History Value) (y : ℕ) (vs : List (Option Value)) : Type 0 where
  pub some : (S : Streams Value) × MaskedStreams integers_meaning T h S
  pub each : (S : Streams Value) → MaskedStreams integers_meaning T h S → seen S y 0 (instants h) ≡ vs

abbrev pub flagged : Truth → Event Value
flagged b = row (Bool b ∷ [])

abbrev pub flags : Truth → Truth → Event Value
flags b c = row (Bool b ∷ Bool c ∷ [])

abbrev pub three : Truth → Truth → Truth → Event Value
three b c d = row (Bool b ∷ Bool c ∷ Bool d ∷ [])

abbrev pub sampled : Truth → ℤ → Event Value
sampled b z = row (Bool b ∷ Number z ∷ [])

pub record Examples : Type 0 where
  -- each true restarts the counter
  pub restarted : Shows (counter ∷ resettable ∷ []) (map flagged (f ∷ f ∷ f ∷ t ∷ f ∷ f ∷ f ∷ t ∷ f ∷ f ∷ [])) 1
      (numbers (pos 0 ∷ pos 1 ∷ pos 2 ∷ pos 0 ∷ pos 1 ∷ pos 2 ∷ pos 3 ∷ pos 0 ∷ pos 1 ∷ pos 2 ∷ []))
  -- a restart counts where the call's clock does not hold
  pub while_absent : Shows (counter ∷ gated ∷ []) (flags t f ∷ flags t f ∷ flags f t ∷ flags t f ∷ []) 2 (numbers (pos 0 ∷ pos 1 ∷ negsuc 0 ∷ pos 0 ∷ []))
  -- but not where the restart variable is absent
  pub not_absent : Shows (counter ∷ gated_both ∷ []) (flags t f ∷ flags t f ∷ flags f t ∷ flags t f ∷ []) 2 (numbers (pos 0 ∷ pos 1 ∷ negsuc 0 ∷ pos 2 ∷ []))
  -- a delay goes back to the latest instant where it was present
  pub across : Shows (slow ∷ []) (sampled t (pos 5) ∷ sampled f (pos 6) ∷ sampled t (pos 7) ∷ sampled f (pos 8) ∷ sampled t (pos 9) ∷ []) 4
      (Some (Number (pos 0)) ∷ None ∷ Some (Number (pos 5)) ∷ None ∷ Some (Number (pos 7)) ∷ [])
  -- an idle row passes over the counter, and a restart of the history begins it anew
  pub history : Shows (counter ∷ []) (flagged t ∷ flagged t ∷ idle ∷ flagged t ∷ restart ∷ flagged t ∷ idle ∷ restart ∷ restart ∷ flagged t ∷ flagged t ∷ []) 1
      (Some (Number (pos 0)) ∷ Some (Number (pos 1)) ∷ None ∷ Some (Number (pos 2)) ∷ Some (Number (pos 0)) ∷ None ∷ Some (Number (pos 0)) ∷ Some (Number (pos 1)) ∷ [])
  -- a restart inside a restart: q begins the inner counter anew while its clock does not hold, p only where it does
  pub inner : Shows (counter ∷ resettable ∷ nested ∷ [])
      (three t f f ∷ three t f f ∷ three f f t ∷ three t f f ∷ three t f f ∷ three t t f ∷ three f t f ∷ three t f f ∷ []) 3
      (numbers (pos 0 ∷ pos 1 ∷ negsuc 0 ∷ pos 0 ∷ pos 1 ∷ pos 0 ∷ negsuc 0 ∷ pos 1 ∷ []))
  -- a clock that the table makes for itself
  pub every_second : Shows (counter ∷ halved ∷ []) (map flagged (t ∷ t ∷ t ∷ t ∷ t ∷ [])) 1 (numbers (pos 0 ∷ negsuc 0 ∷ pos 1 ∷ negsuc 0 ∷ pos 2 ∷ []))
