-- The number of each refusal.
use Rattle.std.specs.Prelude.{ℕ}
use Rattle.calls.specs.declared.refusal.Refusal.{Refusal}
use Rattle.calls.specs.declared.refusal.Refusal.TheVariants.{Set, Memory, Port, Mistyped, Early, Twice}

abbrev pub refusal_number : Refusal → ℕ
refusal_number Set = 4
refusal_number Memory = 13
refusal_number Port = 14
refusal_number Mistyped = 15
refusal_number Early = 20
refusal_number Twice = 21
