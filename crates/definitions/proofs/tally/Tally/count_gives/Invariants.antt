use Rattle.std.proofs.Common.{◌≡◌, ℕ, ◌+◌, ◌<◌, ◌≤◌}
use Rattle.table.specs.Access.{gives_at}
use Rattle.rules.specs.Definitions.{times}
use Rattle.definitions.specs.Tallied.{count_of, delay_in}
use Rattle.definitions.proofs.tally.Tally.count_gives.Given as goal

abbrev pub invariant-gives : goal.invariant-gives
invariant-gives l =
    ((x : ℕ) → x < 64 → count_of l.self x ≡ count_of l.initial.self x + times x (gives_at l.words l.at l.i))
    × ((x : ℕ) → x < 64 → count_of l.self x ≤ 1024 + l.i)
    × ((x : ℕ) → x < 64 → delay_in l.self x ≡ delay_in l.initial.self x)
