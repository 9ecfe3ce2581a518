use Rattle.std.proofs.Common.{◌≡◌, ◌^◌, ◌<◌, drop}
use Rattle.console.specs.Numerals.{decimal_digit, spelled}
use Rattle.console.proofs.numerals.decimal_number.Given as goal

-- the digits that are left go on as the whole began, and what is read fits its digits
abbrev pub invariant-loop-b : goal.invariant-loop-b
invariant-loop-b l =
    (spelled 10 decimal_digit l.number (drop l.b-index l.text) ≡ spelled 10 decimal_digit 0 l.text) × (l.number < 10 ^ l.b-index)
