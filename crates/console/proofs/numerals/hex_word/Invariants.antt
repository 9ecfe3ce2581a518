use Rattle.std.proofs.Common.{◌≡◌, ◌^◌, ◌<◌, drop}
use Rattle.console.specs.Numerals.{hex_digit, spelled}
use Rattle.console.proofs.numerals.hex_word.Given as goal

-- the digits that are left go on as the whole began, and what is read fits its digits
abbrev pub invariant-loop-b : goal.invariant-loop-b
invariant-loop-b l =
    (spelled 16 hex_digit l.word (drop l.b-index l.text) ≡ spelled 16 hex_digit 0 l.text) × (l.word < 16 ^ l.b-index)
