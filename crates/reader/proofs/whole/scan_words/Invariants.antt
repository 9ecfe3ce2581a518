use Rattle.std.proofs.Common.{◌≡◌, drop}
use Rattle.reader.specs.Scanning.{start}
use Rattle.reader.specs.Whole.{scanned}
use Rattle.reader.proofs.whole.scan_words.Given as goal

-- the rest of the words goes on as the whole began
abbrev pub invariant-words : goal.invariant-words
invariant-words l = scanned l.own l.at l.scan (drop l.at l.words) ≡ scanned l.own 0 start l.words
