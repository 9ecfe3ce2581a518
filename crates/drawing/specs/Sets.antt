-- The operator sets that can be chosen, and what comes of a table for one of them.
use Rattle.std.specs.Prelude.{ℕ, cond, List, Some, None, Option, ◌==◌}
use Rattle.integers.specs.Set.{integers_meaning}
use Rattle.doubles.specs.Set.{doubles_meaning}
use Rattle.reader.specs.Whole.{Read as Reading, scan_of}
use Rattle.table.specs.Syntax.{Table}
use Rattle.admission.specs.declared.faults.Fault.{Fault}
use Rattle.admission.specs.Admission.{fault_for}
use Rattle.admission.specs.Keeps.{KeepsRules}
use Rattle.drawing.specs.declared.set_choice.SetChoice.{SetChoice}
use Rattle.drawing.specs.declared.set_choice.SetChoice.TheVariants.{Integers, Doubles}

abbrev pub number_of : SetChoice → ℕ
number_of Integers = 1
number_of Doubles = 2

abbrev pub chosen_by : ℕ → Option SetChoice
chosen_by n = cond (n == 1) (Some Integers) (cond (n == 2) (Some Doubles) None)

abbrev pub reading_for : SetChoice → List ℕ → Reading
reading_for set words = scan_of (number_of set) words

-- why the words are not admitted for a set, if they are not
abbrev pub verdict_for : SetChoice → List ℕ → Option Fault
verdict_for Integers words = fault_for integers_meaning 1 words
verdict_for Doubles words = fault_for doubles_meaning 2 words

abbrev pub KeepsFor : SetChoice → Table → Type 0
KeepsFor Integers T = KeepsRules integers_meaning T
KeepsFor Doubles T = KeepsRules doubles_meaning T
