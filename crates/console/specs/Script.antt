-- What the calls of a script do to what it works on, and what they answer.
use Rattle.std.specs.Prelude.{◌≡◌, ℕ, cond, List, ◌++◌, length, Some, None, Ok, Err, vec_items, Option, Result, ◌==◌}
use Rattle.reader.specs.Faults.{report_of}
use Rattle.reader.specs.Whole.{Read as Reading, scan_of}
use Rattle.console.specs.declared.answer.Answer.{Answer}
use Rattle.console.specs.declared.answer.Answer.TheVariants.{Set as SetTo, Table as Sized, Read, Refused, NotUnderstood}
use Rattle.console.specs.declared.call.Call.{Call}
use Rattle.console.specs.declared.call.Call.TheVariants.{Set, Table, More, Admit}
use Rattle.console.specs.declared.set_choice.SetChoice.{SetChoice}
use Rattle.console.specs.declared.set_choice.SetChoice.TheVariants.{Integers, Doubles}
use Rattle.console.specs.declared.state.Console.{Console}

abbrev pub number_of : SetChoice → ℕ
number_of Integers = 1
number_of Doubles = 2

abbrev pub chosen_by : ℕ → Option SetChoice
chosen_by n = cond (n == 1) (Some Integers) (cond (n == 2) (Some Doubles) None)

abbrev pub reading_for : SetChoice → List ℕ → Reading
reading_for set words = scan_of (number_of set) words

-- what a script works on, apart from where its memory comes from
pub record Desk : Type 0 where
  pub set : SetChoice
  pub words : List ℕ

abbrev pub desk_of : Console → Desk
desk_of c = record { set = c.set; words = vec_items c.table }

abbrev pub admission : Reading → Answer
admission (Ok outline) = Read outline.nodes
admission (Err fault) = Refused (report_of fault)

abbrev pub desk_after : Call → Desk → Desk
desk_after (Set chosen) d = record { set = chosen; words = d.words }
desk_after (Table given) d = record { set = d.set; words = vec_items given }
desk_after (More given) d = record { set = d.set; words = d.words ++ vec_items given }
desk_after Admit d = d

abbrev pub answer_of : Call → Desk → Answer
answer_of (Set chosen) d = SetTo chosen
answer_of (Table given) d = Sized (length (vec_items given))
answer_of (More given) d = Sized (length (d.words ++ vec_items given))
answer_of Admit d = admission (reading_for d.set d.words)

-- a call that finds no memory changes nothing
abbrev pub Performed : {E : Type 0} → Call → Desk → Result Answer E → Desk → Type 0
Performed call before (Ok answer) after = (answer ≡ answer_of call before) × (after ≡ desk_after call before)
Performed call before (Err e) after = after ≡ before

-- a line with no answer, one that is not understood, and one that finds no memory change nothing
abbrev pub KeepsUnlessAnswered : {E : Type 0} → Desk → Result (Option Answer) E → Desk → Type 0
KeepsUnlessAnswered before (Ok None) after = after ≡ before
KeepsUnlessAnswered before (Ok (Some answer)) after = answer ≡ NotUnderstood → after ≡ before
KeepsUnlessAnswered before (Err e) after = after ≡ before
