-- The promise: a reading shows what the drawn equations mean.
use Rattle.std.specs.Prelude.{◌≡◌, ℕ, ◌<◌, List, map}
use Rattle.opset.specs.Meaning.{Meaning}
use Rattle.table.specs.Syntax.{Table, variable_count}
use Rattle.admission.specs.Keeps.{KeepsRules}
use Rattle.streams.specs.Streams.{Streams}
use Rattle.streams.specs.History.{History, instants, HistoryStreams, HistoryLong}
use Rattle.streams.specs.Reordered.{Reordered}
use Rattle.layout.specs.Layout.{Begins}
use Rattle.calls.specs.Story.{Ask, Answer, Call}
use Rattle.calls.specs.Answers.{main_node, Right}
use Rattle.calls.specs.Calls.{State}
use Rattle.calls.specs.Made.{Made}

abbrev pub asks : {V : Type 0} → List (Call V) → List (Ask V)
asks cs = map (λ c. c.ask) cs

abbrev pub answers : {V : Type 0} → List (Call V) → List (Answer V)
answers cs = map (λ c. c.answer) cs

-- for every history and every k there are streams that meet main under the rows of count k, idle rows elsewhere, and only one answer for each variable
pub record StreamsStand {V : Type 0} (m : Meaning V) (T : Table) (h : History V) (k : ℕ) : Type 0 where
  pub exist : (H : Streams V) × HistoryStreams m T h k H
  pub unique : (H H' : Streams V) → HistoryStreams m T h k H → HistoryStreams m T h k H'
      → (i y : ℕ) → i < instants h → y < variable_count (main_node T) → H i y ≡ H' i y

-- Whatever calls were made of a run of code since it was opened, with the set that admitted the code's table T:
pub record Kept {V : Type 0} (m : Meaning V) (own : ℕ) (T : Table) (ws : List ℕ) (cs : List (Call V)) : Type 0 where
  -- each was refused exactly when the rules say so, and each granted reading is what the masked streams of the history show
  pub answered : Right m T cs
  pub streams : (h : History V) → HistoryLong T h → (k : ℕ) → StreamsStand m T h k
  -- a table that differs only in the order of the equations within its nodes gives equal calls equal answers
  pub order_free : (T' : Table) (ws' : List ℕ) → Begins own T' ws' → KeepsRules m T' → Reordered T T'
      → (cs' : List (Call V)) (s' : State) (cells' : List V) → Made m own ws' cs' s' cells' → asks cs ≡ asks cs' → answers cs ≡ answers cs'

abbrev pub Promise : {V : Type 0} → Meaning V → ℕ → List ℕ → Type 0
Promise {V} m own ws =
    (T : Table) → Begins own T ws → KeepsRules m T
    → (cs : List (Call V)) (s : State) (cells : List V) → Made m own ws cs s cells → Kept m own T ws cs

-- for code of every set's number and all words
abbrev pub PromiseStands : {V : Type 0} → Meaning V → Type 0
PromiseStands m = (own : ℕ) (ws : List ℕ) → Promise m own ws
