-- Histories of a table's main node, and their masked streams. Assumes nothing.
use Rattle.std.specs.Prelude.{◌≡◌, ℕ, zero, suc, ◌-◌, ◌<◌, true, List, [], ◌∷◌, length, Some, None, Option}
use Rattle.std.specs.List.{AllByRecursion, slice_get}
use Rattle.opset.specs.Meaning.{Meaning}
use Rattle.table.specs.Syntax.{Node, Table, node_at, variable_count}
use Rattle.rules.specs.Types.{type_of}
use Rattle.streams.specs.Streams.{Streams, Rows, masked, Meets}

-- what happens to main: a row of inputs, an instant passed over, or a restart
pub data Event (V : Type 0) : Type 0 where
  row : List V → Event V
  idle : Event V
  restart : Event V

-- the oldest event first
abbrev pub History : Type 0 → Type 0
History V = List (Event V)

-- rows and idle rows are the instants
abbrev pub instants : {V : Type 0} → History V → ℕ
instants [] = 0
instants (row vs ∷ h) = suc (instants h)
instants (idle ∷ h) = suc (instants h)
instants (restart ∷ h) = instants h

-- the row of an instant
abbrev pub row_at : {V : Type 0} → History V → Rows V
row_at [] i = None
row_at (row vs ∷ h) zero = Some vs
row_at (row vs ∷ h) (suc i) = row_at h i
row_at (idle ∷ h) zero = None
row_at (idle ∷ h) (suc i) = row_at h i
row_at (restart ∷ h) i = row_at h i

-- how many restarts come before an instant
abbrev pub count_at : {V : Type 0} → History V → ℕ → ℕ
count_at [] i = 0
count_at (row vs ∷ h) zero = 0
count_at (row vs ∷ h) (suc i) = count_at h i
count_at (idle ∷ h) zero = 0
count_at (idle ∷ h) (suc i) = count_at h i
count_at (restart ∷ h) i = suc (count_at h i)

-- the last node
abbrev pub main : Table → ℕ
main T = length T - 1

-- streams that meet main under the rows of count k, idle rows elsewhere
abbrev pub HistoryStreams : {V : Type 0} → Meaning V → Table → History V → ℕ → Streams V → Type 0
HistoryStreams m T h k H = Meets m T (main T) (masked (count_at h) k (row_at h)) (instants h) H

-- S are the history's masked streams: where the count is k they are such streams
abbrev pub MaskedStreams : {V : Type 0} → Meaning V → Table → History V → Streams V → Type 0
MaskedStreams {V} m T h S =
    (k : ℕ) → (H : Streams V) × HistoryStreams m T h k H ×
    ((i y : ℕ) → i < instants h → count_at h i ≡ k → y < variable_count (node_at T (main T)) → S i y ≡ H i y)

-- a row has a value for each input
abbrev pub RowLong : {V : Type 0} → Node → Option (List V) → Type 0
RowLong N None = Unit {0}
RowLong N (Some vs) = length vs ≡ N.inputs

-- and each belongs to its type
pub record RowFits {V : Type 0} (m : Meaning V) (N : Node) (vs : List V) : Type 0 where
  pub long : length vs ≡ N.inputs
  pub typed : (x : ℕ) (v : V) → slice_get vs x ≡ Some v → m.belongs v (type_of N x) ≡ true

-- an idle row always fits
abbrev pub RowTyped : {V : Type 0} → Meaning V → Node → Option (List V) → Type 0
RowTyped m N None = Unit {0}
RowTyped m N (Some vs) = RowFits m N vs

-- the same of an event
abbrev pub EventLong : {V : Type 0} → Node → Event V → Type 0
EventLong N (row vs) = length vs ≡ N.inputs
EventLong N idle = Unit {0}
EventLong N restart = Unit {0}

abbrev pub EventFits : {V : Type 0} → Meaning V → Node → Event V → Type 0
EventFits m N (row vs) = RowFits m N vs
EventFits m N idle = Unit {0}
EventFits m N restart = Unit {0}

-- the rows of a history have a value for each of main's inputs
abbrev pub HistoryLong : {V : Type 0} → Table → History V → Type 0
HistoryLong T h = AllByRecursion (EventLong (node_at T (main T))) h

-- and each of its type
abbrev pub HistoryFits : {V : Type 0} → Meaning V → Table → History V → Type 0
HistoryFits m T h = AllByRecursion (EventFits m (node_at T (main T))) h
