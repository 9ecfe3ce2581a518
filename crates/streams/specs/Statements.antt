-- The theorems of masked streams, for a set of operators that means m. Each is the contract of a function of this crate, for every set.
use Rattle.std.specs.Prelude.{◌≡◌, ℕ, ◌<◌, ◌≤◌, true, length, Some}
use Rattle.opset.specs.Meaning.{Meaning}
use Rattle.table.specs.Syntax.{Table, node_at, variable_count}
use Rattle.rules.specs.Types.{type_of}
use Rattle.admission.specs.Keeps.{KeepsRules}
use Rattle.streams.specs.Streams.{Streams, Rows, Meets}
use Rattle.streams.specs.History.{History, instants, count_at, main, HistoryStreams, MaskedStreams, RowLong, RowTyped, HistoryLong, HistoryFits}
use Rattle.streams.specs.Machine.{tree_at, history_shows, Grows, main_machine}
use Rattle.streams.specs.Instant.{Filled, Steps}
use Rattle.streams.specs.Reordered.{Reordered}

-- the variables of main
abbrev pub main_variables : Table → ℕ
main_variables T = variable_count (node_at T (main T))

module _ {V : Type 0} (m : Meaning V) where
  -- streams meet each node, and each history has masked streams, where rows have a value for each input
  pub record StreamsExist (T : Table) : Type 0 where
    pub node : (k : ℕ) → k < length T → (rows : Rows V) → ((i : ℕ) → RowLong (node_at T k) (rows i)) → (n : ℕ) → (H : Streams V) × Meets m T k rows n H
    pub history : (h : History V) → HistoryLong T h → (S : Streams V) × MaskedStreams m T h S

  -- there is one answer for each variable
  pub record StreamsUnique (T : Table) : Type 0 where
    pub node : (k : ℕ) → k < length T → (rows : Rows V) (n : ℕ) (H H' : Streams V) → Meets m T k rows n H → Meets m T k rows n H'
        → (i y : ℕ) → i < n → y < variable_count (node_at T k) → H i y ≡ H' i y
    -- and rows to come have no part in it
    pub causal : (k : ℕ) → k < length T → (rows rows' : Rows V) (n : ℕ) (H H' : Streams V) → Meets m T k rows n H → Meets m T k rows' n H'
        → (l : ℕ) → l ≤ n → ((i : ℕ) → i < l → rows i ≡ rows' i) → (i : ℕ) → i < l → (y : ℕ) → y < variable_count (node_at T k) → H i y ≡ H' i y
    pub history : (h : History V) (k : ℕ) (H H' : Streams V) → HistoryStreams m T h k H → HistoryStreams m T h k H'
        → (i y : ℕ) → i < instants h → y < main_variables T → H i y ≡ H' i y
    pub masked : (h : History V) (S S' : Streams V) → MaskedStreams m T h S → MaskedStreams m T h S'
        → (i y : ℕ) → i < instants h → y < main_variables T → S i y ≡ S' i y

  -- a present variable's value belongs to its type, where the rows' values do
  pub record StreamsTyped (T : Table) : Type 0 where
    pub long : (h : History V) → HistoryFits m T h → HistoryLong T h
    pub node : (k : ℕ) → k < length T → (rows : Rows V) → ((i : ℕ) → RowTyped m (node_at T k) (rows i)) → (n : ℕ) (H : Streams V) → Meets m T k rows n H
        → (i y : ℕ) (v : V) → i < n → y < variable_count (node_at T k) → H i y ≡ Some v → m.belongs v (type_of (node_at T k) y) ≡ true
    pub history : (h : History V) → HistoryFits m T h → (S : Streams V) → MaskedStreams m T h S
        → (i y : ℕ) (v : V) → i < instants h → y < main_variables T → S i y ≡ Some v → m.belongs v (type_of (node_at T (main T)) y) ≡ true

  -- the machine shows the masked streams, whatever the history restarts
  pub record MachineShows (T : Table) : Type 0 where
    pub masked : (h : History V) → HistoryLong T h → MaskedStreams m T h (history_shows (main_machine m T) h)
    pub streams : (h : History V) → HistoryLong T h → (i : ℕ) → i < instants h → (H : Streams V) → HistoryStreams m T h (count_at h i) H
        → (y : ℕ) → y < main_variables T → history_shows (main_machine m T) h i y ≡ H i y
    -- an event more, from any history
    pub grows : Grows (main_machine m T)
    -- each memory of a history is filled, and from a filled memory each row gives an instant
    pub filled : (h : History V) → HistoryLong T h → (i : ℕ) → Filled T (main T) (tree_at (main_machine m T) (main_machine m T).start h i)
    pub steps : (k : ℕ) → k < length T → Steps m T k

  -- streams that meet one table meet the other, so that both have the same streams
  pub record OrderFree (T T' : Table) : Type 0 where
    pub meets : (k : ℕ) (rows : Rows V) (n : ℕ) (H : Streams V) → Meets m T k rows n H → Meets m T' k rows n H
    pub back : (k : ℕ) (rows : Rows V) (n : ℕ) (H : Streams V) → Meets m T' k rows n H → Meets m T k rows n H
    pub same : KeepsRules m T → (h : History V) (S S' : Streams V) → MaskedStreams m T h S → MaskedStreams m T' h S'
        → (i y : ℕ) → i < instants h → y < main_variables T → S i y ≡ S' i y

  -- of every table that keeps the rules
  abbrev pub StreamsAlwaysExist : Type 0
  StreamsAlwaysExist = (T : Table) → KeepsRules m T → StreamsExist T

  abbrev pub StreamsAlwaysUnique : Type 0
  StreamsAlwaysUnique = (T : Table) → KeepsRules m T → StreamsUnique T

  abbrev pub StreamsAlwaysTyped : Type 0
  StreamsAlwaysTyped = (T : Table) → KeepsRules m T → StreamsTyped T

  abbrev pub MachineShowsStreams : Type 0
  MachineShowsStreams = (T : Table) → KeepsRules m T → MachineShows T

  -- of every two tables that differ only in the order of equations
  abbrev pub OrderDoesNotMatter : Type 0
  OrderDoesNotMatter = (T T' : Table) → Reordered T T' → OrderFree T T'
