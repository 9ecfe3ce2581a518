-- What is asked of an opened run, and the history that comes of it.
use Rattle.std.specs.Prelude.{ℕ, zero, suc, Bool, cond, List, [], ◌∷◌, ◌++◌, Some, None, Option, ◌==◌}
use Rattle.opset.specs.Meaning.{Meaning}
use Rattle.table.specs.Syntax.{Node}
use Rattle.rules.specs.Types.{type_of}
use Rattle.rules.specs.First.{or_else}
use Rattle.streams.specs.Streams.{Env}
use Rattle.streams.specs.History.{History, row, idle, restart as restarted}
use Rattle.calls.specs.declared.refusal.Refusal.{Refusal}

-- the kinds of calls
pub data Kind : Type 0 where
  beginning offering stepping passing restarting reading : Kind

-- a call that is given the set which admitted the table: `room` says whether its memory is as long as main needs; or one that is given a set of another number
pub data Ask (V : Type 0) : Type 0 where
  begin : Ask V
  offer : Bool → ℕ → V → Ask V
  step : Bool → Ask V
  pass : Ask V
  restart : Bool → Ask V
  read : Bool → ℕ → Ask V
  foreign : Kind → Ask V

pub data Answer (V : Type 0) : Type 0 where
  done : Answer V
  -- a reading: a value, or absent
  value : Option V → Answer V
  refused : Refusal → Answer V

pub record Call (V : Type 0) : Type 0 where
  pub ask : Ask V
  pub answer : Answer V

-- the history so far, and in an instant what its inputs were offered
pub record Story (V : Type 0) : Type 0 where
  pub history : History V
  pub instant : Option (Env V)

abbrev pub untold : {V : Type 0} → Story V
untold = record { history = []; instant = None }

abbrev pub at_rest : {V : Type 0} → History V → Story V
at_rest h = record { history = h; instant = None }

abbrev pub listed : {V : Type 0} → Option V → List V
listed None = []
listed (Some v) = v ∷ []

-- the values of the first n
abbrev pub row_values : {V : Type 0} → Env V → ℕ → List V
row_values f zero = []
row_values f (suc n) = row_values f n ++ listed (f n)

-- for each input what it was offered, else the value of payload 0 in its type
abbrev pub input_of : {V : Type 0} → Meaning V → Node → Env V → Env V
input_of m N offers i = or_else (offers i) (m.literal (type_of N i) 0)

abbrev pub row_of : {V : Type 0} → Meaning V → Node → Env V → List V
row_of m N offers = row_values (input_of m N offers) N.inputs

-- what an instant's inputs were offered; nothing, outside one
abbrev pub offers_in : {V : Type 0} → Option (Env V) → Env V
offers_in None i = None
offers_in (Some offers) i = offers i

abbrev pub offered_also : {V : Type 0} → Env V → ℕ → V → Env V
offered_also offers i v j = cond (j == i) (Some v) (offers j)

module _ {V : Type 0} (m : Meaning V) (N : Node) where
  -- a call that is granted
  abbrev pub grows : Story V → Ask V → Story V
  grows s begin = record { history = s.history; instant = Some (λ i. None) }
  grows s (offer room i v) = record { history = s.history; instant = Some (offered_also (offers_in s.instant) i v) }
  grows s (step room) = at_rest (s.history ++ row (row_of m N (offers_in s.instant)) ∷ [])
  grows s pass = at_rest (s.history ++ idle ∷ [])
  grows s (restart room) = at_rest (s.history ++ restarted ∷ [])
  grows s (read room j) = s
  grows s (foreign k) = s

  -- a step or a pass that is refused gives up its instant; any other refused call changes nothing
  abbrev pub ends_by : Story V → Kind → Story V
  ends_by s beginning = s
  ends_by s offering = s
  ends_by s stepping = at_rest s.history
  ends_by s passing = at_rest s.history
  ends_by s restarting = s
  ends_by s reading = s

  abbrev pub stays : Story V → Ask V → Story V
  stays s begin = s
  stays s (offer room i v) = s
  stays s (step room) = at_rest s.history
  stays s pass = at_rest s.history
  stays s (restart room) = s
  stays s (read room j) = s
  stays s (foreign k) = ends_by s k

  abbrev pub goes_on : Story V → Ask V → Answer V → Story V
  goes_on s a done = grows s a
  goes_on s a (value o) = grows s a
  goes_on s a (refused r) = stays s a

  -- the story of the calls since open, the latest first
  abbrev pub story_of : List (Call V) → Story V
  story_of [] = untold
  story_of (c ∷ cs) = goes_on (story_of cs) c.ask c.answer
