-- Which answer is right: the rules say when a call is refused, and the masked streams of the history say what a reading shows.
use Rattle.std.specs.Prelude.{◌≡◌, ℕ, ◌+◌, ◌-◌, true, not, List, [], ◌∷◌, is_some, Some, None, Option, nat_lt}
use Rattle.opset.specs.Meaning.{Meaning}
use Rattle.table.specs.Syntax.{Node, Table, node_at}
use Rattle.rules.specs.Types.{type_of}
use Rattle.rules.specs.First.{or_else}
use Rattle.streams.specs.Streams.{Streams}
use Rattle.streams.specs.History.{History, instants, row_at, main, MaskedStreams}
use Rattle.calls.specs.declared.refusal.Refusal.{Refusal}
use Rattle.calls.specs.declared.refusal.Refusal.TheVariants.{Set, Memory, Port, Mistyped, Early, Twice}
use Rattle.calls.specs.Calls.{unless}
use Rattle.calls.specs.Story.{Ask, begin, offer, step, pass, restart, read, foreign, Answer, done, value, refused, Call, Story, offers_in, story_of}

abbrev pub main_node : Table → Node
main_node T = node_at T (main T)

-- the refusal that the rules name for a call, if any
abbrev pub refusal_for : {V : Type 0} → Meaning V → Node → Story V → Ask V → Option Refusal
refusal_for m N s begin = None
refusal_for m N s (offer room i v) =
    or_else (unless room Memory) (or_else (unless (nat_lt i N.inputs) Port)
    (or_else (unless (not (is_some (offers_in s.instant i))) Twice) (unless (m.belongs v (type_of N i)) Mistyped)))
refusal_for m N s (step room) = unless room Memory
refusal_for m N s pass = None
refusal_for m N s (restart room) = unless room Memory
refusal_for m N s (read room j) =
    or_else (unless (nat_lt 0 (instants s.history)) Early) (or_else (unless room Memory) (unless (nat_lt j N.outputs) Port))
refusal_for m N s (foreign k) = Some Set

-- after a row a value of the type, and absent after an idle row
abbrev pub Fitting : {V : Type 0} → Meaning V → ℕ → Option (List V) → Option V → Type 0
Fitting m ty None o = o ≡ None
Fitting {V} m ty (Some vs) o = (v : V) × (o ≡ Some v) × (m.belongs v ty ≡ true)

-- the masked streams of a history show o as output j at the latest instant
pub record Shows {V : Type 0} (m : Meaning V) (T : Table) (h : History V) (j : ℕ) (o : Option V) : Type 0 where
  pub streams : Streams V
  pub masked : MaskedStreams m T h streams
  pub reading : streams (instants h - 1) ((main_node T).inputs + j) ≡ o
  pub fitting : Fitting m (type_of (main_node T) ((main_node T).inputs + j)) (row_at h (instants h - 1)) o

-- the answer to a call that is granted
abbrev pub GrantedRight : {V : Type 0} → Meaning V → Table → Story V → Ask V → Answer V → Type 0
GrantedRight m T s begin a = a ≡ done
GrantedRight m T s (offer room i v) a = a ≡ done
GrantedRight m T s (step room) a = a ≡ done
GrantedRight m T s pass a = a ≡ done
GrantedRight m T s (restart room) a = a ≡ done
GrantedRight {V} m T s (read room j) a = (o : Option V) × (a ≡ value o) × Shows m T s.history j o
GrantedRight m T s (foreign k) a = ⊥

abbrev pub RightBy : {V : Type 0} → Meaning V → Table → Story V → Ask V → Answer V → Option Refusal → Type 0
RightBy m T s ask a (Some r) = a ≡ refused r
RightBy m T s ask a None = GrantedRight m T s ask a

-- every answer of the calls since open, the latest first
abbrev pub Right : {V : Type 0} → Meaning V → Table → List (Call V) → Type 0
Right m T [] = Unit {0}
Right m T (c ∷ cs) =
    RightBy m T (story_of m (main_node T) cs) c.ask c.answer (refusal_for m (main_node T) (story_of m (main_node T) cs) c.ask) × Right m T cs
