-- What each call of a run answers, and what it leaves in memory: `own` is the number of the set that the call is given, `ws` are the code's words.
use Rattle.std.specs.Prelude.{◌≡◌, ℕ, zero, suc, ◌+◌, Bool, true, false, cond, not, List, length, replicate, Some, None, Ok, Err, Option, Result, ◌==◌, nat_le, nat_lt, slice_index_or, slice_set}
use Rattle.std.specs.List.{slice_get}
use Rattle.opset.specs.Meaning.{Meaning}
use Rattle.rules.specs.First.{or_else}
use Rattle.execution.specs.Cells.{stored}
use Rattle.execution.specs.Words.{need_at, reset_by, step_by}
use Rattle.execution.specs.Sound.{set_in, inputs_in, outputs_in, input_type, main_in}
use Rattle.calls.specs.declared.refusal.Refusal.{Refusal}
use Rattle.calls.specs.declared.refusal.Refusal.TheVariants.{Set, Memory, Port, Mistyped, Early, Twice}
use Rattle.calls.specs.declared.ended.Ended.{Ended}
use Rattle.calls.specs.declared.ended.Ended.TheVariants.{Never, ByStep, ByPass}

-- refused, unless a test holds
abbrev pub unless : Bool → Refusal → Option Refusal
unless test r = cond test None (Some r)

-- what is answered where nothing refuses, and what is left then
abbrev pub outcome : {A : Type 0} → Option Refusal → A → Result A Refusal
outcome None x = Ok x
outcome (Some r) x = Err r

abbrev pub granted : {A : Type 0} → Option Refusal → A → A → A
granted None new old = new
granted (Some r) new old = old

-- the tests, each by its refusal
abbrev pub set_refusal : ℕ → List ℕ → Option Refusal
set_refusal own ws = unless (set_in ws == own) Set

abbrev pub enough : {V : Type 0} → List ℕ → List V → Bool
enough ws cells = nat_le (need_at ws (main_in ws)) (length cells)

abbrev pub memory_refusal : {V : Type 0} → List ℕ → List V → Option Refusal
memory_refusal ws cells = unless (enough ws cells) Memory

-- open, step and restart test the set, then the memory; begin and pass the set alone
abbrev pub moving_refusal : {V : Type 0} → ℕ → List ℕ → List V → Option Refusal
moving_refusal own ws cells = or_else (set_refusal own ws) (memory_refusal ws cells)

abbrev pub offer_refusal : {V : Type 0} → Meaning V → ℕ → List ℕ → List V → List Bool → ℕ → V → Option Refusal
offer_refusal m own ws cells offered i v =
    or_else (set_refusal own ws) (or_else (memory_refusal ws cells) (or_else (unless (nat_lt i (inputs_in ws)) Port)
    (or_else (unless (not (slice_index_or offered i false)) Twice) (unless (m.belongs v (input_type ws i)) Mistyped))))

abbrev pub has_ended : Ended → Bool
has_ended Never = false
has_ended ByStep = true
has_ended ByPass = true

abbrev pub read_refusal : {V : Type 0} → ℕ → List ℕ → List V → Ended → ℕ → Option Refusal
read_refusal own ws cells ended j =
    or_else (set_refusal own ws) (or_else (unless (has_ended ended) Early) (or_else (memory_refusal ws cells) (unless (nat_lt j (outputs_in ws)) Port)))

-- a run is at rest, or in an instant; both know how the latest instant that counts ended, and an instant which inputs were offered a value in it
pub data State : Type 0 where
  at_rest : Ended → State
  in_instant : Ended → List Bool → State

abbrev pub none_offered : List Bool
none_offered = replicate 16 false

-- inputs that were not offered a value take payload 0 of their type: of the first n
abbrev pub defaulted : {V : Type 0} → Meaning V → List ℕ → List Bool → ℕ → List V → List V
defaulted m ws offered zero cells = cells
defaulted m ws offered (suc i) cells =
    cond (slice_index_or offered i false) (defaulted m ws offered i cells)
    (stored (defaulted m ws offered i cells) i (m.literal (input_type ws i) 0))

-- a step: those inputs, and then main's step block
abbrev pub stepped_by : {V : Type 0} → Meaning V → List ℕ → List Bool → List V → List V
stepped_by m ws offered cells = step_by m ws (main_in ws) (defaulted m ws offered (inputs_in ws) cells)

-- the value of an output after a step, and absent after a pass
abbrev pub reading_of : {V : Type 0} → List ℕ → List V → Ended → ℕ → Option V
reading_of ws cells Never j = None
reading_of ws cells ByStep j = slice_get cells (inputs_in ws + j)
reading_of ws cells ByPass j = None

-- Each call's contract: what it answers (`r`), the state that it leaves (`s`), and the memory (`after`).

-- a run is opened on any memory; what it leaves then is at rest
pub record Opens {V : Type 0} (m : Meaning V) (own : ℕ) (ws : List ℕ) (cells : List V) (r : Result Ended Refusal) (after : List V) : Type 0 where
  pub answer : r ≡ outcome (moving_refusal own ws cells) Never
  pub memory : after ≡ granted (moving_refusal own ws cells) (reset_by m ws (main_in ws) cells) cells

pub record BeginsInstant (own : ℕ) (ws : List ℕ) (e : Ended) (r : Result Unit Refusal) (s : State) : Type 0 where
  pub answer : r ≡ outcome (set_refusal own ws) tt
  pub state : s ≡ granted (set_refusal own ws) (in_instant e none_offered) (at_rest e)

-- an offer writes one input's cell
pub record Offers {V : Type 0} (m : Meaning V) (own : ℕ) (ws : List ℕ) (e : Ended) (offered : List Bool) (cells : List V) (i : ℕ) (v : V) (r : Result Unit Refusal) (s : State) (after : List V) : Type 0 where
  pub answer : r ≡ outcome (offer_refusal m own ws cells offered i v) tt
  pub state : s ≡ in_instant e (granted (offer_refusal m own ws cells offered i v) (slice_set offered i true) offered)
  pub memory : after ≡ granted (offer_refusal m own ws cells offered i v) (slice_set cells i v) cells

-- a step ends its instant, refused or not
pub record Steps {V : Type 0} (m : Meaning V) (own : ℕ) (ws : List ℕ) (e : Ended) (offered : List Bool) (cells : List V) (r : Result Unit Refusal) (s : State) (after : List V) : Type 0 where
  pub answer : r ≡ outcome (moving_refusal own ws cells) tt
  pub state : s ≡ at_rest (granted (moving_refusal own ws cells) ByStep e)
  pub memory : after ≡ granted (moving_refusal own ws cells) (stepped_by m ws offered cells) cells

-- and so does a pass, which needs no memory
pub record Passes (own : ℕ) (ws : List ℕ) (e : Ended) (r : Result Unit Refusal) (s : State) : Type 0 where
  pub answer : r ≡ outcome (set_refusal own ws) tt
  pub state : s ≡ at_rest (granted (set_refusal own ws) ByPass e)

-- a restart leaves the run at rest as it was
pub record Restarts {V : Type 0} (m : Meaning V) (own : ℕ) (ws : List ℕ) (cells : List V) (r : Result Unit Refusal) (after : List V) : Type 0 where
  pub answer : r ≡ outcome (moving_refusal own ws cells) tt
  pub memory : after ≡ granted (moving_refusal own ws cells) (reset_by m ws (main_in ws) cells) cells

abbrev pub Reads : {V : Type 0} → ℕ → List ℕ → Ended → List V → ℕ → Result (Option V) Refusal → Type 0
Reads own ws e cells j r = r ≡ outcome (read_refusal own ws cells e j) (reading_of ws cells e j)
