-- The calls that are made of a run since it was opened, each by its own contract: `cells` is the memory that the granted ones share and that nothing else writes. A refused call may be given any memory.
use Rattle.std.specs.Prelude.{ℕ, Bool, List, [], ◌∷◌, Ok, Err, Option}
use Rattle.opset.specs.Meaning.{Meaning}
use Rattle.calls.specs.declared.refusal.Refusal.{Refusal}
use Rattle.calls.specs.declared.refusal.Refusal.TheVariants.{Set}
use Rattle.calls.specs.declared.ended.Ended.{Ended}
use Rattle.calls.specs.Calls.{State, at_rest, in_instant, enough, Opens, BeginsInstant, Offers, Steps, Passes, Restarts, Reads}
use Rattle.calls.specs.Story.{beginning, offering, stepping, passing, restarting, reading, Ask, begin, offer, step, pass, restart, read, foreign, Answer, done, value, refused, Call}

abbrev pub made : {V : Type 0} → Ask V → Answer V → Call V
made ask answer = record { ask = ask; answer = answer }

-- the latest call first
pub data Made {V : Type 0} (m : Meaning V) (own : ℕ) (ws : List ℕ) : List (Call V) → State → List V → Type 0 where
  opened : {before cells : List V} {e : Ended} → Opens m own ws before (Ok e) cells → Made m own ws [] (at_rest e) cells
  begun : {cs : List (Call V)} {e : Ended} {s : State} {cells : List V} → Made m own ws cs (at_rest e) cells
      → BeginsInstant own ws e (Ok tt) s → Made m own ws (made begin done ∷ cs) s cells
  begin_refused : {cs : List (Call V)} {e : Ended} {s : State} {cells : List V} {why : Refusal} → Made m own ws cs (at_rest e) cells
      → BeginsInstant own ws e (Err why) s → Made m own ws (made begin (refused why) ∷ cs) s cells
  offered : {cs : List (Call V)} {e : Ended} {os : List Bool} {s : State} {cells after : List V} {i : ℕ} {v : V} → Made m own ws cs (in_instant e os) cells
      → Offers m own ws e os cells i v (Ok tt) s after → Made m own ws (made (offer (enough ws cells) i v) done ∷ cs) s after
  offer_refused : {cs : List (Call V)} {e : Ended} {os : List Bool} {s : State} {cells given after : List V} {i : ℕ} {v : V} {why : Refusal}
      → Made m own ws cs (in_instant e os) cells
      → Offers m own ws e os given i v (Err why) s after → Made m own ws (made (offer (enough ws given) i v) (refused why) ∷ cs) s cells
  stepped : {cs : List (Call V)} {e : Ended} {os : List Bool} {s : State} {cells after : List V} → Made m own ws cs (in_instant e os) cells
      → Steps m own ws e os cells (Ok tt) s after → Made m own ws (made (step (enough ws cells)) done ∷ cs) s after
  step_refused : {cs : List (Call V)} {e : Ended} {os : List Bool} {s : State} {cells given after : List V} {why : Refusal} → Made m own ws cs (in_instant e os) cells
      → Steps m own ws e os given (Err why) s after → Made m own ws (made (step (enough ws given)) (refused why) ∷ cs) s cells
  passed : {cs : List (Call V)} {e : Ended} {os : List Bool} {s : State} {cells : List V} → Made m own ws cs (in_instant e os) cells
      → Passes own ws e (Ok tt) s → Made m own ws (made pass done ∷ cs) s cells
  pass_refused : {cs : List (Call V)} {e : Ended} {os : List Bool} {s : State} {cells : List V} {why : Refusal} → Made m own ws cs (in_instant e os) cells
      → Passes own ws e (Err why) s → Made m own ws (made pass (refused why) ∷ cs) s cells
  restarted : {cs : List (Call V)} {e : Ended} {cells after : List V} → Made m own ws cs (at_rest e) cells
      → Restarts m own ws cells (Ok tt) after → Made m own ws (made (restart (enough ws cells)) done ∷ cs) (at_rest e) after
  restart_refused : {cs : List (Call V)} {e : Ended} {cells given after : List V} {why : Refusal} → Made m own ws cs (at_rest e) cells
      → Restarts m own ws given (Err why) after → Made m own ws (made (restart (enough ws given)) (refused why) ∷ cs) (at_rest e) cells
  was_read : {cs : List (Call V)} {e : Ended} {cells : List V} {j : ℕ} {o : Option V} → Made m own ws cs (at_rest e) cells
      → Reads own ws e cells j (Ok o) → Made m own ws (made (read (enough ws cells) j) (value o) ∷ cs) (at_rest e) cells
  read_refused : {cs : List (Call V)} {e : Ended} {cells : List V} {j : ℕ} {why : Refusal} → Made m own ws cs (at_rest e) cells → (given : List V)
      → Reads own ws e given j (Err why) → Made m own ws (made (read (enough ws given) j) (refused why) ∷ cs) (at_rest e) cells
  -- given a set of another number every call is refused by that, before it looks at anything else; a step or a pass still ends its instant
  foreign_begin : {cs : List (Call V)} {e : Ended} {cells : List V} → Made m own ws cs (at_rest e) cells
      → Made m own ws (made (foreign beginning) (refused Set) ∷ cs) (at_rest e) cells
  foreign_offer : {cs : List (Call V)} {e : Ended} {os : List Bool} {cells : List V} → Made m own ws cs (in_instant e os) cells
      → Made m own ws (made (foreign offering) (refused Set) ∷ cs) (in_instant e os) cells
  foreign_step : {cs : List (Call V)} {e : Ended} {os : List Bool} {cells : List V} → Made m own ws cs (in_instant e os) cells
      → Made m own ws (made (foreign stepping) (refused Set) ∷ cs) (at_rest e) cells
  foreign_pass : {cs : List (Call V)} {e : Ended} {os : List Bool} {cells : List V} → Made m own ws cs (in_instant e os) cells
      → Made m own ws (made (foreign passing) (refused Set) ∷ cs) (at_rest e) cells
  foreign_restart : {cs : List (Call V)} {e : Ended} {cells : List V} → Made m own ws cs (at_rest e) cells
      → Made m own ws (made (foreign restarting) (refused Set) ∷ cs) (at_rest e) cells
  foreign_read : {cs : List (Call V)} {e : Ended} {cells : List V} → Made m own ws cs (at_rest e) cells
      → Made m own ws (made (foreign reading) (refused Set) ∷ cs) (at_rest e) cells
