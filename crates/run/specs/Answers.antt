-- The states of a run, as its calls answer them.
use Rattle.std.specs.Prelude.{Ok, Err, Result}
use Rattle.calls.specs.declared.ended.Ended.{Ended}
use Rattle.run.specs.declared.state.Rest.{Rest}

-- how the latest instant ended, where a run is answered
abbrev pub ended_of : {E : Type 0} → Result Rest E → Result Ended E
ended_of (Ok r) = Ok r.ended
ended_of (Err e) = Err e
