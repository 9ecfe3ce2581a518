-- The promise is kept.
use Rattle.std.proofs.Common.{ℕ, ◌-◌, ◌<◌, List, length, ap, subst, arith}
use Rattle.opset.specs.Meaning.{Meaning, Laws}
use Rattle.table.specs.Syntax.{Table, node_at}
use Rattle.admission.specs.Keeps.{KeepsRules}
use Rattle.streams.specs.History.{main}
use Rattle.streams.specs.Reordered.{Reordered, ReorderedNode}
use Rattle.streams.proofs.Histories.{machine_shows, streams_exist, streams_unique}
use Rattle.streams.proofs.Typed.{streams_typed}
use Rattle.streams.proofs.Orders.{order_free}
use Rattle.layout.specs.Layout.{Begins}
use Rattle.layout.proofs.Whole.{code_is_sound, code_runs_statements}
use Rattle.layout.proofs.Needed.{ports_fit}
use Rattle.realization.specs.Realizes.{BlocksRealizeMachines}
use Rattle.calls.specs.Calls.{State}
use Rattle.calls.specs.Story.{Call}
use Rattle.calls.specs.Answers.{main_node, Right}
use Rattle.calls.specs.Made.{Made}
use Rattle.calls.specs.Promise.{PromiseStands}
use Rattle.calls.proofs.Answered.{answered}
use Rattle.calls.proofs.Reordered.{answers_same}

module _ {V : Type 0} (m : Meaning V) (laws : Laws m) (realizes : BlocksRealizeMachines m) where
  main_below : (T : Table) → KeepsRules m T → main T < length T
  main_below T K = let c = K.limits.count.0 in omega arith

  right : (own : ℕ) (ws : List ℕ) (T : Table) → Begins own T ws → (K : KeepsRules m T)
      → (cs : List (Call V)) (s : State) (cells : List V) → Made m own ws cs s cells → Right m T cs
  right own ws T b K cs s cells made =
      let l = main_below T K in
      let N = K.limits.nodes (main T) l in
      (answered m laws own T ws (code_is_sound own T ws b).1 (code_runs_statements m own T ws b) (realizes T K (main T) l) (machine_shows m T K)
      (streams_typed m laws T K) (omega (arith, l)) (ports_fit T K.limits (main T) l) (N.inputs.1, N.count.0) (K.nodes (main T) l).typed made).1

  main_reordered : (T T' : Table) → KeepsRules m T → Reordered T T' → ReorderedNode (main_node T) (main_node T')
  main_reordered T T' K r = subst (λ k. ReorderedNode (main_node T) (node_at T' k)) (ap (λ n. n - 1) r.count) (r.nodes (main T) (main_below T K))

  pub promise_stands : PromiseStands m
  promise_stands own ws T b K cs s cells made = record {
    answered = right own ws T b K cs s cells made;
    streams = λ h long k. let e = ((streams_exist m T K).history h long).1 k in record { exist = (e.0, e.1); unique = (streams_unique m T K).history h k };
    order_free = λ T' ws' b' K' r cs' s' cells' made' same.
        answers_same m T T' (main_reordered T T' K r) (K.limits.nodes (main T) (main_below T K)).count.0 ((order_free m T T' r).same K)
        cs cs' (right own ws T b K cs s cells made) (right own ws' T' b' K' cs' s' cells' made') same;
  }
