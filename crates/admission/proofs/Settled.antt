-- What the answer of admission comes to, all its clauses together.
use Rattle.std.proofs.Common.{◌≡◌, refl, ℕ, ◌<◌, List, length, IfOk, Some, None, Ok, Err, Option, Result, sym, subst}
use Rattle.std.specs.Result.{result_err}
use Rattle.opset.specs.Meaning.{Meaning}
use Rattle.reader.specs.Whole.{Read, scan_of}
use Rattle.table.specs.Syntax.{Table}
use Rattle.table.specs.Decoding.{table_of}
use Rattle.table.specs.Access.{Described}
use Rattle.admission.specs.declared.faults.Fault.{Fault}
use Rattle.admission.specs.declared.found.Plan.{Plan}
use Rattle.admission.specs.Keeps.{KeepsRules, KeepsShape}
use Rattle.admission.specs.Verdict.{node_fault, first_fault}
use Rattle.admission.specs.Admission.{Plans, JudgedTable, JudgedBy, Judged, fault_by, fault_for}
use Rattle.admission.specs.Planned.{Planned}
use Rattle.admission.proofs.Progress.{Progress, fault_at, judged_fault}
use Rattle.admission.proofs.Exactly.{admission_stands}

pub record Settled {V : Type 0} (m : Meaning V) (own : ℕ) (ws : List ℕ) (r : Result Plan Fault) : Type 0 where
  pub judged : Judged m own ws r
  pub fault : result_err r ≡ fault_for m own ws
  pub planned : IfOk r (Planned ws)
  pub kept : IfOk r (λ p. KeepsRules m (table_of ws))

shape_from : {V : Type 0} (m : Meaning V) (T : Table) → KeepsRules m T → KeepsShape T
shape_from m T R = record {
  nodes = λ k h. let K = R.nodes k h in record { clocked = K.clocked; clocked_equations = K.clocked_equations; defined = K.defined; ordered = K.ordered };
  need = R.need;
}

module _ {V : Type 0} (m : Meaning V) (own : ℕ) (ws : List ℕ) where
  -- a node's fault is the answer
  pub settled_fault : (k : ℕ) (f : Fault) (o : _) (r : Result Plan Fault) → Ok o ≡ scan_of own ws → k < length (table_of ws)
      → first_fault m (table_of ws) k ≡ None → node_fault m (table_of ws) k ≡ Some f → r ≡ Err f → Settled m own ws r
  settled_fault k f o r e h a b q =
      let T = table_of ws in
      let first = fault_at m T k (length T) f h a b in
      let F : Read → Type 0 = λ x. Some f ≡ fault_by m T x in
      let H : Result Plan Fault → Type 0 = Settled m own ws in
      subst H (sym q) (record { judged = judged_fault m own ws o k f (Err f) e h a b refl; fault = subst F e (sym first); planned = tt; kept = tt })

  -- the plan is the answer
  pub settled_plan : (p : Plan) → Ok p.outline ≡ scan_of own ws → Described ws p.outline
      → Progress m (table_of ws) (length (table_of ws)) p.orders p.needs → Settled m own ws (Ok p)
  settled_plan p e d g =
      let T = table_of ws in
      let R = (admission_stands m T d.spells.keeps).only g.clear in
      let plans : Plans T p = record { orders = g.ordered; needs = g.needed } in
      let F : Read → Type 0 = λ x. None ≡ fault_by m T x in
      let J : Read → Type 0 = λ x. JudgedBy m ws x (Ok p) in
      let G : Option Fault → Type 0 = λ x. JudgedTable m T x (Ok p) in
      record {
        judged = subst J e (subst G (sym g.clear) plans);
        fault = subst F e (sym g.clear);
        planned = record { described = d; plans = plans; shape = shape_from m T R };
        kept = R;
      }
