use Rattle.std.proofs.Common.{◌≡◌, ℕ, ◌<◌, length, Err, ap, ◌∙◌, subst, arith}
use Rattle.std.proofs.lemmas.Result.{err_from_is_err_and}
use Rattle.table.specs.Decoding.{table_of}
use Rattle.table.specs.Access.{Described}
use Rattle.schedule.specs.Placed.{sequence}
use Rattle.admission.specs.declared.faults.Fault.TheVariants.{Rules, Order as Circle, Size}
use Rattle.admission.specs.declared.found.Plan.{Plan}
use Rattle.admission.specs.Verdict.{rule_fault}
use Rattle.admission.proofs.Needed.{need_at_lem}
use Rattle.admission.proofs.Progress.{Progress, progress_more, rules_fault, order_fault_lem, size_fault_lem, kept_fault, kept_clear}
use Rattle.admission.proofs.Settled.{settled_fault, settled_plan}
use Rattle.admission.proofs.whole.admit.Goals as goal

pub returns-in_err-rules_kept : goal.returns-in_err-rules_kept
returns-in_err-rules_kept g c =
    let m = g.S.OperatorSet.meaning in
    let ws = c.args.words.now in
    let k = c.nodes.k in
    let reading = c.in_ok-outline.ensures in
    let h : k < length (table_of ws) = omega (arith, reading.spelled.outlines.nodes) in
    let f = c.in_err-rules_kept.field-0.0 in
    let p = err_from_is_err_and c.from_residual-in_err-rules_kept.result c.from_residual-in_err-rules_kept.ensures.1 in
    let b = rules_fault m (table_of ws) k f (kept_fault (rule_fault m (table_of ws) k) f c.in_err-rules_kept.ensures) in
    let s = settled_fault m g.S.OperatorSet.numbered ws k (Rules f) c.in_ok-outline.outline c.from_residual-in_err-rules_kept.result
    reading.value h c.nodes.invariant.clear b (p.1 ∙ ap Err p.2) in
    record { judged = s.judged; fault = s.fault; planned = s.planned; kept = s.kept }

pub returns-in_err-orders : goal.returns-in_err-orders
returns-in_err-orders g c =
    let m = g.S.OperatorSet.meaning in
    let ws = c.args.words.now in
    let k = c.nodes.k in
    let reading = c.in_ok-outline.ensures in
    let h : k < length (table_of ws) = omega (arith, reading.spelled.outlines.nodes) in
    let f = c.in_err-orders.field-0.0 in
    let p = err_from_is_err_and c.from_residual-in_err-orders.result c.from_residual-in_err-orders.ensures.1 in
    let clear = kept_clear (rule_fault m (table_of ws) k) c.in_ok-rules_kept.ensures in
    let b = order_fault_lem m (table_of ws) k f clear c.in_err-orders.ensures.0 c.in_err-orders.ensures.1 in
    let s = settled_fault m g.S.OperatorSet.numbered ws k (Circle f) c.in_ok-outline.outline c.from_residual-in_err-orders.result
    reading.value h c.nodes.invariant.clear b (p.1 ∙ ap Err p.2) in
    record { judged = s.judged; fault = s.fault; planned = s.planned; kept = s.kept }

pub returns-in_err-needs : goal.returns-in_err-needs
returns-in_err-needs g c =
    let m = g.S.OperatorSet.meaning in
    let ws = c.args.words.now in
    let k = c.nodes.k in
    let o = c.in_ok-outline.outline in
    let reading = c.in_ok-outline.ensures in
    let d : Described ws o = record { own = g.S.OperatorSet.numbered; spells = reading.spelled } in
    let h : k < length (table_of ws) = omega (arith, reading.spelled.outlines.nodes) in
    let f = c.in_err-needs.field-0.0 in
    let p = err_from_is_err_and c.from_residual-in_err-needs.result c.from_residual-in_err-needs.ensures.1 in
    let clear = kept_clear (rule_fault m (table_of ws) k) c.in_ok-rules_kept.ensures in
    let n = need_at_lem ws o d k h c.nodes.needs c.nodes.invariant.needed in
    let b = size_fault_lem m (table_of ws) k (sequence c.in_ok-orders.field-0) f clear c.in_ok-orders.ensures (omega (arith, n, c.in_err-needs.ensures.0)) c.in_err-needs.ensures.1 in
    let s = settled_fault m g.S.OperatorSet.numbered ws k (Size f) o c.from_residual-in_err-needs.result
    reading.value h c.nodes.invariant.clear b (p.1 ∙ ap Err p.2) in
    record { judged = s.judged; fault = s.fault; planned = s.planned; kept = s.kept }

pub nodes-preserved : goal.nodes-preserved
nodes-preserved g c =
    let m = g.S.OperatorSet.meaning in
    let ws = c.args.words.now in
    let k = c.nodes.k in
    let o = c.in_ok-outline.outline in
    let reading = c.in_ok-outline.ensures in
    let d : Described ws o = record { own = g.S.OperatorSet.numbered; spells = reading.spelled } in
    let h : k < length (table_of ws) = omega (arith, reading.spelled.outlines.nodes) in
    progress_more m ws o d k h (omega (arith, h, reading.spelled.keeps.count.1)) c.nodes.orders c.nodes.needs c.nodes.invariant
    c.in_ok-orders.field-0 c.in_ok-needs.field-0 (kept_clear (rule_fault m (table_of ws) k) c.in_ok-rules_kept.ensures)
    c.in_ok-orders.ensures c.in_ok-needs.ensures.0 c.in_ok-needs.ensures.1

pub returns : goal.returns
returns g c =
    let m = g.S.OperatorSet.meaning in
    let ws = c.args.words.now in
    let o = c.in_ok-outline.outline in
    let p : Plan = record { outline = o; orders = c.nodes.orders; needs = c.nodes.needs } in
    let reading = c.in_ok-outline.ensures in
    let d : Described ws o = record { own = g.S.OperatorSet.numbered; spells = reading.spelled } in
    let all : c.nodes.k ≡ length (table_of ws) = omega (arith, reading.spelled.outlines.nodes) in
    let F : ℕ → Type 0 = λ k. Progress m (table_of ws) k c.nodes.orders c.nodes.needs in
    let s = settled_plan m g.S.OperatorSet.numbered ws p reading.value d (subst F all c.nodes.invariant) in
    record { judged = s.judged; fault = s.fault; planned = s.planned; kept = s.kept }
