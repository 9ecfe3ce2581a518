use Rattle.std.proofs.Common.{◌≡◌, sym, refl, ◌∙◌, subst, arith}
use Rattle.schedule.specs.Order.{Scheduled}
use Rattle.schedule.specs.Placed.{is_placed}
use Rattle.schedule.specs.Waits.{comes_before}
use Rattle.schedule.proofs.Meant.{order_stands}
use Rattle.schedule.proofs.Placing.{going_none, going_stuck, going_next, going_all, next_below}
use Rattle.schedule.proofs.order.order_of.Goals as goal

pub loop-init : goal.loop-init
loop-init c = rw c.none-placed.ensures (going_none (comes_before c.args.waits.now.marks) c.args.n)

pub put-requires : goal.put-requires
put-requires c =
    let h = next_below (comes_before c.args.waits.now.marks) c.args.n (is_placed c.loop.placed.marks) c.in_ok-j.j c.in_ok-j.ensures in
    (omega arith, omega (arith, c.loop.invariant.counted))

pub loop-preserved : goal.loop-preserved
loop-preserved c =
    rw c.put.ensures
    (going_next (comes_before c.args.waits.now.marks) c.args.n c.loop.counter c.loop.placed c.in_ok-j.j
    c.loop.invariant (omega arith) (omega arith) c.in_ok-j.ensures)

pub returns-in_err-j : goal.returns-in_err-j
returns-in_err-j c =
    let B = comes_before c.args.waits.now.marks in
    let n = c.args.n in
    let e = going_stuck B n c.loop.counter c.loop.placed c.loop.invariant (omega arith) c.in_err-j.ensures in
    rw c.from_residual.ensures
    (record { past = λ _. refl; counted = tt; value = λ _. e; scheduled = λ _. subst (Scheduled B n) (sym e) (order_stands B n) })

pub returns : goal.returns
returns c =
    let B = comes_before c.args.waits.now.marks in
    let n = c.args.n in
    let q : c.loop.counter ≡ n = omega arith in
    let e = going_all B n c.loop.placed (rw q at c.loop.invariant) in
    record { past = λ h. absurd (omega arith); counted = c.loop.invariant.counted ∙ q; value = λ _. e; scheduled = λ _. subst (Scheduled B n) (sym e) (order_stands B n) }
