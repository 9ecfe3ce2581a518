use Rattle.std.proofs.Common.{◌≡◌, sym, arith}
use Rattle.schedule.specs.Found.{ready}
use Rattle.schedule.specs.Placed.{is_placed}
use Rattle.schedule.specs.Waits.{comes_before}
use Rattle.schedule.proofs.First.{first_more, first_at}
use Rattle.schedule.proofs.Scan.{placed_already, held_back, free_more, ready_now}
use Rattle.schedule.proofs.order.next_ready.Goals as goal

pub scan-preserved-then-placed-j : goal.scan-preserved-then-placed-j
scan-preserved-then-placed-j c =
    let B = comes_before c.args.waits.now.marks in
    let P = is_placed c.args.placed.now.marks in (
      c.scan.invariant.0,
      first_more (ready B c.args.n P) c.scan.j c.scan.invariant.1
          (placed_already B c.args.n P c.scan.j c.if-placed-j.true),
    )

pub scan-preserved : goal.scan-preserved
scan-preserved c =
    let B = comes_before c.args.waits.now.marks in
    let P = is_placed c.args.placed.now.marks in (
      c.scan.invariant.0,
      first_more (ready B c.args.n P) c.scan.j c.scan.invariant.1
          (held_back B c.args.n P c.scan.j c.loop-i.i (omega arith) c.if-holds_back.ensures),
    )

pub loop-i-preserved : goal.loop-i-preserved
loop-i-preserved c =
    free_more (comes_before c.args.waits.now.marks) c.args.n (is_placed c.args.placed.now.marks) c.scan.j
    c.loop-i.i c.loop-i.invariant c.if-holds_back.ensures

pub returns-after-loop-i : goal.returns-after-loop-i
returns-after-loop-i c =
    let B = comes_before c.args.waits.now.marks in
    let P = is_placed c.args.placed.now.marks in
    let e : c.loop-i.i ≡ c.args.n = omega arith in
    sym (first_at (ready B c.args.n P) c.scan.j c.args.n (omega arith) c.scan.invariant.1
    (ready_now B c.args.n P c.scan.j c.if-placed-j.false (rw e at c.loop-i.invariant)))
