use Rattle.std.proofs.Common.{◌≡◌, true, None}
use Rattle.schedule.specs.Found.{first_of, ready}
use Rattle.schedule.specs.Placed.{is_placed}
use Rattle.schedule.specs.Waits.{comes_before}
use Rattle.schedule.proofs.Scan.{free}
use Rattle.schedule.proofs.order.next_ready.Given as goal

-- none of those passed over is ready
abbrev pub invariant-scan : goal.invariant-scan
invariant-scan l = (l.next ≡ None) × (first_of (ready (comes_before l.waits.marks) l.n (is_placed l.placed.marks)) l.j ≡ None)

abbrev pub invariant-loop-i : goal.invariant-loop-i
invariant-loop-i l = free (comes_before l.waits.marks) l.n (is_placed l.placed.marks) l.j l.i ≡ true
