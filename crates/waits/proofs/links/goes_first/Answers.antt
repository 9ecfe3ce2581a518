use Rattle.std.proofs.Common.{◌∙◌}
use Rattle.waits.proofs.links.goes_first.Goals as goal

pub returns : goal.returns
returns c = λ N E F p q.
    let a = p.delay in
    let b = q.delay in
    let f = c.meets.ensures _ _ p.defines q.reads p.small in
    let g = c.meets-2.ensures _ _ q.defines p.reads q.small in
    c.precedes.ensures ∙ rw (a, b, f, g)
