use Rattle.std.proofs.Common.{◌<◌, length, sym, refl, ◌∙◌, arith, rules}
use Rattle.runner.proofs.Places.{fine_in}
use Rattle.runner.proofs.Instructions.{unless_cell, unless_on, unless_over}
use Rattle.runner.proofs.block.pass_tests.Goals as goal

pub offset_bounds-words-p : goal.offset_bounds-words-p
offset_bounds-words-p g c = let h = fine_in c.args.words.now c.args.k c.args.start c.requires.good in search rules

pub bounds-words-p : goal.bounds-words-p
bounds-words-p g c = fine_in c.args.words.now c.args.k c.args.start c.requires.good

pub tests-init : goal.tests-init
tests-init g c = (omega arith, fine_in c.args.words.now c.args.k c.args.start c.requires.good, refl, c.requires.good, c.requires.test, refl)

pub offset_bounds-cells-tested : goal.offset_bounds-cells-tested
offset_bounds-cells-tested g c =
    let f = unless_cell c.args.words.now c.args.k c.tests.p c.tests.w c.tests.invariant.3 c.tests.invariant.2 c.tests.invariant.4 in
    let i : c.tested.result < length c.args.cells.now = omega (arith, f, c.tested.ensures, c.requires.room) in search rules

pub bounds-cells-tested : goal.bounds-cells-tested
bounds-cells-tested g c =
    let f = unless_cell c.args.words.now c.args.k c.tests.p c.tests.w c.tests.invariant.3 c.tests.invariant.2 c.tests.invariant.4 in
    omega (arith, f, c.tested.ensures, c.requires.room)

pub returns-then-truth-sense : goal.returns-then-truth-sense
returns-then-truth-sense g c =
    let r = unless_over c.args.words.now c.args.k c.tests.p c.tests.w c.tests.invariant.3 c.tests.invariant.2 g.S.OperatorSet.meaning c.args.cells.now c.requires.room
    c.tests.invariant.4 c.tested.result c.index-cells-tested.result c.truth.result c.sense.result c.tested.ensures c.index-cells-tested.is c.truth.ensures c.sense.ensures
    c.distance.result c.if-truth-sense.true c.distance.ensures in
    record { ahead = omega (arith, c.tests.invariant.0); still = r.still; same = c.tests.invariant.5 ∙ r.same }

pub bounds-words-p-in-tests : goal.bounds-words-p-in-tests
bounds-words-p-in-tests g c =
    (unless_on c.args.words.now c.args.k c.tests.p c.tests.w c.tests.invariant.3 c.tests.invariant.2 g.S.OperatorSet.meaning c.args.cells.now c.requires.room
    c.tests.invariant.4 c.tested.result c.index-cells-tested.result c.truth.result c.sense.result c.tested.ensures c.index-cells-tested.is c.truth.ensures c.sense.ensures
    c.if-truth-sense.false).within

pub returns-then-kind-ne-UNLESS : goal.returns-then-kind-ne-UNLESS
returns-then-kind-ne-UNLESS g c =
    let r = unless_on c.args.words.now c.args.k c.tests.p c.tests.w c.tests.invariant.3 c.tests.invariant.2 g.S.OperatorSet.meaning c.args.cells.now c.requires.room
    c.tests.invariant.4 c.tested.result c.index-cells-tested.result c.truth.result c.sense.result c.tested.ensures c.index-cells-tested.is c.truth.ensures c.sense.ensures
    c.if-truth-sense.false in
    record { ahead = omega (arith, c.tests.invariant.0); still = r.still; same = c.tests.invariant.5 ∙ r.same }

pub tests-preserved : goal.tests-preserved
tests-preserved g c =
    let r = unless_on c.args.words.now c.args.k c.tests.p c.tests.w c.tests.invariant.3 c.tests.invariant.2 g.S.OperatorSet.meaning c.args.cells.now c.requires.room
    c.tests.invariant.4 c.tested.result c.index-cells-tested.result c.truth.result c.sense.result c.tested.ensures c.index-cells-tested.is c.truth.ensures c.sense.ensures
    c.if-truth-sense.false in
    (omega (arith, c.tests.invariant.0), r.within, refl, r.still, sym c.kind.ensures ∙ c.if-kind-ne-UNLESS.false, c.tests.invariant.5 ∙ r.same)
