use Rattle.std.proofs.Common.{◌≤◌, length, sym, refl, ◌∙◌, arith, rules}
use Rattle.execution.specs.Words.{need_at}
use Rattle.runner.proofs.Places.{fine_in}
use Rattle.runner.proofs.Instructions.{operates, operate_reaches}
use Rattle.runner.proofs.operate.operate_all.Goals as goal

pub offset_bounds-words-p : goal.offset_bounds-words-p
offset_bounds-words-p g c = let h = fine_in c.args.words.now c.args.k c.args.start c.requires.good in search rules

pub bounds-words-p : goal.bounds-words-p
bounds-words-p g c = fine_in c.args.words.now c.args.k c.args.start c.requires.good

pub operators-init : goal.operators-init
operators-init g c = (omega arith, fine_in c.args.words.now c.args.k c.args.start c.requires.good, refl, c.requires.good, refl)

pub operate-p-requires : goal.operate-p-requires
operate-p-requires g c =
    let room : need_at c.args.words.now c.args.k ≤ length c.operators.cells = omega (arith, c.requires.room, c.operators.auto.cells) in
    let f = operates c.args.words.now c.args.k c.operators.p c.operators.w c.operators.invariant.3 c.operators.invariant.2
    (length c.operators.cells) room (sym c.kind.ensures ∙ c.operators-test.true) in
    record { cell = f.cell; operands = f.operands }

pub bounds-words-p-in-operators : goal.bounds-words-p-in-operators
bounds-words-p-in-operators g c =
    let room : need_at c.args.words.now c.args.k ≤ length c.operators.cells = omega (arith, c.requires.room, c.operators.auto.cells) in
    (operate_reaches c.args.words.now c.args.k c.operators.p c.operators.w c.operators.invariant.3 c.operators.invariant.2
    g.S.OperatorSet.meaning c.operators.cells c.operate-p.result c.operate-p.new.cells room (sym c.kind.ensures ∙ c.operators-test.true)
    c.operate-p.ensures.place c.operate-p.ensures.stored).within

pub operators-preserved : goal.operators-preserved
operators-preserved g c =
    let room : need_at c.args.words.now c.args.k ≤ length c.operators.cells = omega (arith, c.requires.room, c.operators.auto.cells) in
    let r = operate_reaches c.args.words.now c.args.k c.operators.p c.operators.w c.operators.invariant.3 c.operators.invariant.2
    g.S.OperatorSet.meaning c.operators.cells c.operate-p.result c.operate-p.new.cells room (sym c.kind.ensures ∙ c.operators-test.true)
    c.operate-p.ensures.place c.operate-p.ensures.stored in
    (omega (arith, c.operators.invariant.0, c.operate-p.ensures.place), r.within, refl, r.still, c.operators.invariant.4 ∙ r.same)
