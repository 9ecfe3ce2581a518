use Rattle.std.proofs.Common.{◌+◌, ◌<◌, ◌≤◌, length, drop, sym, refl, ◌∙◌, arith, rules}
use Rattle.execution.specs.Words.{gives_in, program}
use Rattle.runner.proofs.Copying.{no_give, gives_copied, give_cell, give_place, give_ahead, give_more}
use Rattle.runner.proofs.copies.copy_out.Goals as goal

pub bounds-cells-at : goal.bounds-cells-at
bounds-cells-at g c =
    let here : c.args.p + c.gives.i < length c.args.words.now = omega (arith, c.gives.invariant.1.count, c.requires.behind) in
    let room : c.args.at + length (gives_in (drop c.args.p (program c.args.words.now))) ≤ length c.gives.cells = omega (arith, c.requires.room, c.gives.auto.cells) in
    give_place c.args.words.now c.args.cells.now c.gives.cells c.args.p c.args.at c.gives.i c.gives.w here c.gives.invariant.0 (sym c.kind.ensures ∙ c.gives-test.true) c.gives.invariant.1 room

pub offset_bounds-cells-variable : goal.offset_bounds-cells-variable
offset_bounds-cells-variable g c =
    let here : c.args.p + c.gives.i < length c.args.words.now = omega (arith, c.gives.invariant.1.count, c.requires.behind) in
    let l = give_cell c.args.words.now c.args.cells.now c.gives.cells c.args.p c.args.at c.gives.i c.gives.w here c.gives.invariant.0 (sym c.kind.ensures ∙ c.gives-test.true) c.gives.invariant.1 in
    let i : c.variable.result < length c.gives.cells = omega (arith, l, c.variable.ensures) in search rules

pub bounds-cells-variable : goal.bounds-cells-variable
bounds-cells-variable g c =
    let here : c.args.p + c.gives.i < length c.args.words.now = omega (arith, c.gives.invariant.1.count, c.requires.behind) in
    let l = give_cell c.args.words.now c.args.cells.now c.gives.cells c.args.p c.args.at c.gives.i c.gives.w here c.gives.invariant.0 (sym c.kind.ensures ∙ c.gives-test.true) c.gives.invariant.1 in
    omega (arith, l, c.variable.ensures)

pub bounds-words-p-in-gives : goal.bounds-words-p-in-gives
bounds-words-p-in-gives g c =
    let here : c.args.p + c.gives.i < length c.args.words.now = omega (arith, c.gives.invariant.1.count, c.requires.behind) in
    give_ahead c.args.words.now c.args.cells.now c.gives.cells c.args.p c.args.at c.gives.i c.gives.w here c.gives.invariant.0 (sym c.kind.ensures ∙ c.gives-test.true) c.gives.invariant.1 c.requires.behind

pub gives-preserved : goal.gives-preserved
gives-preserved g c =
    let here : c.args.p + c.gives.i < length c.args.words.now = omega (arith, c.gives.invariant.1.count, c.requires.behind) in
    let room : c.args.at + length (gives_in (drop c.args.p (program c.args.words.now))) ≤ length c.gives.cells = omega (arith, c.requires.room, c.gives.auto.cells) in
    (refl, give_more c.args.words.now c.args.cells.now c.gives.cells c.args.p c.args.at c.gives.i c.gives.w here c.gives.invariant.0 (sym c.kind.ensures ∙ c.gives-test.true) c.gives.invariant.1 c.variable.result c.index-cells-at.result room c.variable.ensures c.index-cells-at.is)

pub returns : goal.returns
returns g c =
    let here : c.args.p + c.gives.i < length c.args.words.now = omega (arith, c.gives.invariant.1.count, c.requires.behind) in
    let none = no_give c.args.words.now c.args.p c.gives.i c.gives.w here c.gives.invariant.0 (λ e. c.gives-test.false (c.kind.ensures ∙ e)) in
    let done = gives_copied c.args.cells.now c.gives.cells c.args.at c.gives.i _ _ c.gives.invariant.1 none in
    record { count = done.0; copied = done.1 }
