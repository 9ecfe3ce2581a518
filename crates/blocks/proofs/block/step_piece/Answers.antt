use Rattle.std.proofs.Common.{◌<◌, get_or, sym, ap, ◌∙◌, arith}
use Rattle.table.specs.Decoding.{table_of}
use Rattle.table.specs.Syntax.{equation_at, equation_count, node_at}
use Rattle.admission.specs.Admission.{no_places}
use Rattle.code.specs.Statements.{statements}
use Rattle.code.specs.Code.{statements_words}
use Rattle.schedule.specs.Need.{needs}
use Rattle.code.specs.Statements.{offset}
use Rattle.waits.proofs.Small.{equations_few}
use Rattle.pieces.proofs.Adding.{holds_first}
use Rattle.blocks.proofs.Blocked.{step_end, turn_at}
use Rattle.blocks.proofs.Needing.{offset_small}
use Rattle.blocks.proofs.Placed.{place_below, place_is}
use Rattle.blocks.proofs.block.step_piece.Goals as goal

pub bounds-offsets-e : goal.bounds-offsets-e
bounds-offsets-e c =
    let ws = c.args.words.now in
    let p = c.args.plan.now in
    let k = c.args.k in
    let l : c.args.j < equation_count (node_at (table_of ws) k) = omega (arith, c.equation_count.ensures) in
    omega (
      arith,
      place_is ws p c.requires.planned k c.requires.node c.args.j l,
      place_below ws p c.requires.planned k c.requires.node c.args.j l,
      equations_few ws p.outline c.requires.planned.described k c.requires.node,
    )

pub push_statements-requires : goal.push_statements-requires
push_statements-requires c =
    let ws = c.args.words.now in
    let p = c.args.plan.now in
    let k = c.args.k in
    let n = equation_count (node_at (table_of ws) k) in
    let l : c.args.j < n = omega (arith, c.equation_count.ensures) in
    let e = get_or (get_or p.orders k no_places).places c.args.j 0 in
    let m : e < n = omega (arith, place_is ws p c.requires.planned k c.requires.node c.args.j l, place_below ws p c.requires.planned k c.requires.node c.args.j l) in
    record {
      described = c.requires.planned.described;
      node = c.requires.node;
      within = m;
      fits = omega (arith, c.requires.offsets e m, offset_small ws p c.requires.planned k c.requires.node e);
      room = omega (arith, c.new-piece.ensures.count);
    }

pub returns-then-j-equation_count : goal.returns-then-j-equation_count
returns-then-j-equation_count c =
    let ws = c.args.words.now in
    let p = c.args.plan.now in
    let T = table_of ws in
    let k = c.args.k in
    let N = node_at T k in
    let l : c.args.j < equation_count N = omega (arith, c.equation_count.ensures) in
    let is = place_is ws p c.requires.planned k c.requires.node c.args.j l in
    let e = get_or (get_or p.orders k no_places).places c.args.j 0 in
    let m : e < equation_count N = omega (arith, is, place_below ws p c.requires.planned k c.requires.node c.args.j l) in
    holds_first c.new-piece.ensures c.push_statements.ensures
    (turn_at T k c.args.j l ∙ ap (λ x. statements_words (statements N (offset (needs T) N x) (equation_at N x))) (sym is)
    ∙ ap (λ o. statements_words (statements N o (equation_at N e))) (sym (c.requires.offsets e m)))

pub returns-else-j-equation_count : goal.returns-else-j-equation_count
returns-else-j-equation_count c =
    holds_first c.new-piece.ensures c.push.ensures
    (step_end (table_of c.args.words.now) c.args.k c.args.j (omega (arith, c.equation_count.ensures)))
