use Rattle.std.proofs.Common.{◌≡◌, ◌-◌, ◌<◌, sym, ap, ◌∙◌, arith}
use Rattle.table.specs.Decoding.{table_of}
use Rattle.table.specs.Syntax.{equation_at, equation_count, node_at}
use Rattle.code.specs.Statements.{call_reset}
use Rattle.code.specs.Code.{statements_words}
use Rattle.pieces.proofs.Adding.{holds_first}
use Rattle.blocks.specs.Numbered.{call_piece}
use Rattle.blocks.proofs.Blocked.{call_at, delay_at, reset_end}
use Rattle.blocks.proofs.Needing.{offset_small}
use Rattle.blocks.proofs.block.reset_piece.Goals as goal

pub push_call_reset-requires : goal.push_call_reset-requires
push_call_reset-requires c =
    let ws = c.args.words.now in
    let e = c.args.j - c.equation_count-equations.result in
    let l : e < equation_count (node_at (table_of ws) c.args.k) = omega (arith, c.equation_count-equations.ensures) in
    record {
      described = c.requires.planned.described;
      node = c.requires.node;
      within = l;
      fits = omega (arith, c.requires.offsets e l, offset_small ws c.args.plan.now c.requires.planned c.args.k c.requires.node e);
      room = omega (arith, c.new-piece.ensures.count);
    }

pub returns-then-j-equations : goal.returns-then-j-equations
returns-then-j-equations c =
    holds_first c.new-piece.ensures c.push_delay_reset.ensures
    (delay_at (table_of c.args.words.now) c.args.k c.args.j (omega (arith, c.equation_count-equations.ensures)))

pub returns-then-j-equations-2 : goal.returns-then-j-equations-2
returns-then-j-equations-2 c =
    let T = table_of c.args.words.now in
    let k = c.args.k in
    let j = c.args.j in
    let n = equation_count (node_at T k) in
    let is : c.equation_count-equations.result ≡ n = c.equation_count-equations.ensures in
    let e = j - c.equation_count-equations.result in
    let l : e < n = omega (arith, is) in
    holds_first c.new-piece.ensures c.push_call_reset.ensures
    (call_at T k j (omega (arith, is)) (omega (arith, is)) ∙ ap (λ m. call_piece T k (j - m)) (sym is)
    ∙ ap (λ o. statements_words (call_reset o (equation_at (node_at T k) e))) (sym (c.requires.offsets e l)))

pub returns-else-j-equations-2 : goal.returns-else-j-equations-2
returns-else-j-equations-2 c =
    let T = table_of c.args.words.now in
    let n = equation_count (node_at T c.args.k) in
    let is : c.equation_count-equations.result ≡ n = c.equation_count-equations.ensures in
    holds_first c.new-piece.ensures c.push.ensures (reset_end T c.args.k c.args.j (omega (arith, is)) (omega (arith, is)))
