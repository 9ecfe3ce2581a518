use Rattle.std.proofs.Common.{◌≡◌, ◌++◌, length, ap, arith}
use Rattle.table.specs.Decoding.{table_of}
use Rattle.table.specs.Syntax.{node_at}
use Rattle.rules.specs.Clocks.{clock_of}
use Rattle.code.specs.Statements.{assign, tests}
use Rattle.code.specs.Code.{action_words, tests_words}
use Rattle.pieces.proofs.Adding.{adds_as, adds_join}
use Rattle.pieces.proofs.statements.push_assigned.Goals as goal

pub returns : goal.returns
returns c =
    let N = node_at (table_of c.args.words.now) c.args.k in
    let act = action_words (assign c.args.op c.args.a c.args.b c.args.x) in
    let e : c.assign_length.result ≡ length act = omega (arith, c.assign_length.ensures) in
    adds_as _ _ (ap (λ n. tests_words (tests N (clock_of N c.args.x)) n ++ act) e) (adds_join c.push_clock.ensures c.push_assign.ensures)
