use Rattle.std.proofs.Common.{sym, ap, ◌∙◌}
use Rattle.instructions.specs.declared.code_word.CodeWord.TheVariants.{Reset}
use Rattle.table.specs.Decoding.{table_of}
use Rattle.table.specs.Syntax.{node_at}
use Rattle.rules.specs.Clocks.{clock_of}
use Rattle.code.specs.Statements.{restart_statements, tests}
use Rattle.code.specs.Code.{statements_words}
use Rattle.pieces.proofs.Adding.{adds_as, adds_join}
use Rattle.pieces.proofs.Stated.{restart_words}
use Rattle.pieces.proofs.statements.push_restart.Goals as goal

pub returns-in-Some : goal.returns-in-Some
returns-in-Some c =
    let N = node_at (table_of c.args.words.now) c.args.k in
    let g = c.args.g in
    let off = c.args.offset in
    adds_as _ _
    (restart_words (tests N (clock_of N c.in-Some.r)) c.in-Some.r (Reset g off)
    ∙ ap (λ r. statements_words (restart_statements N g off r)) (sym c.in-Some.is))
    (adds_join c.push_clock.ensures (adds_join c.push.ensures c.push-in-Some.ensures))
