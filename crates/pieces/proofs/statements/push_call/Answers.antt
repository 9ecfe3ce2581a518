use Rattle.std.proofs.Common.{[], ◌∷◌, ◌++◌, sym, ap, ◌∙◌}
use Rattle.table.specs.Decoding.{table_of}
use Rattle.table.specs.Syntax.{node_at}
use Rattle.rules.specs.Clocks.{call_clock}
use Rattle.code.specs.Statements.{restart_statements, step, under}
use Rattle.code.specs.Code.{statements_words}
use Rattle.pieces.specs.Fitting.{call_operands, call_gives}
use Rattle.pieces.proofs.Adding.{adds_as, adds_join}
use Rattle.pieces.proofs.Stated.{statement_one, statements_append}
use Rattle.pieces.proofs.statements.push_call.Goals as goal

pub returns : goal.returns
returns c =
    let ws = c.args.words.now in
    let N = node_at (table_of ws) c.args.k in
    let g = c.args.g in
    let gs = call_gives ws g c.args.at in
    let rs = restart_statements N g c.args.offset c.args.restart in
    let s = under N (call_clock N gs) (step g c.args.offset (call_operands ws g c.args.at) gs) in
    adds_as _ _ (ap (λ l. statements_words rs ++ l) (statement_one s) ∙ sym (statements_append rs (s ∷ [])))
    (adds_join c.push_restart.ensures c.push_stepped.ensures)
