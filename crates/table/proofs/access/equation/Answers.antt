use Rattle.std.proofs.Common.{sym, subst}
use Rattle.table.specs.Access.{Draws}
use Rattle.table.specs.Syntax.{equation_at, node_at}
use Rattle.table.specs.Decoding.{table_of}
use Rattle.table.specs.declared.drawn.Drawn.{Drawn}
use Rattle.table.proofs.Accessed.{equation_stands}
use Rattle.table.proofs.access.equation.Goals as goal

pub returns : goal.returns
returns c =
    let ws = c.args.words.now in
    let F : Drawn → Type 0 = λ D. Draws ws (table_of ws) c.args.k D (equation_at (node_at (table_of ws) c.args.k) c.args.e) in
    subst F (sym c.drawn_at.ensures)
    (equation_stands ws c.args.outline.now c.requires.described c.args.k c.requires.node c.args.e c.requires.within)
