use Rattle.std.proofs.Common.{ℕ, ◌+◌, ◌*◌, ◌<◌, Bool, get_or, take, arith}
use Rattle.rules.specs.Offences.{equation_place}
use Rattle.rules.specs.Types.{equation_typed}
use Rattle.table.specs.Decoding.{table_of}
use Rattle.table.specs.Syntax.{node_at, equation_at, equation_count}
use Rattle.types.proofs.Failing.{passes, fails}
use Rattle.types.proofs.nodes.first_untyped_equation.Goals as goal

pub returns-then-not-equation_typed : goal.returns-then-not-equation_typed
returns-then-not-equation_typed g c =
    let T = table_of c.args.words.now in
    let k = c.args.k in
    let N = node_at T k in
    let e = c.equations.e in
    let p : ℕ → Bool = λ e. equation_typed g.S.OperatorSet.meaning (take k T) N (equation_at N e) in
    let h : e < equation_count N = omega (arith, c.equation_count-e-end.ensures) in
    fails p e c.equations.invariant c.if-not-equation_typed.ensures (equation_count N) h (equation_place T k) (get_or c.args.outline.now.heads (64 * k + e) 0) ((c.requires.described.spells.outlines.each k c.requires.node).heads e h)

pub equations-preserved : goal.equations-preserved
equations-preserved g c =
    let T = table_of c.args.words.now in
    let k = c.args.k in
    let N = node_at T k in
    let p : ℕ → Bool = λ e. equation_typed g.S.OperatorSet.meaning (take k T) N (equation_at N e) in
    passes p c.equations.e c.equations.invariant c.if-not-equation_typed.ensures
