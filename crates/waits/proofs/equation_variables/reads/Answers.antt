use Rattle.std.proofs.Common.{◌<◌, subst, inl, inr, arith}
use Rattle.table.specs.Access.{Draws}
use Rattle.table.specs.Decoding.{table_of}
use Rattle.table.specs.Syntax.{Equation, equation_at, node_at}
use Rattle.table.specs.declared.drawn.Drawn.{Drawn}
use Rattle.waits.specs.Members.{OperandSmall}
use Rattle.waits.proofs.Small.{EquationSmall, equation_small}
use Rattle.waits.proofs.equation_variables.reads.Goals as goal

pub plain_reads-requires : goal.plain_reads-requires
plain_reads-requires c =
    let S : Equation → Type 0 = λ E. EquationSmall E in
    let s = subst S c.in-Operate.ensures
    (equation_small c.args.words.now c.args.outline.now c.requires.described c.args.k c.requires.node c.args.e c.requires.equation) in
    record { described = c.requires.described; small = (s.0, s.1) }

pub plain_reads-requires-in-Sample : goal.plain_reads-requires-in-Sample
plain_reads-requires-in-Sample c =
    let ws = c.args.words.now in
    let E = equation_at (node_at (table_of ws) c.args.k) c.args.e in
    let F : Drawn → Type 0 = λ D. Draws ws (table_of ws) c.args.k D E in
    let S : Equation → Type 0 = λ E. EquationSmall E in
    let s = equation_small ws c.args.outline.now c.requires.described c.args.k c.requires.node c.args.e c.requires.equation in
    let a : OperandSmall c.in-Sample.a =
    elim c.in-Sample.is [
      | inl p ↦ subst S (subst F p c.equation.ensures) s
      | inr p ↦ subst S (subst F p.1 c.equation.ensures) s
    ] in
    record { described = c.requires.described; small = (a, tt) }

pub selected_reads-requires : goal.selected_reads-requires
selected_reads-requires c =
    let ws = c.args.words.now in
    let E = equation_at (node_at (table_of ws) c.args.k) c.args.e in
    let F : Drawn → Type 0 = λ D. Draws ws (table_of ws) c.args.k D E in
    let S : Equation → Type 0 = λ E. EquationSmall E in
    let s = equation_small ws c.args.outline.now c.requires.described c.args.k c.requires.node c.args.e c.requires.equation in
    let t : (c.in-Merge.s < 64) × OperandSmall c.in-Merge.a × OperandSmall c.in-Merge.b =
    elim c.in-Merge.is [
      | inl p ↦ subst S (subst F p c.equation.ensures) s
      | inr p ↦ subst S (subst F p c.equation.ensures) s
    ] in
    record { described = c.requires.described; small = (t.0, (t.1, t.2)) }

pub call_reads-requires : goal.call_reads-requires
call_reads-requires c =
    let S : Equation → Type 0 = λ E. EquationSmall E in
    let q = c.in-Call.ensures in
    let s = equation_small c.args.words.now c.args.outline.now c.requires.described c.args.k c.requires.node c.args.e c.requires.equation in
    record { described = c.requires.described; node = omega (arith, q.0, c.requires.node); small = subst S q.1 s }
