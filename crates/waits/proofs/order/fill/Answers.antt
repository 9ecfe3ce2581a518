use Rattle.std.proofs.Common.{◌≡◌, ◌+◌, ◌*◌, ◌<◌, false, length, ◌∙◌, inl, inr, arith, length-set, below_more}
use Rattle.std.proofs.lemmas.Bool.{cases_eq}
use Rattle.std.proofs.lemmas.List.{get_or-set_same, get_or-set_other}
use Rattle.table.specs.Decoding.{table_of}
use Rattle.table.specs.Syntax.{equation_at, equation_count, node_at}
use Rattle.schedule.specs.Reads.{before}
use Rattle.waits.proofs.Small.{equations_few}
use Rattle.waits.proofs.order.fill.Goals as goal

pub columns-preserved : goal.columns-preserved
columns-preserved c =
    let N = node_at (table_of c.args.words.now) c.args.k in
    let few = equations_few c.args.words.now c.args.outline.now c.requires.described c.args.k c.requires.node in
    let n-is = c.equation_count-n.ensures in
    let marks = c.columns.marks in
    let i = c.rows.i in
    let j = c.columns.j in
    let v = c.goes_first.result in
    let at = 64 * i + j in
    let il : i < equation_count N = omega (arith, n-is) in
    let jl : j < equation_count N = omega (arith, n-is) in
    let l : at < length marks = omega (arith, c.columns.invariant.0, few, il, jl) in
    let is : v ≡ before N i j = c.goes_first.ensures N (equation_at N i) (equation_at N j) (c.node_links-links.ensures i il) (c.node_links-links.ensures j jl) in (
      simp length-set c.columns.invariant.0,
      (λ a b h k. get_or-set_other marks at (64 * a + b) v false (λ q. omega (arith, few, n-is, jl)) ∙ c.columns.invariant.1 a b h k),
      below_more _ _
          (λ b h. get_or-set_other marks at (64 * i + b) v false (λ q. omega arith) ∙ c.columns.invariant.2 b h)
          (get_or-set_same marks at v false l ∙ is),
    )

pub rows-preserved : goal.rows-preserved
rows-preserved c = (
  c.columns.invariant.0,
  λ a b h k. elim (cases_eq a c.rows.i) [
    | inl q ↦ rw q (c.columns.invariant.2 b (omega arith))
    | inr q ↦ c.columns.invariant.1 a b (omega arith) k
  ],
)
