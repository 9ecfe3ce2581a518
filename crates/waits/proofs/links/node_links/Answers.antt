use Rattle.std.proofs.Common.{sym, subst, arith, length-set, below_more}
use Rattle.std.proofs.lemmas.List.{get_or-set_same, get_or-set_other}
use Rattle.table.specs.Decoding.{table_of}
use Rattle.table.specs.Syntax.{equation_at, node_at}
use Rattle.waits.specs.declared.links.Links.{Links}
use Rattle.waits.specs.Linked.{Linked, no_links}
use Rattle.waits.proofs.Small.{equations_few}
use Rattle.waits.proofs.links.node_links.Goals as goal

pub equations-preserved : goal.equations-preserved
equations-preserved c =
    let N = node_at (table_of c.args.words.now) c.args.k in
    let few = equations_few c.args.words.now c.args.outline.now c.requires.described c.args.k c.requires.node in
    let links = c.equations.links in
    let i = c.equations.e in
    let new = c.links_of.result in (
      simp length-set c.equations.invariant.0,
      below_more _ _
          (λ e h.
          let F : Links → Type 0 = λ x. Linked N x (equation_at N e) in
          subst F (sym (get_or-set_other links i e new no_links (λ q. omega arith))) (c.equations.invariant.1 e h))
          (let F : Links → Type 0 = λ x. Linked N x (equation_at N i) in
          subst F (sym (get_or-set_same links i new no_links (omega (arith, c.equations.invariant.0, c.equation_count-e-end.ensures, few)))) c.links_of.ensures),
    )
