use Rattle.std.proofs.Common.{◌<◌, List, length, subst, arith}
use Rattle.std.proofs.lemmas.List.{take_all}
use Rattle.table.specs.Syntax.{Equation, node_at}
use Rattle.table.specs.Decoding.{table_of}
use Rattle.definitions.specs.Tallied.{Tallies}
use Rattle.definitions.proofs.Bounds.{equations_few, few_defined}
use Rattle.definitions.proofs.Steps.{tallies_more}
use Rattle.definitions.proofs.tally.Tally.of_node.Goals as goal

pub count_equation-requires : goal.count_equation-requires
count_equation-requires c =
    let few = equations_few c.args.words.now c.args.outline.now c.requires.described c.args.k c.requires.node in
    record {
      described = c.requires.described;
      node = c.requires.node;
      within = omega (arith, c.equation_count-e-end.ensures);
      room = λ x h. omega (arith, c.equations.invariant.1 x h, c.equation_count-e-end.ensures, few);
    }

pub equations-preserved : goal.equations-preserved
equations-preserved c =
    let es = (node_at (table_of c.args.words.now) c.args.k).equations in
    let l : c.equations.e < length es = omega (arith, c.equation_count-e-end.ensures) in (
      tallies_more _ _ es c.equations.e l c.equations.invariant.0 c.count_equation.ensures,
      λ x h. omega (
        arith,
        c.equations.invariant.1 x h,
        c.count_equation.ensures.counts x h,
        few_defined c.args.words.now c.args.outline.now c.requires.described c.args.k c.requires.node c.equations.e l x,
      ),
    )

pub returns : goal.returns
returns c =
    let es = (node_at (table_of c.args.words.now) c.args.k).equations in
    let F : List Equation → Type 0 = λ l. Tallies c.equations.tally l in
    subst F (take_all c.equations.e es (omega (arith, c.equation_count-e-end.ensures))) c.equations.invariant.0
