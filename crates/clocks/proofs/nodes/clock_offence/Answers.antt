use Rattle.std.proofs.Common.{sym}
use Rattle.table.specs.Syntax.{equation_at, equation_count, node_at, variable_count}
use Rattle.table.specs.Decoding.{table_of}
use Rattle.rules.specs.Clocks.{equation_clocked, variable_clocked}
use Rattle.rules.specs.First.{first_bad}
use Rattle.rules.proofs.First.{bad_some}
use Rattle.clocks.proofs.nodes.clock_offence.Goals as goal

pub variable_place-requires : goal.variable_place-requires
variable_place-requires c =
    let N = node_at (table_of c.args.words.now) c.args.k in
    record {
      described = c.requires.described;
      node = c.requires.node;
      within = (bad_some (variable_clocked N) (variable_count N) c.in-Some.x (sym c.in-Some.ensures)).below;
    }

pub equation_place-requires : goal.equation_place-requires
equation_place-requires c =
    let N = node_at (table_of c.args.words.now) c.args.k in
    let found = c.in-Some-first_unclocked_equation in
    record {
      described = c.requires.described;
      node = c.requires.node;
      within =
          (bad_some (λ e. equation_clocked N (equation_at N e)) (equation_count N) found.e
          (sym {b = first_bad (λ e. equation_clocked N (equation_at N e)) (equation_count N)} found.ensures)).below;
    }
