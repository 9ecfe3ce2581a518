use Rattle.std.proofs.Common.{arith}
use Rattle.rules.specs.Offences.{variable_place}
use Rattle.rules.specs.Types.{variable_typed}
use Rattle.table.specs.Decoding.{table_of}
use Rattle.table.specs.Syntax.{node_at, variable_count}
use Rattle.types.proofs.Failing.{passes, fails}
use Rattle.types.proofs.Placed.{variable_within}
use Rattle.types.proofs.nodes.first_untyped_variable.Goals as goal

pub variable_place-requires : goal.variable_place-requires
variable_place-requires g c =
    let short = variable_within c.args.words.now c.args.outline.now c.requires.described c.args.k c.requires.node c.variables.x (omega (arith, c.variable_count-x-end.ensures)) in
    record { described = c.requires.described; node = c.requires.node; place = omega arith }

pub returns-then-not-variable_typed : goal.returns-then-not-variable_typed
returns-then-not-variable_typed g c =
    let T = table_of c.args.words.now in
    let N = node_at T c.args.k in
    fails (variable_typed g.S.OperatorSet.meaning N) c.variables.x c.variables.invariant c.if-not-variable_typed.ensures (variable_count N) (omega (arith, c.variable_count-x-end.ensures)) (variable_place T c.args.k) c.variable_place.result c.variable_place.ensures

pub variables-preserved : goal.variables-preserved
variables-preserved g c =
    let N = node_at (table_of c.args.words.now) c.args.k in
    passes (variable_typed g.S.OperatorSet.meaning N) c.variables.x c.variables.invariant c.if-not-variable_typed.ensures
