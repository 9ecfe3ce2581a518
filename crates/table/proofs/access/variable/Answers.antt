use Rattle.std.proofs.Common.{◌<◌, ◌≤◌, length, sym, arith}
use Rattle.std.proofs.lemmas.List.{get_or_past}
use Rattle.words.specs.declared.kinds.Clock.TheVariants.{Base}
use Rattle.table.specs.Syntax.{node_at, variable_count}
use Rattle.table.specs.Decoding.{table_of}
use Rattle.table.proofs.Accessed.{some_node}
use Rattle.table.proofs.access.variable.Goals as goal

pub returns-then-x-variable_count : goal.returns-then-x-variable_count
returns-then-x-variable_count c =
    let N = node_at (table_of c.args.words.now) c.args.k in
    let h : length N.variables ≤ c.args.x = omega (arith, c.variable_count.ensures) in
    sym (get_or_past N.variables c.args.x (record { ty = 0; clock = Base }) h)

pub variable_within-requires : goal.variable_within-requires
variable_within-requires c =
    let T = table_of c.args.words.now in
    let h : c.args.x < variable_count (node_at T c.args.k) = omega (arith, c.variable_count.ensures) in
    record { described = c.requires; node = some_node T c.args.k c.args.x h; within = h }
