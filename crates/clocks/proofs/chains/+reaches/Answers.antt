use Rattle.std.proofs.Common.{◌∙◌, arith, le-ltb}
use Rattle.table.specs.Syntax.{node_at}
use Rattle.table.specs.Decoding.{table_of}
use Rattle.clocks.proofs.Samplers.{on_base, too_long, by_sampler}
use Rattle.clocks.proofs.chains.+reaches.Goals as goal

pub returns-in-Base : goal.returns-in-Base
returns-in-Base t c =
    on_base c.args.depth (node_at (table_of c.args.words.now) c.args.k) c.args.x c.in-Base.ensures

pub returns-then-depth-gt0 : goal.returns-then-depth-gt0
returns-then-depth-gt0 t c =
    c.reaches.ensures
    ∙ by_sampler c.args.depth (node_at (table_of c.args.words.now) c.args.k) c.args.x c.in-On.sampler _ (omega arith) c.in-On.ensures

pub returns-else-depth-gt0 : goal.returns-else-depth-gt0
returns-else-depth-gt0 t c =
    le-ltb 0 c.args.depth c.if-depth-gt0.false
    ∙ too_long c.args.depth (node_at (table_of c.args.words.now) c.args.k) c.args.x c.in-On.sampler _ (omega arith) c.in-On.ensures
