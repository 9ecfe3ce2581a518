use Rattle.waits.proofs.Small.{defined_small}
use Rattle.waits.proofs.links.links_of.Goals as goal

pub returns : goal.returns
returns c =
    record {
      reads = c.reads.ensures;
      defines = c.defines.ensures;
      small = defined_small c.args.words.now c.args.outline.now c.requires.described c.args.k c.requires.node c.args.e c.requires.equation;
      delay = c.is_delay.ensures;
    }
