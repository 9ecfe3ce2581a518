use Rattle.std.proofs.Common.{ap, ◌∙◌}
use Rattle.words.specs.Format.{ports_in}
use Rattle.table.proofs.Accessed.{ports_stand}
use Rattle.table.proofs.access.node_ports.Goals as goal

pub returns : goal.returns
returns c =
    c.ports_in.ensures ∙ ap ports_in c.word_at.ensures
    ∙ ports_stand c.args.words.now c.args.outline.now c.requires.described c.args.k c.requires.node
