use Rattle.std.proofs.Common.{ap, ◌∙◌}
use Rattle.words.specs.Format.{variable_in}
use Rattle.table.proofs.Accessed.{variable_stands}
use Rattle.table.proofs.access.variable_within.Goals as goal

pub returns : goal.returns
returns c =
    c.variable_in.ensures ∙ ap variable_in c.word_at.ensures
    ∙ variable_stands c.args.words.now c.args.outline.now c.requires.described c.args.k c.requires.node c.args.x c.requires.within
