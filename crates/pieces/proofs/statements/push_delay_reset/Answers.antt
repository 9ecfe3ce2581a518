use Rattle.pieces.proofs.Fits.{drawn_fits}
use Rattle.pieces.proofs.statements.push_delay_reset.Goals as goal

pub push_assign-requires : goal.push_assign-requires
push_assign-requires c =
    let f = drawn_fits c.args.words.now c.args.outline.now c.requires.described c.args.k c.requires.node c.args.e c.requires.within _ c.in-Delay.ensures in
    record { fits = (f.0, (f.1, tt)); room = c.requires.room }
