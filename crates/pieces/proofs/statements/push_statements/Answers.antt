use Rattle.std.proofs.Common.{arith}
use Rattle.pieces.proofs.Fits.{drawn_fits}
use Rattle.pieces.proofs.statements.push_statements.Goals as goal

pub push_assigned-requires : goal.push_assigned-requires
push_assigned-requires c =
    let f = drawn_fits c.args.words.now c.args.outline.now c.requires.described c.args.k c.requires.node c.args.e c.requires.within _ c.in-Operate.ensures in
    record { described = c.requires.described; fits = (f.0, (f.1, f.2)); room = omega (arith, c.requires.room) }

pub push_assigned-requires-in-Sample : goal.push_assigned-requires-in-Sample
push_assigned-requires-in-Sample c =
    let f = drawn_fits c.args.words.now c.args.outline.now c.requires.described c.args.k c.requires.node c.args.e c.requires.within _ c.in-Sample.ensures in
    record { described = c.requires.described; fits = (f.0, (f.1, tt)); room = omega (arith, c.requires.room) }

pub push_selected-requires : goal.push_selected-requires
push_selected-requires c =
    let f = drawn_fits c.args.words.now c.args.outline.now c.requires.described c.args.k c.requires.node c.args.e c.requires.within _ c.in-Merge.ensures in
    record { described = c.requires.described; fits = (f.0, (f.1, (f.2, f.3))); room = omega (arith, c.requires.room) }

pub push_selected-requires-in-Choose : goal.push_selected-requires-in-Choose
push_selected-requires-in-Choose c =
    let f = drawn_fits c.args.words.now c.args.outline.now c.requires.described c.args.k c.requires.node c.args.e c.requires.within _ c.in-Choose.ensures in
    record { described = c.requires.described; fits = (f.0, (f.1, (f.2, f.3))); room = omega (arith, c.requires.room) }

pub push_assigned-requires-in-Delay : goal.push_assigned-requires-in-Delay
push_assigned-requires-in-Delay c =
    let f = drawn_fits c.args.words.now c.args.outline.now c.requires.described c.args.k c.requires.node c.args.e c.requires.within _ c.in-Delay.ensures in
    record { described = c.requires.described; fits = (f.0, (f.2, tt)); room = omega (arith, c.requires.room) }

pub push_call-requires : goal.push_call-requires
push_call-requires c =
    let q = c.in-Call.ensures in
    let f = drawn_fits c.args.words.now c.args.outline.now c.requires.described c.args.k c.requires.node c.args.e c.requires.within _ q.1 in
    record { described = c.requires.described; node = omega (arith, q.0, c.requires.node); fits = (c.requires.fits, f); room = c.requires.room }
