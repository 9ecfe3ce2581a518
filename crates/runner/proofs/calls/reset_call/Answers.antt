use Rattle.std.proofs.Common.{arith, rules}
use Rattle.runner.proofs.Places.{fine_in}
use Rattle.runner.proofs.Calling.{reset_earlier, reset_call, reset_behind}
use Rattle.runner.proofs.calls.reset_call.Goals as goal

pub offset_bounds-words-p : goal.offset_bounds-words-p
offset_bounds-words-p c = let h = fine_in c.args.words.now c.args.k c.args.p c.requires.good in search rules

pub bounds-words-p : goal.bounds-words-p
bounds-words-p c = fine_in c.args.words.now c.args.k c.args.p c.requires.good

pub reset_place-requires : goal.reset_place-requires
reset_place-requires c =
    let h = reset_earlier c.args.words.now c.args.k c.args.p c.requires.good c.requires.reset in
    record { sound = c.requires.sound; node = omega (arith, h, c.node-node.ensures, c.requires.node) }

pub returns : goal.returns
returns c =
    record {
      call = reset_call c.args.words.now c.args.k c.args.p c.requires.good _ c.requires.sound c.requires.node c.requires.reset c.node-node.ensures c.offset.ensures c.reset_place.ensures;
      start = c.reset_place.ensures;
      behind = reset_behind c.args.words.now c.args.k c.args.p c.requires.good c.requires.reset;
    }
