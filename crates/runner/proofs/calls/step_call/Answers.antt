use Rattle.std.proofs.Common.{arith, rules}
use Rattle.runner.proofs.Places.{fine_in}
use Rattle.runner.proofs.Calling.{step_earlier, step_call, step_behind}
use Rattle.runner.proofs.calls.step_call.Goals as goal

pub offset_bounds-words-p : goal.offset_bounds-words-p
offset_bounds-words-p c = let h = fine_in c.args.words.now c.args.k c.args.p c.requires.good in search rules

pub bounds-words-p : goal.bounds-words-p
bounds-words-p c = fine_in c.args.words.now c.args.k c.args.p c.requires.good

pub step_place-requires : goal.step_place-requires
step_place-requires c =
    let h = step_earlier c.args.words.now c.args.k c.args.p c.requires.good c.requires.step in
    record { sound = c.requires.sound; node = omega (arith, h, c.node-node.ensures, c.requires.node) }

pub returns : goal.returns
returns c =
    record {
      call = step_call c.args.words.now c.args.k c.args.p c.requires.good _ c.requires.sound c.requires.node c.requires.step c.node-node.ensures c.offset.ensures c.step_place.ensures;
      start = c.step_place.ensures;
      behind = step_behind c.args.words.now c.args.k c.args.p c.requires.good c.node-node.result c.requires.step c.node-node.ensures;
    }
