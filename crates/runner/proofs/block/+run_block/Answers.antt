use Rattle.std.proofs.Common.{◌≡◌, ◌+◌, ◌-◌, ◌≤◌, length, get_or, drop, sym, refl, ap, ◌∙◌, arith, rules}
use borrow.Rule.Slice.PartMut.{put_mid}
use Rattle.execution.specs.Cells.{copied_out}
use Rattle.execution.specs.Words.{gives_in, need_at, program}
use Rattle.execution.specs.Sound.{gives_fine}
use Rattle.runner.specs.From.{run_from}
use Rattle.runner.specs.Calls.{gives_of, operands_of}
use Rattle.runner.proofs.Places.{fine_in}
use Rattle.runner.proofs.Instructions.{ends, skip_over}
use Rattle.runner.proofs.Calling.{gives_at_lem, gives_wider, operands_wider, part_length, part_run, reset_reaches, step_reaches}
use Rattle.runner.proofs.block.+run_block.Goals as goal

pub instructions-init : goal.instructions-init
instructions-init g t c = (fine_in c.args.words.now c.args.k c.args.start c.requires.good, c.requires.good, refl)

pub offset_bounds-words-p : goal.offset_bounds-words-p
offset_bounds-words-p g t c = let h = fine_in c.args.words.now c.args.k c.operate_all-p.result c.operate_all-p.ensures.still in search rules

pub bounds-words-p : goal.bounds-words-p
bounds-words-p g t c = fine_in c.args.words.now c.args.k c.operate_all-p.result c.operate_all-p.ensures.still

pub instructions-preserved-in-4 : goal.instructions-preserved-in-4
instructions-preserved-in-4 g t c =
    let e = c.pass_tests-p.ensures in
    (fine_in c.args.words.now c.args.k c.pass_tests-p.result e.still, e.still, c.instructions.invariant.2 ∙ c.operate_all-p.ensures.same ∙ e.same)

pub overflow_add-p-in-5 : goal.overflow_add-p-in-5
overflow_add-p-in-5 g t c =
    let r = skip_over c.args.words.now c.args.k c.operate_all-p.result (get_or c.args.words.now c.operate_all-p.result 0) c.operate_all-p.ensures.still refl
    g.S.OperatorSet.meaning c.operate_all-p.new.cells c.distance.result (sym c.kind.ensures ∙ c.in-5.is) c.distance.ensures in
    omega (arith, r.within)

pub instructions-preserved-in-5 : goal.instructions-preserved-in-5
instructions-preserved-in-5 g t c =
    let r = skip_over c.args.words.now c.args.k c.operate_all-p.result (get_or c.args.words.now c.operate_all-p.result 0) c.operate_all-p.ensures.still refl
    g.S.OperatorSet.meaning c.operate_all-p.new.cells c.distance.result (sym c.kind.ensures ∙ c.in-5.is) c.distance.ensures in
    (r.within, r.still, c.instructions.invariant.2 ∙ c.operate_all-p.ensures.same ∙ r.same)

pub instructions-preserved-in-7 : goal.instructions-preserved-in-7
instructions-preserved-in-7 g t c =
    let m = g.S.OperatorSet.meaning in
    let ws = c.args.words.now in
    let p = c.operate_all-p.result in
    let cells = c.operate_all-p.new.cells in
    let call = c.reset_call-call.result in
    let e = c.reset_call-call.ensures in
    let off = call.offset in
    let r = reset_reaches ws c.args.k p c.operate_all-p.ensures.still m cells (put_mid off (length cells - off) cells c.run_block.new.cells) call
    (sym c.kind.ensures ∙ c.in-7.is) e.call e.start
    (part_run cells c.run_block.new.cells off (run_from m ws call.node call.start) c.run_block.ensures) in
    (r.within, r.still, c.instructions.invariant.2 ∙ c.operate_all-p.ensures.same ∙ r.same)

pub copy_in-n-requires : goal.copy_in-n-requires
copy_in-n-requires g t c =
    let ws = c.args.words.now in
    let p = c.operate_all-p.result in
    let cells = c.operate_all-p.new.cells in
    let e = c.step_call-call.ensures in
    let room : need_at ws c.args.k ≤ length cells = omega (arith, c.requires.room, c.instructions.auto.cells, c.operate_all-p.auto.cells) in
    record {
      operands = operands_wider (need_at ws c.args.k) (length cells) (operands_of ws p) room e.behind.operands;
      behind = omega (arith, e.behind.behind);
      room = omega (arith, room, e.call.room, e.behind.fits);
    }

pub copy_out-requires : goal.copy_out-requires
copy_out-requires g t c =
    let ws = c.args.words.now in
    let p = c.operate_all-p.result in
    let cells = c.operate_all-p.new.cells in
    let given = c.copy_in-n.new.cells in
    let off = c.step_call-call.result.offset in
    let after = put_mid off (length given - off) given c.run_block-in-8.new.cells in
    let e = c.step_call-call.ensures in
    let count = c.copy_in-n.ensures.count in
    let same = gives_at_lem ws p c.copy_in-n.result count in
    let room : need_at ws c.args.k ≤ length given = omega (arith, c.requires.room, c.instructions.auto.cells, c.operate_all-p.auto.cells, c.copy_in-n.auto.cells) in
    let long : length after ≡ length given = part_length given c.run_block-in-8.new.cells off (omega (arith, room, e.call.room)) c.run_block-in-8.auto.cells in
    record {
      gives = ap (gives_fine (length after)) same ∙ gives_wider (need_at ws c.args.k) (length after) (gives_of ws p) (omega (arith, room, long)) e.behind.gives;
      behind = omega (arith, e.behind.behind, count, ap length same);
      room = omega (arith, long, room, e.call.room, e.behind.fits, count, ap length same);
    }

pub instructions-preserved : goal.instructions-preserved
instructions-preserved g t c =
    let m = g.S.OperatorSet.meaning in
    let ws = c.args.words.now in
    let p = c.operate_all-p.result in
    let cells = c.operate_all-p.new.cells in
    let given = c.copy_in-n.new.cells in
    let call = c.step_call-call.result in
    let e = c.step_call-call.ensures in
    let off = call.offset in
    let ran = put_mid off (length given - off) given c.run_block-in-8.new.cells in
    let n = c.copy_in-n.result in
    let count = c.copy_in-n.ensures.count in
    let same = gives_at_lem ws p n count in
    let r = step_reaches ws c.args.k p c.operate_all-p.ensures.still m cells given ran c.copy_out.new.cells (p + (1 + n + c.copy_out.result)) call
    (sym c.kind.ensures ∙ c.in-8.is) e.call e.start c.copy_in-n.ensures.copied
    (part_run given c.run_block-in-8.new.cells off (run_from m ws call.node call.start) c.run_block-in-8.ensures)
    (c.copy_out.ensures.copied ∙ ap (λ i. copied_out ran (off + i) (gives_in (drop (p + 1 + n) (program ws)))) count ∙ ap (copied_out ran (off + length (operands_of ws p))) same)
    (omega (arith, count, c.copy_out.ensures.count, ap length same)) in
    (r.within, r.still, c.instructions.invariant.2 ∙ c.operate_all-p.ensures.same ∙ r.same)

pub returns-in_default : goal.returns-in_default
returns-in_default g t c =
    let e = c.kind.ensures in
    sym (ends c.args.words.now c.args.k c.operate_all-p.result (get_or c.args.words.now c.operate_all-p.result 0) c.operate_all-p.ensures.still refl
    g.S.OperatorSet.meaning c.operate_all-p.new.cells c.operate_all-p.ensures.other
    (λ h. omega (arith, e)) (λ h. omega (arith, e)) (λ h. omega (arith, e)) (λ h. omega (arith, e)))
    ∙ sym (c.instructions.invariant.2 ∙ c.operate_all-p.ensures.same)
