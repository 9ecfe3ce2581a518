use Rattle.std.proofs.Common.{◌≡◌, ◌+◌, ◌++◌, length, get_or, sym, ap, ◌∙◌, arith}
use Rattle.words.specs.Bits.{field}
use Rattle.table.specs.Decoding.{table_of}
use Rattle.table.specs.Syntax.{node_at}
use Rattle.rules.specs.Clocks.{clock_of}
use Rattle.code.specs.Statements.{step, tests}
use Rattle.code.specs.Code.{action_words, tests_words}
use Rattle.waits.proofs.Places.{first_give}
use Rattle.waits.proofs.Small.{outputs_some}
use Rattle.pieces.specs.Fitting.{call_operands, call_gives}
use Rattle.pieces.proofs.Adding.{adds_as, adds_join}
use Rattle.pieces.proofs.Called.{call_length}
use Rattle.pieces.proofs.statements.push_stepped.Goals as goal

pub returns : goal.returns
returns c =
    let ws = c.args.words.now in
    let N = node_at (table_of ws) c.args.k in
    let G = node_at (table_of ws) c.args.g in
    let at = c.args.at in
    let a = c.within.result in
    let act = action_words (step c.args.g c.args.offset (call_operands ws c.args.g at) (call_gives ws c.args.g at)) in
    let long : 1 + c.input_count-inputs.result + c.output_count-outputs.result ≡ length act =
    omega (arith, call_length ws at G.inputs (at + G.inputs) G.outputs, c.input_count-inputs.ensures, c.output_count-outputs.ensures) in
    let some = outputs_some ws c.args.outline.now c.requires.described c.args.g c.requires.node in
    let give : c.give_at-given.result ≡ get_or (call_gives ws c.args.g at) 0 0 =
    c.give_at-given.ensures ∙ ap (λ i. field (get_or ws (a + i) 0) 0 6) c.input_count-inputs.ensures
    ∙ sym (first_give ws (a + G.inputs) G.outputs some) ∙ ap (λ l. get_or l 0 0) (c.within.ensures.gives G.inputs G.outputs) in
    adds_as _ _
    (ap (λ x. tests_words (tests N (clock_of N x)) (1 + c.input_count-inputs.result + c.output_count-outputs.result) ++ act) give
    ∙ ap (λ n. tests_words (tests N (clock_of N (get_or (call_gives ws c.args.g at) 0 0))) n ++ act) long)
    (adds_join c.push_clock.ensures c.push_step.ensures)
