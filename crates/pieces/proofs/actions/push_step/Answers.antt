use Rattle.std.proofs.Common.{◌≡◌, ◌+◌, ◌∷◌, ◌++◌, map, ap, ◌∙◌, arith}
use Rattle.instructions.specs.declared.code_word.CodeWord.TheVariants.{Step, Operand as With, Give}
use Rattle.table.specs.Access.{operands_at, gives_at}
use Rattle.table.specs.Decoding.{table_of}
use Rattle.table.specs.Syntax.{node_at}
use Rattle.waits.proofs.Small.{inputs_few, outputs_few}
use Rattle.pieces.specs.Fitting.{call_operands, call_gives}
use Rattle.pieces.proofs.Adding.{adds_as, adds_join}
use Rattle.pieces.proofs.Called.{operand_words_length}
use Rattle.pieces.proofs.actions.push_step.Goals as goal

pub push_gives-requires : goal.push_gives-requires
push_gives-requires c =
    let ws = c.args.words.now in
    let few = inputs_few ws c.args.outline.now c.requires.described c.args.g in
    let inputs = c.input_count-inputs.result in
    record {
      near = omega (arith, c.within-first.ensures.bound, c.requires.described.spells.short, few, c.input_count-inputs.ensures);
      few = omega (arith, outputs_few ws c.args.outline.now c.requires.described c.args.g c.requires.node, c.output_count-outputs.ensures);
      room = omega (arith, c.requires.room, c.push.ensures.count, c.push_operands.ensures.count, operand_words_length ws c.within-first.result inputs, few, c.input_count-inputs.ensures);
    }

pub returns : goal.returns
returns c =
    let ws = c.args.words.now in
    let G = node_at (table_of ws) c.args.g in
    let a = c.within-first.result in
    let head = Step c.args.g c.args.offset in
    let ops : operands_at ws a c.input_count-inputs.result ≡ call_operands ws c.args.g c.args.at =
    ap (operands_at ws a) c.input_count-inputs.ensures ∙ c.within-first.ensures.operands G.inputs in
    let gs : gives_at ws (a + c.input_count-inputs.result) c.output_count-outputs.result ≡ call_gives ws c.args.g c.args.at =
    ap (λ i. gives_at ws (a + i) c.output_count-outputs.result) c.input_count-inputs.ensures
    ∙ ap (gives_at ws (a + G.inputs)) c.output_count-outputs.ensures ∙ c.within-first.ensures.gives G.inputs G.outputs in
    adds_as _ _
    (ap (λ l. head ∷ (map With l ++ map Give (gives_at ws (a + c.input_count-inputs.result) c.output_count-outputs.result))) ops
    ∙ ap (λ l. head ∷ (map With (call_operands ws c.args.g c.args.at) ++ map Give l)) gs)
    (adds_join c.push.ensures (adds_join c.push_operands.ensures c.push_gives.ensures))
