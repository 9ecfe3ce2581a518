use Rattle.std.proofs.Common.{◌≡◌, ◌∷◌, ap, ◌∙◌}
use Rattle.instructions.specs.declared.code_word.CodeWord.TheVariants.{Ports}
use Rattle.table.specs.Decoding.{table_of}
use Rattle.code.specs.Code.{first_values, main_of}
use Rattle.pieces.proofs.Adding.{adds_as, adds_join}
use Rattle.front.proofs.Fronts.{main_is}
use Rattle.front.proofs.entries.push_ports.Goals as goal

pub returns : goal.returns
returns c =
    let ws = c.args.words.now in
    let M = main_of (table_of ws) in
    let main = main_is ws c.args.outline.now c.requires.described in
    let inputs : c.input_count-inputs.result ≡ M.inputs = c.input_count-inputs.ensures ∙ ap (λ N. N.inputs) main in
    let outputs : c.output_count-outputs.result ≡ M.outputs = c.output_count-outputs.ensures ∙ ap (λ N. N.outputs) main in
    adds_as _ _
    (ap (λ n. Ports n c.output_count-outputs.result ∷ first_values M M.inputs) inputs
    ∙ ap (λ n. Ports M.inputs n ∷ first_values M M.inputs) outputs)
    (adds_join c.push.ensures c.push_first_values.ensures)
