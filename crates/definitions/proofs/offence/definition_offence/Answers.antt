use Rattle.std.proofs.Common.{◌+◌, ◌<◌, Some, ap, ◌∙◌, arith}
use Rattle.std.specs.Option.{option_map}
use Rattle.table.specs.Syntax.{node_at, variable_count}
use Rattle.table.specs.Decoding.{table_of}
use Rattle.rules.specs.Offences.{variable_place}
use Rattle.definitions.proofs.Bounds.{place_small, variable_place_lem, variables_few, ports_few}
use Rattle.definitions.proofs.Steps.{offender_by}
use Rattle.definitions.proofs.offence.definition_offence.Goals as goal

pub first_offender-requires : goal.first_offender-requires
first_offender-requires c =
    let v = variables_few c.args.words.now c.args.outline.now c.requires.described c.args.k c.requires.node in
    let few = ports_few c.args.words.now c.args.outline.now c.requires.described c.args.k in
    record {
      few = omega (arith, c.variable_count.ensures, v);
      ports = (omega (arith, few.0, c.input_count-inputs.ensures), omega (arith, few.1, c.output_count-outputs.ensures));
    }

pub variable_place-requires : goal.variable_place-requires
variable_place-requires c =
    let x = c.in-Some.x in
    let l : x < variable_count (node_at (table_of c.args.words.now) c.args.k) = omega (arith, c.in-Some.ensures.below, c.variable_count.ensures) in
    omega (arith, place_small c.args.words.now c.args.outline.now c.requires.described c.args.k c.requires.node x l)

pub returns-in-Some : goal.returns-in-Some
returns-in-Some c =
    let ws = c.args.words.now in
    let T = table_of ws in
    let k = c.args.k in
    let f = offender_by c.of_node-tally.result (node_at T k) _ _ _ c.of_node-tally.ensures
    (variables_few ws c.args.outline.now c.requires.described k c.requires.node) c.input_count-inputs.ensures c.output_count-outputs.ensures c.variable_count.ensures in
    ap Some (c.variable_place.ensures ∙ ap (λ p. p + 1 + c.in-Some.x) (variable_place_lem ws c.args.outline.now c.requires.described k c.requires.node))
    ∙ ap (option_map (variable_place T k)) (c.in-Some.ensures.value ∙ f)

pub returns-in-None : goal.returns-in-None
returns-in-None c =
    let ws = c.args.words.now in
    let T = table_of ws in
    let k = c.args.k in
    let f = offender_by c.of_node-tally.result (node_at T k) _ _ _ c.of_node-tally.ensures
    (variables_few ws c.args.outline.now c.requires.described k c.requires.node) c.input_count-inputs.ensures c.output_count-outputs.ensures c.variable_count.ensures in
    ap (option_map (variable_place T k)) (c.in-None.ensures.value ∙ f)
