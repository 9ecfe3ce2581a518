use Rattle.std.proofs.Common.{◌≡◌, ◌+◌, ◌++◌, get_or, sym, ap, ◌∙◌}
use Rattle.words.specs.Bits.{field}
use Rattle.table.specs.Access.{operands_at}
use Rattle.table.specs.Decoding.{table_of}
use Rattle.table.specs.Syntax.{node_at}
use Rattle.schedule.specs.Reads.{chain, operands_read, restart_reads}
use Rattle.waits.specs.Calls.{call_gives}
use Rattle.waits.proofs.Places.{first_give}
use Rattle.waits.proofs.Sets.{holds_as}
use Rattle.waits.proofs.Small.{outputs_some}
use Rattle.waits.proofs.equation_variables.call_reads.Goals as goal

pub returns : goal.returns
returns c =
    let ws = c.args.words.now in
    let G = node_at (table_of ws) c.args.g in
    let N = node_at (table_of ws) c.args.k in
    let a = c.within-first.result in
    let R = restart_reads N c.args.restart in
    let ops : operands_at ws a c.input_count-inputs.result ≡ operands_at ws c.args.at G.inputs =
    ap (operands_at ws a) c.input_count-inputs.ensures ∙ c.within-first.ensures.operands G.inputs in
    let some = outputs_some ws c.args.outline.now c.requires.described c.args.g c.requires.node in
    let give : c.give_at.result ≡ get_or (call_gives ws c.args.g c.args.at) 0 0 =
    c.give_at.ensures ∙ ap (λ i. field (get_or ws (a + i) 0) 0 6) c.input_count-inputs.ensures
    ∙ sym (first_give ws (a + G.inputs) G.outputs some) ∙ ap (λ l. get_or l 0 0) (c.within-first.ensures.gives G.inputs G.outputs) in
    holds_as _ _ _
    (ap (λ l. operands_read l ++ (R ++ chain N c.give_at.result)) ops ∙ ap (λ y. operands_read (operands_at ws c.args.at G.inputs) ++ (R ++ chain N y)) give)
    (c.union-2.ensures _ _ c.operands_set-operands.ensures (c.union.ensures R _ c.restart_set.ensures c.chain_set-clock.ensures))
