use Rattle.std.proofs.Common.{◌≡◌, ◌+◌, ◌≤◌, ap, ◌∙◌, arith}
use Rattle.table.specs.Access.{gives_at}
use Rattle.table.specs.Decoding.{table_of}
use Rattle.table.specs.Syntax.{node_at}
use Rattle.rules.specs.Definitions.{times}
use Rattle.definitions.specs.Tallied.{count_of}
use Rattle.definitions.proofs.Bounds.{gives_past, ports_few}
use Rattle.definitions.proofs.tally.Tally.count_call.Goals as goal
use Rattle.definitions.proofs.tally.Tally.count_call.Goals.{then-at-words, else-at-words}

pub count_gives-requires : goal.count_gives-requires
count_gives-requires c =
    let few = ports_few c.args.words.now c.args.outline.now c.requires.described c.args.g in
    let near : c.if-at-words.at ≤ 16384 =
    elim c.if-at-words.branch [
      | then-at-words w ↦ omega (arith, w.at-is, w.if-at-words.true, c.requires.described.spells.short)
      | else-at-words w ↦ omega (arith, w.at-is, c.requires.described.spells.short)
    ] in
    record {
      near = omega (arith, c.input_count.ensures, few.0, near);
      few = omega (arith, c.output_count.ensures, few.1);
      room = c.requires.room;
    }

pub returns : goal.returns
returns c =
    let ws = c.args.words.now in
    let N = node_at (table_of ws) c.args.g in
    let a = c.if-at-words.at in
    let moved : gives_at ws (a + N.inputs) N.outputs ≡ gives_at ws (c.args.at + N.inputs) N.outputs =
    elim c.if-at-words.branch [
      | then-at-words w ↦ ap (λ p. gives_at ws (p + N.inputs) N.outputs) w.at-is
      | else-at-words w ↦ gives_past ws N.outputs (a + N.inputs) (c.args.at + N.inputs) (omega (arith, w.at-is)) (omega (arith, w.if-at-words.false))
    ] in
    let e = ap (λ i. gives_at ws (a + i) c.output_count.result) c.input_count.ensures
    ∙ ap (gives_at ws (a + N.inputs)) c.output_count.ensures ∙ moved in
    record {
      counts = λ x h. c.count_gives.ensures.counts x h ∙ ap (λ l. count_of c.args.self.now x + times x l) e;
      delays = c.count_gives.ensures.delays;
    }
