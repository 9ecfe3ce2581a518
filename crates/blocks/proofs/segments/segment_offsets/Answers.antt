use Rattle.std.proofs.Common.{◌≡◌, ◌+◌, ◌<◌, ◌≢◌, get_or, set, ◌∙◌, arith, below_more}
use Rattle.std.proofs.lemmas.List.{get_or-set_other, get_or-set_same, length-set}
use Rattle.table.specs.Decoding.{table_of}
use Rattle.table.specs.Syntax.{equation_count, node_at}
use Rattle.schedule.specs.Need.{needs}
use Rattle.code.specs.Statements.{offset}
use Rattle.waits.proofs.Small.{equations_few}
use Rattle.blocks.proofs.Needing.{offset_more, offset_small}
use Rattle.blocks.proofs.segments.segment_offsets.Goals as goal

pub overflow_add-next : goal.overflow_add-next
overflow_add-next c =
    let ws = c.args.words.now in
    let p = c.args.plan.now in
    let k = c.args.k in
    let e = c.equations.e in
    let l : e < equation_count (node_at (table_of ws) k) = omega (arith, c.equation_count-e-end.ensures) in
    omega (
      arith,
      offset_more ws p c.requires.planned k c.requires.node e l,
      offset_small ws p c.requires.planned k c.requires.node (e + 1),
      c.equations.invariant.0,
      c.equation_need.ensures.value,
    )

pub equations-preserved : goal.equations-preserved
equations-preserved c =
    let ws = c.args.words.now in
    let p = c.args.plan.now in
    let k = c.args.k in
    let e = c.equations.e in
    let N = node_at (table_of ws) k in
    let os = c.equations.offsets in
    let next = c.equations.next in
    let l : e < equation_count N = omega (arith, c.equation_count-e-end.ensures) in
    let few = equations_few ws p.outline c.requires.planned.described k c.requires.node in (
      omega (arith, offset_more ws p c.requires.planned k c.requires.node e l, c.equations.invariant.0, c.equation_need.ensures.value),
      below_more (λ i. get_or (set os e next) i 0 ≡ offset (needs (table_of ws)) N i) e
          (λ i m. let ne : i ≢ e = λ z. omega arith in get_or-set_other os e i next 0 ne ∙ c.equations.invariant.1 i m)
          (get_or-set_same os e next 0 (omega (arith, c.equations.invariant.2, few)) ∙ c.equations.invariant.0),
      length-set os e next ∙ c.equations.invariant.2,
    )
