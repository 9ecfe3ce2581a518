use Rattle.std.proofs.Common.{[], ◌∷◌, get_or, ap, ◌∙◌, arith}
use Rattle.instructions.specs.declared.code_word.CodeWord.TheVariants.{Need, ResetAt, StepAt}
use Rattle.table.specs.Decoding.{table_of}
use Rattle.code.specs.Code.{reset_at, step_at}
use Rattle.blocks.proofs.Measured.{begins_within}
use Rattle.pieces.proofs.Adding.{adds_as, adds_join}
use Rattle.front.proofs.entries.push_index.Goals as goal

pub overflow_cast-places : goal.overflow_cast-places
overflow_cast-places c =
    let P = c.requires.places in
    omega (arith, (begins_within (table_of c.args.words.now) c.args.k c.requires.node).0, P.resets c.args.k c.requires.node, P.whole, c.requires.short)

pub push-requires : goal.push-requires
push-requires c =
    let P = c.requires.places in
    record {
      fits = omega (arith, (begins_within (table_of c.args.words.now) c.args.k c.requires.node).0, P.resets c.args.k c.requires.node, P.whole, c.requires.short);
      room = omega (arith, c.requires.room);
    }

pub overflow_cast-places-2 : goal.overflow_cast-places-2
overflow_cast-places-2 c =
    let P = c.requires.places in
    omega (arith, (begins_within (table_of c.args.words.now) c.args.k c.requires.node).1, P.steps c.args.k c.requires.node, P.whole, c.requires.short)

pub push-requires-2 : goal.push-requires-2
push-requires-2 c =
    let P = c.requires.places in
    record {
      fits = omega (arith, (begins_within (table_of c.args.words.now) c.args.k c.requires.node).1, P.steps c.args.k c.requires.node, P.whole, c.requires.short);
      room = omega (arith, c.requires.room, c.push.ensures.count);
    }

pub push-requires-3 : goal.push-requires-3
push-requires-3 c =
    record {
      fits = omega (arith, c.requires.planned.plans.needs c.args.k c.requires.node, c.requires.planned.shape.need c.args.k c.requires.node);
      room = omega (arith, c.requires.room, c.push.ensures.count, c.push-2.ensures.count);
    }

pub returns : goal.returns
returns c =
    let T = table_of c.args.words.now in
    let k = c.args.k in
    let P = c.requires.places in
    let rs = get_or c.args.places.now.resets k 0 in
    let ss = get_or c.args.places.now.steps k 0 in
    adds_as _ _
    (ap (λ r. ResetAt r ∷ StepAt ss ∷ Need (get_or c.args.plan.now.needs k 0) ∷ []) (P.resets k c.requires.node)
    ∙ ap (λ s. ResetAt (reset_at T k) ∷ StepAt s ∷ Need (get_or c.args.plan.now.needs k 0) ∷ []) (P.steps k c.requires.node)
    ∙ ap (λ n. ResetAt (reset_at T k) ∷ StepAt (step_at T k) ∷ Need n ∷ []) (c.requires.planned.plans.needs k c.requires.node))
    (adds_join c.push.ensures (adds_join c.push-2.ensures c.push-3.ensures))
