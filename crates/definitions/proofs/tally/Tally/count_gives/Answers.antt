use Rattle.std.proofs.Common.{◌<◌, [], ◌∷◌, ap, ◌∙◌, arith}
use Rattle.rules.specs.Definitions.{times}
use Rattle.definitions.proofs.Bounds.{gives_more, times_few}
use Rattle.definitions.proofs.tally.Tally.count_gives.Goals as goal

pub count-requires : goal.count-requires
count-requires c =
    let small : c.give_at.result < 64 = omega (arith, c.give_at.ensures) in
    record { small = small; room = omega (arith, c.gives.invariant.1 c.give_at.result small, c.requires.few) }

pub gives-preserved : goal.gives-preserved
gives-preserved c =
    let m = gives_more c.args.words.now c.args.at c.gives.i in (
      (λ x h. omega (arith, c.count.ensures.counts x h, c.gives.invariant.0 x h, m x, ap (λ z. times x (z ∷ [])) c.give_at.ensures)),
      (λ x h. omega (arith, c.count.ensures.counts x h, c.gives.invariant.1 x h, times_few x (c.give_at.result ∷ []))),
      (λ x h. c.count.ensures.delays x h ∙ c.gives.invariant.2 x h),
    )
