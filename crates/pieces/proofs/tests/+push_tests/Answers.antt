use Rattle.std.proofs.Common.{◌≡◌, ◌+◌, ◌-◌, ◌<◌, [], ◌∷◌, ◌++◌, sym, ap, ◌∙◌, subst, arith}
use Rattle.words.specs.declared.kinds.Clock.{Clock}
use Rattle.words.specs.Format.{ClockFits}
use Rattle.instructions.specs.declared.code_word.CodeWord.TheVariants.{Unless}
use Rattle.table.specs.Decoding.{table_of}
use Rattle.table.specs.Syntax.{node_at}
use Rattle.rules.specs.Clocks.{clock_of}
use Rattle.code.specs.Statements.{tests_to}
use Rattle.code.specs.Code.{tests_words}
use Rattle.pieces.proofs.Adding.{adds_as, adds_join, adds_none}
use Rattle.pieces.proofs.Fits.{clock_fits}
use Rattle.pieces.proofs.Tested.{few_words, tests_base, tests_on}
use Rattle.pieces.proofs.tests.+push_tests.Goals as goal

pub push_tests-requires : goal.push_tests-requires
push_tests-requires t c = (
  omega arith,
  (c.requires.described, (clock_fits c.args.words.now c.args.outline.now c.requires.described c.args.k c.in-On.sampler c.variable-outer.result c.variable-outer.ensures, (omega arith, omega arith))),
)

pub push-requires : goal.push-requires
push-requires t c =
    let N = node_at (table_of c.args.words.now) c.args.k in
    let F : Clock → Type 0 = λ x. ClockFits x in
    record {
      fits = (subst F c.in-On.is c.requires.fits, omega (arith, c.requires.near));
      room = omega (arith, c.requires.room, c.push_tests.ensures.count, few_words (c.args.depth - 1) N c.variable-outer.result.clock (c.args.distance + 1));
    }

pub returns-in-On : goal.returns-in-On
returns-in-On t c =
    let N = node_at (table_of c.args.words.now) c.args.k in
    let outer : c.variable-outer.result.clock ≡ clock_of N c.in-On.sampler = ap (λ v. v.clock) c.variable-outer.ensures in
    let last = Unless c.in-On.sense c.in-On.sampler c.args.distance in
    let d = c.args.depth in
    let positive : 0 < d = omega arith in
    adds_as _ _
    (ap (λ x. tests_words (tests_to (d - 1) N x) (c.args.distance + 1) ++ last ∷ []) outer
    ∙ tests_on d N c.in-On.sampler c.in-On.sense c.args.distance positive
    ∙ ap (λ x. tests_words (tests_to d N x) c.args.distance) (sym c.in-On.is))
    (adds_join c.push_tests.ensures c.push.ensures)

pub returns-in_default : goal.returns-in_default
returns-in_default t c =
    let N = node_at (table_of c.args.words.now) c.args.k in
    adds_as _ _
    (sym (ap (λ x. tests_words (tests_to c.args.depth N x) c.args.distance) c.in_default.is ∙ tests_base c.args.depth N c.args.distance))
    (adds_none c.args.piece.now)
