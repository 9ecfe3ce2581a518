use Rattle.std.proofs.Common.{◌≡◌, ◌+◌, ◌-◌, [], ◌∷◌, ◌++◌, sym, refl, ap, ◌∙◌, arith}
use Rattle.std.proofs.lemmas.List.{append_assoc, append-nil}
use Rattle.words.specs.declared.kinds.Clock.TheVariants.{Base, On}
use Rattle.table.specs.Decoding.{table_of}
use Rattle.table.specs.Syntax.{node_at}
use Rattle.rules.specs.Clocks.{clock_of}
use Rattle.schedule.specs.Reads.{chain_to}
use Rattle.waits.proofs.Chains.{chain_base, chain_on}
use Rattle.waits.proofs.Sets.{holds_as, holds_swap}
use Rattle.waits.proofs.Small.{sampler_small}
use Rattle.waits.proofs.equation_variables.chain_set.Goals as goal

pub samplers-init : goal.samplers-init
samplers-init c = ([], c.new-set.ensures, refl, omega arith)

pub insert-requires : goal.insert-requires
insert-requires c =
    sampler_small c.args.words.now c.args.outline.now c.requires c.args.k c.samplers.last c.in-On.sampler c.in-On.field-1
    (sym (ap (λ v. v.clock) c.variable.ensures) ∙ c.in-On.is)

pub samplers-preserved : goal.samplers-preserved
samplers-preserved c =
    let N = node_at (table_of c.args.words.now) c.args.k in
    let i = c.samplers._passed in
    let s = c.in-On.sampler in
    let clock : clock_of N c.samplers.last ≡ On s c.in-On.field-1 = sym (ap (λ v. v.clock) c.variable.ensures) ∙ c.in-On.is in
    let done = c.samplers.invariant.0 in (
      done ++ s ∷ [],
      holds_swap _ (s ∷ []) done (c.insert.ensures done c.samplers.invariant.1),
      c.samplers.invariant.2 ∙ ap (λ l. done ++ l) (chain_on i N c.samplers.last s c.in-On.field-1 (omega arith) clock) ∙ sym (append_assoc done (s ∷ []) (chain_to (8 - (i + 1)) N s)),
      omega (arith, sampler_small c.args.words.now c.args.outline.now c.requires c.args.k c.samplers.last s c.in-On.field-1 clock),
    )

pub returns-in-Base : goal.returns-in-Base
returns-in-Base c =
    let N = node_at (table_of c.args.words.now) c.args.k in
    let clock : clock_of N c.samplers.last ≡ Base = sym (ap (λ v. v.clock) c.variable.ensures) ∙ c.in-Base.is in
    let done = c.samplers.invariant.0 in
    holds_as _ _ _ (sym (c.samplers.invariant.2 ∙ ap (λ l. done ++ l) (chain_base (8 - c.samplers._passed) N c.samplers.last clock) ∙ append-nil done)) c.samplers.invariant.1

pub returns-after-samplers : goal.returns-after-samplers
returns-after-samplers c =
    let N = node_at (table_of c.args.words.now) c.args.k in
    let e : 8 - c.samplers._passed ≡ 0 = omega arith in
    let done = c.samplers.invariant.0 in
    holds_as _ _ _ (sym (c.samplers.invariant.2 ∙ ap (λ d. done ++ chain_to d N c.samplers.last) e ∙ append-nil done)) c.samplers.invariant.1
