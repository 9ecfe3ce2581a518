use Rattle.std.proofs.Common.{◌≡◌, ℕ, ◌<◌, [], ◌∷◌, ap, subst, inl, inr, arith}
use Rattle.table.specs.Access.{Draws}
use Rattle.table.specs.Decoding.{table_of}
use Rattle.table.specs.Syntax.{equation_at, node_at}
use Rattle.table.specs.declared.drawn.Drawn.{Drawn}
use Rattle.rules.specs.Definitions.{defined, is_delay}
use Rattle.definitions.specs.Tallied.{Room, count_of}
use Rattle.definitions.specs.declared.tally.Tally.{Tally}
use Rattle.definitions.proofs.Bounds.{one_small}
use Rattle.definitions.proofs.Steps.{adds_delay, adds_plain}
use Rattle.definitions.proofs.tally.Tally.count_equation.Goals as goal

roomy : (t : Tally) (x : ℕ) → Room t → x < 64 → count_of t x < 65535
roomy t x r h = omega (arith, r x h)

pub count-requires : goal.count-requires
count-requires c =
    let ws = c.args.words.now in
    let E = equation_at (node_at (table_of ws) c.args.k) c.args.e in
    let x = c.in-Operate.x in
    let F : Drawn → Type 0 = λ D. Draws ws (table_of ws) c.args.k D E in
    let one : defined E ≡ x ∷ [] =
    elim c.in-Operate.is [
      | inl p ↦ ap defined (subst F p.3 c.equation.ensures)
      | inr q ↦ elim q [
        | inl p ↦ ap defined (subst F p.1 c.equation.ensures)
        | inr r ↦ elim r [
          | inl p ↦ ap defined (subst F p.3 c.equation.ensures)
          | inr p ↦ ap defined (subst F p.3 c.equation.ensures)
        ]
      ]
    ] in
    let s = one_small ws c.args.outline.now c.requires.described c.args.k c.requires.node c.args.e c.requires.within x one in
    record { small = s; room = roomy c.args.self.now x c.requires.room s }

pub count_delay-requires : goal.count_delay-requires
count_delay-requires c =
    let x = c.in-Delay.x in
    let s = one_small c.args.words.now c.args.outline.now c.requires.described c.args.k c.requires.node c.args.e c.requires.within x (ap defined c.in-Delay.ensures) in
    record { small = s; room = roomy c.args.self.now x c.requires.room s }

pub count_call-requires : goal.count_call-requires
count_call-requires c = record { described = c.requires.described; node = omega (arith, c.in-Call.ensures.0, c.requires.node); room = c.requires.room }

pub returns-in-Delay : goal.returns-in-Delay
returns-in-Delay c = let q = c.in-Delay.ensures in adds_delay _ _ _ _ (ap defined q) (ap is_delay q) c.count_delay.ensures

pub returns-in-Call : goal.returns-in-Call
returns-in-Call c = let q = c.in-Call.ensures.1 in adds_plain _ _ _ _ (ap defined q) (ap is_delay q) c.count_call.ensures
