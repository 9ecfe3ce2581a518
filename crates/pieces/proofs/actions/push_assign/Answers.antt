use Rattle.std.proofs.Common.{◌∷◌, sym, ap}
use Rattle.instructions.specs.declared.code_word.CodeWord.TheVariants.{Operate, Operand as With}
use Rattle.code.specs.Code.{second}
use Rattle.pieces.proofs.Adding.{adds_as, adds_join}
use Rattle.pieces.proofs.actions.push_assign.Goals as goal

pub returns-in-Some : goal.returns-in-Some
returns-in-Some c =
    adds_as _ _ (ap (λ b. Operate c.args.op c.args.x ∷ With c.args.a ∷ second b) (sym c.in-Some.is))
    (adds_join c.push.ensures (adds_join c.push-2.ensures c.push-in-Some.ensures))

pub returns-in_default : goal.returns-in_default
returns-in_default c =
    adds_as _ _ (ap (λ b. Operate c.args.op c.args.x ∷ With c.args.a ∷ second b) (sym c.in_default.is))
    (adds_join c.push.ensures c.push-2.ensures)
