-- What a drawing lends, and what admitting it answers.
use Rattle.std.proofs.Common.{◌≡◌, ℕ, List, IfSome, Some, None, Ok, Err, Option, Result, sym, ap, ◌∙◌, subst, Bor}
use Rattle.std.specs.Option.{option_map}
use Rattle.table.specs.Decoding.{table_of}
use Rattle.admission.specs.declared.faults.Fault.{Fault}
use Rattle.admission.specs.declared.found.Plan.{Plan}
use Rattle.admission.specs.Planned.{Planned}
use Rattle.admission.proofs.Sole.{planned}
use Rattle.drawing.specs.declared.set_choice.SetChoice.{SetChoice}
use Rattle.drawing.specs.declared.verdict.Extent.{Extent}
use Rattle.drawing.specs.Sets.{verdict_for}
use Rattle.drawing.specs.Extents.{extent_of, extent_unless}

pub lent : (ws : List ℕ) (plan : Option Plan) (r : Option (Bor Plan)) → ∥ IfSome plan (Planned ws) ∥₁ → option_map (λ x. x.now) r ≡ plan
    → IfSome r (λ p. Planned ws p.now)
lent ws plan None t e = tt
lent ws plan (Some p) t e =
    let F : Option Plan → Type 0 = λ x. ∥ IfSome x (Planned ws) ∥₁ in planned ws p.now (subst F (sym e) t)

-- us and vs are the words, as they were lent for admission and for the size
pub granted : (set : SetChoice) (ws us vs : List ℕ) (x : Extent) → us ≡ ws → vs ≡ ws → None ≡ verdict_for set us → x ≡ extent_of (table_of vs)
    → Ok x ≡ extent_unless (verdict_for set ws) (table_of ws)
granted set ws us vs x a b f e =
    let F : Option Fault → Type 0 = λ o. Ok x ≡ extent_unless o (table_of ws) in
    subst F (f ∙ ap (verdict_for set) a) (ap Ok (e ∙ ap (λ l. extent_of (table_of l)) b))

pub denied : (set : SetChoice) (ws us : List ℕ) (f : Fault) → us ≡ ws → Some f ≡ verdict_for set us
    → ◌≡◌ {A = Result Extent Fault} (Err f) (extent_unless (verdict_for set ws) (table_of ws))
denied set ws us f a e = ap (λ o. extent_unless o (table_of ws)) (e ∙ ap (verdict_for set) a)
