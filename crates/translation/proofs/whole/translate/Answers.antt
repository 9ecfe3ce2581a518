use Rattle.std.proofs.Common.{◌≡◌, ℕ, cond, List, ◌++◌, length, get_or, drop, Ok, Err, sym, ap, ◌∙◌, subst, arith}
use Rattle.words.specs.Bits.{field}
use Rattle.table.specs.Decoding.{table_of}
use Rattle.admission.specs.declared.found.Plan.{Plan}
use Rattle.admission.specs.Planned.{Planned}
use Rattle.code.specs.Code.{blocks, front}
use Rattle.front.specs.Whole.{table_code}
use Rattle.front.proofs.Fitting.{code_length, code_parts, fits_bounds}
use Rattle.front.proofs.Fronts.{front_length_lem}
use Rattle.translation.specs.declared.faults.TranslateFault.TheVariants.{TooLong}
use Rattle.translation.specs.Faults.{translate_answer, translated_buffer}
use Rattle.translation.proofs.Laid.{wrote_code, wrote_join}
use Rattle.translation.proofs.whole.translate.Goals as goal

planned_as : (ws vs : List ℕ) (p : Plan) → ws ≡ vs → Planned vs p → Planned ws p
planned_as ws vs p e P = let F : List ℕ → Type 0 = λ l. Planned l p in subst F (sym e) P

pub write_front-next-requires : goal.write_front-next-requires
write_front-next-requires c =
    let ws = c.words-words.result.now in
    let D = c.in-Some.ensures in
    let fit = fits_bounds (table_code ws) (length c.args.buffer.now) D.fits in
    record {
      planned = planned_as ws c.args.table.now.words.now c.plan-plan.result.now c.words-words.ensures c.plan-plan.ensures.planned;
      places = D.places;
      short = omega (arith, D.whole, fit.0);
      room = omega (arith, code_length ws, fit.1);
    }

pub write_blocks-requires : goal.write_blocks-requires
write_blocks-requires c =
    let ws = c.words-words.result.now in
    let T = table_of ws in
    let own = field (get_or ws 0 0) 0 8 in
    let fit = fits_bounds (table_code ws) (length c.args.buffer.now) c.in-Some.ensures.fits in
    record {
      planned = planned_as ws c.args.table.now.words.now c.plan-plan.result.now c.words-words.ensures c.plan-plan.ensures.planned;
      room = omega (arith, c.write_front-next.ensures.place, front_length_lem own T, code_length ws, fit.1, c.write_front-next.auto.buffer);
    }

pub returns-in-Some : goal.returns-in-Some
returns-in-Some c =
    let ws = c.words-words.result.now in
    let T = table_of ws in
    let own = field (get_or ws 0 0) 0 8 in
    let b = c.args.buffer.now in
    let code = table_code ws in
    let fits = c.in-Some.ensures.fits in
    let fit = fits_bounds code (length b) fits in
    let whole = wrote_join c.write_front-next.ensures c.write_blocks.ensures (omega (arith, front_length_lem own T, code_length ws, fit.1)) in
    let w = wrote_code (front own T) (blocks T (length T)) code b c.write_blocks.result c.write_blocks.new.buffer (code_parts ws) whole in
    let same : code ≡ table_code c.args.table.now.words.now = ap table_code c.words-words.ensures in
    record {
      answer = ap Ok w.0 ∙ sym (ap (λ t. cond t (Ok (length code)) (Err TooLong)) fits) ∙ ap (λ x. translate_answer x b) same;
      stands = w.1 ∙ sym (ap (λ t. cond t (code ++ drop (length code) b) b) fits) ∙ ap (λ x. translated_buffer x b) same;
    }
