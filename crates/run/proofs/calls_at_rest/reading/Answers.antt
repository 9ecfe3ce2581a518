use Rattle.std.proofs.Common.{◌≡◌, ◌+◌, length, sym, refl, ap, ◌∙◌, subst, arith}
use Rattle.std.specs.List.{slice_get}
use Rattle.std.proofs.lemmas.Option.{slice_get_read}
use Rattle.execution.specs.Sound.{Sound, inputs_in}
use Rattle.calls.specs.Calls.{reading_of}
use Rattle.run.proofs.calls_at_rest.reading.Goals as goal

pub returns-in-ByStep : goal.returns-in-ByStep
returns-in-ByStep g c =
    let ws = c.args.code.now.words.now in
    let cells = c.args.cells.now in
    let inputs : c.input_count.result ≡ inputs_in ws = c.input_count.ensures ∙ ap inputs_in c.words.ensures.value in
    let sound = subst Sound c.words.ensures.value c.words.ensures.sound in
    sym (ap (λ e. reading_of ws cells e c.args.output) c.in-ByStep.is
    ∙ ap (λ n. slice_get cells (n + c.args.output)) (sym inputs)
    ∙ slice_get_read cells (length cells) (c.input_count.result + c.args.output) c.index-cells-input_count.result refl (omega (arith, sound.ports, c.requires.room, c.requires.port, inputs)) c.index-cells-input_count.is)
