use Rattle.std.proofs.Common.{◌≡◌, length, sym, ◌∙◌, inl, inr, arith}
use Rattle.front.specs.Whole.{table_code}
use Rattle.front.proofs.Fitting.{code_length, fits_from, not_most, not_room}
use Rattle.front.proofs.short.places_within.Goals as goal

pub returns-then-places-room : goal.returns-then-places-room
returns-then-places-room c =
    let ws = c.args.words.now in
    let code = table_code ws in
    let whole : c.measure-places.result.length ≡ length code = c.measure-places.ensures.whole ∙ sym (code_length ws) in
    elim c.if-places-room.either [
      | inl a ↦ not_most code c.args.room (omega (arith, whole, a))
      | inr b ↦ not_room code c.args.room (omega (arith, whole, b.0)) (omega (arith, whole, b.1))
    ]

pub returns-else-places-room : goal.returns-else-places-room
returns-else-places-room c =
    let ws = c.args.words.now in
    let whole : c.measure-places.result.length ≡ length (table_code ws) = c.measure-places.ensures.whole ∙ sym (code_length ws) in
    record {
      fits = fits_from (table_code ws) c.args.room (omega (arith, whole)) (omega (arith, whole));
      places = c.measure-places.ensures;
      whole = whole;
    }
