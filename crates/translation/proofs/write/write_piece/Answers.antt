use Rattle.std.proofs.Common.{◌≡◌, ◌+◌, ◌-◌, ◌++◌, length, take, drop, refl, ap, ◌∙◌, arith, rules}
use Rattle.std.proofs.lemmas.List.{drop-drop, length-take-le}
use Rattle.pieces.specs.Holding.{contents}
use Rattle.translation.specs.Writing.{written}
use Rattle.translation.proofs.write.write_piece.Goals as goal

pub returns : goal.returns
unfolding written
returns c =
    let p = c.args.piece.now in
    let b = c.args.buffer.now in
    let at = c.args.at in
    let n = p.len in
    let same : c.copy_from_slice.new.self ≡ contents p = search rules in
    let behind : at + (at + n - at) ≡ at + length (contents p) = omega (arith, length-take-le n p.words c.requires.whole) in
    record {
      place = refl;
      stands = ap (λ l. take at b ++ (l ++ drop (at + n - at) (drop at b))) same
          ∙ ap (λ l. take at b ++ (contents p ++ l)) (drop-drop (at + n - at) at b ∙ ap (λ m. drop m b) behind);
    }
