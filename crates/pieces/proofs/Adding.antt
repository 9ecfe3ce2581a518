-- Words added to a piece, one part behind another.
use Rattle.std.proofs.Common.{◌≡◌, ℕ, ◌+◌, ◌<◌, List, [], ◌∷◌, ◌++◌, map, length, set, sym, refl, ap, ◌∙◌, subst, arith}
use Rattle.std.proofs.lemmas.List.{append_assoc, append-nil, length-append, map-append, take_more_set}
use Rattle.instructions.specs.declared.code_word.CodeWord.{CodeWord}
use Rattle.instructions.specs.Format.{code_word}
use Rattle.pieces.specs.declared.piece.Piece.{Piece}
use Rattle.pieces.specs.Holding.{contents, Holds, Adds}

pub adds_word : (p : Piece) (x : CodeWord) (w : ℕ) → p.len < length p.words → w ≡ code_word x
    → Adds p (record { words = set p.words p.len w; len = p.len + 1 }) (x ∷ [])
adds_word p x w l e =
    record { count = refl; spelled = take_more_set p.words p.len w l ∙ ap (λ v. contents p ++ v ∷ []) e }

pub adds_none : (p : Piece) → Adds p p []
adds_none p = record { count = omega arith; spelled = sym (append-nil (contents p)) }

pub adds_as : (p q : Piece) {xs ys : List CodeWord} → xs ≡ ys → Adds p q xs → Adds p q ys
adds_as p q e a = let F : List CodeWord → Type 0 = λ l. Adds p q l in subst F e a

pub adds_join : {p q r : Piece} {xs ys : List CodeWord} → Adds p q xs → Adds q r ys → Adds p r (xs ++ ys)
adds_join {p} {q} {r} {xs} {ys} a b =
    record {
      count = b.count ∙ omega (arith, a.count, length-append xs ys);
      spelled = b.spelled ∙ ap (λ l. l ++ map code_word ys) a.spelled
          ∙ append_assoc (contents p) (map code_word xs) (map code_word ys) ∙ ap (λ l. contents p ++ l) (sym (map-append code_word xs ys));
    }

-- what is added to a piece without words is all that it holds
pub holds_first : {p q : Piece} {xs ys : List CodeWord} → Holds p [] → Adds p q ys → xs ≡ ys → Holds q xs
holds_first {p} {q} {xs} {ys} h a e =
    let F : List CodeWord → Type 0 = λ l. Holds q l in
    subst F (sym e) (record {
      count = a.count ∙ omega (arith, h.count);
      spelled = a.spelled ∙ ap (λ l. l ++ map code_word ys) h.spelled;
    })
