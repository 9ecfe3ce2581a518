-- The words of statements, one behind another.
use Rattle.std.proofs.Common.{◌≡◌, ℕ, true, List, [], ◌∷◌, ◌++◌, sym, refl, ap, ◌∙◌}
use Rattle.std.proofs.lemmas.List.{append_assoc, append-nil}
use Rattle.instructions.specs.declared.code_word.CodeWord.{CodeWord}
use Rattle.instructions.specs.declared.code_word.CodeWord.TheVariants.{Unless}
use Rattle.code.specs.Statements.{Test, Statement}
use Rattle.code.specs.Code.{tests_words, statement_words, statements_words}
use Rattle.pieces.proofs.Tested.{tests_push}

pub statements_append : (ss rs : List Statement) → statements_words (ss ++ rs) ≡ statements_words ss ++ statements_words rs
statements_append [] rs = refl
statements_append (s ∷ ss) rs =
    ap (λ l. statement_words s ++ l) (statements_append ss rs) ∙ sym (append_assoc (statement_words s) (statements_words ss) (statements_words rs))

pub statement_one : (s : Statement) → statement_words s ≡ statements_words (s ∷ [])
statement_one s = sym (append-nil (statement_words s))

-- under tests and one more, a word alone
pub restart_words : (ts : List Test) (r : ℕ) (x : CodeWord)
    → tests_words ts 2 ++ Unless true r 1 ∷ x ∷ [] ≡ (tests_words (ts ++ record { variable = r; sense = true } ∷ []) 1 ++ x ∷ []) ++ []
restart_words ts r x =
    let t : Test = record { variable = r; sense = true } in
    sym (append-nil (tests_words (ts ++ t ∷ []) 1 ++ x ∷ []) ∙ ap (λ l. l ++ x ∷ []) (tests_push ts t 1)
    ∙ append_assoc (tests_words ts 2) (Unless true r 1 ∷ []) (x ∷ []))
