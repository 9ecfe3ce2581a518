-- What stands behind a STEP is read back: its operands, and its gives.
use Rattle.std.proofs.Common.{◌≡◌, ℕ, ◌+◌, List, [], ◌∷◌, ◌++◌, map, length, drop, refl, ap, ◌∙◌}
use Rattle.std.proofs.lemmas.List.{append_assoc, length-map, length-append, drop_at}
use Rattle.words.specs.declared.kinds.Operand.{Operand}
use Rattle.instructions.specs.declared.code_word.CodeWord.{CodeWord}
use Rattle.instructions.specs.declared.code_word.CodeWord.TheVariants.{Operand as With, Give}
use Rattle.execution.specs.Words.{operands_in, gives_in, gives_behind}

-- words that begin with no operand and no give
abbrev pub Apart : List CodeWord → Type 0
Apart more = (operands_in more ≡ []) × (gives_in more ≡ [])

abbrev pub behind_step : List Operand → List ℕ → List CodeWord
behind_step ops gs = map With ops ++ map Give gs

operands_front : (ops : List Operand) (more : List CodeWord) → operands_in more ≡ [] → operands_in (map With ops ++ more) ≡ ops
operands_front [] more e = e
operands_front (a ∷ ops) more e = ap (λ l. a ∷ l) (operands_front ops more e)

gives_front : (gs : List ℕ) (more : List CodeWord) → gives_in more ≡ [] → gives_in (map Give gs ++ more) ≡ gs
gives_front [] more e = e
gives_front (x ∷ gs) more e = ap (λ l. x ∷ l) (gives_front gs more e)

no_operands : (gs : List ℕ) (more : List CodeWord) → operands_in more ≡ [] → operands_in (map Give gs ++ more) ≡ []
no_operands [] more e = e
no_operands (x ∷ gs) more e = refl

pub operands_behind : (ops : List Operand) (gs : List ℕ) (more : List CodeWord) → Apart more → operands_in (behind_step ops gs ++ more) ≡ ops
operands_behind ops gs more p =
    ap operands_in (append_assoc (map With ops) (map Give gs) more)
    ∙ operands_front ops (map Give gs ++ more) (no_operands gs more p.0)

pub gives_behind_lem : (ops : List Operand) (gs : List ℕ) (more : List CodeWord) → Apart more → gives_behind (behind_step ops gs ++ more) ≡ gs
gives_behind_lem ops gs more p =
    ap (λ l. gives_in (drop (length l) (behind_step ops gs ++ more))) (operands_behind ops gs more p)
    ∙ ap (λ l. gives_in (drop (length ops) l)) (append_assoc (map With ops) (map Give gs) more)
    ∙ ap gives_in (drop_at (map With ops) (map Give gs ++ more) (length ops) (length-map ops With))
    ∙ gives_front gs more p.1

pub behind_length : (ops : List Operand) (gs : List ℕ) → length (behind_step ops gs) ≡ length ops + length gs
behind_length ops gs =
    length-append (map With ops) (map Give gs)
    ∙ ap (λ n. n + length (map Give gs)) (length-map ops With) ∙ ap (λ n. length ops + n) (length-map gs Give)
