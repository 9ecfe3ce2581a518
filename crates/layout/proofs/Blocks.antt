-- The words of a block, one statement behind the other.
use Rattle.std.proofs.Common.{◌≡◌, ℕ, suc, ◌+◌, List, [], ◌∷◌, ◌++◌, length, refl, ap, ◌∙◌}
use Rattle.std.proofs.lemmas.List.{append_assoc, length-append}
use Rattle.instructions.specs.declared.code_word.CodeWord.{CodeWord}
use Rattle.instructions.specs.declared.code_word.CodeWord.TheVariants.{End}
use Rattle.code.specs.Statements.{Test, Action, assign, select, reset, step, Statement}
use Rattle.code.specs.Code.{tests_words, statement_words, statements_words, block_words}
use Rattle.execution.specs.Words.{operands_in, gives_in}
use Rattle.layout.proofs.Behind.{Apart}

tests_length : (ts : List Test) (n : ℕ) → length (tests_words ts n) ≡ length ts
tests_length [] n = refl
tests_length (t ∷ ts) n = ap suc (tests_length ts n)

-- tests, and what they guard
pub guarded_length : (ts : List Test) (xs : List CodeWord) → length (tests_words ts (length xs) ++ xs) ≡ length ts + length xs
guarded_length ts xs = length-append (tests_words ts (length xs)) xs ∙ ap (λ n. n + length xs) (tests_length ts (length xs))

pub block_length : (ss : List Statement) → length (block_words ss) ≡ length (statements_words ss) + 1
block_length ss = length-append (statements_words ss) (End ∷ [])

-- the first statement, and then the block of the others
pub block_more : (s : Statement) (ss : List Statement) (more : List CodeWord) → block_words (s ∷ ss) ++ more ≡ statement_words s ++ (block_words ss ++ more)
block_more s ss more =
    ap (λ l. l ++ more) (append_assoc (statement_words s) (statements_words ss) (End ∷ [])) ∙ append_assoc (statement_words s) (block_words ss) more

-- neither a statement nor a block begins with an operand or a give
statement_apart : (ts : List Test) (a : Action) (more : List CodeWord) → Apart (statement_words (record { tests = ts; action = a }) ++ more)
statement_apart (t ∷ ts) a more = (refl, refl)
statement_apart [] (assign op a b x) more = (refl, refl)
statement_apart [] (select s a b x) more = (refl, refl)
statement_apart [] (reset g off) more = (refl, refl)
statement_apart [] (step g off ops gs) more = (refl, refl)

pub block_apart : (ss : List Statement) (more : List CodeWord) → Apart (block_words ss ++ more)
block_apart [] more = (refl, refl)
block_apart (s ∷ ss) more =
    let e = block_more s ss more in
    let p = statement_apart s.tests s.action (block_words ss ++ more) in
    (ap operands_in e ∙ p.0, ap gives_in e ∙ p.1)
