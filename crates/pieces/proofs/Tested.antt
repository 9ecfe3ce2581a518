-- The tests of a chain of samplers, from the last one on.
use Rattle.std.proofs.Common.{◌≡◌, ℕ, zero, suc, ◌+◌, ◌-◌, ◌<◌, ◌≤◌, Bool, List, [], ◌∷◌, ◌++◌, length, sym, refl, ap, ◌∙◌, arith}
use Rattle.std.proofs.lemmas.List.{length_push}
use Rattle.words.specs.declared.kinds.Clock.{Clock}
use Rattle.words.specs.declared.kinds.Clock.TheVariants.{Base, On}
use Rattle.instructions.specs.declared.code_word.CodeWord.TheVariants.{Unless}
use Rattle.table.specs.Syntax.{Node}
use Rattle.rules.specs.Clocks.{clock_of}
use Rattle.code.specs.Statements.{Test, tests_to}
use Rattle.code.specs.Code.{tests_words}

pub tests_push : (ts : List Test) (t : Test) (n : ℕ) → tests_words (ts ++ t ∷ []) n ≡ tests_words ts (n + 1) ++ Unless t.sense t.variable n ∷ []
tests_push [] t n = let e : 0 + n ≡ n = omega arith in ap (λ m. Unless t.sense t.variable m ∷ []) e
tests_push (u ∷ ts) t n =
    let e : length (ts ++ t ∷ []) + n ≡ length ts + (n + 1) = omega (arith, length_push ts t) in
    ap (λ m. Unless u.sense u.variable m ∷ tests_words (ts ++ t ∷ []) n) e
    ∙ ap (λ l. Unless u.sense u.variable (length ts + (n + 1)) ∷ l) (tests_push ts t n)

pub tests_length : (ts : List Test) (n : ℕ) → length (tests_words ts n) ≡ length ts
tests_length [] n = refl
tests_length (t ∷ ts) n = ap suc (tests_length ts n)

pub tests_few : (d : ℕ) (N : Node) (c : Clock) → length (tests_to d N c) ≤ d
tests_few zero N c = omega arith
tests_few (suc d) N Base = omega arith
tests_few (suc d) N (On s b) = omega (arith, length_push (tests_to d N (clock_of N s)) (record { variable = s; sense = b }), tests_few d N (clock_of N s))

pub few_words : (d : ℕ) (N : Node) (c : Clock) (n : ℕ) → length (tests_words (tests_to d N c) n) ≤ d
few_words d N c n = omega (arith, tests_length (tests_to d N c) n, tests_few d N c)

-- the words of a chain: those of the outer samplers, and the last test
pub tests_base : (d : ℕ) (N : Node) (n : ℕ) → tests_words (tests_to d N Base) n ≡ []
tests_base zero N n = refl
tests_base (suc d) N n = refl

pub tests_on : (d : ℕ) (N : Node) (s : ℕ) (b : Bool) (n : ℕ) → 0 < d
    → tests_words (tests_to (d - 1) N (clock_of N s)) (n + 1) ++ Unless b s n ∷ [] ≡ tests_words (tests_to d N (On s b)) n
tests_on d N s b n h =
    let e : d ≡ suc (d - 1) = omega arith in
    sym (tests_push (tests_to (d - 1) N (clock_of N s)) (record { variable = s; sense = b }) n)
    ∙ ap (λ m. tests_words (tests_to m N (On s b)) n) (sym e)
