-- What fits its fields is read back from its word.
use Prim.Native.Nat.{ℕ, ◌+◌, ◌*◌, ◌^◌, ◌<◌}
use mathlib.Core.Bool.{Bool, true, false}
use mathlib.Core.Path.{◌≡◌, refl}
use native.Mathlib.Omega.{arith}
use Rattle.words.specs.declared.kinds.Operand.{Operand}
use Rattle.words.specs.declared.kinds.Operand.TheVariants.{Take, Literal as Constant}
use Rattle.words.specs.Bits.{field, kind_of}
use Rattle.words.specs.Format.{of_kind, operand_word, OperandFits}
use Rattle.instructions.specs.declared.code_word.CodeWord.{CodeWord}
use Rattle.instructions.specs.declared.code_word.CodeWord.TheVariants.{Head, ResetAt, StepAt, Operate, Unless, Skip, Need, Reset, Step, Operand as With, Give, End, Ports}
use Rattle.instructions.specs.Format.{code_word, says, CodeWordFits, CodeWordsStand}

-- a word that has but a number of 14 bits
low : (k x : ℕ) → x < 2 ^ 14 → (kind_of (of_kind k x) ≡ k) × (field (of_kind k x) 0 14 ≡ x)
low k x f = (omega arith, omega arith)

-- a word with a number of 8 bits from bit 20 up, and one of 13 bits
both : (k g x : ℕ) → g < 2 ^ 8 → x < 2 ^ 13 → (kind_of (of_kind k (g * 2 ^ 20 + x)) ≡ k) × (field (of_kind k (g * 2 ^ 20 + x)) 20 8 ≡ g) × (field (of_kind k (g * 2 ^ 20 + x)) 0 13 ≡ x)
both k g x f h = (omega arith, omega arith, omega arith)

reads_unless : (sense : Bool) (x d : ℕ) → x < 2 ^ 6 → d < 2 ^ 14 → says (code_word (Unless sense x d)) ≡ Unless sense x d
reads_unless true x d f h =
    let w : ℕ = code_word (Unless true x d) in
    let k : kind_of w ≡ 4 = omega arith in
    let a : field w 27 1 ≡ 1 = omega arith in
    let b : field w 14 6 ≡ x = omega arith in
    let c : field w 0 14 ≡ d = omega arith in
    rw (k, a, b, c)
reads_unless false x d f h =
    let w : ℕ = code_word (Unless false x d) in
    let k : kind_of w ≡ 4 = omega arith in
    let a : field w 27 1 ≡ 0 = omega arith in
    let b : field w 14 6 ≡ x = omega arith in
    let c : field w 0 14 ≡ d = omega arith in
    rw (k, a, b, c)

reads_operand : (a : Operand) → OperandFits a → says (operand_word a) ≡ With a
reads_operand (Take x) f =
    let w : ℕ = of_kind 9 x in
    let k : kind_of w ≡ 9 = omega arith in
    let a : field w 0 6 ≡ x = omega arith in
    rw (k, a)
reads_operand (Constant l) f =
    let w : ℕ = of_kind 10 (l.ty * 2 ^ 24 + l.payload) in
    let k : kind_of w ≡ 10 = omega arith in
    let a : field w 24 4 ≡ l.ty = omega arith in
    let b : field w 0 24 ≡ l.payload = omega arith in
    rw (k, a, b)

reads : (x : CodeWord) → CodeWordFits x → says (code_word x) ≡ x
reads (Head nodes set) f =
    let w : ℕ = code_word (Head nodes set) in
    let k : kind_of w ≡ 0 = omega arith in
    let a : field w 8 8 ≡ nodes = omega arith in
    let b : field w 0 8 ≡ set = omega arith in
    rw (k, a, b)
reads (ResetAt p) f = let l = low 1 p f in let k = l.0 in let a = l.1 in rw (k, a)
reads (StepAt p) f = let l = low 2 p f in let k = l.0 in let a = l.1 in rw (k, a)
reads (Operate op x) f =
    let w : ℕ = code_word (Operate op x) in
    let k : kind_of w ≡ 3 = omega arith in
    let a : field w 20 8 ≡ op = omega arith in
    let b : field w 0 6 ≡ x = omega arith in
    rw (k, a, b)
reads (Unless sense x d) f = reads_unless sense x d f.0 f.1
reads (Skip d) f = let l = low 5 d f in let k = l.0 in let a = l.1 in rw (k, a)
reads (Need n) f =
    let w : ℕ = code_word (Need n) in
    let k : kind_of w ≡ 6 = omega arith in
    let a : field w 0 13 ≡ n = omega arith in
    rw (k, a)
reads (Reset g x) f = let l = both 7 g x f.0 f.1 in let k = l.0 in let a = l.1 in let b = l.2 in rw (k, a, b)
reads (Step g x) f = let l = both 8 g x f.0 f.1 in let k = l.0 in let a = l.1 in let b = l.2 in rw (k, a, b)
reads (With a) f = reads_operand a f
reads (Give x) f =
    let w : ℕ = code_word (Give x) in
    let k : kind_of w ≡ 11 = omega arith in
    let a : field w 0 6 ≡ x = omega arith in
    rw (k, a)
reads End f = refl
reads (Ports i o) f =
    let w : ℕ = code_word (Ports i o) in
    let k : kind_of w ≡ 15 = omega arith in
    let a : field w 16 8 ≡ i = omega arith in
    let b : field w 8 8 ≡ o = omega arith in
    rw (k, a, b)

small_unless : (sense : Bool) (x d : ℕ) → x < 2 ^ 6 → d < 2 ^ 14 → code_word (Unless sense x d) < 2 ^ 32
small_unless true x d f h = omega arith
small_unless false x d f h = omega arith

small_operand : (a : Operand) → OperandFits a → operand_word a < 2 ^ 32
small_operand (Take x) f = omega arith
small_operand (Constant l) f = omega arith

small : (x : CodeWord) → CodeWordFits x → code_word x < 2 ^ 32
small (Head nodes set) f = omega arith
small (ResetAt p) f = omega arith
small (StepAt p) f = omega arith
small (Operate op x) f = omega arith
small (Unless sense x d) f = small_unless sense x d f.0 f.1
small (Skip d) f = omega arith
small (Need n) f = omega arith
small (Reset g x) f = omega arith
small (Step g x) f = omega arith
small (With a) f = small_operand a f
small (Give x) f = omega arith
small End f = omega arith
small (Ports i o) f = omega arith

pub code_words_stand : CodeWordsStand
code_words_stand = record { reads = reads; small = small }
