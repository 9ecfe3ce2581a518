-- Words that the reader accepts: operands, gives and variables, as many as are due.
use Rattle.std.proofs.Common.{◌≡◌, ℕ, suc, ◌+◌, ◌-◌, ◌^◌, ◌<◌, ◌≤◌, true, false, cond, ltb, List, [], ◌∷◌, ◌++◌, map, length, is_ok, refl, arith}
use Rattle.std.specs.List.{AllByRecursion}
use Rattle.std.proofs.lemmas.Bool.{eq-eqb, lt-ltb}
use Rattle.words.specs.declared.kinds.Clock.{Clock}
use Rattle.words.specs.declared.kinds.Clock.TheVariants.{Base, On}
use Rattle.words.specs.declared.kinds.Operand.{Operand}
use Rattle.words.specs.declared.kinds.Operand.TheVariants.{Take, Literal as Constant}
use Rattle.words.specs.declared.kinds.Variable.{Variable}
use Rattle.words.specs.declared.kinds.Word.{Word}
use Rattle.words.specs.declared.kinds.Word.TheVariants.{Variable as Declare, Operand as With, Give}
use Rattle.words.specs.Bits.{field, kind_of}
use Rattle.words.specs.Format.{encoded, spare_zero, clock_in, clock_bits, WordFits, ClockFits}
use Rattle.words.proofs.Format.{words_stand}
use Rattle.reader.specs.declared.outline.Outline.{Outline}
use Rattle.reader.specs.declared.scan.Expect.{Expect}
use Rattle.reader.specs.declared.scan.Expect.TheVariants as due
use Rattle.reader.specs.declared.scan.Scan.{Scan}
use Rattle.reader.specs.Scanning.{onward, sampler_fits}
use Rattle.reader.specs.Whole.{scanned}
use Rattle.table.specs.Spelling.{OperandKeeps, ClockKeeps, VariableKeeps}

-- what is read so far, where e is due
abbrev pub state : Expect → ℕ → Outline → Scan
state e v o = record { expect = e; variables = v; outline = o }

-- the words are read to their end, from whatever place
abbrev pub Good : ℕ → Expect → ℕ → Outline → List Word → Type 0
Good own e v o ws = (at : ℕ) → is_ok (scanned own at (state e v o) (map encoded ws)) ≡ true

-- the word that spells what fits has its spare bits zero
pub spare : (x : Word) → WordFits x → spare_zero (encoded x) ≡ true
spare x f = rw (words_stand.reads x f) (eq-eqb (encoded x) (encoded x) refl)

-- One operand, one give, one variable.
operand_read : (own gives v : ℕ) (o : Outline) (a : Operand) (more : ℕ) (ws : List Word) → v ≤ 64 → OperandKeeps v a
    → Good own (onward more gives) v o ws → Good own (due.Operands more gives) v o (With a ∷ ws)
operand_read own gives v o (Take x) more ws l k go at =
    let w : ℕ = encoded (With (Take x)) in
    let z = spare (With (Take x)) (omega arith) in
    let d : kind_of w ≡ 9 = omega arith in
    let f : field w 0 6 ≡ x = omega arith in
    rw (z, d, f, lt-ltb x v k) (go (at + 1))
operand_read own gives v o (Constant c) more ws l k go at =
    let d : kind_of (encoded (With (Constant c))) ≡ 10 = omega arith in
    rw d (go (at + 1))

abbrev gives_left : ℕ → Expect
gives_left more = cond (ltb 1 more) (due.Gives (more - 1)) due.Equation

give_read : (own v : ℕ) (o : Outline) (x more : ℕ) (ws : List Word) → v ≤ 64 → x < v
    → Good own (gives_left more) v o ws → Good own (due.Gives more) v o (Give x ∷ ws)
give_read own v o x more ws l k go at =
    let w : ℕ = encoded (Give x) in
    let z = spare (Give x) (omega arith) in
    let d : kind_of w ≡ 11 = omega arith in
    let f : field w 0 6 ≡ x = omega arith in
    rw (z, d, f, lt-ltb x v k) (go (at + 1))

clock_fits : (v : ℕ) (c : Clock) → v ≤ 64 → ClockKeeps v c → ClockFits c
clock_fits v Base l k = tt
clock_fits v (On x b) l k = omega arith

clock_small : (c : Clock) → ClockFits c → clock_bits c < 2 ^ 8
clock_small Base f = omega arith
clock_small (On x true) f = omega arith
clock_small (On x false) f = omega arith

sampler_fits_lem : (e : Expect) (v : ℕ) (o : Outline) (c : Clock) → ClockKeeps v c → sampler_fits (state e v o) c ≡ true
sampler_fits_lem e v o Base k = refl
sampler_fits_lem e v o (On x b) k = lt-ltb x v k

abbrev variables_left : ℕ → Expect
variables_left more = cond (ltb 1 more) (due.Variables (more - 1)) due.Equation

variable_read : (own v : ℕ) (o : Outline) (x : Variable) (more : ℕ) (ws : List Word) → v ≤ 64 → VariableKeeps v x
    → Good own (variables_left more) v o ws → Good own (due.Variables more) v o (Declare x ∷ ws)
variable_read own v o x more ws l k go at =
    let w : ℕ = encoded (Declare x) in
    let f = clock_fits v x.clock l k.clock in
    let z = spare (Declare x) (k.ty, f) in
    let d : kind_of w ≡ 2 = omega (arith, clock_small x.clock f, k.ty) in
    let r = rw d at (words_stand.reads (Declare x) (k.ty, f)) in
    let c : clock_in w ≡ x.clock = cc in
    rw (z, d, c, sampler_fits_lem (due.Variables more) v o x.clock k.clock) (go (at + 1))

-- A list of them: where n are due, `next n` are due behind the first.
module _ {A : Type 0} (own v : ℕ) (o : Outline) (spell : A → Word) (Keeps : A → Type 0) (some next : ℕ → Expect)
    (fewer : (n : ℕ) → next (suc (suc n)) ≡ some (suc n))
    (one : (x : A) (n : ℕ) (ws : List Word) → Keeps x → Good own (next n) v o ws → Good own (some n) v o (spell x ∷ ws)) where
  each_read : (xs : List A) (ws : List Word) → 0 < length xs → AllByRecursion Keeps xs
      → Good own (next 1) v o ws → Good own (some (length xs)) v o (map spell xs ++ ws)
  each_read [] ws l k go = absurd (omega arith)
  each_read (x ∷ []) ws l k go = one x 1 ws k.0 go
  each_read (x ∷ y ∷ xs) ws l k go =
      one x (suc (suc (length xs))) (map spell (y ∷ xs) ++ ws) k.0 (rw (fewer (length xs)) (each_read (y ∷ xs) ws (omega arith) k.1 go))

one_fewer : (n : ℕ) → (ltb 1 (suc (suc n)) ≡ true) × (suc (suc n) - 1 ≡ suc n)
one_fewer n = (lt-ltb 1 (suc (suc n)) (omega arith), omega arith)

pub operands_read_lem : (own gives v : ℕ) (o : Outline) (ops : List Operand) (ws : List Word) → v ≤ 64 → 0 < length ops → AllByRecursion (OperandKeeps v) ops
    → Good own (onward 1 gives) v o ws → Good own (due.Operands (length ops) gives) v o (map With ops ++ ws)
operands_read_lem own gives v o ops ws l =
    each_read own v o With (OperandKeeps v) (λ n. due.Operands n gives) (λ n. onward n gives)
    (λ n. rw ((one_fewer n).0, (one_fewer n).1)) (λ a n us. operand_read own gives v o a n us l) ops ws

pub gives_read : (own v : ℕ) (o : Outline) (xs : List ℕ) (ws : List Word) → v ≤ 64 → 0 < length xs → AllByRecursion (λ x. x < v) xs
    → Good own due.Equation v o ws → Good own (due.Gives (length xs)) v o (map Give xs ++ ws)
gives_read own v o xs ws l =
    each_read own v o Give (λ x. x < v) due.Gives gives_left
    (λ n. rw ((one_fewer n).0, (one_fewer n).1)) (λ x n us. give_read own v o x n us l) xs ws

pub variables_read : (own v : ℕ) (o : Outline) (xs : List Variable) (ws : List Word) → v ≤ 64 → 0 < length xs → AllByRecursion (VariableKeeps v) xs
    → Good own due.Equation v o ws → Good own (due.Variables (length xs)) v o (map Declare xs ++ ws)
variables_read own v o xs ws l =
    each_read own v o Declare (VariableKeeps v) due.Variables variables_left
    (λ n. rw ((one_fewer n).0, (one_fewer n).1)) (λ x n us. variable_read own v o x n us l) xs ws
