-- The format is one to one.
use Rattle.std.proofs.Common.{◌≡◌, ℕ, ◌+◌, ◌*◌, ◌^◌, ◌<◌, true, false, Some, None, Option, refl, subst, arith, eqb-true}
use Rattle.words.specs.declared.kinds.Clock.{Clock}
use Rattle.words.specs.declared.kinds.Clock.TheVariants.{Base, On}
use Rattle.words.specs.declared.kinds.Operand.{Operand}
use Rattle.words.specs.declared.kinds.Operand.TheVariants.{Take, Literal as Constant}
use Rattle.words.specs.declared.kinds.Word.{Word}
use Rattle.words.specs.declared.kinds.Word.TheVariants.{Head, Node, Variable as Declare, Operate, Sample, Merge, Choose, Delay, Call, Operand as Operate-on, Give, End}
use Rattle.words.specs.Bits.{field, kind_of}
use Rattle.words.specs.Format.{of_kind, clock_bits, restart_bits, operand_word, encoded, decoded, spells_it, spare_zero, ClockFits, RestartFits, OperandFits, WordFits, WordsStand}

-- Reading back what a word spells: its kind, then its fields.
reads_clock : (ty : ℕ) (c : Clock) → ty < 2 ^ 4 → ClockFits c → decoded (of_kind 2 (ty * 2 ^ 24 + clock_bits c)) ≡ Some (Declare (record { ty = ty; clock = c }))
reads_clock ty Base t f =
    let w : ℕ = of_kind 2 (ty * 2 ^ 24 + 0) in
    let k : kind_of w ≡ 2 = omega arith in
    let a : field w 24 4 ≡ ty = omega arith in
    let b : field w 7 1 ≡ 0 = omega arith in
    rw (k, a, b)
reads_clock ty (On x true) t f =
    let w : ℕ = of_kind 2 (ty * 2 ^ 24 + (2 ^ 7 + 2 ^ 6 + x)) in
    let k : kind_of w ≡ 2 = omega arith in
    let a : field w 24 4 ≡ ty = omega arith in
    let b : field w 7 1 ≡ 1 = omega arith in
    let d : field w 6 1 ≡ 1 = omega arith in
    let e : field w 0 6 ≡ x = omega arith in
    rw (k, a, b, d, e)
reads_clock ty (On x false) t f =
    let w : ℕ = of_kind 2 (ty * 2 ^ 24 + (2 ^ 7 + 0 + x)) in
    let k : kind_of w ≡ 2 = omega arith in
    let a : field w 24 4 ≡ ty = omega arith in
    let b : field w 7 1 ≡ 1 = omega arith in
    let d : field w 6 1 ≡ 0 = omega arith in
    let e : field w 0 6 ≡ x = omega arith in
    rw (k, a, b, d, e)

reads_call : (g : ℕ) (r : Option ℕ) → g < 2 ^ 8 → RestartFits r → decoded (encoded (Call g r)) ≡ Some (Call g r)
reads_call g None h f =
    let w : ℕ = encoded (Call g None) in
    let k : kind_of w ≡ 8 = omega arith in
    let a : field w 20 8 ≡ g = omega arith in
    let b : field w 15 1 ≡ 0 = omega arith in
    rw (k, a, b)
reads_call g (Some r) h f =
    let w : ℕ = encoded (Call g (Some r)) in
    let k : kind_of w ≡ 8 = omega arith in
    let a : field w 20 8 ≡ g = omega arith in
    let b : field w 15 1 ≡ 1 = omega arith in
    let d : field w 8 6 ≡ r = omega arith in
    rw (k, a, b, d)

reads_operand : (a : Operand) → OperandFits a → decoded (operand_word a) ≡ Some (Operate-on a)
reads_operand (Take x) f =
    let w : ℕ = of_kind 9 x in
    let k : kind_of w ≡ 9 = omega arith in
    let a : field w 0 6 ≡ x = omega arith in
    rw (k, a)
reads_operand (Constant l) f =
    let w : ℕ = of_kind 10 (l.ty * 2 ^ 24 + l.payload) in
    let k : kind_of w ≡ 10 = omega arith in
    let a : field w 24 4 ≡ l.ty = omega arith in
    let b : field w 0 24 ≡ l.payload = omega arith in
    rw (k, a, b)

-- a word that has but a variable
low : (k x : ℕ) → x < 2 ^ 6 → (kind_of (of_kind k x) ≡ k) × (field (of_kind k x) 0 6 ≡ x)
low k x f = (omega arith, omega arith)

reads : (x : Word) → WordFits x → decoded (encoded x) ≡ Some x
reads (Head set) f =
    let w : ℕ = encoded (Head set) in
    let k : kind_of w ≡ 0 = omega arith in
    let a : field w 0 8 ≡ set = omega arith in
    rw (k, a)
reads (Node p) f =
    let w : ℕ = encoded (Node p) in
    let k : kind_of w ≡ 1 = omega arith in
    let a : field w 16 8 ≡ p.inputs = omega arith in
    let b : field w 8 8 ≡ p.outputs = omega arith in
    let d : field w 0 8 ≡ p.locals = omega arith in
    rw (k, a, b, d)
reads (Declare v) f = reads_clock v.ty v.clock f.0 f.1
reads (Operate op x) f =
    let w : ℕ = encoded (Operate op x) in
    let k : kind_of w ≡ 3 = omega arith in
    let a : field w 20 8 ≡ op = omega arith in
    let b : field w 0 6 ≡ x = omega arith in
    rw (k, a, b)
reads (Sample x) f = let l = low 4 x f in rw (l.0, l.1)
reads (Merge selector x) f =
    let w : ℕ = encoded (Merge selector x) in
    let k : kind_of w ≡ 5 = omega arith in
    let a : field w 8 6 ≡ selector = omega arith in
    let b : field w 0 6 ≡ x = omega arith in
    rw (k, a, b)
reads (Choose selector x) f =
    let w : ℕ = encoded (Choose selector x) in
    let k : kind_of w ≡ 6 = omega arith in
    let a : field w 8 6 ≡ selector = omega arith in
    let b : field w 0 6 ≡ x = omega arith in
    rw (k, a, b)
reads (Delay x) f = let l = low 7 x f in rw (l.0, l.1)
reads (Call g r) f = reads_call g r f.0 f.1
reads (Operate-on a) f = reads_operand a f
reads (Give x) f = let l = low 11 x f in rw (l.0, l.1)
reads End f = refl

pub small_clock : (c : Clock) → ClockFits c → clock_bits c < 2 ^ 8
small_clock Base f = omega arith
small_clock (On x true) f = omega arith
small_clock (On x false) f = omega arith

pub small_restart : (r : Option ℕ) → RestartFits r → restart_bits r < 2 ^ 16
small_restart None f = omega arith
small_restart (Some r) f = omega arith

small_operand : (a : Operand) → OperandFits a → operand_word a < 2 ^ 32
small_operand (Take x) f = omega arith
small_operand (Constant l) f = omega arith

small : (x : Word) → WordFits x → encoded x < 2 ^ 32
small (Head set) f = omega arith
small (Node p) f = omega arith
small (Declare v) f = omega (arith, small_clock v.clock f.1)
small (Operate op x) f = omega arith
small (Sample x) f = omega arith
small (Merge selector x) f = omega arith
small (Choose selector x) f = omega arith
small (Delay x) f = omega arith
small (Call g r) f = omega (arith, small_restart r f.1)
small (Operate-on a) f = small_operand a f
small (Give x) f = omega arith
small End f = omega arith

spells : (w : ℕ) (x : Word) → decoded w ≡ Some x → spare_zero w ≡ true → encoded x ≡ w
spells w x e z =
    let P : Option Word → Type 0 = λ o. spells_it w o ≡ true in eqb-true (encoded x) w (subst P e z)

pub words_stand : WordsStand
words_stand = record { reads = reads; small = small; spells = spells }
