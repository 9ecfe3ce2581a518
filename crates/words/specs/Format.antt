-- The words that spell a table's parts, and what a word is read as.
use Rattle.std.specs.Prelude.{◌≡◌, ℕ, ◌+◌, ◌*◌, ◌^◌, ◌<◌, Bool, true, false, cond, Some, None, Option, ◌==◌}
use Rattle.words.specs.declared.kinds.Clock.{Clock}
use Rattle.words.specs.declared.kinds.Clock.TheVariants.{Base, On}
use Rattle.words.specs.declared.kinds.Literal.{Literal}
use Rattle.words.specs.declared.kinds.Operand.{Operand}
use Rattle.words.specs.declared.kinds.Operand.TheVariants.{Take, Literal as Constant}
use Rattle.words.specs.declared.kinds.Ports.{Ports}
use Rattle.words.specs.declared.kinds.Variable.{Variable}
use Rattle.words.specs.declared.kinds.Word.{Word}
use Rattle.words.specs.declared.kinds.Word.TheVariants.{Head, Node, Variable as Declare, Operate, Sample, Merge, Choose, Delay, Call, Operand as Operate-on, Give, End}
use Rattle.words.specs.Bits.{field, kind_of, is_set}

-- a word of kind k, with its fields below bit 28
abbrev pub of_kind : ℕ → ℕ → ℕ
of_kind k fields = k * 2 ^ 28 + fields

abbrev pub clock_bits : Clock → ℕ
clock_bits Base = 0
clock_bits (On sampler sense) = 2 ^ 7 + cond sense 1 0 * 2 ^ 6 + sampler

abbrev pub restart_bits : Option ℕ → ℕ
restart_bits None = 0
restart_bits (Some r) = 2 ^ 15 + r * 2 ^ 8

abbrev pub operand_word : Operand → ℕ
operand_word (Take x) = of_kind 9 x
operand_word (Constant l) = of_kind 10 (l.ty * 2 ^ 24 + l.payload)

-- the word that spells each thing
abbrev pub encoded : Word → ℕ
encoded (Head set) = of_kind 0 set
encoded (Node p) = of_kind 1 (p.inputs * 2 ^ 16 + p.outputs * 2 ^ 8 + p.locals)
encoded (Declare v) = of_kind 2 (v.ty * 2 ^ 24 + clock_bits v.clock)
encoded (Operate op x) = of_kind 3 (op * 2 ^ 20 + x)
encoded (Sample x) = of_kind 4 x
encoded (Merge selector x) = of_kind 5 (selector * 2 ^ 8 + x)
encoded (Choose selector x) = of_kind 6 (selector * 2 ^ 8 + x)
encoded (Delay x) = of_kind 7 x
encoded (Call node restart) = of_kind 8 (node * 2 ^ 20 + restart_bits restart)
encoded (Operate-on a) = operand_word a
encoded (Give x) = of_kind 11 x
encoded End = of_kind 12 0

-- what a word says
abbrev pub clock_in : ℕ → Clock
clock_in w = cond (is_set w 7) (On (field w 0 6) (is_set w 6)) Base

abbrev pub ports_in : ℕ → Ports
ports_in w = record { inputs = field w 16 8; outputs = field w 8 8; locals = field w 0 8 }

abbrev pub variable_in : ℕ → Variable
variable_in w = record { ty = field w 24 4; clock = clock_in w }

abbrev pub restart_in : ℕ → Option ℕ
restart_in w = cond (is_set w 15) (Some (field w 8 6)) None

abbrev pub literal_in : ℕ → Literal
literal_in w = record { ty = field w 24 4; payload = field w 0 24 }

abbrev pub operand_in : ℕ → Operand
operand_in w = cond (kind_of w == 10) (Constant (literal_in w)) (Take (field w 0 6))

-- by its kind
abbrev pub decoded_as : ℕ → ℕ → Option Word
decoded_as k w =
    cond (k == 0) (Some (Head (field w 0 8)))
    (cond (k == 1) (Some (Node (ports_in w)))
    (cond (k == 2) (Some (Declare (variable_in w)))
    (cond (k == 3) (Some (Operate (field w 20 8) (field w 0 6)))
    (cond (k == 4) (Some (Sample (field w 0 6)))
    (cond (k == 5) (Some (Merge (field w 8 6) (field w 0 6)))
    (cond (k == 6) (Some (Choose (field w 8 6) (field w 0 6)))
    (cond (k == 7) (Some (Delay (field w 0 6)))
    (cond (k == 8) (Some (Call (field w 20 8) (restart_in w)))
    (cond (k == 9) (Some (Operate-on (Take (field w 0 6))))
    (cond (k == 10) (Some (Operate-on (Constant (literal_in w))))
    (cond (k == 11) (Some (Give (field w 0 6)))
    (cond (k == 12) (Some End)
    None))))))))))))

abbrev pub decoded : ℕ → Option Word
decoded w = decoded_as (kind_of w) w

-- the bits that no field has are zero: the word is the one that spells what it says
abbrev pub spells_it : ℕ → Option Word → Bool
spells_it w None = false
spells_it w (Some x) = encoded x == w

abbrev pub spare_zero : ℕ → Bool
spare_zero w = spells_it w (decoded w)

-- each number fits its field
abbrev pub ClockFits : Clock → Type 0
ClockFits Base = Unit {0}
ClockFits (On sampler sense) = sampler < 2 ^ 6

abbrev pub RestartFits : Option ℕ → Type 0
RestartFits None = Unit {0}
RestartFits (Some r) = r < 2 ^ 6

abbrev pub OperandFits : Operand → Type 0
OperandFits (Take x) = x < 2 ^ 6
OperandFits (Constant l) = (l.ty < 2 ^ 4) × (l.payload < 2 ^ 24)

abbrev pub WordFits : Word → Type 0
WordFits (Head set) = set < 2 ^ 8
WordFits (Node p) = (p.inputs < 2 ^ 8) × (p.outputs < 2 ^ 8) × (p.locals < 2 ^ 8)
WordFits (Declare v) = (v.ty < 2 ^ 4) × ClockFits v.clock
WordFits (Operate op x) = (op < 2 ^ 8) × (x < 2 ^ 6)
WordFits (Sample x) = x < 2 ^ 6
WordFits (Merge selector x) = (selector < 2 ^ 6) × (x < 2 ^ 6)
WordFits (Choose selector x) = (selector < 2 ^ 6) × (x < 2 ^ 6)
WordFits (Delay x) = x < 2 ^ 6
WordFits (Call node restart) = (node < 2 ^ 8) × RestartFits restart
WordFits (Operate-on a) = OperandFits a
WordFits (Give x) = x < 2 ^ 6
WordFits End = Unit {0}

-- the format is one to one, up to the spare bits
pub record WordsStand : Type 0 where
  -- what fits its fields is read back from its word
  pub reads : (x : Word) → WordFits x → decoded (encoded x) ≡ Some x
  pub small : (x : Word) → WordFits x → encoded x < 2 ^ 32
  -- a word whose spare bits are zero is the one that spells what it is read as
  pub spells : (w : ℕ) (x : Word) → decoded w ≡ Some x → spare_zero w ≡ true → encoded x ≡ w
