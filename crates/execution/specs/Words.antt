-- What a run of code words does to cells.
use Rattle.std.specs.Prelude.{ℕ, zero, suc, ◌+◌, ◌*◌, cond, List, [], ◌∷◌, map, length, drop, Some, None, Option, ◌==◌, nat_lt, slice_index, slice_index_or}
use Rattle.std.specs.Option.{option_map}
use Rattle.std.specs.List.{slice_get}
use Rattle.opset.specs.Meaning.{Meaning}
use Rattle.words.specs.declared.kinds.Operand.{Operand}
use Rattle.words.specs.Bits.{field}
use Rattle.instructions.specs.declared.code_word.CodeWord.{CodeWord}
use Rattle.instructions.specs.declared.code_word.CodeWord.TheVariants.{Head, ResetAt, StepAt, Operate, Unless, Skip, Need, Reset, Step, Operand as With, Give, End, Ports}
use Rattle.instructions.specs.Format.{says}
use Rattle.streams.specs.Streams.{sensed, value_of, applied}
use Rattle.execution.specs.Cells.{stored, inside, Blocks, no_blocks, stepped}

-- the operands at the front
abbrev pub operands_by : CodeWord → List Operand → List Operand
operands_by (Head nodes set) l = []
operands_by (ResetAt p) l = []
operands_by (StepAt p) l = []
operands_by (Operate op x) l = []
operands_by (Unless sense x d) l = []
operands_by (Skip d) l = []
operands_by (Need n) l = []
operands_by (Reset g off) l = []
operands_by (Step g off) l = []
operands_by (With a) l = a ∷ l
operands_by (Give x) l = []
operands_by End l = []
operands_by (Ports i o) l = []

abbrev pub operands_in : List CodeWord → List Operand
operands_in [] = []
operands_in (w ∷ ws) = operands_by w (operands_in ws)

-- the gives at the front
abbrev pub gives_by : CodeWord → List ℕ → List ℕ
gives_by (Head nodes set) l = []
gives_by (ResetAt p) l = []
gives_by (StepAt p) l = []
gives_by (Operate op x) l = []
gives_by (Unless sense x d) l = []
gives_by (Skip d) l = []
gives_by (Need n) l = []
gives_by (Reset g off) l = []
gives_by (Step g off) l = []
gives_by (With a) l = []
gives_by (Give x) l = x ∷ l
gives_by End l = []
gives_by (Ports i o) l = []

abbrev pub gives_in : List CodeWord → List ℕ
gives_in [] = []
gives_in (w ∷ ws) = gives_by w (gives_in ws)

-- what stands behind a STEP: its operands, up to the first give, and then its gives
abbrev pub gives_behind : List CodeWord → List ℕ
gives_behind ws = gives_in (drop (length (operands_in ws)) ws)

-- what an operand gives; another word gives nothing
abbrev pub value_in : {V : Type 0} → Meaning V → List V → CodeWord → Option V
value_in m cells (Head nodes set) = None
value_in m cells (ResetAt p) = None
value_in m cells (StepAt p) = None
value_in m cells (Operate op x) = None
value_in m cells (Unless sense x d) = None
value_in m cells (Skip d) = None
value_in m cells (Need n) = None
value_in m cells (Reset g off) = None
value_in m cells (Step g off) = None
value_in m cells (With a) = value_of m (slice_get cells) a
value_in m cells (Give x) = None
value_in m cells End = None
value_in m cells (Ports i o) = None

abbrev pub word_at : List CodeWord → ℕ → CodeWord
word_at ws i = slice_index_or ws i End

-- one operand for operators below 128, else two
abbrev pub operand_count : ℕ → ℕ
operand_count op = cond (nat_lt op 128) 1 2

abbrev pub second_in : {V : Type 0} → Meaning V → List V → ℕ → CodeWord → Option (Option V)
second_in m cells op w = cond (nat_lt op 128) (Some None) (option_map Some (value_in m cells w))

abbrev pub operated : {V : Type 0} → Meaning V → ℕ → ℕ → List CodeWord → List V → List V
operated m op x rest cells = stored cells x (applied m op (value_in m cells (word_at rest 0)) (second_in m cells op (word_at rest 1)))

-- what one instruction leads to: the block's end, or so many words passed over, with the cells after it
pub data Turn (V : Type 0) : Type 0 where
  stop : List V → Turn V
  go : ℕ → List V → Turn V

module _ {V : Type 0} (m : Meaning V) (B : Blocks V) where
  -- an instruction, and the words behind it
  abbrev pub turn : CodeWord → List CodeWord → List V → Turn V
  turn (Head nodes set) rest cells = stop cells
  turn (ResetAt p) rest cells = stop cells
  turn (StepAt p) rest cells = stop cells
  turn (Operate op x) rest cells = go (operand_count op) (operated m op x rest cells)
  turn (Unless sense x d) rest cells = go (cond (sensed m (slice_get cells x) sense) 0 d) cells
  turn (Skip d) rest cells = go d cells
  turn (Need n) rest cells = stop cells
  turn (Reset g off) rest cells = go 0 (inside off (B.resets g) cells)
  turn (Step g off) rest cells = go (length (operands_in rest) + length (gives_behind rest)) (stepped m B g off (operands_in rest) (gives_behind rest) cells)
  turn (With a) rest cells = stop cells
  turn (Give x) rest cells = stop cells
  turn End rest cells = stop cells
  turn (Ports i o) rest cells = stop cells

  -- the cells after the words, of which the first are passed over
  abbrev pub walk : ℕ → List CodeWord → List V → List V
  walk skip [] cells = cells
  walk (suc k) (w ∷ rest) cells = walk k rest cells
  walk zero (w ∷ rest) cells = elim (turn w rest cells) [ stop after ↦ after | go k after ↦ walk k rest after ]

-- the code's words, told apart
abbrev pub program : List ℕ → List CodeWord
program ws = map says ws

-- where a node's blocks begin, and what it needs, by the three words that code has for it
abbrev pub reset_place : List ℕ → ℕ → ℕ
reset_place ws k = field (slice_index ws (1 + 3 * k)) 0 14

abbrev pub step_place : List ℕ → ℕ → ℕ
step_place ws k = field (slice_index ws (2 + 3 * k)) 0 14

abbrev pub need_at : List ℕ → ℕ → ℕ
need_at ws k = field (slice_index ws (3 + 3 * k)) 0 13

-- the blocks of node n, whose calls are of earlier nodes
abbrev pub reset_run : {V : Type 0} → Meaning V → Blocks V → List ℕ → ℕ → List V → List V
reset_run m B ws n = walk m B 0 (drop (reset_place ws n) (program ws))

abbrev pub step_run : {V : Type 0} → Meaning V → Blocks V → List ℕ → ℕ → List V → List V
step_run m B ws n = walk m B 0 (drop (step_place ws n) (program ws))

-- the blocks of the nodes below n
abbrev pub word_blocks : {V : Type 0} → Meaning V → List ℕ → ℕ → Blocks V
word_blocks m ws zero = no_blocks
word_blocks m ws (suc n) = record {
  resets = λ g cells. cond (g == n) (reset_run m (word_blocks m ws n) ws n cells) ((word_blocks m ws n).resets g cells);
  steps = λ g cells. cond (g == n) (step_run m (word_blocks m ws n) ws n cells) ((word_blocks m ws n).steps g cells);
}

-- the blocks of node k
abbrev pub reset_by : {V : Type 0} → Meaning V → List ℕ → ℕ → List V → List V
reset_by m ws k = reset_run m (word_blocks m ws k) ws k

abbrev pub step_by : {V : Type 0} → Meaning V → List ℕ → ℕ → List V → List V
step_by m ws k = step_run m (word_blocks m ws k) ws k
