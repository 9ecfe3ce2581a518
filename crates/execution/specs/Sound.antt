-- Words that can be run with no test of a word or a cell: every jump stays among the words, every cell lies in the segment, and calls are of earlier nodes.
use Rattle.std.specs.Prelude.{◌≡◌, ℕ, zero, suc, ◌+◌, ◌-◌, ◌*◌, ◌<◌, ◌≤◌, Bool, true, false, cond, ◌&&◌, List, [], ◌∷◌, length, drop, nat_le, nat_lt, slice_index}
use Rattle.words.specs.declared.kinds.Operand.{Operand}
use Rattle.words.specs.declared.kinds.Operand.TheVariants.{Take, Literal as Constant}
use Rattle.words.specs.Bits.{field}
use Rattle.instructions.specs.declared.code_word.CodeWord.{CodeWord}
use Rattle.instructions.specs.declared.code_word.CodeWord.TheVariants.{Head, ResetAt, StepAt, Operate, Unless, Skip, Need, Reset, Step, Operand as With, Give, End, Ports}
use Rattle.execution.specs.Words.{operands_in, gives_behind, word_at, program, reset_place, step_place, need_at}

-- an operand in a segment of so many cells
abbrev pub operand_fine : ℕ → Operand → Bool
operand_fine size (Take x) = nat_lt x size
operand_fine size (Constant l) = true

abbrev pub word_fine : ℕ → CodeWord → Bool
word_fine size (Head nodes set) = false
word_fine size (ResetAt p) = false
word_fine size (StepAt p) = false
word_fine size (Operate op x) = false
word_fine size (Unless sense x d) = false
word_fine size (Skip d) = false
word_fine size (Need n) = false
word_fine size (Reset g off) = false
word_fine size (Step g off) = false
word_fine size (With a) = operand_fine size a
word_fine size (Give x) = false
word_fine size End = false
word_fine size (Ports i o) = false

abbrev pub operands_fine : ℕ → List Operand → Bool
operands_fine size [] = true
operands_fine size (a ∷ l) = operand_fine size a && operands_fine size l

abbrev pub gives_fine : ℕ → List ℕ → Bool
gives_fine size [] = true
gives_fine size (x ∷ l) = nat_lt x size && gives_fine size l

-- a called node is an earlier one, and its segment lies in that of the caller, node k
abbrev pub call_fine : List ℕ → ℕ → ℕ → ℕ → Bool
call_fine ws k g off = nat_lt g k && nat_le (off + need_at ws g) (need_at ws k)

-- an instruction of node k with the words behind it, where `next` says of so many words beyond the next one that they are fine
abbrev pub fine_at : List ℕ → ℕ → CodeWord → List CodeWord → (ℕ → Bool) → Bool
fine_at ws k (Head nodes set) rest next = true
fine_at ws k (ResetAt p) rest next = true
fine_at ws k (StepAt p) rest next = true
fine_at ws k (Operate op x) rest next =
    nat_lt x (need_at ws k) && (word_fine (need_at ws k) (word_at rest 0) &&
    cond (nat_lt op 128) (next 1) (word_fine (need_at ws k) (word_at rest 1) && next 2))
fine_at ws k (Unless sense x d) rest next = nat_lt x (need_at ws k) && (next 0 && next d)
fine_at ws k (Skip d) rest next = next d
fine_at ws k (Need n) rest next = true
fine_at ws k (Reset g off) rest next = call_fine ws k g off && next 0
fine_at ws k (Step g off) rest next =
    call_fine ws k g off && (operands_fine (need_at ws k) (operands_in rest) && (gives_fine (need_at ws k) (gives_behind rest) &&
    (nat_le (length (operands_in rest) + length (gives_behind rest)) (need_at ws g) && next (length (operands_in rest) + length (gives_behind rest)))))
fine_at ws k (With a) rest next = true
fine_at ws k (Give x) rest next = true
fine_at ws k End rest next = true
fine_at ws k (Ports i o) rest next = true

-- words of node k, of which the first are passed over: a run of them comes to an end among them
abbrev pub fine : List ℕ → ℕ → ℕ → List CodeWord → Bool
fine ws k skip [] = false
fine ws k (suc s) (w ∷ rest) = fine ws k s rest
fine ws k zero (w ∷ rest) = fine_at ws k w rest (λ s. fine ws k s rest)

-- how many nodes code has, its set's number, and main's inputs and outputs
abbrev pub nodes_in : List ℕ → ℕ
nodes_in ws = field (slice_index ws 0) 8 8

abbrev pub set_in : List ℕ → ℕ
set_in ws = field (slice_index ws 0) 0 8

abbrev pub ports_word : List ℕ → ℕ
ports_word ws = slice_index ws (1 + 3 * nodes_in ws)

abbrev pub inputs_in : List ℕ → ℕ
inputs_in ws = field (ports_word ws) 16 8

abbrev pub outputs_in : List ℕ → ℕ
outputs_in ws = field (ports_word ws) 8 8

-- the type of input i: that of the literal which code has for it
abbrev pub input_type : List ℕ → ℕ → ℕ
input_type ws i = field (slice_index ws (2 + 3 * nodes_in ws + i)) 24 4

-- the last node
abbrev pub main_in : List ℕ → ℕ
main_in ws = nodes_in ws - 1

pub record Sound (ws : List ℕ) : Type 0 where
  pub nodes : 1 ≤ nodes_in ws
  pub front : 2 + 3 * nodes_in ws + inputs_in ws ≤ length ws
  pub ports : inputs_in ws + outputs_in ws ≤ need_at ws (main_in ws)
  pub resets : (k : ℕ) → k < nodes_in ws → fine ws k 0 (drop (reset_place ws k) (program ws)) ≡ true
  pub steps : (k : ℕ) → k < nodes_in ws → fine ws k 0 (drop (step_place ws k) (program ws)) ≡ true
