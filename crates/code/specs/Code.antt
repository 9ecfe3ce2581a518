-- The code of a table: its statements as words, in their places.
use Rattle.std.specs.Prelude.{ℕ, zero, suc, ◌+◌, ◌-◌, ◌*◌, true, List, [], ◌∷◌, ◌++◌, map, length, Some, None, Option, slice_index}
use Rattle.words.specs.declared.kinds.Operand.{Operand}
use Rattle.words.specs.declared.kinds.Operand.TheVariants.{Literal as Constant}
use Rattle.instructions.specs.declared.code_word.CodeWord.{CodeWord}
use Rattle.instructions.specs.declared.code_word.CodeWord.TheVariants.{Head, ResetAt, StepAt, Operate, Unless, Skip, Need, Reset, Step, Operand as With, Give, End, Ports}
use Rattle.instructions.specs.Format.{code_word}
use Rattle.table.specs.Syntax.{Node, Table, node_at}
use Rattle.rules.specs.Types.{type_of}
use Rattle.schedule.specs.Need.{needs}
use Rattle.admission.specs.Verdict.{node_order}
use Rattle.code.specs.Statements.{Test, Action, assign, select, reset, step, Statement, step_statements, reset_statements}

abbrev pub second : Option Operand → List CodeWord
second None = []
second (Some b) = With b ∷ []

abbrev pub action_words : Action → List CodeWord
action_words (assign op a b x) = Operate op x ∷ With a ∷ second b
action_words (select s a b x) = Unless true s 3 ∷ Operate 0 x ∷ With a ∷ Skip 2 ∷ Operate 0 x ∷ With b ∷ []
action_words (reset g off) = Reset g off ∷ []
action_words (step g off ops gs) = Step g off ∷ (map With ops ++ map Give gs)

-- tests before n words: each reaches their end
abbrev pub tests_words : List Test → ℕ → List CodeWord
tests_words [] n = []
tests_words (t ∷ ts) n = Unless t.sense t.variable (length ts + n) ∷ tests_words ts n

abbrev pub statement_words : Statement → List CodeWord
statement_words s = tests_words s.tests (length (action_words s.action)) ++ action_words s.action

abbrev pub statements_words : List Statement → List CodeWord
statements_words [] = []
statements_words (s ∷ ss) = statement_words s ++ statements_words ss

-- a block is closed by END
abbrev pub block_words : List Statement → List CodeWord
block_words ss = statements_words ss ++ End ∷ []

-- the order of a node's equations; a node that keeps the rules has one
abbrev pub ordered : Option (List ℕ) → List ℕ
ordered None = []
ordered (Some os) = os

abbrev pub reset_block : Table → ℕ → List CodeWord
reset_block T k = block_words (reset_statements (needs T) (node_at T k))

abbrev pub step_block : Table → ℕ → List CodeWord
step_block T k = block_words (step_statements (needs T) (node_at T k) (ordered (node_order T k)))

-- of the first n nodes
abbrev pub blocks : Table → ℕ → List CodeWord
blocks T zero = []
blocks T (suc k) = blocks T k ++ (reset_block T k ++ step_block T k)

-- the last node
abbrev pub main_of : Table → Node
main_of T = node_at T (length T - 1)

-- in front of the blocks stand HEAD, three words for each node, PORTS, and a LITERAL for each of main's inputs
abbrev pub front_length : Table → ℕ
front_length T = 2 + 3 * length T + (main_of T).inputs

abbrev pub reset_at : Table → ℕ → ℕ
reset_at T k = front_length T + length (blocks T k)

abbrev pub step_at : Table → ℕ → ℕ
step_at T k = reset_at T k + length (reset_block T k)

-- where the blocks of the first n nodes begin, and what the nodes need
abbrev pub index : Table → ℕ → List CodeWord
index T zero = []
index T (suc k) = index T k ++ ResetAt (reset_at T k) ∷ StepAt (step_at T k) ∷ Need (slice_index (needs T) k) ∷ []

-- payload 0 in the type of each of a node's first n variables
abbrev pub first_values : Node → ℕ → List CodeWord
first_values N zero = []
first_values N (suc x) = first_values N x ++ With (Constant (record { ty = type_of N x; payload = 0 })) ∷ []

abbrev pub front : ℕ → Table → List CodeWord
front own T =
    Head (length T) own ∷ (index T (length T) ++ Ports (main_of T).inputs (main_of T).outputs ∷ first_values (main_of T) (main_of T).inputs)

-- for the operator set of a number
abbrev pub code_of : ℕ → Table → List CodeWord
code_of own T = front own T ++ blocks T (length T)

abbrev pub code_words : ℕ → Table → List ℕ
code_words own T = map code_word (code_of own T)
