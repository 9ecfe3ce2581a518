-- The table that words spell, as a function of the words.
use Rattle.std.specs.Prelude.{ℕ, cond, List, [], ◌∷◌, Some, None, Option, nat_lt, slice_index_or}
use Rattle.words.specs.declared.kinds.Literal.{Literal}
use Rattle.words.specs.declared.kinds.Operand.{Operand}
use Rattle.words.specs.declared.kinds.Operand.TheVariants.{Take, Literal as Constant}
use Rattle.words.specs.declared.kinds.Variable.{Variable}
use Rattle.words.specs.declared.kinds.Word.{Word}
use Rattle.words.specs.declared.kinds.Word.TheVariants.{Head, Node as Open, Variable as Declare, Operate, Sample, Merge, Choose, Delay, Call, Operand as With, Give, End}
use Rattle.words.specs.Format.{decoded}
use Rattle.table.specs.Syntax.{Equation, operate, sample, merge, choose, delay, call, Table}

-- what the words say, those aside that say nothing
abbrev pub also : Option Word → List Word → List Word
also None xs = xs
also (Some x) xs = x ∷ xs

abbrev pub said : List ℕ → List Word
said [] = []
said (w ∷ ws) = also (decoded w) (said ws)

-- the operands at the front, and the gives that stand behind them
abbrev pub operands_by : Word → List Operand → List Operand
operands_by (Head set) l = []
operands_by (Open p) l = []
operands_by (Declare v) l = []
operands_by (Operate op x) l = []
operands_by (Sample x) l = []
operands_by (Merge s x) l = []
operands_by (Choose s x) l = []
operands_by (Delay x) l = []
operands_by (Call g r) l = []
operands_by (With a) l = a ∷ l
operands_by (Give x) l = []
operands_by End l = []

abbrev pub operands_in : List Word → List Operand
operands_in [] = []
operands_in (w ∷ ws) = operands_by w (operands_in ws)

abbrev pub gives_by : Word → List ℕ → List ℕ
gives_by (Head set) l = []
gives_by (Open p) l = []
gives_by (Declare v) l = []
gives_by (Operate op x) l = []
gives_by (Sample x) l = []
gives_by (Merge s x) l = []
gives_by (Choose s x) l = []
gives_by (Delay x) l = []
gives_by (Call g r) l = []
gives_by (With a) l = l
gives_by (Give x) l = x ∷ l
gives_by End l = []

abbrev pub gives_in : List Word → List ℕ
gives_in [] = []
gives_in (w ∷ ws) = gives_by w (gives_in ws)

abbrev pub operand_at : List Operand → ℕ → Operand
operand_at l i = slice_index_or l i (Take 0)

abbrev pub literal_by : Operand → Literal
literal_by (Take x) = record { ty = 0; payload = 0 }
literal_by (Constant l) = l

-- the equation whose head this is, where ops and gs stand behind it
abbrev pub equations_by : Word → List Operand → List ℕ → List Equation → List Equation
equations_by (Head set) ops gs es = es
equations_by (Open p) ops gs es = []
equations_by (Declare v) ops gs es = es
equations_by (Operate op x) ops gs es = operate op (operand_at ops 0) (cond (nat_lt op 128) None (Some (operand_at ops 1))) x ∷ es
equations_by (Sample x) ops gs es = sample (operand_at ops 0) x ∷ es
equations_by (Merge s x) ops gs es = merge s (operand_at ops 0) (operand_at ops 1) x ∷ es
equations_by (Choose s x) ops gs es = choose s (operand_at ops 0) (operand_at ops 1) x ∷ es
equations_by (Delay x) ops gs es = delay (literal_by (operand_at ops 0)) (operand_at ops 1) x ∷ es
equations_by (Call g r) ops gs es = call g r ops gs ∷ es
equations_by (With a) ops gs es = es
equations_by (Give x) ops gs es = es
equations_by End ops gs es = []

-- the equations up to the node's end
abbrev pub equations_in : List Word → List Equation
equations_in [] = []
equations_in (w ∷ ws) = equations_by w (operands_in ws) (gives_in ws) (equations_in ws)

abbrev pub variables_by : Word → List Variable → List Variable
variables_by (Head set) l = []
variables_by (Open p) l = []
variables_by (Declare v) l = v ∷ l
variables_by (Operate op x) l = []
variables_by (Sample x) l = []
variables_by (Merge s x) l = []
variables_by (Choose s x) l = []
variables_by (Delay x) l = []
variables_by (Call g r) l = []
variables_by (With a) l = []
variables_by (Give x) l = []
variables_by End l = []

abbrev pub variables_in : List Word → List Variable
variables_in [] = []
variables_in (w ∷ ws) = variables_by w (variables_in ws)

-- a node begins with each NODE
abbrev pub nodes_by : Word → List Word → Table → Table
nodes_by (Head set) ws T = T
nodes_by (Open p) ws T = record { inputs = p.inputs; outputs = p.outputs; variables = variables_in ws; equations = equations_in ws } ∷ T
nodes_by (Declare v) ws T = T
nodes_by (Operate op x) ws T = T
nodes_by (Sample x) ws T = T
nodes_by (Merge s x) ws T = T
nodes_by (Choose s x) ws T = T
nodes_by (Delay x) ws T = T
nodes_by (Call g r) ws T = T
nodes_by (With a) ws T = T
nodes_by (Give x) ws T = T
nodes_by End ws T = T

abbrev pub nodes_in : List Word → Table
nodes_in [] = []
nodes_in (w ∷ ws) = nodes_by w ws (nodes_in ws)

abbrev pub table_of : List ℕ → Table
table_of ws = nodes_in (said ws)
