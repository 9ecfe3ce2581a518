-- Tables of set 1, whose type 0 are booleans and type 1 numbers.
use Rattle.std.specs.Prelude.{true, [], ◌∷◌, Some, None}
use Rattle.words.specs.declared.kinds.Clock.{Clock}
use Rattle.words.specs.declared.kinds.Clock.TheVariants.{Base, On}
use Rattle.words.specs.declared.kinds.Literal.{Literal}
use Rattle.words.specs.declared.kinds.Operand.{Operand}
use Rattle.words.specs.declared.kinds.Operand.TheVariants.{Take, Literal as Constant}
use Rattle.words.specs.declared.kinds.Variable.{Variable}
use Rattle.table.specs.Syntax.{operate, sample, merge, delay, call, Node}

abbrev pub flag : Clock → Variable
flag c = record { ty = 0; clock = c }

abbrev pub number : Clock → Variable
number c = record { ty = 1; clock = c }

abbrev pub yes : Operand
yes = Constant (record { ty = 0; payload = 1 })

abbrev pub zero : Literal
zero = record { ty = 1; payload = 0 }

abbrev pub one : Literal
one = record { ty = 1; payload = 1 }

abbrev pub minus_one : Literal
minus_one = record { ty = 1; payload = 0xffffff }

-- Output 1 counts the instants from 0 up: it is one more than local 2, which is what output 1 was, first -1. The input is not used.
abbrev pub counter : Node
counter = record {
  inputs = 1;
  outputs = 1;
  variables = flag Base ∷ number Base ∷ number Base ∷ [];
  equations = operate 128 (Take 2) (Some (Constant one)) 1 ∷ delay minus_one (Take 1) 2 ∷ [];
}

-- the counter, restarted by input 0
abbrev pub resettable : Node
resettable = record {
  inputs = 1;
  outputs = 1;
  variables = flag Base ∷ number Base ∷ [];
  equations = call 0 (Some 0) (yes ∷ []) (1 ∷ []) ∷ [];
}

-- Inputs c and r. Local 3 is the counter under clock c, restarted by r, and output 2 is that or -1.
abbrev pub gated : Node
gated = record {
  inputs = 2;
  outputs = 1;
  variables = flag Base ∷ flag Base ∷ number Base ∷ number (On 0 true) ∷ [];
  equations = merge 0 (Take 3) (Constant minus_one) 2 ∷ call 0 (Some 1) (yes ∷ []) (3 ∷ []) ∷ [];
}

-- the same, restarted by r where c is true: local 4
abbrev pub gated_both : Node
gated_both = record {
  inputs = 2;
  outputs = 1;
  variables = flag Base ∷ flag Base ∷ number Base ∷ number (On 0 true) ∷ flag (On 0 true) ∷ [];
  equations = merge 0 (Take 3) (Constant minus_one) 2 ∷ call 0 (Some 4) (yes ∷ []) (3 ∷ []) ∷ sample (Take 1) 4 ∷ [];
}

-- Inputs c and x. Local 3 is x where c is true, local 4 what that was, first 0, and output 2 is local 4 or -1.
abbrev pub slow : Node
slow = record {
  inputs = 2;
  outputs = 1;
  variables = flag Base ∷ number Base ∷ number Base ∷ number (On 0 true) ∷ number (On 0 true) ∷ [];
  equations = delay zero (Take 3) 4 ∷ merge 0 (Take 4) (Constant minus_one) 2 ∷ sample (Take 1) 3 ∷ [];
}

-- Inputs c, p and q. Local 4 is the resettable counter under clock c, whose own input is p and which q restarts whole, and output 3 is that or -1.
abbrev pub nested : Node
nested = record {
  inputs = 3;
  outputs = 1;
  variables = flag Base ∷ flag Base ∷ flag Base ∷ number Base ∷ number (On 0 true) ∷ flag (On 0 true) ∷ [];
  equations = merge 0 (Take 4) (Constant minus_one) 3 ∷ sample (Take 1) 5 ∷ call 1 (Some 2) (Take 5 ∷ []) (4 ∷ []) ∷ [];
}

-- The counter at every second instant, from the first on, else -1: local 2 is what local 3 was, first true, and local 3 its negation.
abbrev pub halved : Node
halved = record {
  inputs = 1;
  outputs = 1;
  variables = flag Base ∷ number Base ∷ flag Base ∷ flag Base ∷ number (On 2 true) ∷ [];
  equations =
      merge 2 (Take 4) (Constant minus_one) 1 ∷ delay (record { ty = 0; payload = 1 }) (Take 3) 2 ∷ operate 1 (Take 2) None 3 ∷ call 0 None (yes ∷ []) (4 ∷ []) ∷ [];
}
