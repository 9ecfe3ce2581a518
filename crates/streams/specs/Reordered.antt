-- Tables that differ only in the order of the equations in their nodes. Assumes nothing.
use Rattle.std.specs.Prelude.{◌≡◌, ℕ, ◌<◌, List, [], ◌∷◌, length}
use Rattle.table.specs.Syntax.{Equation, Node, Table, node_at}

-- the same equations in another order: any two neighbours may change places, any number of times
pub data Permuted : List Equation → List Equation → Type 0 where
  nothing : Permuted [] []
  behind : {e : Equation} {l k : List Equation} → Permuted l k → Permuted (e ∷ l) (e ∷ k)
  swap : {e f : Equation} {l : List Equation} → Permuted (e ∷ f ∷ l) (f ∷ e ∷ l)
  and_then : {j k l : List Equation} → Permuted j k → Permuted k l → Permuted j l

pub record ReorderedNode (N N' : Node) : Type 0 where
  pub inputs : N.inputs ≡ N'.inputs
  pub outputs : N.outputs ≡ N'.outputs
  pub variables : N.variables ≡ N'.variables
  pub equations : Permuted N.equations N'.equations

pub record Reordered (T T' : Table) : Type 0 where
  pub count : length T ≡ length T'
  pub nodes : (k : ℕ) → k < length T → ReorderedNode (node_at T k) (node_at T' k)
