-- What statements of a node keep by the limits of its table: v is how many variables the node has, and `need` what each node needs.
use Rattle.std.proofs.Common.{ℕ, ◌+◌, ◌<◌, ◌≤◌, List, length}
use Rattle.std.specs.List.{AllByRecursion}
use Rattle.table.specs.Spelling.{OperandKeeps, SecondKeeps}
use Rattle.code.specs.Statements.{Test, Action, assign, select, reset, step, Statement}

abbrev pub TestKeeps : ℕ → Test → Type 0
TestKeeps v t = t.variable < v

-- a call of node k is of an earlier node, whose segment lies in its own
abbrev pub CallKeeps : (ℕ → ℕ) → ℕ → ℕ → ℕ → Type 0
CallKeeps need k g off = (g < k) × (off + need g ≤ need k)

abbrev pub ActionKeeps : (ℕ → ℕ) → ℕ → ℕ → Action → Type 0
ActionKeeps need k v (assign op a b x) = OperandKeeps v a × SecondKeeps v op b × (x < v)
ActionKeeps need k v (select s a b x) = (s < v) × OperandKeeps v a × OperandKeeps v b × (x < v)
ActionKeeps need k v (reset g off) = CallKeeps need k g off
ActionKeeps need k v (step g off ops gs) =
    CallKeeps need k g off × AllByRecursion (OperandKeeps v) ops × AllByRecursion (λ x. x < v) gs × (length ops + length gs ≤ need g)

pub record StatementKeeps (need : ℕ → ℕ) (k v : ℕ) (s : Statement) : Type 0 where
  pub tests : AllByRecursion (TestKeeps v) s.tests
  pub action : ActionKeeps need k v s.action

-- the statements of a block, whose node has at most 64 variables, which its segment holds
pub record BlockKeeps (need : ℕ → ℕ) (k v : ℕ) (ss : List Statement) : Type 0 where
  pub few : v ≤ 64
  pub room : v ≤ need k
  pub node : k < 32
  pub cells : need k ≤ 4096
  pub each : AllByRecursion (StatementKeeps need k v) ss
