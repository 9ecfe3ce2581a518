-- Which cells an equation's statements may change, what they do, and what an equation keeps so that they can.
use Rattle.std.proofs.Common.{◌≡◌, ℕ, ◌+◌, ◌<◌, ◌≤◌, true, false, ◌⊎◌, List, length, is_some, Option}
use Rattle.std.specs.List.{slice_get}
use Rattle.words.specs.declared.kinds.Operand.{Operand}
use Rattle.opset.specs.Meaning.{Meaning}
use Rattle.table.specs.Syntax.{Equation, operate, sample, merge, choose, delay, call, Node, Table, node_at}
use Rattle.rules.specs.Definitions.{defined, is_delay, is_in, times}
use Rattle.schedule.specs.Need.{call_need, needs}
use Rattle.streams.specs.Streams.{Env, literal_of}
use Rattle.streams.specs.Machine.{Tree, Machine, next_delay, next_tree}
use Rattle.execution.specs.Cells.{Blocks}
use Rattle.realization.specs.Holds.{HoldsAt}
use Rattle.realization.proofs.Agree.{Agrees}
use Rattle.realization.proofs.Callee.{Callee}

-- a cell of an equation, whose segment begins at off: a variable that it defines, or one of the segment
abbrev pub Near : Table → ℕ → Equation → ℕ → Type 0
Near T off e a = (is_in a (defined e) ≡ true) ⊎ ((off ≤ a) × (a < off + call_need (needs T) e))

abbrev pub Far : Table → ℕ → Equation → ℕ → Type 0
Far T off e a = (is_in a (defined e) ≡ false) × ((a < off) ⊎ (off + call_need (needs T) e ≤ a))

module _ {V : Type 0} (m : Meaning V) (T : Table) (B : Blocks V) (C : ℕ → Machine V) (R : ℕ → Env V → Tree V → Type 0) (Full : ℕ → Tree V → Type 0) where
  pub record FitsCall (g : ℕ) (ops : List Operand) (gs : List ℕ) : Type 0 where
    pub callee : Callee T B C R Full g
    pub takes : length ops ≡ (node_at T g).inputs
    pub gives : length gs ≡ (node_at T g).outputs
    pub once : (y : ℕ) → is_in y gs ≡ true → times y gs ≤ 1

  -- a delay's literal has a value, and a call fits the node that it calls
  abbrev pub Fits : Equation → Type 0
  Fits (operate op a b x) = Unit {0}
  Fits (sample a x) = Unit {0}
  Fits (merge s a b x) = Unit {0}
  Fits (choose s a b x) = Unit {0}
  Fits (delay l a x) = is_some (literal_of m l) ≡ true
  Fits (call g r ops gs) = FitsCall g ops gs

  -- what the statements of an equation do at an instant E: from what is kept, a delay's value d or a memory t, to what is kept next
  pub record Does (N : Node) (E : Env V) (off : ℕ) (d : Option V) (t : Tree V) (e : Equation) (cells after : List V) : Type 0 where
    pub long : length after ≡ length cells
    pub far : (a : ℕ) → Far T off e a → slice_get after a ≡ slice_get cells a
    pub next : HoldsAt R off (slice_get after) e (next_delay m T C e E d) (next_tree m T C N true e E t)
    pub agrees : is_delay e ≡ false → (y : ℕ) → is_in y (defined e) ≡ true → Agrees E (slice_get after) y
