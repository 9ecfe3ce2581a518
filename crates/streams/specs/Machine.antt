-- A node as a machine: from a memory and a row to an instant and the next memory. Assumes nothing.
use Rattle.std.specs.Prelude.{◌≡◌, ℕ, zero, suc, ◌+◌, ◌*◌, ◌<◌, Bool, true, cond, List, [], ◌∷◌, ◌++◌, is_some, Some, None, Option, ◌==◌, nat_lt}
use Rattle.opset.specs.Meaning.{Meaning}
use Rattle.table.specs.Syntax.{Equation, operate, sample, merge, choose, delay, call, Node, Table, node_at}
use Rattle.rules.specs.Clocks.{clock_of, call_clock}
use Rattle.rules.specs.Definitions.{defined, is_in}
use Rattle.schedule.specs.Reads.{equation_at}
use Rattle.admission.specs.Keeps.{equation_count}
use Rattle.streams.specs.Streams.{Env, Streams, Rows, only_if, entry, holds, literal_of, value_of, second_of, applied, selected, restarted, handed}
use Rattle.streams.specs.History.{Event, row, idle, restart, History, instants, row_at, main}

-- what a node keeps from instant to instant, by equation: a delay's value, and an instance's memory
pub data Tree (V : Type 0) : Type 0 where
  leaf : Tree V
  tree : (ℕ → Option V) → (ℕ → Tree V) → Tree V

-- what is kept for an equation
abbrev pub delays : {V : Type 0} → Tree V → ℕ → Option V
delays leaf j = None
delays (tree ds ts) j = ds j

abbrev pub instances : {V : Type 0} → Tree V → ℕ → Tree V
instances leaf j = leaf
instances (tree ds ts) j = ts j

-- a memory to start with, what an instant shows, and the next memory
pub record Machine (V : Type 0) : Type 0 where
  pub start : Tree V
  pub shows : Tree V → Option (List V) → Env V
  pub next : Tree V → Option (List V) → Tree V

-- the memory with which an instant begins, and what the instants show
abbrev pub memory : {V : Type 0} → Machine V → Rows V → ℕ → Tree V
memory c rows zero = c.start
memory c rows (suc i) = c.next (memory c rows i) (rows i)

abbrev pub run : {V : Type 0} → Machine V → Rows V → Streams V
run c rows i = c.shows (memory c rows i) (rows i)

-- the memory with which instant i of a history begins, from memory t, and what the instant shows
abbrev pub tree_at : {V : Type 0} → Machine V → Tree V → History V → ℕ → Tree V
tree_at c t [] i = t
tree_at c t (row vs ∷ h) zero = t
tree_at c t (row vs ∷ h) (suc i) = tree_at c (c.next t (Some vs)) h i
tree_at c t (idle ∷ h) zero = t
tree_at c t (idle ∷ h) (suc i) = tree_at c (c.next t None) h i
tree_at c t (restart ∷ h) i = tree_at c c.start h i

abbrev pub history_shows : {V : Type 0} → Machine V → History V → Streams V
history_shows c h i = c.shows (tree_at c c.start h i) (row_at h i)

-- the memory after a history, with which the next instant begins
abbrev pub memory_after : {V : Type 0} → Machine V → History V → Tree V
memory_after c h = tree_at c c.start h (instants h)

-- what one more event does: an instant that has ended stays as it was
pub record Grows {V : Type 0} (c : Machine V) : Type 0 where
  pub by_row : (h : History V) (vs : List V) → memory_after c (h ++ row vs ∷ []) ≡ c.next (memory_after c h) (Some vs)
  pub by_idle : (h : History V) → memory_after c (h ++ idle ∷ []) ≡ c.next (memory_after c h) None
  pub by_restart : (h : History V) → memory_after c (h ++ restart ∷ []) ≡ c.start
  pub shows_row : (h : History V) (vs : List V) (y : ℕ) → history_shows c (h ++ row vs ∷ []) (instants h) y ≡ c.shows (memory_after c h) (Some vs) y
  pub shows_idle : (h : History V) (y : ℕ) → history_shows c (h ++ idle ∷ []) (instants h) y ≡ c.shows (memory_after c h) None y
  pub stays : (h : History V) (e : Event V) (i y : ℕ) → i < instants h → history_shows c (h ++ e ∷ []) i y ≡ history_shows c h i y

-- the first place of a variable in a list
abbrev pub place_of : ℕ → List ℕ → ℕ
place_of y [] = 0
place_of y (x ∷ l) = cond (y == x) 0 (suc (place_of y l))

-- the first equation that defines a variable, by its place
abbrev pub definer_in : ℕ → List Equation → ℕ
definer_in y [] = 0
definer_in y (e ∷ es) = cond (is_in y (defined e)) 0 (suc (definer_in y es))

-- in a node
abbrev pub definer : Node → ℕ → ℕ
definer N y = definer_in y N.equations

-- enough rounds for a node that keeps the rules
abbrev pub rounds : Node → ℕ
rounds N = 9 * (equation_count N + 1)

module _ {V : Type 0} (m : Meaning V) (T : Table) (C : ℕ → Machine V) where
  -- what an equation gives variable y, from what is kept for it
  abbrev pub given : Node → Bool → Option V → Tree V → Equation → Env V → Env V
  given N busy d t (operate op a b x) E y = only_if (holds m busy E (clock_of N x)) (applied m op (value_of m E a) (second_of m E b))
  given N busy d t (sample a x) E y = only_if (holds m busy E (clock_of N x)) (value_of m E a)
  given N busy d t (merge s a b x) E y = only_if (holds m busy E (clock_of N x)) (selected m (E s) (value_of m E a) (value_of m E b))
  given N busy d t (choose s a b x) E y = only_if (holds m busy E (clock_of N x)) (selected m (E s) (value_of m E a) (value_of m E b))
  given N busy d t (delay l a x) E y = only_if (holds m busy E (clock_of N x)) d
  given N busy d t (call g r ops gs) E y =
      (C g).shows (cond (restarted m r E) (C g).start t) (handed m busy E (call_clock N gs) ops) ((node_at T g).inputs + place_of y gs)

  -- equation j of a node, from its memory
  abbrev pub given_at : Node → Tree V → Option (List V) → ℕ → Env V → Env V
  given_at N M vs j = given N (is_some vs) (delays M j) (instances M j) (equation_at N j)

  -- each variable as the row or its equation says, from a guess at the others
  abbrev pub better : Node → Tree V → Option (List V) → Env V → Env V
  better N M vs E y = cond (nat_lt y N.inputs) (entry vs y) (given_at N M vs (definer N y) E y)

  -- from nothing known, better and better
  abbrev pub guess : Node → Tree V → Option (List V) → ℕ → Env V
  guess N M vs zero = λ y. None
  guess N M vs (suc k) = better N M vs (guess N M vs k)

  -- an idle row shows nothing
  abbrev pub shown : Node → Tree V → Option (List V) → Env V
  shown N M None = λ y. None
  shown N M (Some vs) = guess N M (Some vs) (rounds N)

  -- a delay first holds its literal, and an instance its start
  abbrev pub first_delay : Equation → Option V
  first_delay (operate op a b x) = None
  first_delay (sample a x) = None
  first_delay (merge s a b x) = None
  first_delay (choose s a b x) = None
  first_delay (delay l a x) = literal_of m l
  first_delay (call g r ops gs) = None

  abbrev pub first_tree : Equation → Tree V
  first_tree (operate op a b x) = leaf
  first_tree (sample a x) = leaf
  first_tree (merge s a b x) = leaf
  first_tree (choose s a b x) = leaf
  first_tree (delay l a x) = leaf
  first_tree (call g r ops gs) = (C g).start

  -- a delay that is present takes its operand's value
  abbrev pub next_delay : Equation → Env V → Option V → Option V
  next_delay (operate op a b x) E d = d
  next_delay (sample a x) E d = d
  next_delay (merge s a b x) E d = d
  next_delay (choose s a b x) E d = d
  next_delay (delay l a x) E d = cond (is_some (E x)) (value_of m E a) d
  next_delay (call g r ops gs) E d = d

  -- an instance is restarted, or not, and then steps
  abbrev pub next_tree : Node → Bool → Equation → Env V → Tree V → Tree V
  next_tree N busy (operate op a b x) E t = t
  next_tree N busy (sample a x) E t = t
  next_tree N busy (merge s a b x) E t = t
  next_tree N busy (choose s a b x) E t = t
  next_tree N busy (delay l a x) E t = t
  next_tree N busy (call g r ops gs) E t =
      (C g).next (cond (restarted m r E) (C g).start t) (handed m busy E (call_clock N gs) ops)

  -- an idle row leaves the memory
  abbrev pub after : Node → Tree V → Option (List V) → Tree V
  after N M None = M
  after N M (Some vs) =
      tree (λ j. next_delay (equation_at N j) (shown N M (Some vs)) (delays M j))
      (λ j. next_tree N true (equation_at N j) (shown N M (Some vs)) (instances M j))

  -- node N, given the machines of the nodes that it calls
  abbrev pub machine_of : Node → Machine V
  machine_of N = record {
    start = tree (λ j. first_delay (equation_at N j)) (λ j. first_tree (equation_at N j));
    shows = shown N;
    next = after N;
  }

-- of no node
abbrev pub stuck : {V : Type 0} → Machine V
stuck = record { start = leaf; shows = λ M vs y. None; next = λ M vs. M }

-- the machines of the nodes below f
abbrev pub machine_below : {V : Type 0} → Meaning V → Table → ℕ → ℕ → Machine V
machine_below m T zero g = stuck
machine_below m T (suc f) g = cond (g == f) (machine_of m T (machine_below m T f) (node_at T f)) (machine_below m T f g)

-- node k of a table, and main
abbrev pub machine : {V : Type 0} → Meaning V → Table → ℕ → Machine V
machine m T k = machine_of m T (machine_below m T k) (node_at T k)

abbrev pub main_machine : {V : Type 0} → Meaning V → Table → Machine V
main_machine m T = machine m T (main T)
