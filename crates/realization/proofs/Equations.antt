-- What the statements of an equation do.
use Rattle.std.proofs.Common.{◌≡◌, ℕ, ◌+◌, ◌<◌, ◌≤◌, Bool, true, false, cond, eqb, List, [], ◌∷◌, ◌++◌, length, get_or, is_some, Some, None, Option, sym, refl, ap, ◌∙◌, subst, ap₂, inl, arith}
use mathlib.Core.Bool.{beq}
use Rattle.std.specs.List.{slice_get}
use Rattle.std.proofs.lemmas.Bool.{both_ways, or_right}
use Rattle.words.specs.declared.kinds.Operand.{Operand}
use Rattle.opset.specs.Meaning.{Meaning, Laws}
use Rattle.table.specs.Syntax.{Equation, operate, sample, merge, choose, delay, call, Node, Table, variable_count}
use Rattle.rules.specs.Clocks.{clock_of, call_clock, reaches}
use Rattle.rules.specs.Definitions.{defined, is_in}
use Rattle.schedule.specs.Need.{call_need, needs}
use Rattle.schedule.specs.Reads.{operand_reads, second_reads, operands_read, restart_reads, chain, reads}
use Rattle.streams.specs.Streams.{Env, only_if, sensed, holds, value_of, applied, selected, restarted}
use Rattle.streams.specs.Machine.{Tree, Machine, given, next_delay, next_tree}
use Rattle.streams.specs.Instant.{OperandsPresent, FilledAt}
use Rattle.streams.proofs.Places.{in_left, in_right, in_head, in_one}
use Rattle.code.specs.Statements.{Action, assign, select, step, Statement, tests, under, restart_statements, statements}
use Rattle.execution.specs.Cells.{Blocks, stored, inside, stepped}
use Rattle.execution.specs.Statements.{performed, executed, all_executed}
use Rattle.realization.specs.Holds.{HoldsAt}
use Rattle.realization.proofs.Cells.{length_stored, stored_other, stored_here}
use Rattle.realization.proofs.Agree.{Agrees, AgreesOn, Readable, some_of, copied, value_same, second_same}
use Rattle.realization.proofs.Tested.{test_behind, passes_clock}
use Rattle.realization.proofs.Called.{was_restarted, was_called}
use Rattle.realization.proofs.Footprint.{Fits, Does}

pub executed_append : {V : Type 0} (m : Meaning V) (B : Blocks V) (p q : List Statement) (cells : List V)
    → all_executed m B (p ++ q) cells ≡ all_executed m B q (all_executed m B p cells)
executed_append m B [] q cells = refl
executed_append m B (s ∷ p) q cells = executed_append m B p q (executed m B s cells)

-- a store under a test
module _ {V : Type 0} (cells : List V) (x : ℕ) (o : Option V) where
  under_long : (b : Bool) → length (cond b (stored cells x o) cells) ≡ length cells
  under_long true = length_stored cells x o
  under_long false = refl

  under_other : (b : Bool) (a : ℕ) → (a ≡ x → ⊥) → slice_get (cond b (stored cells x o) cells) a ≡ slice_get cells a
  under_other true a ne = stored_other cells x o a ne
  under_other false a ne = refl

  under_here : (b : Bool) (v : V) → x < length cells → b ≡ true → o ≡ Some v → slice_get (cond b (stored cells x o) cells) x ≡ Some v
  under_here true v l h e = stored_here cells x o v l e
  under_here false v l h e = absurd (both_ways false refl h)

one_store : {V : Type 0} (cells : List V) (x : ℕ) (b : Bool) (p q : Option V) → cond b (stored cells x p) (stored cells x q) ≡ stored cells x (cond b p q)
one_store cells x true p q = refl
one_store cells x false p q = refl

only : {V : Type 0} (b : Bool) (o p : Option V) → b ≡ true → p ≡ only_if b o → o ≡ p
only b o p h e = sym (e ∙ ap (λ c. only_if c o) h)

module _ {V : Type 0} (m : Meaning V) (laws : Laws m) (T : Table) (B : Blocks V) (C : ℕ → Machine V) (R : ℕ → Env V → Tree V → Type 0)
    (Full : ℕ → Tree V → Type 0) (N : Node) (reach : (x : ℕ) → reaches 8 N x ≡ true) (E : Env V)
    (present : (x : ℕ) → x < variable_count N → is_some (E x) ≡ holds m true E (clock_of N x))
    (off : ℕ) (d : Option V) (t : Tree V) (cells : List V) where
  abbrev Reads : List ℕ → Type 0
  Reads l = (y : ℕ) → is_in y l ≡ true → Readable N E (slice_get cells) y

  reads_left : (l k : List ℕ) → Reads (l ++ k) → Reads l
  reads_left l k h y i = h y (in_left y l k i)

  reads_right : (l k : List ℕ) → Reads (l ++ k) → Reads k
  reads_right l k h y i = h y (in_right y l k i)

  agreed : (l : List ℕ) → Reads l → AgreesOn E (slice_get cells) l
  agreed l h y i = (h y i).1

  -- a selected operand, copied
  abbrev picked : ℕ → Operand → Operand → Option V
  picked s a b =
      cond (sensed m (slice_get cells s) true) (applied m 0 (value_of m (slice_get cells) a) (Some None)) (applied m 0 (value_of m (slice_get cells) b) (Some None))

  picked_same : (s : ℕ) (a b : Operand) → Agrees E (slice_get cells) s → AgreesOn E (slice_get cells) (operand_reads a) → AgreesOn E (slice_get cells) (operand_reads b)
      → is_some (E s) ≡ true → (sensed m (E s) true ≡ true → is_some (value_of m E a) ≡ true) → (sensed m (E s) false ≡ true → is_some (value_of m E b) ≡ true)
      → picked s a b ≡ selected m (E s) (value_of m E a) (value_of m E b)
  picked_same s a b agree agree-a agree-b = go (E s) (slice_get cells s) agree
    where
      pick : (u : Bool) → (beq u true ≡ true → is_some (value_of m E a) ≡ true) → (beq u false ≡ true → is_some (value_of m E b) ≡ true)
          → cond (beq u true) (applied m 0 (value_of m (slice_get cells) a) (Some None)) (applied m 0 (value_of m (slice_get cells) b) (Some None))
          ≡ cond u (value_of m E a) (value_of m E b)
      pick true h k = copied m laws (value_of m (slice_get cells) a) ∙ value_same m E (slice_get cells) a agree-a (h refl)
      pick false h k = copied m laws (value_of m (slice_get cells) b) ∙ value_same m E (slice_get cells) b agree-b (k refl)

      go : (o w : Option V) → ((v : V) → o ≡ Some v → w ≡ Some v)
          → is_some o ≡ true → (sensed m o true ≡ true → is_some (value_of m E a) ≡ true) → (sensed m o false ≡ true → is_some (value_of m E b) ≡ true)
          → cond (sensed m w true) (applied m 0 (value_of m (slice_get cells) a) (Some None)) (applied m 0 (value_of m (slice_get cells) b) (Some None))
          ≡ selected m o (value_of m E a) (value_of m E b)
      go None w h here some-a some-b = absurd (both_ways false refl here)
      go (Some u) w h here some-a some-b = rw (h u refl) (pick (m.truth u) some-a some-b)

  module _ (low : variable_count N ≤ off) (fit : off ≤ length cells) where
    apart : (e : Equation) (x a : ℕ) → defined e ≡ x ∷ [] → is_in a (defined e) ≡ false → a ≡ x → ⊥
    apart e x a is f q = both_ways (is_in a (defined e)) f (ap (is_in a) is ∙ ap (λ z. is_in z (x ∷ [])) q ∙ in_head x [])

    -- an equation of one variable that keeps nothing, under its clock
    simple : (e : Equation) (x : ℕ) (o : Option V) → x < variable_count N → defined e ≡ x ∷ []
        → ((w : Env V) → HoldsAt R off w e (next_delay m T C e E d) (next_tree m T C N true e E t))
        → (holds m true E (clock_of N x) ≡ true → o ≡ E x)
        → Does m T B C R Full N E off d t e cells (cond (holds m true E (clock_of N x)) (stored cells x o) cells)
    simple e x o l is next h = record {
      long = under_long cells x o (holds m true E (clock_of N x));
      far = λ a f. under_other cells x o (holds m true E (clock_of N x)) a (apart e x a is f.0);
      next = next (slice_get (cond (holds m true E (clock_of N x)) (stored cells x o) cells));
      agrees = λ _ y i v q.
          let yx : y ≡ x = in_one y x (ap (is_in y) (sym is) ∙ i) in
          let p : E x ≡ Some v = ap E (sym yx) ∙ q in
          let b : holds m true E (clock_of N x) ≡ true = sym (present x l) ∙ ap is_some p in
          ap (slice_get (cond (holds m true E (clock_of N x)) (stored cells x o) cells)) yx
          ∙ under_here cells x o (holds m true E (clock_of N x)) v (omega arith) b (h b ∙ p);
    }

    -- the statement of such an equation
    ran : (e : Equation) (x : ℕ) (act : Action) (o : Option V) → Reads (chain N x) → performed m B act cells ≡ stored cells x o
        → Does m T B C R Full N E off d t e cells (cond (holds m true E (clock_of N x)) (stored cells x o) cells)
        → Does m T B C R Full N E off d t e cells (all_executed m B (under N (clock_of N x) act ∷ []) cells)
    ran e x act o h is done =
        subst (λ after. Does m T B C R Full N E off d t e cells after)
        (sym (ap₂ (λ b after. cond b after cells) (passes_clock m B N E present cells x (reach x) h) is)) done

    restarts : (r : Option ℕ) (g : ℕ) → Reads (restart_reads N r)
        → all_executed m B (restart_statements N g off r) cells ≡ cond (restarted m r E) (inside off (B.resets g) cells) cells
    restarts None g h = refl
    restarts (Some r) g h =
        ap (λ b. cond b (inside off (B.resets g) cells) cells)
        (test_behind m B N E present cells (tests N (clock_of N r)) r true (h r (in_head r (chain N r)))
        (passes_clock m B N E present cells r (reach r) (λ y i. h y (or_right (eqb y r) (is_in y (chain N r)) i))))

    -- a delay takes its operand's value
    delay_next : (a : Operand) (x : ℕ) (b : Bool) → x < length cells → AgreesOn E (slice_get cells) (operand_reads a) → (b ≡ true → is_some (value_of m E a) ≡ true)
        → slice_get cells x ≡ d → slice_get (cond b (stored cells x (applied m 0 (value_of m (slice_get cells) a) (Some None))) cells) x ≡ cond b (value_of m E a) d
    delay_next a x true l agree some held =
        let p = some_of (value_of m E a) (some refl) in
        stored_here cells x (applied m 0 (value_of m (slice_get cells) a) (Some None)) p.0 l
        (copied m laws (value_of m (slice_get cells) a) ∙ value_same m E (slice_get cells) a agree (some refl) ∙ p.1)
        ∙ sym p.1
    delay_next a x false l agree some held = held

    -- MERGE and CHOOSE
    select_done : (e : Equation) (s : ℕ) (a b : Operand) (x : ℕ) → defined e ≡ x ∷ [] → x < variable_count N
        → ((w : Env V) → HoldsAt R off w e (next_delay m T C e E d) (next_tree m T C N true e E t))
        → Reads (s ∷ (operand_reads a ++ (operand_reads b ++ chain N x)))
        → OperandsPresent m N true E (merge s a b x) → E x ≡ only_if (holds m true E (clock_of N x)) (selected m (E s) (value_of m E a) (value_of m E b))
        → Does m T B C R Full N E off d t e cells (all_executed m B (under N (clock_of N x) (select s a b x) ∷ []) cells)
    select_done e s a b x is l next h some eqn =
        let rest : Reads (operand_reads a ++ (operand_reads b ++ chain N x)) = reads_right (s ∷ []) _ h in
        let behind : Reads (operand_reads b ++ chain N x) = reads_right (operand_reads a) _ rest in
        ran e x (select s a b x) (picked s a b) (reads_right (operand_reads b) _ behind)
        (one_store cells x (sensed m (slice_get cells s) true) (applied m 0 (value_of m (slice_get cells) a) (Some None)) (applied m 0 (value_of m (slice_get cells) b) (Some None)))
        (simple e x (picked s a b) l is next (λ q.
        let o = some q in
        picked_same s a b (h s (in_head s _)).1 (agreed _ (reads_left (operand_reads a) _ rest)) (agreed _ (reads_left (operand_reads b) _ behind)) o.0 o.1 o.2
        ∙ only (holds m true E (clock_of N x)) _ (E x) q eqn))

    abbrev Done : Equation → Type 0
    Done e = Does m T B C R Full N E off d t e cells (all_executed m B (statements N off e) cells)

    call_done : (g : ℕ) (r : Option ℕ) (ops : List Operand) (gs : List ℕ) → off + call_need (needs T) (call g r ops gs) ≤ length cells
        → ((y : ℕ) → is_in y gs ≡ true → y < variable_count N) → Fits m T B C R Full (call g r ops gs) → Reads (reads N (call g r ops gs))
        → OperandsPresent m N true E (call g r ops gs) → ((y : ℕ) → is_in y gs ≡ true → E y ≡ given m T C N true d t (call g r ops gs) E y)
        → Full g t → R g (λ a. slice_get cells (off + a)) t → Done (call g r ops gs)
    call_done g r ops gs room defines fits h some eqn full held =
        let x : ℕ = get_or gs 0 0 in
        let b : Bool = holds m true E (call_clock N gs) in
        let t1 : Tree V = cond (restarted m r E) (C g).start t in
        let cells1 : List V = cond (restarted m r E) (inside off (B.resets g) cells) cells in
        let read-rest : Reads (restart_reads N r ++ chain N x) = reads_right (operands_read ops) _ h in
        let re = was_restarted m T B C R Full g fits.callee off cells t room full held (restarted m r E) in
        let reads1 : (y : ℕ) → Readable N E (slice_get cells) y → Readable N E (slice_get cells1) y =
        λ y q. (q.0, λ v e. re.0.outside y (inl (let l = q.0 in omega arith)) ∙ q.1 v e) in
        let st = was_called m T B C R Full g fits.callee off E cells1 t1 ops gs (omega (arith, re.0.long)) fits.takes fits.gives
        (λ y i. let l = defines y i in omega arith) b some re.2 re.1 fits.once
        (λ y i. (reads1 y (h y (in_left y (operands_read ops) _ i))).1) (λ y i. let l = (h y (in_left y (operands_read ops) _ i)).0 in omega arith) in
        subst (λ after. Does m T B C R Full N E off d t (call g r ops gs) cells after)
        (sym (executed_append m B (restart_statements N g off r) (under N (call_clock N gs) (step g off ops gs) ∷ []) cells
        ∙ ap (λ q. executed m B (under N (call_clock N gs) (step g off ops gs)) q) (restarts r g (reads_left (restart_reads N r) _ read-rest))
        ∙ ap (λ q. cond q (stepped m B g off ops gs cells1) cells1)
        (passes_clock m B N E present cells1 x (reach x) (λ y i. reads1 y (reads_right (restart_reads N r) _ read-rest y i)))))
        (record {
          long = st.long ∙ re.0.long;
          far = λ a f. st.outside a f.0 f.1 ∙ re.0.outside a f.1;
          next = st.next;
          agrees = λ _ y i v q. st.outputs y v i (sym (eqn y i) ∙ q);
        })

    pub done : (e : Equation) → off + call_need (needs T) e ≤ length cells → ((y : ℕ) → is_in y (defined e) ≡ true → y < variable_count N)
        → Fits m T B C R Full e → Reads (reads N e) → OperandsPresent m N true E e
        → ((y : ℕ) → is_in y (defined e) ≡ true → E y ≡ given m T C N true d t e E y)
        → FilledAt Full e d t → HoldsAt R off (slice_get cells) e d t → Done e
    done (operate op a b x) room defines fits h some eqn full held =
        ran (operate op a b x) x (assign op a b x) _ (reads_right (second_reads b) _ (reads_right (operand_reads a) _ h)) refl
        (simple (operate op a b x) x _ (defines x (in_head x [])) refl (λ w. tt) (λ q.
        ap₂ (applied m op)
        (value_same m E (slice_get cells) a (agreed _ (reads_left (operand_reads a) _ h)) (some q).0)
        (second_same m E (slice_get cells) b (agreed _ (reads_left (second_reads b) _ (reads_right (operand_reads a) _ h))) (some q).1)
        ∙ only (holds m true E (clock_of N x)) _ (E x) q (eqn x (in_head x []))))
    done (sample a x) room defines fits h some eqn full held =
        ran (sample a x) x (assign 0 a None x) _ (reads_right (operand_reads a) _ h) refl
        (simple (sample a x) x _ (defines x (in_head x [])) refl (λ w. tt) (λ q.
        copied m laws (value_of m (slice_get cells) a)
        ∙ value_same m E (slice_get cells) a (agreed _ (reads_left (operand_reads a) _ h)) (some q)
        ∙ only (holds m true E (clock_of N x)) _ (E x) q (eqn x (in_head x []))))
    done (merge s a b x) room defines fits h some eqn full held =
        select_done (merge s a b x) s a b x refl (defines x (in_head x [])) (λ w. tt) h some (eqn x (in_head x []))
    done (choose s a b x) room defines fits h some eqn full held =
        select_done (choose s a b x) s a b x refl (defines x (in_head x [])) (λ w. tt) h
        (λ q. let o = some q in (o.0, λ _. o.1, λ _. o.2)) (eqn x (in_head x []))
    done (delay l a x) room defines fits h some eqn full held =
        let xl : x < variable_count N = defines x (in_head x []) in
        let o : Option V = applied m 0 (value_of m (slice_get cells) a) (Some None) in
        ran (delay l a x) x (assign 0 a None x) o (reads_right (operand_reads a) _ h) refl
        (record {
          long = under_long cells x o (holds m true E (clock_of N x));
          far = λ y f. under_other cells x o (holds m true E (clock_of N x)) y (apart (delay l a x) x y refl f.0);
          next =
              delay_next a x (holds m true E (clock_of N x)) (omega arith) (agreed _ (reads_left (operand_reads a) _ h)) some held
              ∙ ap (λ b. cond b (value_of m E a) d) (sym (present x xl));
          agrees = λ z. absurd (both_ways true z refl);
        })
    done (call g r ops gs) room defines fits h some eqn full held = call_done g r ops gs room defines fits h some eqn full held
