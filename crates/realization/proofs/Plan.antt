-- What the rules give for a node whose blocks run, and which cells its equations share: none.
use Rattle.std.proofs.Common.{◌≡◌, ℕ, ◌+◌, ◌<◌, ◌≤◌, true, false, ◌⊎◌, [], Option, sym, ◌∙◌, inl, inr, arith}
use Rattle.std.proofs.lemmas.Bool.{cases_Bool, cases_order}
use Rattle.words.specs.declared.kinds.Clock.TheVariants.{Base}
use Rattle.opset.specs.Meaning.{Meaning}
use Rattle.table.specs.Syntax.{Equation, operate, sample, merge, choose, delay, call, Node, Table, variable_count, equation_at, equation_count}
use Rattle.rules.specs.Clocks.{clock_of, reaches}
use Rattle.rules.specs.Definitions.{defined, is_delay, is_in}
use Rattle.schedule.specs.Need.{needs}
use Rattle.schedule.specs.Reads.{reads}
use Rattle.streams.specs.Streams.{Env}
use Rattle.streams.specs.Machine.{Tree, Machine, delays, instances}
use Rattle.streams.proofs.Places.{in_head}
use Rattle.code.specs.Statements.{offset}
use Rattle.execution.specs.Cells.{Blocks}
use Rattle.realization.specs.Holds.{HoldsAt, HoldsNode}
use Rattle.realization.proofs.Footprint.{Near, Far, Fits}
use Rattle.realization.proofs.Offsets.{offset_low, offset_up}

abbrev pub Defines : Node → ℕ → ℕ → Type 0
Defines N j y = is_in y (defined (equation_at N j)) ≡ true

module _ {V : Type 0} (m : Meaning V) (T : Table) (B : Blocks V) (C : ℕ → Machine V) (R : ℕ → Env V → Tree V → Type 0) (Full : ℕ → Tree V → Type 0) (N : Node) where
  pub record Plan : Type 0 where
    pub room : N.inputs + N.outputs ≤ variable_count N
    -- inputs are not defined, other variables once, and no output by a delay
    pub range : (j y : ℕ) → j < equation_count N → Defines N j y → (N.inputs ≤ y) × (y < variable_count N)
    pub once : (i j y : ℕ) → i < equation_count N → j < equation_count N → Defines N i y → Defines N j y → i ≡ j
    pub definer : (y : ℕ) → N.inputs ≤ y → y < variable_count N → (j : ℕ) × (j < equation_count N) × Defines N j y
    pub outputs : (j y : ℕ) → j < equation_count N → Defines N j y → y < N.inputs + N.outputs → is_delay (equation_at N j) ≡ false
    pub fits : (j : ℕ) → j < equation_count N → Fits m T B C R Full (equation_at N j)
    pub reads : (j y : ℕ) → j < equation_count N → is_in y (reads N (equation_at N j)) ≡ true → y < variable_count N
    pub reach : (x : ℕ) → reaches 8 N x ≡ true
    pub base : (y : ℕ) → y < N.inputs + N.outputs → clock_of N y ≡ Base

  -- where equation j's segment begins, and how many cells the node needs
  abbrev pub off : ℕ → ℕ
  off j = offset (needs T) N j

  abbrev pub size : ℕ
  size = off (equation_count N)

  -- what an equation keeps is in cells of its own
  pub holds_local : (e : Equation) (o : ℕ) (w w' : Env V) (d : Option V) (t : Tree V) → Fits m T B C R Full e
      → ((a : ℕ) → Near T o e a → w a ≡ w' a) → HoldsAt R o w e d t → HoldsAt R o w' e d t
  holds_local (operate op a b x) o w w' d t fits h r = tt
  holds_local (sample a x) o w w' d t fits h r = tt
  holds_local (merge s a b x) o w w' d t fits h r = tt
  holds_local (choose s a b x) o w w' d t fits h r = tt
  holds_local (delay l a x) o w w' d t fits h r = sym (h x (inl (in_head x []))) ∙ r
  holds_local (call g q ops gs) o w w' d t fits h r =
      fits.callee.local _ _ t r (λ a i l. h (o + a) (inr (omega arith, omega arith)))

  module _ (plan : Plan) where
    undefined : (j a : ℕ) → j < equation_count N → (a < N.inputs) ⊎ (variable_count N ≤ a) → is_in a (defined (equation_at N j)) ≡ false
    undefined j a l h =
        elim (cases_Bool (is_in a (defined (equation_at N j)))) [
          | inl e ↦ absurd (let z = plan.range j a l e in elim h [ inl p ↦ omega arith | inr p ↦ omega arith ])
          | inr e ↦ e
        ]

    -- what is near one equation is far from another
    pub near_far : (i j a : ℕ) → i < equation_count N → j < equation_count N → (i ≡ j → ⊥) → Near T (off i) (equation_at N i) a → Far T (off j) (equation_at N j) a
    near_far i j a li lj ne (inl d) = (
      elim (cases_Bool (is_in a (defined (equation_at N j)))) [ inl e ↦ absurd (ne (plan.once i j a li lj d e)) | inr e ↦ e ],
      inl (let z = plan.range i a li d in omega (arith, offset_low (needs T) N j)),
    )
    near_far i j a li lj ne (inr s) = (
      undefined j a lj (inr (omega (arith, offset_low (needs T) N i))),
      elim (cases_order i j) [
        | inl e ↦ absurd (ne e)
        | inr o ↦ elim o [
          | inl l ↦ inl (let z = offset_up (needs T) N i j l li in omega arith)
          | inr l ↦ inr (let z = offset_up (needs T) N j i l lj in omega arith)
        ]
      ],
    )

    -- inputs, and what lies behind the segment, are far from all
    pub out_far : (j a : ℕ) → j < equation_count N → (a < N.inputs) ⊎ (size ≤ a) → Far T (off j) (equation_at N j) a
    out_far j a l (inl h) = (undefined j a l (inl h), inl (let r = plan.room in omega (arith, offset_low (needs T) N j)))
    out_far j a l (inr h) =
        (undefined j a l (inr (omega (arith, offset_low (needs T) N (equation_count N)))), inr (let z = offset_up (needs T) N j (equation_count N) l l in omega arith))

    -- the cells that hold a memory
    pub node_local : (w w' : Env V) (M : Tree V) → HoldsNode R T N w M → ((a : ℕ) → N.inputs ≤ a → a < size → w a ≡ w' a) → HoldsNode R T N w' M
    node_local w w' M r h j l =
        holds_local (equation_at N j) (off j) w w' (delays M j) (instances M j) (plan.fits j l)
        (λ a q. elim q [
          | inl d ↦ let z = plan.range j a l d in h a (omega arith) (omega (arith, offset_low (needs T) N (equation_count N)))
          | inr s ↦ let z = offset_up (needs T) N j (equation_count N) l l in let r = plan.room in h a (omega (arith, offset_low (needs T) N j)) (omega arith)
        ]) (r j l)
