-- A reset block puts a machine's start into its cells.
use Rattle.std.proofs.Common.{◌≡◌, ℕ, zero, suc, ◌+◌, ◌<◌, ◌≤◌, Bool, true, false, ◌⊎◌, List, [], ◌∷◌, ◌++◌, length, Some, None, sym, refl, ap, ◌∙◌, subst, inl, inr, arith}
use Rattle.std.specs.List.{slice_get}
use Rattle.std.proofs.lemmas.Bool.{cases_Bool, cases_eq, both_ways}
use Rattle.opset.specs.Meaning.{Meaning, Laws}
use Rattle.table.specs.Syntax.{Equation, operate, sample, merge, choose, delay, call, Node, Table, equation_at, equation_count}
use Rattle.rules.specs.Definitions.{defined, is_delay, is_in}
use Rattle.schedule.specs.Need.{call_need, needs}
use Rattle.streams.specs.Streams.{Env, literal_of, applied}
use Rattle.streams.specs.Machine.{Tree, Machine, first_delay, first_tree, machine_of}
use Rattle.streams.proofs.Places.{in_head}
use Rattle.code.specs.Statements.{Statement, delay_reset, call_reset, delay_resets, call_resets, reset_statements}
use Rattle.execution.specs.Cells.{Blocks}
use Rattle.execution.specs.Statements.{all_executed}
use Rattle.realization.specs.Holds.{HoldsAt, HoldsNode}
use Rattle.realization.proofs.Cells.{length_stored, stored_other, stored_here}
use Rattle.realization.proofs.Agree.{some_of, copied}
use Rattle.realization.proofs.Called.{was_reset}
use Rattle.realization.proofs.Footprint.{Far, Fits}
use Rattle.realization.proofs.Equations.{executed_append}
use Rattle.realization.proofs.Offsets.{offset_low, offset_up}
use Rattle.realization.proofs.Plan.{Plan, off, size, holds_local, near_far, out_far}

abbrev is_call : Equation → Bool
is_call (operate op a b x) = false
is_call (sample a x) = false
is_call (merge s a b x) = false
is_call (choose s a b x) = false
is_call (delay l a x) = false
is_call (call g r ops gs) = true

-- a cell that no reset of an equation changes: it is no delay's, and not in a call's segment
abbrev pub Spared : Table → ℕ → Equation → ℕ → Type 0
Spared T o e a = (is_delay e ≡ true → is_in a (defined e) ≡ false) × ((a < o) ⊎ (o + call_need (needs T) e ≤ a))

module _ {V : Type 0} (m : Meaning V) (laws : Laws m) (T : Table) (B : Blocks V) (C : ℕ → Machine V) (R : ℕ → Env V → Tree V → Type 0) (Full : ℕ → Tree V → Type 0) where
  -- the cells of an equation hold what it first keeps
  abbrev First : ℕ → Equation → Env V → Type 0
  First o e w = HoldsAt R o w e (first_delay m T C e) (first_tree m T C e)

  -- what the reset of an equation does, where Q says that it is one that resets
  record Sets (o : ℕ) (e : Equation) (Q : Type 0) (cells after : List V) : Type 0 where
    long : length after ≡ length cells
    spares : (a : ℕ) → Spared T o e a → slice_get after a ≡ slice_get cells a
    first : First o e (slice_get cells) ⊎ Q → First o e (slice_get after)

  nothing : (o : ℕ) (e : Equation) (Q : Type 0) (cells : List V) → (Q → First o e (slice_get cells)) → Sets o e Q cells cells
  nothing o e Q cells h = record { long = refl; spares = λ a s. refl; first = λ q. elim q [ inl f ↦ f | inr z ↦ h z ] }

  set_delay : (e : Equation) (o : ℕ) (cells : List V) → Fits m T B C R Full e → ((y : ℕ) → is_in y (defined e) ≡ true → y < length cells)
      → Sets o e (is_call e ≡ false) cells (all_executed m B (delay_reset e) cells)
  set_delay (operate op a b x) o cells fits l = nothing o (operate op a b x) _ cells (λ q. tt)
  set_delay (sample a x) o cells fits l = nothing o (sample a x) _ cells (λ q. tt)
  set_delay (merge s a b x) o cells fits l = nothing o (merge s a b x) _ cells (λ q. tt)
  set_delay (choose s a b x) o cells fits l = nothing o (choose s a b x) _ cells (λ q. tt)
  set_delay (delay v a x) o cells fits l =
      let p = some_of (literal_of m v) fits in
      record {
        long = length_stored cells x (applied m 0 (literal_of m v) (Some None));
        spares = λ y s. stored_other cells x (applied m 0 (literal_of m v) (Some None)) y
            (λ q. both_ways (is_in y (x ∷ [])) (s.0 refl) (ap (λ z. is_in z (x ∷ [])) q ∙ in_head x []));
        first = λ q. stored_here cells x (applied m 0 (literal_of m v) (Some None)) p.0 (l x (in_head x [])) (copied m laws (literal_of m v) ∙ p.1) ∙ sym p.1;
      }
  set_delay (call g r ops gs) o cells fits l = nothing o (call g r ops gs) _ cells (λ q. absurd (both_ways true q refl))

  set_call : (e : Equation) (o : ℕ) (cells : List V) → Fits m T B C R Full e → o + call_need (needs T) e ≤ length cells
      → Sets o e (is_call e ≡ true) cells (all_executed m B (call_reset o e) cells)
  set_call (operate op a b x) o cells fits l = nothing o (operate op a b x) _ cells (λ q. tt)
  set_call (sample a x) o cells fits l = nothing o (sample a x) _ cells (λ q. tt)
  set_call (merge s a b x) o cells fits l = nothing o (merge s a b x) _ cells (λ q. tt)
  set_call (choose s a b x) o cells fits l = nothing o (choose s a b x) _ cells (λ q. tt)
  set_call (delay v a x) o cells fits l = nothing o (delay v a x) _ cells (λ q. absurd (both_ways false refl q))
  set_call (call g r ops gs) o cells fits l =
      let w = was_reset m T B C R Full g fits.callee o cells l in
      record { long = w.0.long; spares = λ a s. w.0.outside a s.1; first = λ q. w.1 }

  module _ (N : Node) (plan : Plan m T B C R Full N) where
    abbrev at : ℕ → ℕ
    at = off m T B C R Full N

    abbrev end : ℕ
    end = size m T B C R Full N

    abbrev FirstAt : ℕ → List V → Type 0
    FirstAt j cells = First (at j) (equation_at N j) (slice_get cells)

    -- equations in table order: those that first keep what they keep, already or from their reset on
    record Phase (Q : ℕ → Type 0) (i : ℕ) (cells after : List V) : Type 0 where
      long : length after ≡ length cells
      spares : (a : ℕ) → ((j : ℕ) → j < equation_count N → Spared T (at j) (equation_at N j) a) → slice_get after a ≡ slice_get cells a
      first : (j : ℕ) → j < equation_count N → FirstAt j cells ⊎ ((j < i) × Q j) → FirstAt j after

    far_spared : (j a : ℕ) → Far T (at j) (equation_at N j) a → Spared T (at j) (equation_at N j) a
    far_spared j a f = (λ _. f.0, f.1)

    phase_more : (Q : ℕ → Type 0) (i : ℕ) (cells mid after : List V) → i < equation_count N → Phase Q i cells mid
        → Sets (at i) (equation_at N i) (Q i) mid after → Phase Q (suc i) cells after
    phase_more Q i cells mid after l p s = record {
      long = s.long ∙ p.long;
      spares = λ a h. s.spares a (h i l) ∙ p.spares a h;
      first = λ j lj q. elim (cases_eq j i) [
        | inl e ↦
            let here : FirstAt j mid ⊎ Q j = elim q [ inl f ↦ inl (p.first j lj (inl f)) | inr z ↦ inr z.1 ] in
            subst (λ k. FirstAt k after) (sym e) (s.first (subst (λ k. FirstAt k mid ⊎ Q k) e here))
        | inr ne ↦
            holds_local m T B C R Full N (equation_at N j) (at j) (slice_get mid) (slice_get after) _ _ (plan.fits j lj)
            (λ a r. sym (s.spares a (far_spared i a (near_far m T B C R Full N plan j i a lj l ne r))))
            (p.first j lj (elim q [ inl f ↦ inl f | inr z ↦ inr (omega arith, z.1) ]))
      ];
    }

    phase : (all each : ℕ → List Statement) (Q : ℕ → Type 0) → all 0 ≡ [] → ((i : ℕ) → all (suc i) ≡ all i ++ each i)
        → ((j : ℕ) → j < equation_count N → (cells : List V) → end ≤ length cells → Sets (at j) (equation_at N j) (Q j) cells (all_executed m B (each j) cells))
        → (cells : List V) → end ≤ length cells → (i : ℕ) → i ≤ equation_count N → Phase Q i cells (all_executed m B (all i) cells)
    phase all each Q none more sets cells l zero le =
        subst (λ ss. Phase Q 0 cells (all_executed m B ss cells)) (sym none)
        (record { long = refl; spares = λ a h. refl; first = λ j lj q. elim q [ inl f ↦ f | inr z ↦ absurd (omega arith) ] })
    phase all each Q none more sets cells l (suc i) le =
        let mid : List V = all_executed m B (all i) cells in
        let p : Phase Q i cells mid = phase all each Q none more sets cells l i (omega arith) in
        subst (λ after. Phase Q (suc i) cells after)
        (sym (ap (λ ss. all_executed m B ss cells) (more i) ∙ executed_append m B (all i) (each i) cells))
        (phase_more Q i cells mid (all_executed m B (each i) mid) le p (sets i le mid (omega (arith, p.long))))

    pub record NodeReset (cells after : List V) : Type 0 where
      pub long : length after ≡ length cells
      pub spares : (a : ℕ) → (a < N.inputs + N.outputs) ⊎ (end ≤ a) → slice_get after a ≡ slice_get cells a
      pub start : HoldsNode R T N (slice_get after) (machine_of m T C N).start

    spared : (a : ℕ) → (a < N.inputs + N.outputs) ⊎ (end ≤ a) → (j : ℕ) → j < equation_count N → Spared T (at j) (equation_at N j) a
    spared a (inl h) j l = (
      λ d. elim (cases_Bool (is_in a (defined (equation_at N j)))) [
        | inl i ↦ absurd (both_ways (is_delay (equation_at N j)) (plan.outputs j a l i h) d)
        | inr i ↦ i
      ],
      inl (let r = plan.room in omega (arith, offset_low (needs T) N j)),
    )
    spared a (inr h) j l = far_spared j a (out_far m T B C R Full N plan j a l (inr h))

    -- the delays, then the calls
    pub node_reset : (cells : List V) → end ≤ length cells → NodeReset cells (all_executed m B (reset_statements (needs T) N) cells)
    node_reset cells l =
        let n : ℕ = equation_count N in
        let mid : List V = all_executed m B (delay_resets N n) cells in
        let p = phase (delay_resets N) (λ j. delay_reset (equation_at N j)) (λ j. is_call (equation_at N j) ≡ false) refl (λ i. refl)
        (λ j lj q lq. set_delay (equation_at N j) (at j) q (plan.fits j lj) (λ y d. let z = plan.range j y lj d in omega (arith, offset_low (needs T) N n)))
        cells l n (omega arith) in
        let q = phase (call_resets (needs T) N) (λ j. call_reset (at j) (equation_at N j)) (λ j. is_call (equation_at N j) ≡ true) refl (λ i. refl)
        (λ j lj r lr. set_call (equation_at N j) (at j) r (plan.fits j lj) (let z = offset_up (needs T) N j n lj lj in omega arith))
        mid (omega (arith, p.long)) n (omega arith) in
        subst (NodeReset cells) (sym (executed_append m B (delay_resets N n) (call_resets (needs T) N n) cells))
        (record {
          long = q.long ∙ p.long;
          spares = λ a h. q.spares a (spared a h) ∙ p.spares a (spared a h);
          start = λ j lj. q.first j lj (elim (cases_Bool (is_call (equation_at N j))) [ inl e ↦ inr (lj, e) | inr e ↦ inl (p.first j lj (inr (lj, e))) ]);
        })
