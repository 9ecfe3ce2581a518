-- A call's operands are copied in, one by one, and its outputs out.
use Rattle.std.proofs.Common.{◌≡◌, ℕ, zero, suc, ◌+◌, ◌<◌, ◌≤◌, true, false, eqb, ◌⊎◌, List, [], ◌∷◌, length, is_some, Some, None, Option, sym, refl, ap, ◌∙◌, inl, inr, arith}
use Rattle.std.specs.List.{slice_get}
use Rattle.std.proofs.lemmas.Bool.{cases_Bool, both_ways, eqb-true, eqb-false, or_parts, or_right}
use Rattle.words.specs.declared.kinds.Operand.{Operand}
use Rattle.opset.specs.Meaning.{Meaning}
use Rattle.rules.specs.Definitions.{is_in, times}
use Rattle.schedule.specs.Reads.{operand_reads, operands_read}
use Rattle.streams.specs.Streams.{Env, paired, value_of, values_of}
use Rattle.streams.specs.Machine.{place_of}
use Rattle.streams.proofs.Places.{in_right, in_head, in_times}
use Rattle.execution.specs.Cells.{stored, copied_in, copied_out}
use Rattle.realization.proofs.Cells.{length_stored, stored_other, stored_here}
use Rattle.realization.proofs.Agree.{AgreesOn, on_left, on_right, value_same}

paired_parts : {V : Type 0} (p : Option V) (q : Option (List V)) (vs : List V) → paired p q ≡ Some vs
    → (v : V) × (us : List V) × (p ≡ Some v) × (q ≡ Some us) × (v ∷ us ≡ vs)
paired_parts None q vs e = absurd (let z : ◌≡◌ {A = ℕ} 0 1 = cc in omega arith)
paired_parts (Some v) None vs e = absurd (let z : ◌≡◌ {A = ℕ} 0 1 = cc in omega arith)
paired_parts (Some v) (Some us) vs e = (v, us, refl, refl, cc)

module _ {V : Type 0} (m : Meaning V) where
  pub length_in : (ops : List Operand) (cells : List V) (at : ℕ) → length (copied_in m cells at ops) ≡ length cells
  length_in [] cells at = refl
  length_in (a ∷ l) cells at =
      length_in l (stored cells at (value_of m (slice_get cells) a)) (at + 1) ∙ length_stored cells at (value_of m (slice_get cells) a)

  pub in_outside : (ops : List Operand) (cells : List V) (at a : ℕ) → (a < at) ⊎ (at + length ops ≤ a) → slice_get (copied_in m cells at ops) a ≡ slice_get cells a
  in_outside [] cells at a h = refl
  in_outside (o ∷ l) cells at a h =
      in_outside l (stored cells at (value_of m (slice_get cells) o)) (at + 1) a (elim h [ inl p ↦ inl (omega arith) | inr p ↦ inr (omega arith) ])
      ∙ stored_other cells at (value_of m (slice_get cells) o) a (elim h [ inl p ↦ (λ e. omega arith) | inr p ↦ (λ e. omega arith) ])

  -- none of them is read from where they go
  pub in_inside : (E : Env V) (ops : List Operand) (cells : List V) (at : ℕ) (vs : List V) → values_of m E ops ≡ Some vs
      → AgreesOn E (slice_get cells) (operands_read ops) → ((y : ℕ) → is_in y (operands_read ops) ≡ true → y < at) → at + length ops ≤ length cells
      → (p : ℕ) → p < length ops → slice_get (copied_in m cells at ops) (at + p) ≡ slice_get vs p
  in_inside E [] cells at vs e h low fit p l = absurd (omega arith)
  in_inside E (a ∷ ops) cells at vs e h low fit zero l =
      let next : List V = stored cells at (value_of m (slice_get cells) a) in
      let q = paired_parts (value_of m E a) (values_of m E ops) vs e in
      ap (slice_get (copied_in m next (at + 1) ops)) (let z : at + 0 ≡ at = omega arith in z)
      ∙ in_outside ops next (at + 1) at (inl (omega arith))
      ∙ stored_here cells at (value_of m (slice_get cells) a) q.0 (omega arith)
      (value_same m E (slice_get cells) a (on_left E (slice_get cells) (operand_reads a) (operands_read ops) h) (ap is_some q.2) ∙ q.2)
      ∙ ap (λ us. slice_get us 0) q.4
  in_inside E (a ∷ ops) cells at vs e h low fit (suc p) l =
      let next : List V = stored cells at (value_of m (slice_get cells) a) in
      let q = paired_parts (value_of m E a) (values_of m E ops) vs e in
      let below : (y : ℕ) → is_in y (operands_read ops) ≡ true → y < at = λ y i. low y (in_right y (operand_reads a) (operands_read ops) i) in
      ap (slice_get (copied_in m next (at + 1) ops)) (let z : at + suc p ≡ at + 1 + p = omega arith in z)
      ∙ in_inside E ops next (at + 1) q.1 q.3
      (λ y i u f.
      stored_other cells at (value_of m (slice_get cells) a) y (λ z. let b = below y i in omega arith)
      ∙ on_right E (slice_get cells) (operand_reads a) (operands_read ops) h y i u f)
      (λ y i. let b = below y i in omega arith)
      (omega (arith, length_stored cells at (value_of m (slice_get cells) a))) p (omega arith)
      ∙ ap (λ us. slice_get us (suc p)) q.4

module _ {V : Type 0} where
  pub length_out : (gs : List ℕ) (cells : List V) (at : ℕ) → length (copied_out cells at gs) ≡ length cells
  length_out [] cells at = refl
  length_out (x ∷ l) cells at = length_out l (stored cells x (slice_get cells at)) (at + 1) ∙ length_stored cells x (slice_get cells at)

  pub out_other : (gs : List ℕ) (cells : List V) (at a : ℕ) → is_in a gs ≡ false → slice_get (copied_out cells at gs) a ≡ slice_get cells a
  out_other [] cells at a h = refl
  out_other (x ∷ l) cells at a h =
      let q = or_parts (eqb a x) (is_in a l) h in
      out_other l (stored cells x (slice_get cells at)) (at + 1) a q.1 ∙ stored_other cells x (slice_get cells at) a (eqb-false a x q.0)

  -- each goes to a variable of its own, below the cells that are copied
  pub out_here : (gs : List ℕ) (cells : List V) (at y : ℕ) (v : V) → is_in y gs ≡ true → times y gs ≤ 1
      → ((x : ℕ) → is_in x gs ≡ true → (x < at) × (x < length cells)) → slice_get cells (at + place_of y gs) ≡ Some v → slice_get (copied_out cells at gs) y ≡ Some v
  out_here [] cells at y v i once low e = absurd (both_ways false refl i)
  out_here (x ∷ l) cells at y v i once low e =
      let next : List V = stored cells x (slice_get cells at) in
      elim (cases_Bool (eqb y x)) [
        | inl q ↦
            let f : slice_get cells (at + 0) ≡ Some v = rw q at e in
            let z : at + 0 ≡ at = omega arith in
            let o : 1 + times y l ≤ 1 = rw q at once in
            let none : is_in y l ≡ false = elim (cases_Bool (is_in y l)) [ inl j ↦ absurd (let t = in_times y l j in omega arith) | inr j ↦ j ] in
            out_other l next (at + 1) y none ∙ ap (slice_get next) (eqb-true y x q)
            ∙ stored_here cells x (slice_get cells at) v (low x (in_head x l)).1 (ap (slice_get cells) (sym z) ∙ f)
        | inr q ↦
            let f : slice_get cells (at + suc (place_of y l)) ≡ Some v = rw q at e in
            let z : at + suc (place_of y l) ≡ at + 1 + place_of y l = omega arith in
            let o : 0 + times y l ≤ 1 = rw q at once in
            out_here l next (at + 1) y v (rw q at i) (omega arith)
            (λ u k. let b = low u (or_right (eqb u x) (is_in u l) k) in (omega arith, omega (arith, length_stored cells x (slice_get cells at))))
            (stored_other cells x (slice_get cells at) (at + 1 + place_of y l) (λ s. let b = low x (in_head x l) in omega arith) ∙ ap (slice_get cells) (sym z) ∙ f)
      ]
