-- What a restart and a step of a called node do to the caller's cells.
use Rattle.std.proofs.Common.{◌≡◌, ℕ, ◌+◌, ◌-◌, ◌<◌, ◌≤◌, Bool, true, false, cond, ◌⊎◌, List, length, get_or, drop, is_some, Some, None, Option, sym, refl, ap, ◌∙◌, inl, inr, arith, length-drop}
use Rattle.std.specs.List.{slice_get}
use Rattle.std.proofs.lemmas.Bool.{cases_Bool}
use Rattle.words.specs.declared.kinds.Operand.{Operand}
use Rattle.opset.specs.Meaning.{Meaning}
use Rattle.table.specs.Syntax.{Table, node_at}
use Rattle.rules.specs.Definitions.{is_in, times}
use Rattle.schedule.specs.Need.{needs}
use Rattle.schedule.specs.Reads.{operands_read}
use Rattle.streams.specs.Streams.{Env, only_if, values_of}
use Rattle.streams.specs.Machine.{Tree, Machine, place_of}
use Rattle.streams.proofs.Places.{placed}
use Rattle.streams.proofs.Present.{values_length}
use Rattle.execution.specs.Cells.{Blocks, inside, copied_in, stepped}
use Rattle.realization.proofs.Cells.{nth_drop, inside_below, inside_from, length_inside}
use Rattle.realization.proofs.Agree.{AgreesOn, some_of}
use Rattle.realization.proofs.Copies.{length_in, in_outside, in_inside, length_out, out_other, out_here}
use Rattle.realization.proofs.Callee.{Callee}

-- nothing changes but so many cells from a place on
pub record Within {V : Type 0} (off size : ℕ) (cells after : List V) : Type 0 where
  pub long : length after ≡ length cells
  pub outside : (a : ℕ) → (a < off) ⊎ (off + size ≤ a) → slice_get after a ≡ slice_get cells a

within : {V : Type 0} (off size : ℕ) (f : List V → List V) (cells : List V) → off + size ≤ length cells → length (f (drop off cells)) ≡ length (drop off cells)
    → ((a : ℕ) → size ≤ a → slice_get (f (drop off cells)) a ≡ slice_get (drop off cells) a) → Within off size cells (inside off f cells)
within off size f cells fit long past = record {
  long = length_inside off f cells (omega arith) long;
  outside = λ a o. elim o [
    | inl l ↦ inside_below off f cells (omega arith) a l
    | inr l ↦
        let e : a ≡ off + (a - off) = omega arith in
        ap (slice_get (inside off f cells)) e ∙ inside_from off f cells (omega arith) (a - off) ∙ past (a - off) (omega arith)
        ∙ nth_drop off cells (a - off) ∙ ap (slice_get cells) (sym e)
  ];
}

not_in : (l : List ℕ) (a s : ℕ) → ((y : ℕ) → is_in y l ≡ true → y < s) → s ≤ a → is_in a l ≡ false
not_in l a s h k = elim (cases_Bool (is_in a l)) [ inl e ↦ absurd (let z = h a e in omega arith) | inr e ↦ e ]

module _ {V : Type 0} (m : Meaning V) (T : Table) (B : Blocks V) (C : ℕ → Machine V) (R : ℕ → Env V → Tree V → Type 0) (Full : ℕ → Tree V → Type 0)
    (g : ℕ) (callee : Callee T B C R Full g) (off : ℕ) where
  -- the called node's segment
  abbrev size : ℕ
  size = get_or (needs T) g 0

  abbrev segment : List V → Env V
  segment cells a = slice_get cells (off + a)

  pub was_reset : (cells : List V) → off + size ≤ length cells
      → Within off size cells (inside off (B.resets g) cells) × R g (segment (inside off (B.resets g) cells)) (C g).start
  was_reset cells fit =
      let s = callee.reset (drop off cells) (omega (arith, length-drop off cells)) in (
        within off size (B.resets g) cells fit s.long s.past,
        callee.local _ _ _ s.start (λ a _ _. sym (inside_from off (B.resets g) cells (omega arith) a)),
      )

  pub was_restarted : (cells : List V) (t : Tree V) → off + size ≤ length cells → Full g t → R g (segment cells) t → (b : Bool)
      → Within off size cells (cond b (inside off (B.resets g) cells) cells)
      × R g (segment (cond b (inside off (B.resets g) cells) cells)) (cond b (C g).start t)
      × Full g (cond b (C g).start t)
  was_restarted cells t fit full held false = (record { long = refl; outside = λ a o. refl }, held, full)
  was_restarted cells t fit full held true = let w = was_reset cells fit in (w.0, w.1, callee.filled)

  module _ (E : Env V) (cells : List V) (t : Tree V) (ops : List Operand) (gs : List ℕ) (fit : off + size ≤ length cells)
      (takes : length ops ≡ (node_at T g).inputs) (gives : length gs ≡ (node_at T g).outputs) (low : (y : ℕ) → is_in y gs ≡ true → y < off) where
    -- the variables that take the outputs, and the segment, change
    pub record WasCalled (row : Option (List V)) (after : List V) : Type 0 where
      pub long : length after ≡ length cells
      pub outside : (a : ℕ) → is_in a gs ≡ false → (a < off) ⊎ (off + size ≤ a) → slice_get after a ≡ slice_get cells a
      pub next : R g (segment after) ((C g).next t row)
      pub outputs : (y : ℕ) (v : V) → is_in y gs ≡ true → (C g).shows t row ((node_at T g).inputs + place_of y gs) ≡ Some v → slice_get after y ≡ Some v

    ran : (vs : List V) → values_of m E ops ≡ Some vs → Full g t → R g (segment cells) t → ((y : ℕ) → is_in y gs ≡ true → times y gs ≤ 1)
        → AgreesOn E (slice_get cells) (operands_read ops) → ((y : ℕ) → is_in y (operands_read ops) ≡ true → y < off)
        → WasCalled (Some vs) (stepped m B g off ops gs cells)
    ran vs e full held once agrees reads =
        let room = callee.room in
        let entered : List V = copied_in m cells off ops in
        let ended : List V = inside off (B.steps g) entered in
        let long : length entered ≡ length cells = length_in m ops cells off in
        let ld = length-drop off entered in
        let s = callee.step (drop off entered) t vs (omega arith) full
        (callee.local _ _ t held (λ a i _. sym (nth_drop off entered a ∙ in_outside m ops cells off (off + a) (inr (omega arith)))))
        (values_length m E ops vs e ∙ takes)
        (λ x l. nth_drop off entered x ∙ in_inside m E ops cells off vs e agrees reads (omega arith) x (omega arith)) in
        let w : Within off size entered ended = within off size (B.steps g) entered (omega arith) s.long s.past in
        record {
          long = length_out gs ended (off + length ops) ∙ w.long ∙ long;
          outside = λ a n o.
              out_other gs ended (off + length ops) a n ∙ w.outside a o
              ∙ in_outside m ops cells off a (elim o [ inl l ↦ inl l | inr l ↦ inr (omega arith) ]);
          next = callee.local _ _ _ s.next (λ a _ _.
              sym (out_other gs ended (off + length ops) (off + a) (not_in gs (off + a) off low (omega arith)) ∙ inside_from off (B.steps g) entered (omega arith) a));
          outputs = λ y v i h.
              let p = placed y gs i in
              out_here gs ended (off + length ops) y v i (once y i)
              (λ x j. let z = low x j in (omega arith, omega (arith, w.long)))
              (ap (slice_get ended) (let z : off + length ops + place_of y gs ≡ off + ((node_at T g).inputs + place_of y gs) = omega arith in z)
              ∙ inside_from off (B.steps g) entered (omega arith) ((node_at T g).inputs + place_of y gs)
              ∙ s.shows ((node_at T g).inputs + place_of y gs) (omega (arith, p.0)) ∙ h);
        }

    -- under the call's clock
    pub was_called : (b : Bool) → (b ≡ true → is_some (values_of m E ops) ≡ true) → Full g t → R g (segment cells) t → ((y : ℕ) → is_in y gs ≡ true → times y gs ≤ 1)
        → AgreesOn E (slice_get cells) (operands_read ops) → ((y : ℕ) → is_in y (operands_read ops) ≡ true → y < off)
        → WasCalled (only_if b (values_of m E ops)) (cond b (stepped m B g off ops gs cells) cells)
    was_called true some full held once agrees reads =
        let q = some_of (values_of m E ops) (some refl) in
        rw q.1 (ran q.0 q.1 full held once agrees reads)
    was_called false some full held once agrees reads = record {
      long = refl;
      outside = λ a n o. refl;
      next = rw (callee.idles.next t) held;
      outputs = λ y v i h. absurd (
          let q : None ≡ Some v = sym (callee.idles.shows t ((node_at T g).inputs + place_of y gs)) ∙ h in
          let z : ◌≡◌ {A = ℕ} 0 1 = cc in
          omega arith);
    }
