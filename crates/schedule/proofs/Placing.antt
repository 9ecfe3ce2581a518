-- What is placed, place after place.
use Rattle.std.proofs.Common.{◌≡◌, ℕ, suc, ◌+◌, ◌-◌, ◌<◌, ◌≤◌, Bool, true, false, [], ◌∷◌, ◌++◌, length, Some, None, Option, sym, refl, ap, ◌∙◌, inl, inr, arith, length-set}
use mathlib.Core.Path.{fun_ext}
use Rattle.std.proofs.lemmas.Bool.{cases_eq}
use Rattle.std.proofs.lemmas.List.{get_or-set_same, get_or-set_other, take_more_set}
use Rattle.rules.specs.Definitions.{is_in}
use Rattle.schedule.specs.declared.order.Placed.{Placed}
use Rattle.schedule.specs.Found.{ready, next_of, grow, grown, order_of}
use Rattle.schedule.specs.Placed.{sequence, is_placed, nothing_placed, with_next}
use Rattle.schedule.proofs.First.{first_some}
use Rattle.schedule.proofs.Marks.{no_marks}
use Rattle.schedule.proofs.Membership.{is_in_last, is_in_other}

-- the marks are those of the sequence
pub record Marked (p : Placed) : Type 0 where
  pub room : length p.order.places ≡ 64
  pub width : length p.marks ≡ 64
  pub told : (i : ℕ) → is_placed p.marks i ≡ is_in i (sequence p.order)

sequence_next : (p : Placed) (j : ℕ) → Marked p → p.order.count < 64 → sequence (with_next p j).order ≡ sequence p.order ++ j ∷ []
sequence_next p j m h = take_more_set p.order.places p.order.count j (omega (arith, m.room))

marked_next : (p : Placed) (j : ℕ) → Marked p → p.order.count < 64 → j < 64 → Marked (with_next p j)
marked_next p j m h l =
    let e = sequence_next p j m h in
    let ps = sequence p.order in
    record {
      room = simp length-set m.room;
      width = simp length-set m.width;
      told = λ i. elim (cases_eq i j) [
        | inl q ↦ rw (q, e, is_in_last ps j) (get_or-set_same p.marks j true false (omega (arith, m.width)))
        | inr q ↦ rw (e, is_in_other i ps j q) (get_or-set_other p.marks j i true false q ∙ m.told i)
      ];
    }

pub next_below : (before : ℕ → ℕ → Bool) (n : ℕ) (placed : ℕ → Bool) (j : ℕ) → Some j ≡ next_of before n placed → j < n
next_below before n placed j e = (first_some (ready before n placed) n j (sym e)).below

-- with k placed, the order that is found goes on from there
pub record Going (before : ℕ → ℕ → Bool) (n k : ℕ) (p : Placed) : Type 0 where
  pub counted : p.order.count ≡ k
  pub marked : Marked p
  pub on : grow before n (n - k) (sequence p.order) ≡ order_of before n

module _ (before : ℕ → ℕ → Bool) (n : ℕ) where
  pub going_none : Going before n 0 nothing_placed
  going_none =
      let z : n - 0 ≡ n = omega arith in
      record { counted = refl; marked = record { room = refl; width = refl; told = no_marks 64 }; on = rw z }

  -- one place more, found by the marks
  going_by : (k : ℕ) (p : Placed) (o : Option ℕ) → Going before n k p → k < n → o ≡ next_of before n (is_placed p.marks) →
      grown (grow before n (n - (k + 1))) (sequence p.order) o ≡ order_of before n
  going_by k p o g h e =
      let q : n - k ≡ suc (n - (k + 1)) = omega arith in
      let f = e ∙ ap (next_of before n) (fun_ext g.marked.told) in
      rw (q, ← f) at g.on

  pub going_stuck : (k : ℕ) (p : Placed) → Going before n k p → k < n → None ≡ next_of before n (is_placed p.marks) → None ≡ order_of before n
  going_stuck k p g h e = going_by k p None g h e

  pub going_next : (k : ℕ) (p : Placed) (j : ℕ) → Going before n k p → k < n → n ≤ 64 → Some j ≡ next_of before n (is_placed p.marks) →
      Going before n (k + 1) (with_next p j)
  going_next k p j g h l e =
      let b = next_below before n (is_placed p.marks) j e in
      let c : p.order.count < 64 = omega (arith, g.counted) in
      let s = sequence_next p j g.marked c in
      record { counted = omega (arith, g.counted); marked = marked_next p j g.marked c (omega arith); on = rw s (going_by k p (Some j) g h e) }

  pub going_all : (p : Placed) → Going before n n p → Some (sequence p.order) ≡ order_of before n
  going_all p g = let z : n - n ≡ 0 = omega arith in rw z at g.on
