-- The row of an instant's inputs.
use Rattle.std.proofs.Common.{◌≡◌, ℕ, zero, suc, ◌<◌, List, [], ◌∷◌, ◌++◌, length, Some, sym, refl, ap, ◌∙◌, inl, inr, arith, length-append}
use Rattle.std.proofs.lemmas.Bool.{cases_eq}
use Rattle.std.specs.List.{slice_get}
use Rattle.streams.specs.Streams.{Env}
use Rattle.calls.specs.Story.{listed, row_values}

module _ {V : Type 0} where
  nth_before : (l k : List V) (a : ℕ) → a < length l → slice_get (l ++ k) a ≡ slice_get l a
  nth_before [] k a h = absurd (omega arith)
  nth_before (x ∷ l) k zero h = refl
  nth_before (x ∷ l) k (suc a) h = nth_before l k a (omega arith)

  nth_push : (l : List V) (x : V) → slice_get (l ++ x ∷ []) (length l) ≡ Some x
  nth_push [] x = refl
  nth_push (y ∷ l) x = nth_push l x

  -- every one of the first n has a value
  abbrev pub Valued : Env V → ℕ → Type 0
  Valued f n = (i : ℕ) → i < n → (v : V) × (f i ≡ Some v)

  pub row_long : (f : Env V) (n : ℕ) → Valued f n → length (row_values f n) ≡ n
  row_long f zero h = refl
  row_long f (suc n) h =
      let x = h n (omega arith) in
      let before = row_long f n (λ i l. h i (omega arith)) in
      ap (λ o. length (row_values f n ++ listed o)) x.1 ∙ length-append (row_values f n) (x.0 ∷ []) ∙ omega arith

  pub row_at_lem : (f : Env V) (n : ℕ) → Valued f n → (i : ℕ) → i < n → slice_get (row_values f n) i ≡ f i
  row_at_lem f zero h i l = absurd (omega arith)
  row_at_lem f (suc n) h i l =
      let x = h n (omega arith) in
      let vs = row_values f n in
      let long = row_long f n (λ j k. h j (omega arith)) in
      let here : i ≡ n → slice_get (vs ++ x.0 ∷ []) i ≡ f i = λ e. ap (slice_get (vs ++ x.0 ∷ [])) (e ∙ sym long) ∙ nth_push vs x.0 ∙ sym x.1 ∙ ap f (sym e) in
      ap (λ o. slice_get (vs ++ listed o) i) x.1
      ∙ elim (cases_eq i n) [
        | inl e ↦ here e
        | inr ne ↦ nth_before vs (x.0 ∷ []) i (omega arith) ∙ row_at_lem f n (λ j k. h j (omega arith)) i (omega arith)
      ]
