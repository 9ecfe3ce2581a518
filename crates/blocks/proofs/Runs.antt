-- Pieces one behind another.
use Rattle.std.proofs.Common.{◌≡◌, ℕ, zero, suc, ◌+◌, ◌-◌, ◌<◌, ◌≤◌, ◌⊎◌, List, [], ◌∷◌, ◌++◌, length, get_or, sym, refl, ap, ◌∙◌, inl, inr, add-one, arith, le-ltb, lt-ltb}
use Rattle.std.proofs.lemmas.List.{append_assoc, append-nil, length-append}
use Rattle.instructions.specs.declared.code_word.CodeWord.{CodeWord}
use Rattle.blocks.specs.Numbered.{Pieces, and_then, only, up_to}

pub run_more : (f : Pieces) (n : ℕ) → up_to f (n + 1) ≡ up_to f n ++ f n
unfolding up_to
run_more f n = ap (up_to f) (add-one n)

pub run_none : (f : Pieces) → up_to f 0 ≡ []
unfolding up_to
run_none f = refl

pub run_one : (xs : List CodeWord) → up_to (only xs) 1 ≡ xs
unfolding up_to
run_one xs = refl

-- a longer run has the words of a shorter one at its front
pub run_within : (f : Pieces) (j n : ℕ) → j < n → length (up_to f j) + length (f j) ≤ length (up_to f n)
unfolding up_to
run_within f j zero h = absurd (omega arith)
run_within f j (suc n) h =
    let l = length-append (up_to f n) (f n) in
    elim (split j n h) [ inl q ↦ omega (arith, run_within f j n q, l) | inr q ↦ omega (arith, ap (λ i. length (up_to f i) + length (f i)) q, l) ]
  where
    split : (i m : ℕ) → i < suc m → (i < m) ⊎ (i ≡ m)
    split i m l = search arith

run_same : (f g : Pieces) (n : ℕ) → ((j : ℕ) → j < n → f j ≡ g j) → up_to f n ≡ up_to g n
unfolding up_to
run_same f g zero e = refl
run_same f g (suc n) e = ap (λ l. l ++ f n) (run_same f g n (λ j h. e j (omega arith))) ∙ ap (λ l. up_to g n ++ l) (e n (omega arith))

run_add : (f : Pieces) (n m : ℕ) → up_to f (n + m) ≡ up_to f n ++ up_to (λ j. f (n + j)) m
unfolding up_to
run_add f n zero = let e : n + 0 ≡ n = omega arith in ap (up_to f) e ∙ sym (append-nil (up_to f n))
run_add f n (suc m) =
    let e : n + suc m ≡ suc (n + m) = omega arith in
    ap (up_to f) e ∙ ap (λ l. l ++ f (n + m)) (run_add f n m) ∙ append_assoc (up_to f n) (up_to (λ j. f (n + j)) m) (f (n + m))

-- n pieces of f and then m of g
pub run_then : (f g : Pieces) (n m : ℕ) → up_to (and_then n f g) (n + m) ≡ up_to f n ++ up_to g m
run_then f g n m =
    let h = and_then n f g in
    run_add h n m
    ∙ ap (λ l. l ++ up_to (λ j. h (n + j)) m) (run_same h f n (λ j l. let t = lt-ltb j n l in rw t))
    ∙ ap (λ l. up_to f n ++ l) (run_same (λ j. h (n + j)) g m (λ j l.
    let t = le-ltb (n + j) n (omega arith) in
    let e : n + j - n ≡ j = omega arith in rw (t, e)))

-- over a list, from its front
run_first : (f : Pieces) (n : ℕ) → up_to f (suc n) ≡ f 0 ++ up_to (λ j. f (suc j)) n
unfolding up_to
run_first f zero = sym (append-nil (f 0))
run_first f (suc n) =
    ap (λ l. l ++ f (suc n)) (run_first f n) ∙ append_assoc (f 0) (up_to (λ j. f (suc j)) n) (f (suc n))

pub run_over : (f : ℕ → List CodeWord) (F : List ℕ → List CodeWord) → F [] ≡ [] → ((x : ℕ) (xs : List ℕ) → F (x ∷ xs) ≡ f x ++ F xs)
    → (xs : List ℕ) → up_to (λ j. f (get_or xs j 0)) (length xs) ≡ F xs
unfolding up_to
run_over f F none more [] = sym none
run_over f F none more (x ∷ xs) =
    run_first (λ j. f (get_or (x ∷ xs) j 0)) (length xs) ∙ ap (λ l. f x ++ l) (run_over f F none more xs) ∙ sym (more x xs)
