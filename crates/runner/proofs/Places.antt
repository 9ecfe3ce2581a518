-- Words of code at their places, and steps of a run from one place to another.
use Rattle.std.proofs.Common.{◌≡◌, ℕ, zero, suc, ◌+◌, ◌<◌, true, List, [], ◌∷◌, length, get_or, drop, sym, refl, ap, ◌∙◌, arith}
use Rattle.std.proofs.lemmas.Bool.{false≢true}
use Rattle.std.proofs.lemmas.List.{length-map, length-drop, get_or-map, get_or-drop, drop_more, drop-drop}
use Rattle.opset.specs.Meaning.{Meaning}
use Rattle.instructions.specs.declared.code_word.CodeWord.{CodeWord}
use Rattle.instructions.specs.declared.code_word.CodeWord.TheVariants.{End}
use Rattle.instructions.specs.Format.{says}
use Rattle.execution.specs.Cells.{Blocks}
use Rattle.execution.specs.Words.{Turn, stop, go, turn, walk, program, word_at}
use Rattle.execution.specs.Sound.{fine, fine_at}
use Rattle.runner.specs.From.{fine_from}

-- at a place of code there is its word, and then the words behind it
pub at_place : (ws : List ℕ) (p : ℕ) → p < length ws → drop p (program ws) ≡ says (get_or ws p 0) ∷ drop (p + 1) (program ws)
at_place ws p h =
    let l : p < length (program ws) = omega (arith, length-map ws says) in
    drop_more (program ws) p End l ∙ ap (λ w. w ∷ drop (p + 1) (program ws)) (get_or-map says ws p 0 End h)

pub word_behind : (ws : List ℕ) (p i : ℕ) → p + i < length ws → word_at (drop p (program ws)) i ≡ says (get_or ws (p + i) 0)
word_behind ws p i h = get_or-drop p (program ws) i End ∙ get_or-map says ws (p + i) 0 End h

pub word_here : (ws : List ℕ) (p : ℕ) → p < length ws → word_at (drop p (program ws)) 0 ≡ says (get_or ws p 0)
word_here ws p h = ap (λ cs. word_at cs 0) (at_place ws p h)

fine_length : (ws : List ℕ) (k s : ℕ) (cs : List CodeWord) → fine ws k s cs ≡ true → s < length cs
fine_length ws k s [] h = absurd (false≢true h)
fine_length ws k zero (w ∷ rest) h = omega arith
fine_length ws k (suc s) (w ∷ rest) h = let t = fine_length ws k s rest h in omega arith

-- where a run can be made, there is a word
pub fine_in : (ws : List ℕ) (k p : ℕ) → fine_from ws k p ≡ true → p < length ws
fine_in ws k p h =
    let t = fine_length ws k 0 (drop p (program ws)) h in
    omega (arith, length-drop p (program ws), length-map ws says)

fine_skip : (ws : List ℕ) (k s : ℕ) (cs : List CodeWord) → fine ws k s cs ≡ fine ws k 0 (drop s cs)
fine_skip ws k zero cs = refl
fine_skip ws k (suc s) [] = refl
fine_skip ws k (suc s) (w ∷ rest) = fine_skip ws k s rest

-- so many words beyond the next one
pub fine_past : (ws : List ℕ) (k p s : ℕ) → fine ws k s (drop (p + 1) (program ws)) ≡ true → fine_from ws k (p + 1 + s) ≡ true
fine_past ws k p s h = ap (fine ws k 0) (sym (drop-drop s (p + 1) (program ws))) ∙ sym (fine_skip ws k s (drop (p + 1) (program ws))) ∙ h

-- what a fine place gives, by what its word says
pub fine_word : (ws : List ℕ) (k p : ℕ) (w : CodeWord) → fine_from ws k p ≡ true → says (get_or ws p 0) ≡ w
    → fine_at ws k w (drop (p + 1) (program ws)) (λ s. fine ws k s (drop (p + 1) (program ws))) ≡ true
fine_word ws k p w h e =
    let rest = drop (p + 1) (program ws) in
    ap (λ w. fine_at ws k w rest (λ s. fine ws k s rest)) (sym e)
    ∙ ap (fine ws k 0) (sym (at_place ws p (fine_in ws k p h))) ∙ h

module _ {V : Type 0} (m : Meaning V) (B : Blocks V) where
  walk_skip : (s : ℕ) (cs : List CodeWord) (cells : List V) → walk m B s cs cells ≡ walk m B 0 (drop s cs) cells
  walk_skip zero cs cells = refl
  walk_skip (suc s) [] cells = refl
  walk_skip (suc s) (w ∷ rest) cells = walk_skip s rest cells

  abbrev onward : List CodeWord → Turn V → List V
  onward rest t = elim t [ stop after ↦ after | go s after ↦ walk m B s rest after ]

  -- a run goes on behind an instruction
  pub walk_go : (ws : List ℕ) (p s : ℕ) (w : CodeWord) (cells after : List V) → p < length ws → says (get_or ws p 0) ≡ w
      → turn m B w (drop (p + 1) (program ws)) cells ≡ go s after
      → walk m B 0 (drop p (program ws)) cells ≡ walk m B 0 (drop (p + 1 + s) (program ws)) after
  walk_go ws p s w cells after h e t =
      let rest = drop (p + 1) (program ws) in
      ap (λ cs. walk m B 0 cs cells) (at_place ws p h)
      ∙ ap (λ w. onward rest (turn m B w rest cells)) e
      ∙ ap (onward rest) t
      ∙ walk_skip s rest after
      ∙ ap (λ cs. walk m B 0 cs after) (drop-drop s (p + 1) (program ws))

  -- or ends
  pub walk_stop : (ws : List ℕ) (p : ℕ) (cells : List V) → p < length ws
      → turn m B (says (get_or ws p 0)) (drop (p + 1) (program ws)) cells ≡ stop cells
      → walk m B 0 (drop p (program ws)) cells ≡ cells
  walk_stop ws p cells h t =
      ap (λ cs. walk m B 0 cs cells) (at_place ws p h) ∙ ap (onward (drop (p + 1) (program ws))) t
