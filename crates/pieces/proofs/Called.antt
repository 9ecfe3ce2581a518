-- The operands and the gives of a call, one by one.
use Rattle.std.proofs.Common.{◌≡◌, ℕ, zero, suc, ◌+◌, List, [], ◌∷◌, ◌++◌, map, length, get_or, sym, refl, ap, ◌∙◌, arith}
use Rattle.std.proofs.lemmas.List.{length-append, length-map, map-append}
use Rattle.words.specs.declared.kinds.Operand.{Operand}
use Rattle.words.specs.Bits.{field}
use Rattle.words.specs.Format.{operand_in}
use Rattle.instructions.specs.declared.code_word.CodeWord.TheVariants.{Operand as With, Give}
use Rattle.table.specs.Access.{gives_at, operands_at}
use Rattle.waits.proofs.Places.{gives_more}

pub operands_length : (ws : List ℕ) (at n : ℕ) → length (operands_at ws at n) ≡ n
operands_length ws at zero = refl
operands_length ws at (suc n) = ap suc (operands_length ws (at + 1) n)

pub gives_length : (ws : List ℕ) (at n : ℕ) → length (gives_at ws at n) ≡ n
gives_length ws at zero = refl
gives_length ws at (suc n) = ap suc (gives_length ws (at + 1) n)

operands_push : (ws : List ℕ) (at n : ℕ) → operands_at ws at (suc n) ≡ operands_at ws at n ++ operand_in (get_or ws (at + n) 0) ∷ []
operands_push ws at zero = let e : at ≡ at + 0 = omega arith in ap (λ p. operand_in (get_or ws p 0) ∷ []) e
operands_push ws at (suc n) =
    let e : at + 1 + n ≡ at + suc n = omega arith in
    ap (λ l. operand_in (get_or ws at 0) ∷ l) (operands_push ws (at + 1) n ∙ ap (λ p. operands_at ws (at + 1) n ++ operand_in (get_or ws p 0) ∷ []) e)

module _ (ws : List ℕ) (at n : ℕ) where
  pub operand_words : (a : Operand) → a ≡ operand_in (get_or ws (at + n) 0) → map With (operands_at ws at n) ++ With a ∷ [] ≡ map With (operands_at ws at (n + 1))
  operand_words a q =
      let e : suc n ≡ n + 1 = omega arith in
      ap (λ x. map With (operands_at ws at n) ++ With x ∷ []) q
      ∙ sym (map-append With (operands_at ws at n) (operand_in (get_or ws (at + n) 0) ∷ []))
      ∙ ap (map With) (sym (operands_push ws at n) ∙ ap (operands_at ws at) e)

  pub give_words : (x : ℕ) → x ≡ field (get_or ws (at + n) 0) 0 6 → map Give (gives_at ws at n) ++ Give x ∷ [] ≡ map Give (gives_at ws at (n + 1))
  give_words x q =
      ap (λ y. map Give (gives_at ws at n) ++ Give y ∷ []) q
      ∙ sym (map-append Give (gives_at ws at n) (field (get_or ws (at + n) 0) 0 6 ∷ []))
      ∙ ap (map Give) (gives_more ws at n)

  pub operand_words_length : length (map With (operands_at ws at n)) ≡ n
  operand_words_length = length-map (operands_at ws at n) With ∙ operands_length ws at n

  pub give_words_length : length (map Give (gives_at ws at n)) ≡ n
  give_words_length = length-map (gives_at ws at n) Give ∙ gives_length ws at n

pub call_length : (ws : List ℕ) (a n b m : ℕ) → length (map With (operands_at ws a n) ++ map Give (gives_at ws b m)) ≡ n + m
call_length ws a n b m =
    let l = length-append (map With (operands_at ws a n)) (map Give (gives_at ws b m)) in
    omega (arith, l, operand_words_length ws a n, give_words_length ws b m)
