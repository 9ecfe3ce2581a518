-- The operands and the gives of a CALL, one by one, and past the end of the words.
use Rattle.std.proofs.Common.{◌≡◌, ℕ, zero, suc, ◌+◌, ◌≤◌, List, [], ◌∷◌, ◌++◌, length, get_or, sym, refl, ap, ◌∙◌, arith}
use Rattle.std.proofs.lemmas.List.{append_assoc, append-nil, get_or_past}
use Rattle.words.specs.Bits.{field}
use Rattle.words.specs.Format.{operand_in}
use Rattle.table.specs.Access.{gives_at, operands_at}
use Rattle.schedule.specs.Reads.{operand_reads, operands_read}

gives_push : (ws : List ℕ) (at n : ℕ) → gives_at ws at (suc n) ≡ gives_at ws at n ++ field (get_or ws (at + n) 0) 0 6 ∷ []
gives_push ws at zero = let e : at ≡ at + 0 = omega arith in ap (λ p. field (get_or ws p 0) 0 6 ∷ []) e
gives_push ws at (suc n) =
    let e : at + 1 + n ≡ at + suc n = omega arith in
    ap (λ l. field (get_or ws at 0) 0 6 ∷ l) (gives_push ws (at + 1) n ∙ ap (λ p. gives_at ws (at + 1) n ++ field (get_or ws p 0) 0 6 ∷ []) e)

pub gives_more : (ws : List ℕ) (at n : ℕ) → gives_at ws at n ++ field (get_or ws (at + n) 0) 0 6 ∷ [] ≡ gives_at ws at (n + 1)
gives_more ws at n = let e : suc n ≡ n + 1 = omega arith in sym (gives_push ws at n) ∙ ap (gives_at ws at) e

pub first_give : (ws : List ℕ) (at n : ℕ) → 1 ≤ n → get_or (gives_at ws at n) 0 0 ≡ field (get_or ws at 0) 0 6
first_give ws at zero h = absurd (omega arith)
first_give ws at (suc n) h = refl

operands_push : (ws : List ℕ) (at n : ℕ) → operands_read (operands_at ws at (suc n)) ≡ operands_read (operands_at ws at n) ++ operand_reads (operand_in (get_or ws (at + n) 0))
operands_push ws at zero =
    let e : at ≡ at + 0 = omega arith in
    append-nil (operand_reads (operand_in (get_or ws at 0))) ∙ ap (λ p. operand_reads (operand_in (get_or ws p 0))) e
operands_push ws at (suc n) =
    let e : at + 1 + n ≡ at + suc n = omega arith in
    let a = operand_reads (operand_in (get_or ws at 0)) in
    let l = operands_read (operands_at ws (at + 1) n) in
    ap (λ m. a ++ m) (operands_push ws (at + 1) n ∙ ap (λ p. l ++ operand_reads (operand_in (get_or ws p 0))) e)
    ∙ sym (append_assoc a l (operand_reads (operand_in (get_or ws (at + suc n) 0))))

pub operands_more : (ws : List ℕ) (at n : ℕ) → operands_read (operands_at ws at n) ++ operand_reads (operand_in (get_or ws (at + n) 0)) ≡ operands_read (operands_at ws at (n + 1))
operands_more ws at n = let e : suc n ≡ n + 1 = omega arith in sym (operands_push ws at n) ∙ ap (λ m. operands_read (operands_at ws at m)) e

-- past the end of the words all places read alike
pub gives_past : (ws : List ℕ) (n a b : ℕ) → length ws ≤ a → length ws ≤ b → gives_at ws a n ≡ gives_at ws b n
gives_past ws zero a b h l = refl
gives_past ws (suc n) a b h l =
    let p = get_or_past ws a 0 h in
    let q = get_or_past ws b 0 l in
    let r = gives_past ws n (a + 1) (b + 1) (omega arith) (omega arith) in
    rw (p, q, r)

pub operands_past : (ws : List ℕ) (n a b : ℕ) → length ws ≤ a → length ws ≤ b → operands_at ws a n ≡ operands_at ws b n
operands_past ws zero a b h l = refl
operands_past ws (suc n) a b h l =
    let p = get_or_past ws a 0 h in
    let q = get_or_past ws b 0 l in
    let r = operands_past ws n (a + 1) (b + 1) (omega arith) (omega arith) in
    rw (p, q, r)
