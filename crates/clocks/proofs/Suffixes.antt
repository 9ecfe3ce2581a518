-- The operands and the gives of a call, one after the other, and past the last word.
use Rattle.std.proofs.Common.{◌≡◌, ℕ, zero, suc, ◌+◌, ◌-◌, ◌<◌, ◌≤◌, min, Bool, true, false, ◌&&◌, ◌⊎◌, List, ◌∷◌, length, get_or, None, sym, refl, ap, ◌∙◌, inl, inr, arith}
use Rattle.std.proofs.lemmas.List.{get_or_past}
use Rattle.words.specs.declared.kinds.Clock.{Clock}
use Rattle.words.specs.declared.kinds.Operand.{Operand}
use Rattle.words.specs.Bits.{field}
use Rattle.words.specs.Format.{operand_in}
use Rattle.table.specs.Access.{operands_at, gives_at}
use Rattle.table.specs.Syntax.{Node, call, node_at}
use Rattle.table.specs.Decoding.{table_of}
use Rattle.rules.specs.Clocks.{clock_of, same_clock, operand_on, operands_on, gives_on, equation_clocked}
use Rattle.clocks.specs.Calls.{call_at}

module _ (N : Node) (c : Clock) (ws : List ℕ) (at n i : ℕ) (h : i < n) where
  rest : n - i ≡ suc (n - (i + 1))
  rest = omega arith

  next : at + i + 1 ≡ at + (i + 1)
  next = omega arith

  operands_next : operands_on N c (operands_at ws (at + i) (n - i))
      ≡ operand_on N c (operand_in (get_or ws (at + i) 0)) && operands_on N c (operands_at ws (at + (i + 1)) (n - (i + 1)))
  operands_next =
      ap (λ m. operands_on N c (operands_at ws (at + i) m)) rest
      ∙ ap (λ p. operand_on N c (operand_in (get_or ws (at + i) 0)) && operands_on N c (operands_at ws p (n - (i + 1)))) next

  gives_next : gives_on N c (gives_at ws (at + i) (n - i))
      ≡ same_clock (clock_of N (field (get_or ws (at + i) 0) 0 6)) c && gives_on N c (gives_at ws (at + (i + 1)) (n - (i + 1)))
  gives_next =
      ap (λ m. gives_on N c (gives_at ws (at + i) m)) rest
      ∙ ap (λ p. same_clock (clock_of N (field (get_or ws (at + i) 0) 0 6)) c && gives_on N c (gives_at ws p (n - (i + 1)))) next

  -- the next one has the clock, so that the rest decides, or it has not
  module _ (a : Operand) (all : Bool) (is : a ≡ operand_in (get_or ws (at + i) 0)) (inv : operands_on N c (operands_at ws (at + i) (n - i)) ≡ all) where
    pub operands_more : true ≡ operand_on N c a → operands_on N c (operands_at ws (at + (i + 1)) (n - (i + 1))) ≡ all
    operands_more e = let q = e ∙ ap (operand_on N c) is in sym (operands_next ∙ rw (← q)) ∙ inv

    pub operands_wrong : false ≡ operand_on N c a → false ≡ all
    operands_wrong e = let q = e ∙ ap (operand_on N c) is in sym (operands_next ∙ rw (← q)) ∙ inv

  module _ (x : ℕ) (all : Bool) (is : x ≡ field (get_or ws (at + i) 0) 0 6) (inv : gives_on N c (gives_at ws (at + i) (n - i)) ≡ all) where
    pub gives_more : true ≡ same_clock (clock_of N x) c → gives_on N c (gives_at ws (at + (i + 1)) (n - (i + 1))) ≡ all
    gives_more e = let q = e ∙ ap (λ y. same_clock (clock_of N y) c) is in sym (gives_next ∙ rw (← q)) ∙ inv

    pub gives_wrong : false ≡ same_clock (clock_of N x) c → false ≡ all
    gives_wrong e = let q = e ∙ ap (λ y. same_clock (clock_of N y) c) is in sym (gives_next ∙ rw (← q)) ∙ inv

module _ (N : Node) (c : Clock) (ws : List ℕ) (at n : ℕ) where
  pub operands_ended : (i : ℕ) → n ≤ i → true ≡ operands_on N c (operands_at ws (at + i) (n - i))
  operands_ended i h = let q : n - i ≡ 0 = omega arith in rw q

  pub gives_ended : (i : ℕ) → n ≤ i → true ≡ gives_on N c (gives_at ws (at + i) (n - i))
  gives_ended i h = let q : n - i ≡ 0 = omega arith in rw q

pub give_first : (ws : List ℕ) (at n : ℕ) → 0 < n → field (get_or ws at 0) 0 6 ≡ get_or (gives_at ws at n) 0 0
give_first ws at zero h = absurd (omega arith)
give_first ws at (suc n) h = refl

-- Past the last word all places are alike.
module _ (ws : List ℕ) where
  past_alike : (a b : ℕ) → length ws ≤ a → length ws ≤ b → get_or ws a 0 ≡ get_or ws b 0
  past_alike a b h k = get_or_past ws a 0 h ∙ sym (get_or_past ws b 0 k)

  operands_past : (a b n : ℕ) → length ws ≤ a → length ws ≤ b → operands_at ws a n ≡ operands_at ws b n
  operands_past a b zero h k = refl
  operands_past a b (suc n) h k =
      ap (λ w. operand_in w ∷ operands_at ws (a + 1) n) (past_alike a b h k)
      ∙ ap (λ l. operand_in (get_or ws b 0) ∷ l) (operands_past (a + 1) (b + 1) n (omega arith) (omega arith))

  gives_past : (a b n : ℕ) → length ws ≤ a → length ws ≤ b → gives_at ws a n ≡ gives_at ws b n
  gives_past a b zero h k = refl
  gives_past a b (suc n) h k =
      ap (λ w. field w 0 6 ∷ gives_at ws (a + 1) n) (past_alike a b h k)
      ∙ ap (λ l. field (get_or ws b 0) 0 6 ∷ l) (gives_past (a + 1) (b + 1) n (omega arith) (omega arith))

  sides : (at : ℕ) → (min at (length ws) ≡ at) ⊎ ((length ws ≤ at) × (min at (length ws) ≡ length ws))
  sides at = grind arith

  operands_held : (at n : ℕ) → operands_at ws (min at (length ws)) n ≡ operands_at ws at n
  operands_held at n =
      elim (sides at) [ inl e ↦ ap (λ p. operands_at ws p n) e | inr e ↦ operands_past (min at (length ws)) at n (omega (arith, e.1)) e.0 ]

  gives_held : (at i n : ℕ) → gives_at ws (min at (length ws) + i) n ≡ gives_at ws (at + i) n
  gives_held at i n =
      elim (sides at) [ inl e ↦ ap (λ p. gives_at ws (p + i) n) e | inr e ↦ gives_past (min at (length ws) + i) (at + i) n (omega (arith, e.1)) (omega (arith, e.0)) ]

  pub call_held : (N : Node) (g at p : ℕ) (r : Bool) → p ≡ min at (length ws) → r ≡ equation_clocked N (call_at ws g p) → r ≡ equation_clocked N (call_at ws g at)
  call_held N g at p r e q =
      let G = node_at (table_of ws) g in
      q ∙ ap (λ p. equation_clocked N (call_at ws g p)) e
      ∙ ap (λ ops. equation_clocked N (call g None ops (gives_at ws (min at (length ws) + G.inputs) G.outputs))) (operands_held at G.inputs)
      ∙ ap (λ gs. equation_clocked N (call g None (operands_at ws at G.inputs) gs)) (gives_held at G.inputs G.outputs)
