-- What an equation uses at an instant, and that it reads all of that, with its chains.
use Rattle.std.proofs.Common.{◌≡◌, ℕ, zero, suc, Bool, true, false, ◌&&◌, eqb, List, [], ◌∷◌, ◌++◌, Some, None, Option, sym, refl, ap, subst, inl, inr}
use mathlib.Core.Bool.{beq}
use Rattle.std.proofs.lemmas.Bool.{eqb-true, and_parts, or_cases, or_left, or_right, both_ways}
use Rattle.words.specs.declared.kinds.Clock.{Clock}
use Rattle.words.specs.declared.kinds.Clock.TheVariants.{Base, On}
use Rattle.words.specs.declared.kinds.Operand.{Operand}
use Rattle.words.specs.declared.kinds.Operand.TheVariants.{Take, Literal as Constant}
use Rattle.table.specs.Syntax.{Equation, operate, sample, merge, choose, delay, call, Node}
use Rattle.rules.specs.Clocks.{clock_of, same_clock, reaches, reaches_by, operand_on, second_on, operands_on, sample_on, call_clock, equation_clocked}
use Rattle.rules.specs.Definitions.{is_delay, is_in}
use Rattle.schedule.specs.Reads.{chain_by, chain_to, chain, operand_reads, second_reads, operands_read, restart_reads, reads}
use Rattle.streams.proofs.Places.{in_left, in_right, in_cases, in_head, in_one}

abbrev pub sampler_of : Clock → List ℕ
sampler_of Base = []
sampler_of (On s sense) = s ∷ []

abbrev pub restart_uses : Option ℕ → List ℕ
restart_uses None = []
restart_uses (Some r) = r ∷ []

-- the variables of an instant that decide those that an equation defines: a DELAY's operand is not among them
abbrev pub uses : Node → Equation → List ℕ
uses N (operate op a b x) = operand_reads a ++ (second_reads b ++ sampler_of (clock_of N x))
uses N (sample a x) = operand_reads a ++ sampler_of (clock_of N x)
uses N (merge s a b x) = s ∷ (operand_reads a ++ (operand_reads b ++ sampler_of (clock_of N x)))
uses N (choose s a b x) = s ∷ (operand_reads a ++ (operand_reads b ++ sampler_of (clock_of N x)))
uses N (delay l a x) = sampler_of (clock_of N x)
uses N (call g r ops gs) = operands_read ops ++ (restart_uses r ++ sampler_of (call_clock N gs))

-- the clock of an equation
abbrev pub equation_clock : Node → Equation → Clock
equation_clock N (operate op a b x) = clock_of N x
equation_clock N (sample a x) = clock_of N x
equation_clock N (merge s a b x) = clock_of N x
equation_clock N (choose s a b x) = clock_of N x
equation_clock N (delay l a x) = clock_of N x
equation_clock N (call g r ops gs) = call_clock N gs

beq_true : (s t : Bool) → beq s t ≡ true → s ≡ t
beq_true true true h = refl
beq_true true false h = sym h
beq_true false true h = h
beq_true false false h = refl

pub same_clock_lem : (c d : Clock) → same_clock c d ≡ true → c ≡ d
same_clock_lem Base Base h = refl
same_clock_lem Base (On y t) h = absurd (both_ways false refl h)
same_clock_lem (On x s) Base h = absurd (both_ways false refl h)
same_clock_lem (On x s) (On y t) h =
    let p = and_parts (eqb x y) (beq s t) h in
    let e = eqb-true x y p.0 in
    let f = beq_true s t p.1 in
    cc

module _ (N : Node) where
  -- an operand's variable has the operand's clock
  pub operand_clock : (c : Clock) (a : Operand) → operand_on N c a ≡ true → (z : ℕ) → is_in z (operand_reads a) ≡ true → clock_of N z ≡ c
  operand_clock c (Take x) h z i = rw (in_one z x i) (same_clock_lem (clock_of N x) c h)
  operand_clock c (Constant l) h z i = absurd (both_ways false refl i)

  pub second_clock : (c : Clock) (b : Option Operand) → second_on N c b ≡ true → (z : ℕ) → is_in z (second_reads b) ≡ true → clock_of N z ≡ c
  second_clock c None h z i = absurd (both_ways false refl i)
  second_clock c (Some b) h z i = operand_clock c b h z i

  pub operands_clock : (c : Clock) (l : List Operand) → operands_on N c l ≡ true → (z : ℕ) → is_in z (operands_read l) ≡ true → clock_of N z ≡ c
  operands_clock c [] h z i = absurd (both_ways false refl i)
  operands_clock c (a ∷ l) h z i =
      let p = and_parts (operand_on N c a) (operands_on N c l) h in
      elim (in_cases z (operand_reads a) (operands_read l) i) [ inl j ↦ operand_clock c a p.0 z j | inr j ↦ operands_clock c l p.1 z j ]

  -- chains
  chain_grows : (w : ℕ) (d x : ℕ) → is_in w (chain_to d N x) ≡ true → is_in w (chain_to (suc d) N x) ≡ true
  chain_grows w zero x h = absurd (both_ways false refl h)
  chain_grows w (suc d) x h = go (clock_of N x) h (chain_grows w d)
    where
      go : (c : Clock) → is_in w (chain_by (chain_to d N) c) ≡ true → ((s : ℕ) → is_in w (chain_to d N s) ≡ true → is_in w (chain_to (suc d) N s) ≡ true)
          → is_in w (chain_by (chain_to (suc d) N) c) ≡ true
      go Base h more = h
      go (On s b) h more =
          elim (or_cases (eqb w s) (is_in w (chain_to d N s)) h) [
            | inl e ↦ or_left (eqb w s) (is_in w (chain_to (suc d) N s)) e
            | inr i ↦ or_right (eqb w s) (is_in w (chain_to (suc d) N s)) (more s i)
          ]

  chain_ends : (d x : ℕ) → reaches d N x ≡ true → chain_to (suc d) N x ≡ chain_to d N x
  chain_ends zero x h = go (clock_of N x) h
    where
      go : (c : Clock) → reaches_by (λ y. false) c ≡ true → chain_by (chain_to 0 N) c ≡ []
      go Base h = refl
      go (On s b) h = absurd (both_ways false refl h)
  chain_ends (suc d) x h = go (clock_of N x) h (chain_ends d)
    where
      go : (c : Clock) → reaches_by (reaches d N) c ≡ true → ((s : ℕ) → reaches d N s ≡ true → chain_to (suc d) N s ≡ chain_to d N s)
          → chain_by (chain_to (suc d) N) c ≡ chain_by (chain_to d N) c
      go Base h more = refl
      go (On s b) h more = ap (λ l. s ∷ l) (more s h)

  -- l has a variable, and its chain
  abbrev pub Covers : List ℕ → ℕ → Type 0
  Covers l z = (is_in z l ≡ true) × ((w : ℕ) → is_in w (chain N z) ≡ true → is_in w l ≡ true)

  abbrev clock_chain : Clock → List ℕ
  clock_chain c = chain_by (chain_to 7 N) c

  abbrev Has : List ℕ → Clock → Type 0
  Has l c = (w : ℕ) → is_in w (clock_chain c) ≡ true → is_in w l ≡ true

  -- a variable of l that has a clock whose chain l has
  on_clock : (l : List ℕ) (c : Clock) → Has l c → (z : ℕ) → is_in z l ≡ true → clock_of N z ≡ c → Covers l z
  on_clock l c has z i e = (i, λ w j. has w (subst (λ d. is_in w (clock_chain d) ≡ true) e j))

  -- the sampler of a clock whose chain l has
  sampler_covered : (l : List ℕ) (c : Clock) → Has l c → reaches_by (reaches 7 N) c ≡ true → (z : ℕ) → is_in z (sampler_of c) ≡ true → Covers l z
  sampler_covered l Base has r z i = absurd (both_ways false refl i)
  sampler_covered l (On s b) has r z i =
      let e : z ≡ s = in_one z s i in
      rw e (
        has s (in_head s (chain_to 7 N s)),
        λ w j. has w (or_right (eqb w s) (is_in w (chain_to 7 N s)) (subst (λ k. is_in w k ≡ true) (chain_ends 7 s r) j)),
      )

  -- SAMPLE's operand has the sampler's clock
  sample_covered : (l : List ℕ) (a : Operand) (c : Clock) → Has l c → reaches_by (reaches 7 N) c ≡ true → sample_on N a c ≡ true
      → (z : ℕ) → is_in z l ≡ true → is_in z (operand_reads a) ≡ true → Covers l z
  sample_covered l a Base has r h z m i = absurd (both_ways false refl h)
  sample_covered l a (On s b) has r h z m i =
      on_clock l (clock_of N s) (sampler_covered l (On s b) has r s (in_head s [])).1 z m (operand_clock (clock_of N s) a h z i)

  -- MERGE's operands are sampled by the selector
  merge_covered : (l : List ℕ) (a : Operand) (s : ℕ) (b : Bool) (c : Clock) → Has l c → is_in s l ≡ true → clock_of N s ≡ c → operand_on N (On s b) a ≡ true
      → (z : ℕ) → is_in z l ≡ true → is_in z (operand_reads a) ≡ true → Covers l z
  merge_covered l a s b c has si e h z m i =
      on_clock l (On s b)
      (λ w j. elim (or_cases (eqb w s) (is_in w (chain_to 7 N s)) j) [
        | inl q ↦ rw (eqb-true w s q) si
        | inr q ↦ (on_clock l c has s si e).1 w (chain_grows w 7 s q)
      ])
      z m (operand_clock (On s b) a h z i)

  -- what an equation that is no DELAY uses it reads, with its chain
  pub covered : (e : Equation) → is_delay e ≡ false → equation_clocked N e ≡ true → reaches_by (reaches 7 N) (equation_clock N e) ≡ true
      → (z : ℕ) → is_in z (uses N e) ≡ true → Covers (reads N e) z
  covered (operate op a b x) nd h r z i =
      let p = and_parts (operand_on N (clock_of N x) a) (second_on N (clock_of N x) b) h in
      let l : List ℕ = reads N (operate op a b x) in
      let has : Has l (clock_of N x) = λ w j. in_right w (operand_reads a) _ (in_right w (second_reads b) _ j) in
      elim (in_cases z (operand_reads a) (second_reads b ++ sampler_of (clock_of N x)) i) [
        | inl j ↦ on_clock l (clock_of N x) has z (in_left z (operand_reads a) _ j) (operand_clock (clock_of N x) a p.0 z j)
        | inr k ↦ elim (in_cases z (second_reads b) (sampler_of (clock_of N x)) k) [
          | inl j ↦ on_clock l (clock_of N x) has z (in_right z (operand_reads a) _ (in_left z (second_reads b) _ j)) (second_clock (clock_of N x) b p.1 z j)
          | inr j ↦ sampler_covered l (clock_of N x) has r z j
        ]
      ]
  covered (sample a x) nd h r z i =
      let l : List ℕ = reads N (sample a x) in
      let has : Has l (clock_of N x) = λ w j. in_right w (operand_reads a) _ j in
      elim (in_cases z (operand_reads a) (sampler_of (clock_of N x)) i) [
        | inl j ↦ sample_covered l a (clock_of N x) has r h z (in_left z (operand_reads a) _ j) j
        | inr j ↦ sampler_covered l (clock_of N x) has r z j
      ]
  covered (merge s a b x) nd h r z i =
      let p = and_parts (same_clock (clock_of N s) (clock_of N x)) (operand_on N (On s true) a && operand_on N (On s false) b) h in
      let q = and_parts (operand_on N (On s true) a) (operand_on N (On s false) b) p.1 in
      let l : List ℕ = reads N (merge s a b x) in
      let c : clock_of N s ≡ clock_of N x = same_clock_lem (clock_of N s) (clock_of N x) p.0 in
      let si : is_in s l ≡ true = in_head s _ in
      let tail : (w : ℕ) → is_in w (operand_reads a ++ (operand_reads b ++ chain N x)) ≡ true → is_in w l ≡ true = λ w j. or_right (eqb w s) _ j in
      let has : Has l (clock_of N x) = λ w j. tail w (in_right w (operand_reads a) _ (in_right w (operand_reads b) _ j)) in
      elim (or_cases (eqb z s) (is_in z (operand_reads a ++ (operand_reads b ++ sampler_of (clock_of N x)))) i) [
        | inl j ↦ subst (λ y. Covers l y) (sym (eqb-true z s j)) (on_clock l (clock_of N x) has s si c)
        | inr t ↦ elim (in_cases z (operand_reads a) (operand_reads b ++ sampler_of (clock_of N x)) t) [
          | inl j ↦ merge_covered l a s true (clock_of N x) has si c q.0 z (tail z (in_left z (operand_reads a) _ j)) j
          | inr k ↦ elim (in_cases z (operand_reads b) (sampler_of (clock_of N x)) k) [
            | inl j ↦ merge_covered l b s false (clock_of N x) has si c q.1 z (tail z (in_right z (operand_reads a) _ (in_left z (operand_reads b) _ j))) j
            | inr j ↦ sampler_covered l (clock_of N x) has r z j
          ]
        ]
      ]
  covered (choose s a b x) nd h r z i =
      let p = and_parts (same_clock (clock_of N s) (clock_of N x)) (operand_on N (clock_of N x) a && operand_on N (clock_of N x) b) h in
      let q = and_parts (operand_on N (clock_of N x) a) (operand_on N (clock_of N x) b) p.1 in
      let l : List ℕ = reads N (choose s a b x) in
      let tail : (w : ℕ) → is_in w (operand_reads a ++ (operand_reads b ++ chain N x)) ≡ true → is_in w l ≡ true = λ w j. or_right (eqb w s) _ j in
      let has : Has l (clock_of N x) = λ w j. tail w (in_right w (operand_reads a) _ (in_right w (operand_reads b) _ j)) in
      elim (or_cases (eqb z s) (is_in z (operand_reads a ++ (operand_reads b ++ sampler_of (clock_of N x)))) i) [
        | inl j ↦ subst (λ y. Covers l y) (sym (eqb-true z s j)) (on_clock l (clock_of N x) has s (in_head s _) (same_clock_lem (clock_of N s) (clock_of N x) p.0))
        | inr t ↦ elim (in_cases z (operand_reads a) (operand_reads b ++ sampler_of (clock_of N x)) t) [
          | inl j ↦ on_clock l (clock_of N x) has z (tail z (in_left z (operand_reads a) _ j)) (operand_clock (clock_of N x) a q.0 z j)
          | inr k ↦ elim (in_cases z (operand_reads b) (sampler_of (clock_of N x)) k) [
            | inl j ↦ on_clock l (clock_of N x) has z (tail z (in_right z (operand_reads a) _ (in_left z (operand_reads b) _ j))) (operand_clock (clock_of N x) b q.1 z j)
            | inr j ↦ sampler_covered l (clock_of N x) has r z j
          ]
        ]
      ]
  covered (delay l a x) nd h r z i = absurd (both_ways true nd refl)
  covered (call g r ops gs) nd h re z i =
      let c : Clock = call_clock N gs in
      let p = and_parts (operands_on N c ops) _ h in
      let l : List ℕ = reads N (call g r ops gs) in
      let has : Has l c = λ w j. in_right w (operands_read ops) _ (in_right w (restart_reads N r) _ j) in
      elim (in_cases z (operands_read ops) (restart_uses r ++ sampler_of c) i) [
        | inl j ↦ on_clock l c has z (in_left z (operands_read ops) _ j) (operands_clock c ops p.0 z j)
        | inr k ↦ elim (in_cases z (restart_uses r) (sampler_of c) k) [
          | inl j ↦ let q = of_restart r z j in (
            in_right z (operands_read ops) _ (in_left z (restart_reads N r) _ q.0),
            λ w m. in_right w (operands_read ops) _ (in_left w (restart_reads N r) _ (q.1 w m)),
          )
          | inr j ↦ sampler_covered l c has re z j
        ]
      ]
    where
      of_restart : (r : Option ℕ) (z : ℕ) → is_in z (restart_uses r) ≡ true → Covers (restart_reads N r) z
      of_restart None z i = absurd (both_ways false refl i)
      of_restart (Some r) z i =
          subst (λ y. Covers (restart_reads N (Some r)) y) (sym (in_one z r i))
          (in_head r (chain N r), λ w m. or_right (eqb w r) (is_in w (chain N r)) m)
