-- A rank of a node's variables that falls from what an equation defines to what it uses.
use Rattle.std.proofs.Common.{◌≡◌, ℕ, zero, suc, ◌+◌, ◌*◌, ◌<◌, ◌≤◌, Bool, true, false, cond, not, ◌&&◌, eqb, ltb, leb, List, [], sym, refl, ap, ◌∙◌, subst, inl, inr, arith}
use Rattle.std.proofs.lemmas.Bool.{eqb-true, and_parts, and_from, cases_Bool, eqb-false, both_ways, ltb-true, lt-ltb, le-leb, leb-true, lt-leb, or_left, or_right}
use Rattle.words.specs.declared.kinds.Clock.{Clock}
use Rattle.words.specs.declared.kinds.Clock.TheVariants.{Base, On}
use Rattle.opset.specs.Meaning.{Meaning}
use Rattle.table.specs.Syntax.{Equation, operate, sample, merge, choose, delay, call, Node, Table, variable_count}
use Rattle.table.specs.Spelling.{NodeKeeps}
use Rattle.rules.specs.Clocks.{clock_of, reaches, reaches_by}
use Rattle.rules.specs.Definitions.{defined, is_in, is_delay}
use Rattle.schedule.specs.Reads.{chain_by, chain_to, chain, reads, feeds, equation_at, before as precedes}
use Rattle.admission.specs.Keeps.{equation_count, KeepsNode}
use Rattle.streams.specs.Streams.{count_before}
use Rattle.streams.specs.Machine.{definer, place_of, rounds}
use Rattle.streams.proofs.Places.{in_head, in_one, meets_from, follows_place, definer_bound}
use Rattle.streams.proofs.Uses.{sampler_of, uses, covered}
use Rattle.streams.proofs.Facts.{reach, clock_reach, definer_is}

-- how many of the numbers below n are among rs
count_most : (rs : ℕ → Bool) (n : ℕ) → count_before rs n ≤ n
count_most rs zero = omega arith
count_most rs (suc n) = go (rs n) (count_most rs n)
  where
    go : (b : Bool) → count_before rs n ≤ n → cond b (suc (count_before rs n)) (count_before rs n) ≤ suc n
    go true h = omega arith
    go false h = omega arith

count_more : (rs ss : ℕ → Bool) → ((k : ℕ) → rs k ≡ true → ss k ≡ true) → (n : ℕ) → count_before rs n ≤ count_before ss n
count_more rs ss h zero = omega arith
count_more rs ss h (suc n) = go (rs n) (ss n) (h n) (count_more rs ss h n)
  where
    go : (a b : Bool) → (a ≡ true → b ≡ true) → count_before rs n ≤ count_before ss n → cond a (suc (count_before rs n)) (count_before rs n) ≤ cond b (suc (count_before ss n)) (count_before ss n)
    go true true h l = omega arith
    go true false h l = absurd (both_ways false refl (h refl))
    go false true h l = omega arith
    go false false h l = l

count_fewer : (rs ss : ℕ → Bool) → ((k : ℕ) → rs k ≡ true → ss k ≡ true) → (j : ℕ) → rs j ≡ false → ss j ≡ true
    → (n : ℕ) → j < n → count_before rs n < count_before ss n
count_fewer rs ss h j rj sj zero l = absurd (omega arith)
count_fewer rs ss h j rj sj (suc n) l =
    elim (cases_Bool (eqb j n)) [
      | inl e ↦
          let q : j ≡ n = eqb-true j n e in
          let a : rs n ≡ false = ap rs (sym q) ∙ rj in
          let b : ss n ≡ true = ap ss (sym q) ∙ sj in
          let c = count_more rs ss h n in
          rw (a, b) (omega arith)
      | inr e ↦ go (rs n) (ss n) (h n) (count_fewer rs ss h j rj sj n (omega (arith, eqb-false j n e)))
    ]
  where
    go : (a b : Bool) → (a ≡ true → b ≡ true) → count_before rs n < count_before ss n → cond a (suc (count_before rs n)) (count_before rs n) < cond b (suc (count_before ss n)) (count_before ss n)
    go true true h l = omega arith
    go true false h l = absurd (both_ways false refl (h refl))
    go false true h l = omega arith
    go false false h l = l

-- what a rank does: every use is lower, and all are below the rounds of the machine
pub record Ranked (N : Node) (rank : ℕ → ℕ) : Type 0 where
  pub falls : (j y z : ℕ) → j < equation_count N → is_in y (defined (equation_at N j)) ≡ true → is_in z (uses N (equation_at N j)) ≡ true → rank z < rank y
  pub below : (y : ℕ) → y < variable_count N → rank y < rounds N

module _ (N : Node) (os : List ℕ) where
  -- equation j's turn, from 1 up
  abbrev turn : ℕ → ℕ
  turn j = count_before (λ i. leb (place_of i os) (place_of j os)) (equation_count N)

  abbrev is_defined : ℕ → Bool
  is_defined x = ltb (definer N x) (equation_count N)

  abbrev is_delayed : ℕ → Bool
  is_delayed x = is_defined x && is_delay (equation_at N (definer N x))

  -- the turn of the equation that computes a variable: 0 for inputs and delays
  abbrev height : ℕ → ℕ
  height x = cond (is_defined x && not (is_delay (equation_at N (definer N x)))) (turn (definer N x)) 0

  abbrev rank_by : (ℕ → ℕ) → Clock → ℕ
  rank_by k Base = 0
  rank_by k (On s b) = suc (k s)

  abbrev rank_to : ℕ → ℕ → ℕ
  rank_to zero x = cond (is_delayed x) 0 (9 * height x)
  rank_to (suc d) x = cond (is_delayed x) (rank_by (rank_to d) (clock_of N x)) (9 * height x)

  abbrev pub rank_of : ℕ → ℕ
  rank_of x = rank_to 8 x

  rank_same : (d x : ℕ) → reaches d N x ≡ true → rank_to (suc d) x ≡ rank_to d x
  rank_same zero x h = ap (λ r. cond (is_delayed x) r (9 * height x)) (go (clock_of N x) h)
    where
      go : (c : Clock) → reaches_by (λ y. false) c ≡ true → rank_by (rank_to 0) c ≡ 0
      go Base h = refl
      go (On s b) h = absurd (both_ways false refl h)
  rank_same (suc d) x h = ap (λ r. cond (is_delayed x) r (9 * height x)) (go (clock_of N x) h (rank_same d))
    where
      go : (c : Clock) → reaches_by (reaches d N) c ≡ true → ((s : ℕ) → reaches d N s ≡ true → rank_to (suc d) s ≡ rank_to d s) → rank_by (rank_to (suc d)) c ≡ rank_by (rank_to d) c
      go Base h more = refl
      go (On s b) h more = ap suc (more s h)

  either_low : (b : Bool) (p q n : ℕ) → p ≤ n → q ≤ n → cond b p q ≤ n
  either_low true p q n h k = h
  either_low false p q n h k = k

  -- a variable ranks low whose computation and whose chain's come early
  rank_low : (P d x : ℕ) → reaches d N x ≡ true → height x ≤ P → ((w : ℕ) → is_in w (chain_to d N x) ≡ true → height w ≤ P) → rank_to d x ≤ d + 9 * P
  rank_low P zero x r h k = either_low (is_delayed x) 0 (9 * height x) (0 + 9 * P) (omega arith) (omega arith)
  rank_low P (suc d) x r h k =
      either_low (is_delayed x) (rank_by (rank_to d) (clock_of N x)) (9 * height x) (suc d + 9 * P) (go (clock_of N x) r k (rank_low P d)) (omega arith)
    where
      go : (c : Clock) → reaches_by (reaches d N) c ≡ true → ((w : ℕ) → is_in w (chain_by (chain_to d N) c) ≡ true → height w ≤ P)
          → ((s : ℕ) → reaches d N s ≡ true → height s ≤ P → ((w : ℕ) → is_in w (chain_to d N s) ≡ true → height w ≤ P) → rank_to d s ≤ d + 9 * P)
          → rank_by (rank_to d) c ≤ suc d + 9 * P
      go Base r k more = omega arith
      go (On s b) r k more =
          let q : rank_to d s ≤ d + 9 * P =
          more s r (k s (in_head s (chain_to d N s))) (λ w i. k w (or_right (eqb w s) (is_in w (chain_to d N s)) i)) in
          omega arith

module _ {V : Type 0} (m : Meaning V) (earlier : Table) (N : Node) (L : NodeKeeps earlier N) (K : KeepsNode m earlier N) where
  abbrev os : List ℕ
  os = K.ordered.0

  -- what comes before has an earlier turn
  turn_falls : (i j : ℕ) → i < equation_count N → j < equation_count N → precedes N i j ≡ true → turn N os i < turn N os j
  turn_falls i j il jl b =
      elim (follows_place (precedes N) (equation_count N) [] os i j K.ordered.1.turns il (K.ordered.1.all j jl) b) [
        | inl h ↦ absurd (both_ways false refl h)
        | inr l ↦ count_fewer (λ k. leb (place_of k os) (place_of i os)) (λ k. leb (place_of k os) (place_of j os))
            (λ k h. le-leb (place_of k os) (place_of j os) (omega (arith, leb-true (place_of k os) (place_of i os) h)))
            j (lt-leb (place_of j os) (place_of i os) l) (le-leb (place_of j os) (place_of j os) (omega arith)) (equation_count N) jl
      ]

  -- what an equation reads is computed before
  height_low : (j w : ℕ) → j < equation_count N → is_in w (reads N (equation_at N j)) ≡ true → suc (height N os w) ≤ turn N os j
  height_low j w jl i = go (is_defined N os w && not (is_delay (equation_at N (definer N w)))) refl
    where
      first : 1 ≤ turn N os j
      first =
          let q = count_fewer (λ k. false) (λ k. leb (place_of k os) (place_of j os)) (λ k h. absurd (both_ways false refl h))
          j refl (le-leb (place_of j os) (place_of j os) (omega arith)) (equation_count N) jl in
          omega arith

      go : (b : Bool) → (is_defined N os w && not (is_delay (equation_at N (definer N w)))) ≡ b → suc (cond b (turn N os (definer N w)) 0) ≤ turn N os j
      go true h =
          let p = and_parts (is_defined N os w) (not (is_delay (equation_at N (definer N w)))) h in
          let l = ltb-true (definer N w) (equation_count N) p.0 in
          let f = meets_from w (defined (equation_at N (definer N w))) (reads N (equation_at N j)) (definer_bound w N.equations l) i in
          turn_falls (definer N w) j l jl
          (or_left _ _ (and_from (not (is_delay (equation_at N (definer N w)))) (feeds N (equation_at N (definer N w)) (equation_at N j)) p.1 f))
      go false h = first

  -- the rank of what an equation defines
  rank_defined : (j y : ℕ) → j < equation_count N → is_in y (defined (equation_at N j)) ≡ true → (b : Bool) → is_delay (equation_at N j) ≡ b
      → rank_of N os y ≡ cond b (rank_by N os (rank_to N os 7) (clock_of N y)) (9 * turn N os j)
  rank_defined j y jl i b q =
      let d : definer N y ≡ j = definer_is m earlier N L K j y jl i in
      let t : ltb j (equation_count N) ≡ true = lt-ltb j (equation_count N) jl in
      let F : ℕ → ℕ = λ k.
      cond (ltb k (equation_count N) && is_delay (equation_at N k)) (rank_by N os (rank_to N os 7) (clock_of N y))
      (9 * cond (ltb k (equation_count N) && not (is_delay (equation_at N k))) (turn N os k) 0) in
      let G : Bool → Bool → ℕ = λ u v.
      cond (u && v) (rank_by N os (rank_to N os 7) (clock_of N y)) (9 * cond (u && not v) (turn N os j) 0) in
      ap F d ∙ ap (λ u. G u (is_delay (equation_at N j))) t ∙ ap (G true) q ∙ last b
    where
      last : (b : Bool) → cond b (rank_by N os (rank_to N os 7) (clock_of N y)) (9 * cond (not b) (turn N os j) 0)
          ≡ cond b (rank_by N os (rank_to N os 7) (clock_of N y)) (9 * turn N os j)
      last true = refl
      last false = refl

  rank_use : (j z : ℕ) → j < equation_count N → is_delay (equation_at N j) ≡ false → is_in z (uses N (equation_at N j)) ≡ true → rank_of N os z < 9 * turn N os j
  rank_use j z jl nd i =
      let c = covered N (equation_at N j) nd (K.clocked_equations j jl) (clock_reach m earlier N L K (equation_at N j)) z i in
      let h = height_low j z jl c.0 in
      go (turn N os j) h (λ w k. height_low j w jl (c.1 w k))
    where
      go : (t : ℕ) → suc (height N os z) ≤ t → ((w : ℕ) → is_in w (chain N z) ≡ true → suc (height N os w) ≤ t) → rank_of N os z < 9 * t
      go zero h k = absurd (omega arith)
      go (suc P) h k =
          let q = rank_low N os P 8 z (reach m earlier N L K z) (omega arith) (λ w i. omega (arith, k w i)) in
          omega arith

  -- a delay ranks just above its sampler
  rank_delay : (y z : ℕ) (e : Equation) → is_delay e ≡ true
      → is_in y (defined e) ≡ true → is_in z (uses N e) ≡ true → rank_of N os z < rank_by N os (rank_to N os 7) (clock_of N y)
  rank_delay y z (operate op a b x) d i u = absurd (both_ways false refl d)
  rank_delay y z (sample a x) d i u = absurd (both_ways false refl d)
  rank_delay y z (merge s a b x) d i u = absurd (both_ways false refl d)
  rank_delay y z (choose s a b x) d i u = absurd (both_ways false refl d)
  rank_delay y z (delay l a x) d i u =
      let e : y ≡ x = in_one y x i in
      subst (λ v. rank_of N os z < rank_by N os (rank_to N os 7) (clock_of N v)) (sym e) (go (clock_of N x) (reach m earlier N L K x) u)
    where
      go : (c : Clock) → reaches_by (reaches 7 N) c ≡ true → is_in z (sampler_of c) ≡ true → rank_of N os z < rank_by N os (rank_to N os 7) c
      go Base r u = absurd (both_ways false refl u)
      go (On s b) r u =
          let e : z ≡ s = in_one z s u in
          let t : rank_of N os s ≡ rank_to N os 7 s = rank_same N os 7 s r in
          let w : rank_of N os z ≡ rank_to N os 7 s = ap (rank_of N os) e ∙ t in
          omega arith
  rank_delay y z (call g r ops gs) d i u = absurd (both_ways false refl d)

  pub ranked : Ranked N (rank_of N os)
  ranked = record {
    falls = λ j y z jl i u. fall j y z jl i u (is_delay (equation_at N j)) refl;
    below = λ y yl.
        let q = rank_low N os (equation_count N) 8 y (reach m earlier N L K y) (most y) (λ w i. most w) in
        omega arith;
  }
    where
      most : (w : ℕ) → height N os w ≤ equation_count N
      most w = either_low N os (is_defined N os w && not (is_delay (equation_at N (definer N w)))) (turn N os (definer N w)) 0 (equation_count N)
          (count_most (λ i. leb (place_of i os) (place_of (definer N w) os)) (equation_count N)) (omega arith)

      fall : (j y z : ℕ) → j < equation_count N → is_in y (defined (equation_at N j)) ≡ true → is_in z (uses N (equation_at N j)) ≡ true
          → (b : Bool) → is_delay (equation_at N j) ≡ b → rank_of N os z < rank_of N os y
      fall j y z jl i u true q =
          subst (λ r. rank_of N os z < r) (sym (rank_defined j y jl i true q)) (rank_delay y z (equation_at N j) q i u)
      fall j y z jl i u false q =
          subst (λ r. rank_of N os z < r) (sym (rank_defined j y jl i false q)) (rank_use j z jl q u)
