-- What a described table keeps its numbers below.
use Rattle.std.proofs.Common.{◌≡◌, ℕ, zero, suc, ◌+◌, ◌<◌, ◌≤◌, eqb, List, [], ◌∷◌, ◌++◌, map, length, get_or, take, refl, ap, ◌∙◌, subst, inl, inr, arith}
use Rattle.std.specs.List.{AllByRecursion}
use Rattle.std.proofs.lemmas.List.{length-map, length-take-le, get_or-take, get_or_past}
use Rattle.std.proofs.ByRecursion.{All-get_or}
use Rattle.std.proofs.lemmas.Bool.{cases_Bool, cases_lt}
use Rattle.words.specs.declared.kinds.Word.TheVariants.{Variable as Declare}
use Rattle.words.specs.Bits.{field}
use Rattle.reader.specs.declared.outline.Outline.{Outline}
use Rattle.table.specs.Syntax.{Equation, operate, sample, merge, choose, delay, call, Table, none, node_at, variable_count, equation_at, equation_count, an_equation}
use Rattle.table.specs.Spelling.{EquationKeeps, node_place}
use Rattle.table.specs.Decoding.{table_of}
use Rattle.table.specs.Access.{Described, gives_at}
use Rattle.table.proofs.Places.{parted_within, variables_parted}
use Rattle.rules.specs.Definitions.{defined, times}

pub times_few : (x : ℕ) (l : List ℕ) → times x l ≤ length l
times_few x [] = omega arith
times_few x (y ∷ l) =
    let r = times_few x l in
    elim (cases_Bool (eqb x y)) [ inl e ↦ rw e (omega arith) | inr e ↦ rw e (omega arith) ]

defined_small : (P : Table) (v : ℕ) (E : Equation) → EquationKeeps P v E → AllByRecursion (λ x. x < v) (defined E)
defined_small P v (operate op a b x) k = (k.2, tt)
defined_small P v (sample a x) k = (k.1, tt)
defined_small P v (merge s a b x) k = (k.3, tt)
defined_small P v (choose s a b x) k = (k.3, tt)
defined_small P v (delay l a x) k = (k.2, tt)
defined_small P v (call g r ops gs) k = k.3

module _ (ws : List ℕ) (o : Outline) (d : Described ws o) where
  pub ports_few : (k : ℕ) → ((node_at (table_of ws) k).inputs ≤ 16) × ((node_at (table_of ws) k).outputs ≤ 16)
  ports_few k =
      let T = table_of ws in
      elim (cases_lt k (length T)) [
        | inl l ↦ let K = d.spells.keeps.nodes k l in (K.inputs.1, K.outputs.1)
        | inr l ↦ let e = get_or_past T k none l in (omega (arith, ap (λ N. N.inputs) e), omega (arith, ap (λ N. N.outputs) e))
      ]

  defined_few : (k v : ℕ) (E : Equation) → k ≤ length (table_of ws) → EquationKeeps (take k (table_of ws)) v E → length (defined E) ≤ 16
  defined_few k v (operate op a b x) h q = omega arith
  defined_few k v (sample a x) h q = omega arith
  defined_few k v (merge s a b x) h q = omega arith
  defined_few k v (choose s a b x) h q = omega arith
  defined_few k v (delay l a x) h q = omega arith
  defined_few k v (call g r ops gs) h q =
      let T = table_of ws in
      let lt : g < k = omega (arith, q.0, length-take-le k T h) in
      let same = ap (λ N. N.outputs) (get_or-take k T g none lt) in
      omega (arith, q.5, same, (ports_few g).1)

  module _ (k : ℕ) (h : k < length (table_of ws)) where
    equation_keeps : (e : ℕ) → e < equation_count (node_at (table_of ws) k)
        → EquationKeeps (take k (table_of ws)) (variable_count (node_at (table_of ws) k)) (equation_at (node_at (table_of ws) k) e)
    equation_keeps e l =
        let T = table_of ws in
        let N = node_at T k in
        All-get_or (EquationKeeps (take k T) (variable_count N)) N.equations e an_equation l (d.spells.keeps.nodes k h).equations

    pub few_defined : (e : ℕ) → e < equation_count (node_at (table_of ws) k) → (x : ℕ) → times x (defined (equation_at (node_at (table_of ws) k) e)) ≤ 16
    few_defined e l x =
        let E = equation_at (node_at (table_of ws) k) e in
        omega (arith, times_few x (defined E), defined_few k _ E (omega arith) (equation_keeps e l))

    pub variables_few : variable_count (node_at (table_of ws) k) ≤ 64
    variables_few = (d.spells.keeps.nodes k h).count.1

    pub equations_few : equation_count (node_at (table_of ws) k) ≤ 64
    equations_few = (d.spells.keeps.nodes k h).equation_count

    -- the one variable that an equation defines
    pub one_small : (e : ℕ) → e < equation_count (node_at (table_of ws) k) → (x : ℕ) → defined (equation_at (node_at (table_of ws) k) e) ≡ x ∷ [] → x < 64
    one_small e l x q =
        let N = node_at (table_of ws) k in
        let P : List ℕ → Type 0 = λ xs. AllByRecursion (λ y. y < variable_count N) xs in
        let a = subst P q (defined_small _ _ (equation_at N e) (equation_keeps e l)) in
        omega (arith, a.0, variables_few)

    -- a VARIABLE stands where the outline says, and within the words
    pub variable_place_lem : get_or o.starts k 0 ≡ node_place (take k (table_of ws))
    variable_place_lem = (d.spells.outlines.each k h).start

    pub place_small : (x : ℕ) → x < variable_count (node_at (table_of ws) k) → get_or o.starts k 0 + 1 + x < 16384
    place_small x l =
        let vs = (node_at (table_of ws) k).variables in
        let t = parted_within _ (map Declare vs) _ (variables_parted d.own (table_of ws) k h) in
        omega (arith, t, length-map vs Declare, ap length d.spells.words, d.spells.short, variable_place_lem)

-- one give more
gives_push : (ws : List ℕ) (at n : ℕ) → gives_at ws at (suc n) ≡ gives_at ws at n ++ field (get_or ws (at + n) 0) 0 6 ∷ []
gives_push ws at zero = let e : at ≡ at + 0 = omega arith in ap (λ p. field (get_or ws p 0) 0 6 ∷ []) e
gives_push ws at (suc n) =
    let e : at + 1 + n ≡ at + suc n = omega arith in
    ap (λ l. field (get_or ws at 0) 0 6 ∷ l) (gives_push ws (at + 1) n ∙ ap (λ p. gives_at ws (at + 1) n ++ field (get_or ws p 0) 0 6 ∷ []) e)

times_push : (x y : ℕ) (l : List ℕ) → times x (l ++ y ∷ []) ≡ times x l + times x (y ∷ [])
times_push x y [] = omega arith
times_push x y (z ∷ l) = omega (arith, times_push x y l)

pub gives_more : (ws : List ℕ) (at n x : ℕ) → times x (gives_at ws at (n + 1)) ≡ times x (gives_at ws at n) + times x (field (get_or ws (at + n) 0) 0 6 ∷ [])
gives_more ws at n x =
    let e : n + 1 ≡ suc n = omega arith in
    ap (λ m. times x (gives_at ws at m)) e ∙ ap (times x) (gives_push ws at n) ∙ times_push x (field (get_or ws (at + n) 0) 0 6) (gives_at ws at n)

-- past the end of the words all places read alike
pub gives_past : (ws : List ℕ) (n a b : ℕ) → length ws ≤ a → length ws ≤ b → gives_at ws a n ≡ gives_at ws b n
gives_past ws zero a b h l = refl
gives_past ws (suc n) a b h l =
    let p = get_or_past ws a 0 h in
    let q = get_or_past ws b 0 l in
    let r = gives_past ws n (a + 1) (b + 1) (omega arith) (omega arith) in
    rw (p, q, r)
