-- After the machine's rounds each variable is as the row or its equation says.
use Rattle.std.proofs.Common.{◌≡◌, ℕ, zero, suc, ◌+◌, ◌<◌, Bool, true, false, cond, ltb, List, is_some, Some, None, Option, sym, refl, ap, ◌∙◌, ap₂, inl, inr, arith}
use Rattle.std.proofs.lemmas.Bool.{cases_Bool, lt-ltb}
use Rattle.words.specs.declared.kinds.Clock.{Clock}
use Rattle.words.specs.declared.kinds.Clock.TheVariants.{Base, On}
use Rattle.words.specs.declared.kinds.Operand.{Operand}
use Rattle.opset.specs.Meaning.{Meaning}
use Rattle.table.specs.Syntax.{Equation, operate, sample, merge, choose, delay, call, Node, Table, node_at, variable_count}
use Rattle.table.specs.Spelling.{NodeKeeps}
use Rattle.rules.specs.Clocks.{clock_of, call_clock}
use Rattle.rules.specs.Definitions.{defined, is_in}
use Rattle.schedule.specs.Reads.{equation_at}
use Rattle.admission.specs.Keeps.{equation_count, KeepsNode}
use Rattle.streams.specs.Streams.{Env, only_if, entry, holds, values_of, restarted, handed}
use Rattle.streams.specs.Machine.{Tree, delays, instances, Machine, definer, rounds, place_of, given, given_at, better, guess, shown, machine_of, next_delay, next_tree}
use Rattle.streams.proofs.Facts.{uses_in, defines_in, definer_is, no_input, has_definer}
use Rattle.streams.proofs.Rank.{Ranked}
use Rattle.streams.proofs.Same.{given_same}

-- an idle row leaves the memory and shows nothing
pub record Idles {V : Type 0} (c : Machine V) : Type 0 where
  pub next : (M : Tree V) → c.next M None ≡ M
  pub shows : (M : Tree V) (y : ℕ) → c.shows M None y ≡ None

no_clock : {V : Type 0} (m : Meaning V) (c : Clock) → holds m false (λ y. None) c ≡ false
no_clock m Base = refl
no_clock m (On s b) = refl

no_restart : {V : Type 0} (m : Meaning V) (r : Option ℕ) → restarted m r (λ y. None) ≡ false
no_restart m None = refl
no_restart m (Some r) = refl

module _ {V : Type 0} (m : Meaning V) (T : Table) (C : ℕ → Machine V) (idles : (g : ℕ) → Idles (C g)) (N : Node) where
  pub node_idles : Idles (machine_of m T C N)
  node_idles = record { next = λ M. refl; shows = λ M y. refl }

  no_row : (c : Clock) (ops : List Operand) → handed m false (λ y. None) c ops ≡ None
  no_row c ops = ap (λ b. only_if b (values_of m (λ y. None) ops)) (no_clock m c)

  -- in an idle instant each equation gives nothing
  quiet : (d : Option V) (t : Tree V) (e : Equation) (y : ℕ) → None ≡ given m T C N false d t e (λ z. None) y
  quiet d t (operate op a b x) y = rw (no_clock m (clock_of N x))
  quiet d t (sample a x) y = rw (no_clock m (clock_of N x))
  quiet d t (merge s a b x) y = rw (no_clock m (clock_of N x))
  quiet d t (choose s a b x) y = rw (no_clock m (clock_of N x))
  quiet d t (delay l a x) y = rw (no_clock m (clock_of N x))
  quiet d t (call g r ops gs) y =
      let u : Tree V = cond (restarted m r (λ z. None)) (C g).start t in
      let p : ℕ = (node_at T g).inputs + place_of y gs in
      sym (ap (λ vs. (C g).shows u vs p) (no_row (call_clock N gs) ops) ∙ (idles g).shows u p)

  still : (e : Equation) (t : Tree V) → t ≡ next_tree m T C N false e (λ z. None) t
  still (operate op a b x) t = refl
  still (sample a x) t = refl
  still (merge s a b x) t = refl
  still (choose s a b x) t = refl
  still (delay l a x) t = refl
  still (call g r ops gs) t =
      sym (ap₂ (λ (b : Bool) vs. (C g).next (cond b (C g).start t) vs) (no_restart m r) (no_row (call_clock N gs) ops) ∙ (idles g).next t)

  unheld : (e : Equation) (d : Option V) → d ≡ next_delay m T C e (λ z. None) d
  unheld (operate op a b x) d = refl
  unheld (sample a x) d = refl
  unheld (merge s a b x) d = refl
  unheld (choose s a b x) d = refl
  unheld (delay l a x) d = refl
  unheld (call g r ops gs) d = refl

  -- what is kept for each equation, one instant on
  pub next_delay_lem : (M : Tree V) (vs : Option (List V)) (j : ℕ)
      → delays ((machine_of m T C N).next M vs) j ≡ next_delay m T C (equation_at N j) (shown m T C N M vs) (delays M j)
  next_delay_lem M None j = unheld (equation_at N j) (delays M j)
  next_delay_lem M (Some vs) j = refl

  pub next_tree_lem : (M : Tree V) (vs : Option (List V)) (j : ℕ)
      → instances ((machine_of m T C N).next M vs) j ≡ next_tree m T C N (is_some vs) (equation_at N j) (shown m T C N M vs) (instances M j)
  next_tree_lem M None j = still (equation_at N j) (instances M j)
  next_tree_lem M (Some vs) j = refl

  module _ (earlier : Table) (L : NodeKeeps earlier N) (K : KeepsNode m earlier N) (rank : ℕ → ℕ) (ranked : Ranked N rank) where
    module _ (M : Tree V) (vs : Option (List V)) where
      -- a variable changes no more after as many rounds as its rank
      settles : (k y : ℕ) → y < variable_count N → rank y < k → guess m T C N M vs (suc k) y ≡ guess m T C N M vs k y
      settles zero y l r = absurd (omega arith)
      settles (suc k) y l r =
          elim (cases_Bool (ltb y N.inputs)) [
            | inl t ↦ rw t refl
            | inr f ↦
                let j : ℕ = definer N y in
                let d = has_definer m earlier N L K y l f in
                rw f (given_same m (guess m T C N M vs (suc k)) (guess m T C N M vs k) N T C (is_some vs) (delays M j) (instances M j) (equation_at N j)
                (λ z i. settles k z (uses_in m earlier N L K j z d.0 i) (omega (arith, ranked.falls j y z d.0 d.1 i))) y)
          ]

      settled : (y : ℕ) → y < variable_count N → guess m T C N M vs (rounds N) y ≡ better m T C N M vs (guess m T C N M vs (rounds N)) y
      settled y l = sym (settles (rounds N) y l (ranked.below y l))

    -- each equation holds of what the machine shows
    pub shown_equation : (M : Tree V) (vs : Option (List V)) (j y : ℕ) → j < equation_count N → is_in y (defined (equation_at N j)) ≡ true
        → shown m T C N M vs y ≡ given_at m T C N M vs j (shown m T C N M vs) y
    shown_equation M None j y l i = quiet (delays M j) (instances M j) (equation_at N j) y
    shown_equation M (Some vs) j y l i =
        let E : Env V = shown m T C N M (Some vs) in
        settled M (Some vs) y (defines_in m earlier N L K j y l i)
        ∙ ap (λ b. cond b (entry (Some vs) y) (given_at m T C N M (Some vs) (definer N y) E y)) (no_input m earlier N L K j y l i)
        ∙ ap (λ k. given_at m T C N M (Some vs) k E y) (definer_is m earlier N L K j y l i)

    -- inputs are the row's
    pub shown_input : (M : Tree V) (vs : Option (List V)) (x : ℕ) → x < N.inputs → shown m T C N M vs x ≡ entry vs x
    shown_input M None x l = refl
    shown_input M (Some vs) x l =
        let E : Env V = shown m T C N M (Some vs) in
        settled M (Some vs) x (omega (arith, L.count.0))
        ∙ ap (λ b. cond b (entry (Some vs) x) (given_at m T C N M (Some vs) (definer N x) E x)) (lt-ltb x N.inputs l)
