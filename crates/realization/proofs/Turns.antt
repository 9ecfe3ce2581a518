-- When an equation's turn comes in an order, each variable that it reads can be read.
use Rattle.std.proofs.Common.{◌≡◌, ℕ, ◌<◌, ◌≤◌, true, false, not, ◌&&◌, eqb, ◌⊎◌, List, [], ◌∷◌, ◌++◌, sym, ap, ◌∙◌, inl, inr}
use Rattle.std.proofs.lemmas.Bool.{cases_Bool, cases_eq, cases_lt, both_ways, and_from, or_left, or_right, ne_eqb}
use Rattle.table.specs.Syntax.{Node, variable_count, equation_at, equation_count}
use Rattle.rules.specs.Definitions.{defined, is_delay, is_in}
use Rattle.schedule.specs.Reads.{reads, feeds, before}
use Rattle.schedule.specs.Order.{Ready}
use Rattle.schedule.proofs.Membership.{is_in_cases}
use Rattle.streams.proofs.Places.{in_left, meets_from}
use Rattle.realization.proofs.Plan.{Defines}

module _ (N : Node) where
  -- with an equation all that come before it are placed
  abbrev pub Closed : List ℕ → Type 0
  Closed ps = (i j : ℕ) → is_in j ps ≡ true → i < equation_count N → before N i j ≡ true → is_in i ps ≡ true

  pub closed_more : (ps : List ℕ) (j : ℕ) → Closed ps → Ready (before N) (equation_count N) ps j → Closed (ps ++ j ∷ [])
  closed_more ps j c r i k h l b =
      in_left i ps (j ∷ []) (elim (is_in_cases k ps j h) [
        | inl p ↦ c i k p l b
        | inr e ↦ r.after i l (ap (before N i) (sym e) ∙ b)
      ])

  -- an input, what a placed equation defines, or a delay that is not placed
  abbrev pub Ripe : List ℕ → ℕ → Type 0
  Ripe ps y = (y < N.inputs) ⊎ ((i : ℕ) × (i < equation_count N) × Defines N i y × (is_in i ps ≡ not (is_delay (equation_at N i))))

  module _ (ps : List ℕ) (j y i : ℕ) (reader : is_in y (reads N (equation_at N j)) ≡ true) (defines : Defines N i y) where
    feeds_it : feeds N (equation_at N i) (equation_at N j) ≡ true
    feeds_it = meets_from y (defined (equation_at N i)) (reads N (equation_at N j)) defines reader

    placed_before : is_delay (equation_at N i) ≡ false → before N i j ≡ true
    placed_before d = or_left _ _ (and_from (not (is_delay (equation_at N i))) (feeds N (equation_at N i) (equation_at N j)) (ap not d) feeds_it)

    delay_behind : is_delay (equation_at N i) ≡ true → (j ≡ i → ⊥) → before N j i ≡ true
    delay_behind d ne =
        or_right (not (is_delay (equation_at N j)) && feeds N (equation_at N j) (equation_at N i)) _
        (and_from (is_delay (equation_at N i)) _ d
        (and_from (not (eqb j i)) (feeds N (equation_at N i) (equation_at N j)) (ap not (ne_eqb j i ne)) feeds_it))

    ripe_at : i < equation_count N → j < equation_count N → Closed ps → Ready (before N) (equation_count N) ps j → is_in i ps ≡ not (is_delay (equation_at N i))
    ripe_at li lj c r =
        elim (cases_Bool (is_delay (equation_at N i))) [
          | inr d ↦ r.after i li (placed_before d) ∙ sym (ap not d)
          | inl d ↦ unplaced d ∙ sym (ap not d)
        ]
      where
        unplaced : is_delay (equation_at N i) ≡ true → is_in i ps ≡ false
        unplaced d =
            elim (cases_eq j i) [
              | inl e ↦ ap (λ k. is_in k ps) (sym e) ∙ r.fresh
              | inr ne ↦ elim (cases_Bool (is_in i ps)) [
                | inl p ↦ absurd (both_ways (is_in j ps) r.fresh (c j i p lj (delay_behind d ne)))
                | inr p ↦ p
              ]
            ]

  pub ripe : ((y : ℕ) → N.inputs ≤ y → y < variable_count N → (i : ℕ) × (i < equation_count N) × Defines N i y)
      → (ps : List ℕ) (j : ℕ) → j < equation_count N → Closed ps → Ready (before N) (equation_count N) ps j
      → (y : ℕ) → y < variable_count N → is_in y (reads N (equation_at N j)) ≡ true → Ripe ps y
  ripe definer ps j lj c r y ly reader =
      elim (cases_lt y N.inputs) [
        | inl l ↦ inl l
        | inr g ↦ let d = definer y g ly in inr (d.0, d.1, d.2, ripe_at ps j y d.0 reader d.2 d.1 lj c r)
      ]
