-- The rules of a node by tests, which compute where the node is written out.
use Rattle.std.proofs.Common.{◌≡◌, ℕ, zero, suc, ◌<◌, Bool, true, not, ◌&&◌, ◌||◌, ltb, List, [], ◌∷◌, ◌++◌, inl, inr, arith}
use Rattle.std.proofs.lemmas.Bool.{and_parts, cases_eq, or_cases, not-true, ltb-true, both_ways}
use Rattle.opset.specs.Meaning.{Meaning}
use Rattle.table.specs.Syntax.{Node, Table, variable_count}
use Rattle.rules.specs.Types.{variable_typed, equation_typed}
use Rattle.rules.specs.Clocks.{variable_clocked, equation_clocked}
use Rattle.rules.specs.Definitions.{variable_defined, is_in}
use Rattle.schedule.specs.Reads.{equation_at, before}
use Rattle.schedule.specs.Order.{Ready, Follows}
use Rattle.admission.specs.Keeps.{equation_count, KeepsNode}

abbrev every : (ℕ → Bool) → ℕ → Bool
every p zero = true
every p (suc n) = p n && every p n

each : (p : ℕ → Bool) (n : ℕ) → every p n ≡ true → (i : ℕ) → i < n → p i ≡ true
each p zero h i l = absurd (omega arith)
each p (suc n) h i l =
    let q = and_parts (p n) (every p n) h in
    elim (cases_eq i n) [ inl e ↦ rw e q.0 | inr e ↦ each p n q.1 i (omega arith) ]

abbrev ready : (ℕ → ℕ → Bool) → ℕ → List ℕ → ℕ → Bool
ready before n ps j = not (is_in j ps) && every (λ i. not (before i j) || is_in i ps) n

abbrev follows : (ℕ → ℕ → Bool) → ℕ → List ℕ → List ℕ → Bool
follows before n ps [] = true
follows before n ps (j ∷ js) = ltb j n && (ready before n ps j && follows before n (ps ++ j ∷ []) js)

is_ready : (before : ℕ → ℕ → Bool) (n : ℕ) (ps : List ℕ) (j : ℕ) → ready before n ps j ≡ true → Ready before n ps j
is_ready before n ps j h =
    let p = and_parts (not (is_in j ps)) (every (λ i. not (before i j) || is_in i ps) n) h in
    record {
      fresh = not-true (is_in j ps) p.0;
      after = λ i l b. elim (or_cases (not (before i j)) (is_in i ps) (each (λ i. not (before i j) || is_in i ps) n p.1 i l)) [
        | inl x ↦ absurd (both_ways (before i j) (not-true (before i j) x) b)
        | inr y ↦ y
      ];
    }

is_following : (before : ℕ → ℕ → Bool) (n : ℕ) (ps js : List ℕ) → follows before n ps js ≡ true → Follows before n ps js
is_following before n ps [] h = tt
is_following before n ps (j ∷ js) h =
    let p = and_parts (ltb j n) (ready before n ps j && follows before n (ps ++ j ∷ []) js) h in
    let q = and_parts (ready before n ps j) (follows before n (ps ++ j ∷ []) js) p.1 in
    (ltb-true j n p.0, is_ready before n ps j q.0, is_following before n (ps ++ j ∷ []) js q.1)

module _ {V : Type 0} (m : Meaning V) (earlier : Table) (N : Node) (os : List ℕ) where
  -- the tests of the rules, with an order of the equations
  abbrev pub Passes : Type 0
  Passes =
      (every (variable_typed m N) (variable_count N) ≡ true) ×
      (every (λ e. equation_typed m earlier N (equation_at N e)) (equation_count N) ≡ true) ×
      (every (variable_clocked N) (variable_count N) ≡ true) ×
      (every (λ e. equation_clocked N (equation_at N e)) (equation_count N) ≡ true) ×
      (every (variable_defined N) (variable_count N) ≡ true) ×
      (every (λ i. is_in i os) (equation_count N) ≡ true) ×
      (follows (before N) (equation_count N) [] os ≡ true)

  pub passes : Passes → KeepsNode m earlier N
  passes p = record {
    typed = each (variable_typed m N) (variable_count N) p.0;
    typed_equations = each (λ e. equation_typed m earlier N (equation_at N e)) (equation_count N) p.1;
    clocked = each (variable_clocked N) (variable_count N) p.2;
    clocked_equations = each (λ e. equation_clocked N (equation_at N e)) (equation_count N) p.3;
    defined = each (variable_defined N) (variable_count N) p.4;
    ordered = (os, record { all = each (λ i. is_in i os) (equation_count N) p.5; turns = is_following (before N) (equation_count N) [] os p.6 });
  }
