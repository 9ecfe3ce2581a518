-- A statement's tests let it run exactly where its clock holds.
use Rattle.std.proofs.Common.{◌≡◌, ℕ, zero, suc, ◌<◌, Bool, true, false, ◌&&◌, eqb, List, [], ◌∷◌, ◌++◌, is_some, Some, None, Option, sym, refl, ap, ◌∙◌}
use Rattle.std.specs.List.{slice_get}
use Rattle.std.proofs.lemmas.Bool.{both_ways, or_right}
use Rattle.words.specs.declared.kinds.Clock.{Clock}
use Rattle.words.specs.declared.kinds.Clock.TheVariants.{Base, On}
use Rattle.opset.specs.Meaning.{Meaning}
use Rattle.table.specs.Syntax.{Node, variable_count}
use Rattle.rules.specs.Clocks.{clock_of, reaches, reaches_by}
use Rattle.rules.specs.Definitions.{is_in}
use Rattle.schedule.specs.Reads.{chain_by, chain_to, chain}
use Rattle.streams.specs.Streams.{Env, sensed, holds}
use Rattle.streams.proofs.Places.{in_head}
use Rattle.code.specs.Statements.{Test, tests_to, tests}
use Rattle.execution.specs.Cells.{Blocks}
use Rattle.execution.specs.Statements.{passes}
use Rattle.realization.proofs.Agree.{Readable}

module _ {V : Type 0} (m : Meaning V) (B : Blocks V) where
  passes_append : (ts us : List Test) (cells : List V) → passes m B (ts ++ us) cells ≡ (passes m B ts cells && passes m B us cells)
  passes_append [] us cells = refl
  passes_append (t ∷ ts) us cells = go (sensed m (slice_get cells t.variable) t.sense) _ _ _ (passes_append ts us cells)
    where
      go : (b p q r : Bool) → p ≡ (q && r) → (b && p) ≡ ((b && q) && r)
      go true p q r e = e
      go false p q r e = refl

  module _ (N : Node) (E : Env V) (present : (x : ℕ) → x < variable_count N → is_some (E x) ≡ holds m true E (clock_of N x)) (cells : List V) where
    -- behind the tests of a variable's clock the variable itself
    pub test_behind : (ts : List Test) (s : ℕ) (b : Bool) → Readable N E (slice_get cells) s → passes m B ts cells ≡ holds m true E (clock_of N s)
        → passes m B (ts ++ record { variable = s; sense = b } ∷ []) cells ≡ sensed m (E s) b
    test_behind ts s b r e =
        passes_append ts (record { variable = s; sense = b } ∷ []) cells
        ∙ ap (λ q. q && (sensed m (slice_get cells s) b && true)) (e ∙ sym (present s r.0))
        ∙ go (E s) r.1
      where
        and_true : (q : Bool) → (q && true) ≡ q
        and_true true = refl
        and_true false = refl

        go : (o : Option V) → ((v : V) → o ≡ Some v → slice_get cells s ≡ Some v) → (is_some o && (sensed m (slice_get cells s) b && true)) ≡ sensed m o b
        go None h = refl
        go (Some v) h = and_true (sensed m (slice_get cells s) b) ∙ ap (λ o. sensed m o b) (h v refl)

    passes_to : (d : ℕ) (c : Clock) → reaches_by (reaches d N) c ≡ true → ((y : ℕ) → is_in y (chain_by (chain_to d N) c) ≡ true → Readable N E (slice_get cells) y)
        → passes m B (tests_to (suc d) N c) cells ≡ holds m true E c
    passes_to d Base r h = refl
    passes_to zero (On s b) r h = test_behind [] s b (h s (in_head s [])) (go (clock_of N s) r)
      where
        go : (c : Clock) → reaches_by (λ _. false) c ≡ true → true ≡ holds m true E c
        go Base r = refl
        go (On s b) r = absurd (both_ways false refl r)
    passes_to (suc d) (On s b) r h =
        test_behind (tests_to (suc d) N (clock_of N s)) s b (h s (in_head s (chain_to (suc d) N s)))
        (passes_to d (clock_of N s) r (λ y i. h y (or_right (eqb y s) (is_in y (chain_to (suc d) N s)) i)))

    pub passes_clock : (x : ℕ) → reaches 8 N x ≡ true → ((y : ℕ) → is_in y (chain N x) ≡ true → Readable N E (slice_get cells) y)
        → passes m B (tests N (clock_of N x)) cells ≡ holds m true E (clock_of N x)
    passes_clock x r h = passes_to 7 (clock_of N x) r h
