-- The steps of a tally.
use Rattle.std.proofs.Common.{◌≡◌, ℕ, ◌+◌, ◌<◌, ◌≤◌, Bool, true, false, ◌&&◌, ◌||◌, eqb, List, [], ◌∷◌, ◌++◌, length, get_or, take, sym, refl, ap, ◌∙◌, arith}
use Rattle.std.proofs.lemmas.List.{take_more}
use Rattle.table.specs.Syntax.{Equation, Node, an_equation, variable_count}
use Rattle.rules.specs.Definitions.{defined, definitions, delayed, is_delay, is_in, times, variable_defined}
use Rattle.rules.specs.First.{first_bad}
use Rattle.rules.proofs.First.{bad_same}
use Rattle.definitions.specs.declared.tally.Tally.{Tally}
use Rattle.definitions.specs.Tallied.{count_of, delay_in, Adds, AddsDelay, AddsEquation, Tallies, keeps}

or_false : (a : Bool) → (a || false) ≡ a
or_false true = refl
or_false false = refl

or_assoc : (a b c : Bool) → ((a || b) || c) ≡ (a || (b || c))
or_assoc true b c = refl
or_assoc false b c = refl

definitions_push : (x : ℕ) (es : List Equation) (e : Equation) → definitions x (es ++ e ∷ []) ≡ definitions x es + times x (defined e)
definitions_push x [] e = omega arith
definitions_push x (f ∷ es) e = omega (arith, definitions_push x es e)

delayed_push : (x : ℕ) (es : List Equation) (e : Equation) → delayed x (es ++ e ∷ []) ≡ (delayed x es || (is_delay e && is_in x (defined e)))
delayed_push x [] e = or_false (is_delay e && is_in x (defined e))
delayed_push x (f ∷ es) e =
    ap (λ b. (is_delay f && is_in x (defined f)) || b) (delayed_push x es e)
    ∙ sym (or_assoc (is_delay f && is_in x (defined f)) (delayed x es) (is_delay e && is_in x (defined e)))

-- one more equation
pub tallies_more : (t u : Tally) (es : List Equation) (e : ℕ) → e < length es → Tallies t (take e es) → AddsEquation t u (get_or es e an_equation) → Tallies u (take (e + 1) es)
tallies_more t u es e l h a =
    let E = get_or es e an_equation in
    let m = take_more es e an_equation l in
    record {
      counts = λ x b. a.counts x b ∙ ap (λ n. n + times x (defined E)) (h.counts x b) ∙ sym (ap (definitions x) m ∙ definitions_push x (take e es) E);
      delays = λ x b. a.delays x b ∙ ap (λ v. v || (is_delay E && is_in x (defined E))) (h.delays x b) ∙ sym (ap (delayed x) m ∙ delayed_push x (take e es) E);
    }

-- an equation that is no DELAY, and one that is
pub adds_plain : (t u : Tally) (E : Equation) (xs : List ℕ) → defined E ≡ xs → is_delay E ≡ false → Adds t u xs → AddsEquation t u E
adds_plain t u E xs e n a =
    record {
      counts = λ x b. a.counts x b ∙ ap (λ l. count_of t x + times x l) (sym e);
      delays = λ x b. a.delays x b ∙ rw (n, or_false (delay_in t x));
    }

pub adds_delay : (t u : Tally) (E : Equation) (y : ℕ) → defined E ≡ y ∷ [] → is_delay E ≡ true → AddsDelay t u y → AddsEquation t u E
adds_delay t u E y e n a =
    record {
      counts = λ x b. omega (arith, a.counts x b, ap (times x) e);
      delays = λ x b. a.delays x b ∙ rw (n, e, or_false (eqb x y));
    }

-- the rule, by a tally of the node's equations
keeps_by : (t : Tally) (N : Node) (x : ℕ) → Tallies t N.equations → x < 64 → keeps t N.inputs N.outputs x ≡ variable_defined N x
keeps_by t N x h b = let c = h.counts x b in let d = h.delays x b in rw (c, d)

pub offender_by : (t : Tally) (N : Node) (inputs outputs n : ℕ) → Tallies t N.equations → variable_count N ≤ 64
    → inputs ≡ N.inputs → outputs ≡ N.outputs → n ≡ variable_count N → first_bad (keeps t inputs outputs) n ≡ first_bad (variable_defined N) (variable_count N)
offender_by t N inputs outputs n h few i o v =
    rw (i, o, v) (bad_same (keeps t N.inputs N.outputs) (variable_defined N) (variable_count N) (λ x l. keeps_by t N x h (omega (arith, l, few))))
