-- The refusals by the code's words are those that the rules name.
use Rattle.std.proofs.Common.{◌≡◌, ℕ, ◌<◌, ◌≤◌, Bool, false, not, ltb, ◌⊎◌, List, get_or, is_some, Some, None, Option, sym, ap, ◌∙◌, inl, inr, arith}
use Rattle.std.proofs.lemmas.Bool.{cases_lt, eq-eqb, lt-ltb, le-ltb}
use Rattle.opset.specs.Meaning.{Meaning}
use Rattle.table.specs.Syntax.{Table}
use Rattle.rules.specs.Types.{type_of}
use Rattle.rules.specs.First.{or_else}
use Rattle.streams.specs.Streams.{Env}
use Rattle.streams.specs.History.{History, instants}
use Rattle.execution.specs.Sound.{set_in, inputs_in, outputs_in, input_type}
use Rattle.layout.specs.Layout.{Front}
use Rattle.calls.specs.declared.ended.Ended.{Ended}
use Rattle.calls.specs.declared.ended.Ended.TheVariants.{Never, ByStep, ByPass}
use Rattle.calls.specs.declared.refusal.Refusal.{Refusal}
use Rattle.calls.specs.declared.refusal.Refusal.TheVariants.{Set, Memory, Port, Mistyped, Early, Twice}
use Rattle.calls.specs.Calls.{unless, set_refusal, enough, memory_refusal, moving_refusal, offer_refusal, read_refusal, has_ended}
use Rattle.calls.specs.Story.{offer, read, Story, offers_in}
use Rattle.calls.specs.Answers.{main_node, refusal_for}
use Rattle.calls.proofs.Inputs.{Offered}
use Rattle.calls.proofs.Invariant.{EndedRight}

module _ (own : ℕ) (T : Table) (ws : List ℕ) (F : Front own T ws) where
  -- the set is the code's
  pub set_right : set_refusal own ws ≡ None
  set_right = ap (λ b. unless b Set) (eq-eqb (set_in ws) own F.set)

  module _ {V : Type 0} (m : Meaning V) where
    pub moving_right : (given : List V) → moving_refusal own ws given ≡ unless (enough ws given) Memory
    moving_right given = ap (λ o. or_else o (memory_refusal ws given)) set_right

    pub offer_right : (s : Story V) (offers : Env V) (marks : List Bool) (cells given : List V) → s.instant ≡ Some offers → Offered m (main_node T) offers marks cells
        → (i : ℕ) (v : V) → offer_refusal m own ws given marks i v ≡ refusal_for m (main_node T) s (offer (enough ws given) i v)
    offer_right s offers marks cells given e off i v =
        let mark : get_or marks i false ≡ is_some (offers_in s.instant i) = off.marked i ∙ ap (λ o. is_some (offers_in o i)) (sym e) in
        ap (λ o. or_else o (or_else (memory_refusal ws given) (or_else (unless (ltb i (inputs_in ws)) Port)
        (or_else (unless (not (get_or marks i false)) Twice) (unless (m.belongs v (input_type ws i)) Mistyped))))) set_right
        ∙ ap (λ n. or_else (memory_refusal ws given) (or_else (unless (ltb i n) Port)
        (or_else (unless (not (get_or marks i false)) Twice) (unless (m.belongs v (input_type ws i)) Mistyped)))) F.inputs
        ∙ ap (λ b. or_else (memory_refusal ws given) (or_else (unless (ltb i (main_node T).inputs) Port)
        (or_else (unless (not b) Twice) (unless (m.belongs v (input_type ws i)) Mistyped)))) mark
        ∙ typed (cases_lt i (main_node T).inputs)
      where
        rest : ℕ → Option Refusal
        rest t = or_else (unless (not (is_some (offers_in s.instant i))) Twice) (unless (m.belongs v t) Mistyped)

        typed : (i < (main_node T).inputs) ⊎ ((main_node T).inputs ≤ i)
            → or_else (memory_refusal ws given) (or_else (unless (ltb i (main_node T).inputs) Port) (rest (input_type ws i)))
            ≡ or_else (memory_refusal ws given) (or_else (unless (ltb i (main_node T).inputs) Port) (rest (type_of (main_node T) i)))
        typed (inl l) = ap (λ t. or_else (memory_refusal ws given) (or_else (unless (ltb i (main_node T).inputs) Port) (rest t))) (F.types i l)
        typed (inr l) = let b = le-ltb i (main_node T).inputs l in rw b

    ended_right : (h : History V) (e : Ended) (cells : List V) → EndedRight m T h e cells → has_ended e ≡ ltb 0 (instants h)
    ended_right h Never cells r = sym (le-ltb 0 (instants h) (omega (arith, r)))
    ended_right h ByStep cells r = sym (lt-ltb 0 (instants h) r.0)
    ended_right h ByPass cells r = sym (lt-ltb 0 (instants h) r.0)

    pub read_right : (s : Story V) (e : Ended) (cells given : List V) → EndedRight m T s.history e cells
        → (j : ℕ) → read_refusal own ws given e j ≡ refusal_for m (main_node T) s (read (enough ws given) j)
    read_right s e cells given r j =
        ap (λ o. or_else o (or_else (unless (has_ended e) Early) (or_else (memory_refusal ws given) (unless (ltb j (outputs_in ws)) Port)))) set_right
        ∙ ap (λ b. or_else (unless b Early) (or_else (memory_refusal ws given) (unless (ltb j (outputs_in ws)) Port))) (ended_right s.history e cells r)
        ∙ ap (λ n. or_else (unless (ltb 0 (instants s.history)) Early) (or_else (memory_refusal ws given) (unless (ltb j n) Port))) F.outputs
