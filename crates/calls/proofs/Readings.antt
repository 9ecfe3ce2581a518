-- A granted reading is what the masked streams of the history show.
use Rattle.std.proofs.Common.{◌≡◌, ℕ, zero, suc, ◌+◌, ◌-◌, ◌<◌, ◌≤◌, true, List, [], ◌∷◌, length, get_or, is_some, Some, None, Option, sym, refl, ap, ◌∙◌, subst, arith}
use Rattle.std.proofs.lemmas.Bool.{false≢true}
use Rattle.std.specs.List.{slice_get}
use Rattle.opset.specs.Meaning.{Meaning}
use Rattle.table.specs.Syntax.{Table, variable_count}
use Rattle.rules.specs.Types.{type_of}
use Rattle.schedule.specs.Need.{needs}
use Rattle.streams.specs.History.{History, instants, row_at, main}
use Rattle.streams.specs.Machine.{history_shows, main_machine}
use Rattle.streams.specs.Statements.{MachineShows, StreamsTyped}
use Rattle.execution.specs.Sound.{inputs_in}
use Rattle.calls.specs.declared.ended.Ended.{Ended}
use Rattle.calls.specs.declared.ended.Ended.TheVariants.{Never, ByStep, ByPass}
use Rattle.calls.specs.Calls.{has_ended, reading_of}
use Rattle.calls.specs.Answers.{main_node, Fitting, Shows}
use Rattle.calls.proofs.Invariant.{Inv}

nth_within : {X : Type 0} (l : List X) (i : ℕ) → i < length l → (x : X) × (slice_get l i ≡ Some x)
nth_within [] i h = absurd (omega arith)
nth_within (x ∷ l) zero h = (x, refl)
nth_within (x ∷ l) (suc i) h = nth_within l i (omega arith)

fit_row : {V : Type 0} (m : Meaning V) (ty : ℕ) (o : Option (List V)) (x : Option V) (v : V) → is_some o ≡ true → x ≡ Some v → m.belongs v ty ≡ true → Fitting m ty o x
fit_row m ty None x v e q b = absurd (false≢true e)
fit_row m ty (Some vs) x v e q b = (v, q, b)

module _ {V : Type 0} (m : Meaning V) (T : Table) (ws : List ℕ) (inputs : inputs_in ws ≡ (main_node T).inputs) (shows : MachineShows m T) (typed : StreamsTyped m T)
    (ports : (main_node T).inputs + (main_node T).outputs ≤ get_or (needs T) (main T) 0)
    (few : (main_node T).inputs + (main_node T).outputs ≤ variable_count (main_node T)) where
  pub reading_shows : (h : History V) (e : Ended) (cells : List V) (j : ℕ) → Inv m T h e cells → has_ended e ≡ true → j < (main_node T).outputs
      → Shows m T h j (reading_of ws cells e j)
  reading_shows h Never cells j i f l = absurd (false≢true f)
  reading_shows h ByStep cells j i f l =
      let r = i.ended in
      let y = (main_node T).inputs + j in
      let x = nth_within cells y (omega (arith, i.room)) in
      let long = typed.long h i.fits in
      let here : slice_get cells (inputs_in ws + j) ≡ slice_get cells y = ap (λ n. slice_get cells (n + j)) inputs in
      let last : instants h - 1 < instants h = omega (arith, r.0) in
      let masked = shows.masked h long in
      let value : history_shows (main_machine m T) h (instants h - 1) y ≡ Some x.0 = sym (r.2 j l) ∙ x.1 in
      record {
        streams = history_shows (main_machine m T) h;
        masked = masked;
        reading = sym (r.2 j l) ∙ sym here;
        fitting = fit_row m (type_of (main_node T) y) (row_at h (instants h - 1)) (slice_get cells (inputs_in ws + j)) x.0 r.1 (here ∙ x.1)
            (typed.history h i.fits (history_shows (main_machine m T) h) masked (instants h - 1) y x.0 last (omega arith) value);
      }
  reading_shows h ByPass cells j i f l =
      let r = i.ended in
      let long = typed.long h i.fits in
      record {
        streams = history_shows (main_machine m T) h;
        masked = shows.masked h long;
        reading = r.2 j;
        fitting = subst (λ o. Fitting m (type_of (main_node T) ((main_node T).inputs + j)) o None) (sym r.1) refl;
      }
