-- What holds of a run between its calls: its cells hold the memory of the machine after the history, and the outputs of the latest instant.
use Rattle.std.proofs.Common.{◌≡◌, ℕ, ◌+◌, ◌-◌, ◌<◌, ◌≤◌, true, List, [], ◌∷◌, ◌++◌, length, get_or, is_some, None, sym, refl, ap, ◌∙◌, subst, arith}
use Rattle.std.specs.List.{AllByRecursion, slice_get}
use Rattle.opset.specs.Meaning.{Meaning}
use Rattle.table.specs.Syntax.{Node, Table}
use Rattle.schedule.specs.Need.{needs}
use Rattle.streams.specs.History.{Event, row, idle, restart, History, instants, row_at, main, RowFits, EventFits, HistoryLong, HistoryFits}
use Rattle.streams.specs.Machine.{Machine, memory_after, history_shows, main_machine}
use Rattle.streams.specs.Statements.{MachineShows}
use Rattle.streams.proofs.Growing.{row_instants, idle_instants, restart_instants, row_at_lem as latest-row, row_stays}
use Rattle.execution.specs.Statements.{reset_of, step_of, table_blocks}
use Rattle.realization.specs.Holds.{Holds}
use Rattle.realization.specs.Realizes.{Realizes}
use Rattle.calls.specs.declared.ended.Ended.{Ended}
use Rattle.calls.specs.declared.ended.Ended.TheVariants.{Never, ByStep, ByPass}
use Rattle.calls.specs.Answers.{main_node}

-- one event more
fits_more : {V : Type 0} (m : Meaning V) (N : Node) (h : History V) (e : Event V) → AllByRecursion (EventFits m N) h → EventFits m N e → AllByRecursion (EventFits m N) (h ++ e ∷ [])
fits_more m N [] e a f = (f, tt)
fits_more m N (x ∷ h) e a f = (a.0, fits_more m N h e a.1 f)

module _ {V : Type 0} (m : Meaning V) (T : Table) where
  abbrev N : Node
  N = main_node T

  abbrev machine_of_main : Machine V
  machine_of_main = main_machine m T

  -- how the latest instant ended, and what the outputs' cells hold of it
  abbrev pub EndedRight : History V → Ended → List V → Type 0
  EndedRight h Never cells = instants h ≡ 0
  EndedRight h ByStep cells =
      (0 < instants h) × (is_some (row_at h (instants h - 1)) ≡ true) ×
      ((j : ℕ) → j < N.outputs → slice_get cells (N.inputs + j) ≡ history_shows machine_of_main h (instants h - 1) (N.inputs + j))
  EndedRight h ByPass cells =
      (0 < instants h) × (row_at h (instants h - 1) ≡ None) ×
      ((j : ℕ) → history_shows machine_of_main h (instants h - 1) (N.inputs + j) ≡ None)

  pub record Inv (h : History V) (e : Ended) (cells : List V) : Type 0 where
    pub fits : HistoryFits m T h
    pub room : get_or (needs T) (main T) 0 ≤ length cells
    pub holds : Holds T (main T) (slice_get cells) (memory_after machine_of_main h)
    pub ended : EndedRight h e cells

module _ {V : Type 0} (m : Meaning V) (T : Table) (R : Realizes m T (main T)) (shows : MachineShows m T)
    (ports : (main_node T).inputs + (main_node T).outputs ≤ get_or (needs T) (main T) 0) where
  -- writes to the inputs' cells leave it
  pub inputs_free : (h : History V) (e : Ended) (cells cells' : List V) → Inv m T h e cells → length cells' ≡ length cells
      → ((a : ℕ) → (main_node T).inputs ≤ a → slice_get cells' a ≡ slice_get cells a) → Inv m T h e cells'
  inputs_free h e cells cells' i long same = record {
    fits = i.fits;
    room = omega (arith, i.room, long);
    holds = R.local (slice_get cells) (slice_get cells') (memory_after (main_machine m T) h) i.holds (λ a l h. sym (same a l));
    ended = go e i.ended;
  }
    where
      go : (e : Ended) → EndedRight m T h e cells → EndedRight m T h e cells'
      go Never r = r
      go ByStep r = (r.0, r.1, λ j l. same ((main_node T).inputs + j) (omega arith) ∙ r.2 j l)
      go ByPass r = r

  -- opened
  pub was_opened : (cells : List V) → get_or (needs T) (main T) 0 ≤ length cells → Inv m T [] Never (reset_of m (table_blocks m T (main T)) T (main T) cells)
  was_opened cells l =
      let r = R.reset cells l in
      record { fits = tt; room = omega (arith, l, r.long); holds = r.holds; ended = refl }

  -- an idle row changes no cell
  pub was_passed : (h : History V) (e : Ended) (cells : List V) → Inv m T h e cells → Inv m T (h ++ idle ∷ []) ByPass cells
  was_passed h e cells i =
      let n = idle_instants h in
      let last : instants (h ++ idle ∷ []) - 1 ≡ instants h = omega arith in
      record {
        fits = fits_more m (main_node T) h idle i.fits tt;
        room = i.room;
        holds = subst (Holds T (main T) (slice_get cells)) (sym (shows.grows.by_idle h)) i.holds;
        ended = (
          omega arith,
          ap (row_at (h ++ idle ∷ [])) last ∙ latest-row h idle,
          λ j. ap (λ q. history_shows (main_machine m T) (h ++ idle ∷ []) q ((main_node T).inputs + j)) last ∙ shows.grows.shows_idle h ((main_node T).inputs + j),
        );
      }

  -- a restart leaves what the latest instant showed
  pub was_restarted : (h : History V) (e : Ended) (cells : List V) → Inv m T h e cells
      → Inv m T (h ++ restart ∷ []) e (reset_of m (table_blocks m T (main T)) T (main T) cells)
  was_restarted h e cells i =
      let r = R.reset cells i.room in
      record {
        fits = fits_more m (main_node T) h restart i.fits tt;
        room = omega (arith, i.room, r.long);
        holds = subst (Holds T (main T) (slice_get (reset_of m (table_blocks m T (main T)) T (main T) cells))) (sym (shows.grows.by_restart h)) r.holds;
        ended = go e i.ended;
      }
    where
      go : (e : Ended) → EndedRight m T h e cells → EndedRight m T (h ++ restart ∷ []) e (reset_of m (table_blocks m T (main T)) T (main T) cells)
      go Never r = restart_instants h ∙ r
      go ByStep r =
          let n = restart_instants h in
          let l : instants h - 1 < instants h = omega (arith, r.0) in (
            omega (arith, r.0),
            ap (λ q. is_some (row_at (h ++ restart ∷ []) (q - 1))) n ∙ ap is_some (row_stays h restart (instants h - 1) l) ∙ r.1,
            λ j k. (R.reset cells i.room).ports ((main_node T).inputs + j) (omega arith) ∙ r.2 j k
                ∙ sym (ap (λ q. history_shows (main_machine m T) (h ++ restart ∷ []) (q - 1) ((main_node T).inputs + j)) n
                ∙ shows.grows.stays h restart (instants h - 1) ((main_node T).inputs + j) l),
          )
      go ByPass r =
          let n = restart_instants h in
          let l : instants h - 1 < instants h = omega (arith, r.0) in (
            omega (arith, r.0),
            ap (λ q. row_at (h ++ restart ∷ []) (q - 1)) n ∙ row_stays h restart (instants h - 1) l ∙ r.1,
            λ j. ap (λ q. history_shows (main_machine m T) (h ++ restart ∷ []) (q - 1) ((main_node T).inputs + j)) n
                ∙ shows.grows.stays h restart (instants h - 1) ((main_node T).inputs + j) l ∙ r.2 j,
          )

  -- a step from cells whose inputs are the row's
  pub was_stepped : (long : (h : History V) → HistoryFits m T h → HistoryLong T h)
      → (h : History V) (e : Ended) (cells : List V) (vs : List V) → Inv m T h e cells → RowFits m (main_node T) vs
      → ((x : ℕ) → x < (main_node T).inputs → slice_get cells x ≡ slice_get vs x)
      → Inv m T (h ++ row vs ∷ []) ByStep (step_of m (table_blocks m T (main T)) T (main T) cells)
  was_stepped long h e cells vs i fit same =
      let M = memory_after (main_machine m T) h in
      let s = R.step cells M vs i.room (shows.filled h (long h i.fits) (instants h)) i.holds fit.long same in
      let n = row_instants h vs in
      let last : instants (h ++ row vs ∷ []) - 1 ≡ instants h = omega arith in
      record {
        fits = fits_more m (main_node T) h (row vs) i.fits fit;
        room = omega (arith, i.room, s.long);
        holds = subst (Holds T (main T) (slice_get (step_of m (table_blocks m T (main T)) T (main T) cells))) (sym (shows.grows.by_row h vs)) s.holds;
        ended = (
          omega arith,
          ap (λ q. is_some (row_at (h ++ row vs ∷ []) q)) last ∙ ap is_some (latest-row h (row vs)),
          λ j l. s.shows ((main_node T).inputs + j) (omega arith)
              ∙ sym (ap (λ q. history_shows (main_machine m T) (h ++ row vs ∷ []) q ((main_node T).inputs + j)) last
              ∙ shows.grows.shows_row h vs ((main_node T).inputs + j)),
        );
      }
