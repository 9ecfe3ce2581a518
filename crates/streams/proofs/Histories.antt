-- Over a history the machine shows the masked streams.
use Rattle.std.proofs.Common.{◌≡◌, ℕ, zero, suc, ◌<◌, ◌≤◌, List, [], ◌∷◌, length, Some, None, Option, sym, refl, ◌∙◌, arith}
use Rattle.std.specs.List.{AllByRecursion}
use Rattle.opset.specs.Meaning.{Meaning}
use Rattle.table.specs.Syntax.{Node, Table, node_at}
use Rattle.admission.specs.Keeps.{KeepsRules}
use Rattle.streams.specs.Streams.{Streams, Rows, masked}
use Rattle.streams.specs.History.{row, idle, restart, History, instants, row_at, count_at, main, HistoryStreams, MaskedStreams, EventLong, EventFits, RowLong, RowTyped, HistoryLong}
use Rattle.streams.specs.Machine.{Tree, Machine, run, tree_at, history_shows, main_machine, machine, machine_below}
use Rattle.streams.specs.Instant.{Filled}
use Rattle.streams.specs.Statements.{main_variables, StreamsExist, StreamsUnique, MachineShows}
use Rattle.streams.proofs.Settled.{Idles, node_idles}
use Rattle.streams.proofs.Masks.{masked_run}
use Rattle.streams.proofs.Steps.{idles_below, steps}
use Rattle.streams.proofs.Growing.{grows}
use Rattle.streams.proofs.Exist.{RowsLong, masked_long, exists}
use Rattle.streams.proofs.Unique.{unique}

pub count_grows : {V : Type 0} (h : History V) (i : ℕ) → count_at h i ≤ count_at h (suc i)
count_grows [] i = omega arith
count_grows (row vs ∷ h) zero = omega arith
count_grows (row vs ∷ h) (suc i) = count_grows h i
count_grows (idle ∷ h) zero = omega arith
count_grows (idle ∷ h) (suc i) = count_grows h i
count_grows (restart ∷ h) i = let q = count_grows h i in omega arith

pub rows_long : {V : Type 0} (N : Node) (h : History V) → AllByRecursion (EventLong N) h → RowsLong N (row_at h)
rows_long N [] k i = tt
rows_long N (row vs ∷ h) k zero = k.0
rows_long N (row vs ∷ h) k (suc i) = rows_long N h k.1 i
rows_long N (idle ∷ h) k zero = tt
rows_long N (idle ∷ h) k (suc i) = rows_long N h k.1 i
rows_long N (restart ∷ h) k i = rows_long N h k.1 i

pub fits_long : {V : Type 0} (m : Meaning V) (N : Node) (h : History V) → AllByRecursion (EventFits m N) h → AllByRecursion (EventLong N) h
fits_long m N [] k = tt
fits_long m N (row vs ∷ h) k = (k.0.long, fits_long m N h k.1)
fits_long m N (idle ∷ h) k = (tt, fits_long m N h k.1)
fits_long m N (restart ∷ h) k = (tt, fits_long m N h k.1)

pub rows_typed : {V : Type 0} (m : Meaning V) (N : Node) (h : History V) → AllByRecursion (EventFits m N) h → (i : ℕ) → RowTyped m N (row_at h i)
rows_typed m N [] k i = tt
rows_typed m N (row vs ∷ h) k zero = k.0
rows_typed m N (row vs ∷ h) k (suc i) = rows_typed m N h k.1 i
rows_typed m N (idle ∷ h) k zero = tt
rows_typed m N (idle ∷ h) k (suc i) = rows_typed m N h k.1 i
rows_typed m N (restart ∷ h) k i = rows_typed m N h k.1 i

module _ {V : Type 0} (c : Machine V) (idles : Idles c) where
  -- the memory with which the first instant begins
  first_kept : (h : History V) (t : Tree V) → count_at h 0 ≡ 0 → tree_at c t h 0 ≡ t
  first_kept [] t e = refl
  first_kept (row vs ∷ h) t e = refl
  first_kept (idle ∷ h) t e = refl
  first_kept (restart ∷ h) t e = absurd (omega arith)

  first_start : (h : History V) → tree_at c c.start h 0 ≡ c.start
  first_start [] = refl
  first_start (row vs ∷ h) = refl
  first_start (idle ∷ h) = refl
  first_start (restart ∷ h) = first_start h

  first_anew : (h : History V) (t : Tree V) → 0 < count_at h 0 → tree_at c t h 0 ≡ c.start
  first_anew [] t l = absurd (omega arith)
  first_anew (row vs ∷ h) t l = absurd (omega arith)
  first_anew (idle ∷ h) t l = absurd (omega arith)
  first_anew (restart ∷ h) t l = first_start h

  goes_on : (h : History V) (t : Tree V) (i : ℕ) → count_at h (suc i) ≡ count_at h i → tree_at c t h (suc i) ≡ c.next (tree_at c t h i) (row_at h i)
  goes_on [] t i e = sym (idles.next t)
  goes_on (row vs ∷ h) t zero e = first_kept h (c.next t (Some vs)) e
  goes_on (row vs ∷ h) t (suc i) e = goes_on h (c.next t (Some vs)) i e
  goes_on (idle ∷ h) t zero e = first_kept h (c.next t None) e
  goes_on (idle ∷ h) t (suc i) e = goes_on h (c.next t None) i e
  goes_on (restart ∷ h) t i e = goes_on h c.start i (omega arith)

  anew : (h : History V) (t : Tree V) (i : ℕ) → count_at h i < count_at h (suc i) → tree_at c t h (suc i) ≡ c.start
  anew [] t i l = absurd (omega arith)
  anew (row vs ∷ h) t zero l = first_anew h (c.next t (Some vs)) l
  anew (row vs ∷ h) t (suc i) l = anew h (c.next t (Some vs)) i l
  anew (idle ∷ h) t zero l = first_anew h (c.next t None) l
  anew (idle ∷ h) t (suc i) l = anew h (c.next t None) i l
  anew (restart ∷ h) t i l = anew h c.start i (omega arith)

  -- what holds of the start and lasts from instant to instant holds of each memory
  tree_all : (P : Tree V → Type 0) (N : Node) → P c.start → ((M : Tree V) (vs : Option (List V)) → P M → RowLong N vs → P (c.next M vs))
      → (h : History V) → AllByRecursion (EventLong N) h → (t : Tree V) → P t → (i : ℕ) → P (tree_at c t h i)
  tree_all P N s n [] k t p i = p
  tree_all P N s n (row vs ∷ h) k t p zero = p
  tree_all P N s n (row vs ∷ h) k t p (suc i) = tree_all P N s n h k.1 (c.next t (Some vs)) (n t (Some vs) p k.0) i
  tree_all P N s n (idle ∷ h) k t p zero = p
  tree_all P N s n (idle ∷ h) k t p (suc i) = tree_all P N s n h k.1 (c.next t None) (n t None p tt) i
  tree_all P N s n (restart ∷ h) k t p i = tree_all P N s n h k.1 c.start s i

  -- where the count is k, what a fresh machine shows under the rows of count k
  pub history_run : (h : History V) (k i : ℕ) → count_at h i ≡ k → (y : ℕ) → run c (masked (count_at h) k (row_at h)) i y ≡ history_shows c h i y
  history_run h =
      masked_run c idles (count_at h) (count_grows h) (row_at h) (tree_at c c.start h) (first_start h) (goes_on h c.start) (anew h c.start)

module _ {V : Type 0} (m : Meaning V) (T : Table) (K : KeepsRules m T) where
  main_in_lem : main T < length T
  main_in_lem = omega (arith, K.limits.count.0)

  main_idles : Idles (main_machine m T)
  main_idles = node_idles m T (machine_below m T (main T)) (idles_below m T (main T)) (node_at T (main T))

  shows : (h : History V) → HistoryLong T h → MaskedStreams m T h (history_shows (main_machine m T) h)
  shows h long k =
      let rows : Rows V = masked (count_at h) k (row_at h) in (
        run (main_machine m T) rows,
        exists m T K (main T) main_in_lem rows (masked_long (node_at T (main T)) (count_at h) k (row_at h) (rows_long (node_at T (main T)) h long)) (instants h),
        λ i y il e yl. sym (history_run (main_machine m T) main_idles h k i e y),
      )

  pub streams_exist : StreamsExist m T
  streams_exist = record {
    node = λ k l rows long n. (run (machine m T k) rows, exists m T K k l rows long n);
    history = λ h long. (history_shows (main_machine m T) h, shows h long);
  }

  pub streams_unique : StreamsUnique m T
  streams_unique = record {
    node = λ k l rows n H H' h h' i y il yl. unique m T K k l rows rows n H H' h h' n (omega arith) (λ j q. refl) i il y yl;
    causal = unique m T K;
    history = same;
    masked = λ h S S' s s' i y il yl.
        let a = s (count_at h i) in
        let b = s' (count_at h i) in
        a.2 i y il refl yl ∙ same h (count_at h i) a.0 b.0 a.1 b.1 i y il yl ∙ sym (b.2 i y il refl yl);
  }
    where
      same : (h : History V) (k : ℕ) (H H' : Streams V) → HistoryStreams m T h k H → HistoryStreams m T h k H'
          → (i y : ℕ) → i < instants h → y < main_variables T → H i y ≡ H' i y
      same h k H H' s s' i y il yl =
          unique m T K (main T) main_in_lem (masked (count_at h) k (row_at h)) (masked (count_at h) k (row_at h)) (instants h) H H' s s' (instants h) (omega arith) (λ j q. refl) i il y yl

  pub machine_shows : MachineShows m T
  machine_shows = record {
    masked = shows;
    streams = λ h long i il H s y yl.
        let a = shows h long (count_at h i) in
        a.2 i y il refl yl ∙ streams_unique.history h (count_at h i) a.0 H a.1 s i y il yl;
    grows = grows (main_machine m T);
    filled = λ h long.
        let at = steps m T K (main T) main_in_lem in
        tree_all (main_machine m T) main_idles (Filled T (main T)) (node_at T (main T)) at.starts at.keeps h long (main_machine m T).start at.starts;
    steps = steps m T K;
  }
