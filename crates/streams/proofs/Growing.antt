-- A history that grows by an event.
use Rattle.std.proofs.Common.{◌≡◌, ℕ, zero, suc, ◌<◌, List, [], ◌∷◌, ◌++◌, Some, None, refl, ap, ◌∙◌, ap₂, arith}
use Rattle.streams.specs.History.{Event, row, idle, restart, History, instants, row_at}
use Rattle.streams.specs.Machine.{Tree, Machine, tree_at, Grows}

-- its instants
pub row_instants : {V : Type 0} (h : History V) (vs : List V) → instants (h ++ row vs ∷ []) ≡ suc (instants h)
row_instants [] vs = refl
row_instants (row us ∷ h) vs = ap suc (row_instants h vs)
row_instants (idle ∷ h) vs = ap suc (row_instants h vs)
row_instants (restart ∷ h) vs = row_instants h vs

pub idle_instants : {V : Type 0} (h : History V) → instants (h ++ idle ∷ []) ≡ suc (instants h)
idle_instants [] = refl
idle_instants (row us ∷ h) = ap suc (idle_instants h)
idle_instants (idle ∷ h) = ap suc (idle_instants h)
idle_instants (restart ∷ h) = idle_instants h

pub restart_instants : {V : Type 0} (h : History V) → instants (h ++ restart ∷ []) ≡ instants h
restart_instants [] = refl
restart_instants (row us ∷ h) = ap suc (restart_instants h)
restart_instants (idle ∷ h) = ap suc (restart_instants h)
restart_instants (restart ∷ h) = restart_instants h

-- its rows
pub row_at_lem : {V : Type 0} (h : History V) (e : Event V) → row_at (h ++ e ∷ []) (instants h) ≡ row_at (e ∷ []) 0
row_at_lem [] e = refl
row_at_lem (row vs ∷ h) e = row_at_lem h e
row_at_lem (idle ∷ h) e = row_at_lem h e
row_at_lem (restart ∷ h) e = row_at_lem h e

pub row_stays : {V : Type 0} (h : History V) (e : Event V) (i : ℕ) → i < instants h → row_at (h ++ e ∷ []) i ≡ row_at h i
row_stays [] e i l = absurd (omega arith)
row_stays (row vs ∷ h) e zero l = refl
row_stays (row vs ∷ h) e (suc i) l = row_stays h e i (omega arith)
row_stays (idle ∷ h) e zero l = refl
row_stays (idle ∷ h) e (suc i) l = row_stays h e i (omega arith)
row_stays (restart ∷ h) e i l = row_stays h e i l

-- the machine's memories
module _ {V : Type 0} (c : Machine V) where
  tree_at_lem : (t : Tree V) (h : History V) (e : Event V) → tree_at c t (h ++ e ∷ []) (instants h) ≡ tree_at c (tree_at c t h (instants h)) (e ∷ []) 0
  tree_at_lem t [] e = refl
  tree_at_lem t (row vs ∷ h) e = tree_at_lem (c.next t (Some vs)) h e
  tree_at_lem t (idle ∷ h) e = tree_at_lem (c.next t None) h e
  tree_at_lem t (restart ∷ h) e = tree_at_lem c.start h e

  tree_next : (t : Tree V) (h : History V) (e : Event V) → tree_at c t (h ++ e ∷ []) (suc (instants h)) ≡ tree_at c (tree_at c t h (instants h)) (e ∷ []) 1
  tree_next t [] e = refl
  tree_next t (row vs ∷ h) e = tree_next (c.next t (Some vs)) h e
  tree_next t (idle ∷ h) e = tree_next (c.next t None) h e
  tree_next t (restart ∷ h) e = tree_next c.start h e

  tree_stays : (t : Tree V) (h : History V) (e : Event V) (i : ℕ) → i < instants h → tree_at c t (h ++ e ∷ []) i ≡ tree_at c t h i
  tree_stays t [] e i l = absurd (omega arith)
  tree_stays t (row vs ∷ h) e zero l = refl
  tree_stays t (row vs ∷ h) e (suc i) l = tree_stays (c.next t (Some vs)) h e i (omega arith)
  tree_stays t (idle ∷ h) e zero l = refl
  tree_stays t (idle ∷ h) e (suc i) l = tree_stays (c.next t None) h e i (omega arith)
  tree_stays t (restart ∷ h) e i l = tree_stays c.start h e i l

  pub grows : Grows c
  grows = record {
    by_row = λ h vs. ap (tree_at c c.start (h ++ row vs ∷ [])) (row_instants h vs) ∙ tree_next c.start h (row vs);
    by_idle = λ h. ap (tree_at c c.start (h ++ idle ∷ [])) (idle_instants h) ∙ tree_next c.start h idle;
    by_restart = λ h. ap (tree_at c c.start (h ++ restart ∷ [])) (restart_instants h) ∙ tree_at_lem c.start h restart;
    shows_row = λ h vs y. ap₂ (λ t us. c.shows t us y) (tree_at_lem c.start h (row vs)) (row_at_lem h (row vs));
    shows_idle = λ h y. ap₂ (λ t us. c.shows t us y) (tree_at_lem c.start h idle) (row_at_lem h idle);
    stays = λ h e i y l. ap₂ (λ t us. c.shows t us y) (tree_stays c.start h e i l) (row_stays h e i l);
  }
