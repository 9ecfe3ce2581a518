-- Relations that agree on the equations have one order.
use Rattle.std.proofs.Common.{◌≡◌, ℕ, zero, suc, ◌<◌, Bool, not, List, [], ◌∷◌, ◌++◌, Some, None, Option, sym, refl, ap, ◌∙◌, subst}
use Rattle.rules.specs.Definitions.{is_in}
use Rattle.schedule.specs.Order.{Scheduled}
use Rattle.schedule.specs.Found.{holds_back, ready, next_of, grow, grown, OrderSame}
use Rattle.schedule.proofs.First.{every_same, first_same}
use Rattle.schedule.proofs.Meant.{order_stands}
use Rattle.schedule.proofs.Unique.{scheduled_is}

module _ (b c : ℕ → ℕ → Bool) (n : ℕ) (same : (i j : ℕ) → i < n → j < n → b i j ≡ c i j) where
  next_same : (placed : ℕ → Bool) → next_of b n placed ≡ next_of c n placed
  next_same placed =
      first_same (ready b n placed) (ready c n placed) n
      (λ j l. let e = every_same (λ i. not (holds_back b placed i j)) (λ i. not (holds_back c placed i j)) n (λ i h. rw (same i j h l)) in rw e)

  grown_same : (f g : List ℕ → Option (List ℕ)) → ((ps : List ℕ) → f ps ≡ g ps) → (ps : List ℕ) (o : Option ℕ) → grown f ps o ≡ grown g ps o
  grown_same f g h ps None = refl
  grown_same f g h ps (Some j) = h (ps ++ j ∷ [])

  grow_same : (k : ℕ) (ps : List ℕ) → grow b n k ps ≡ grow c n k ps
  grow_same zero ps = refl
  grow_same (suc k) ps =
      ap (grown (grow b n k) ps) (next_same (λ i. is_in i ps)) ∙
      grown_same (grow b n k) (grow c n k) (grow_same k) ps (next_of c n (λ i. is_in i ps))

pub order_same : OrderSame
order_same b c n same =
    let e = grow_same b c n same n [] in
    record { found = e; meant = λ r s. subst (Scheduled c n) (sym (scheduled_is b n r s ∙ e)) (order_stands c n) }
