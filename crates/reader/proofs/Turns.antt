-- The turns of the loop over the words.
use Rattle.std.proofs.Common.{◌≡◌, ℕ, ◌+◌, ◌<◌, ◌≤◌, true, false, cond, List, length, get_or, drop, Ok, Err, sym, ap, ◌∙◌, arith}
use Rattle.std.proofs.lemmas.List.{at_drop_more, at_drop_all}
use Rattle.std.proofs.lemmas.Bool.{ne_eqb, le-ltb}
use Rattle.reader.specs.declared.faults.ReadFault.{ReadFault}
use Rattle.reader.specs.declared.faults.ReadFault.TheVariants.{Kind}
use Rattle.reader.specs.declared.scan.Scan.{Scan}
use Rattle.reader.specs.Scanning.{Fed, feed_of, may_end, site_of, start}
use Rattle.reader.specs.Whole.{and_go, scanned, scan_of}

module _ (own : ℕ) (ws : List ℕ) (at : ℕ) (s : Scan) where
  turn : (r : Fed) → at < length ws → r ≡ feed_of own s at (get_or ws at 0)
      → scanned own at s (drop at ws) ≡ and_go (λ t. scanned own (at + 1) t (drop (at + 1) ws)) r
  turn r h e =
      at_drop_more (scanned own at s) ws at 0 h ∙ ap (and_go (λ t. scanned own (at + 1) t (drop (at + 1) ws))) (sym e)

  pub goes_on : (t : Scan) → at < length ws → Ok t ≡ feed_of own s at (get_or ws at 0)
      → scanned own at s (drop at ws) ≡ scanned own (at + 1) t (drop (at + 1) ws)
  goes_on t h e = turn (Ok t) h e

  pub refused : (f : ReadFault) → at < length ws → Err f ≡ feed_of own s at (get_or ws at 0) → scanned own at s (drop at ws) ≡ Err f
  refused f h e = turn (Err f) h e

  ended : length ws ≤ at → scanned own at s (drop at ws) ≡ cond (may_end s) (Ok s.outline) (Err (Kind (site_of s at)))
  ended h = at_drop_all (scanned own at s) ws at h

  pub ended_well : length ws ≤ at → true ≡ may_end s → scanned own at s (drop at ws) ≡ Ok s.outline
  ended_well h t = rw (← t) at (ended h)

  pub ended_early : at ≡ length ws → false ≡ may_end s → scanned own at s (drop at ws) ≡ Err (Kind (site_of s (length ws)))
  ended_early e t = let h : length ws ≤ at = omega arith in ended h ∙ rw (← t, e)

pub of_length : (own : ℕ) (ws : List ℕ) → 0 < length ws → length ws ≤ 16384 → scanned own 0 start ws ≡ scan_of own ws
of_length own ws a b =
    let e = ne_eqb (length ws) 0 (λ q. omega arith) in let f = le-ltb 16384 (length ws) b in rw (e, f)
