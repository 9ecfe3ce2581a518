-- What a RESET and a STEP of a fine place need, and where a run goes on behind them.
use Rattle.std.proofs.Common.{◌≡◌, ℕ, zero, suc, ◌+◌, ◌-◌, ◌<◌, ◌≤◌, true, ◌&&◌, eqb, ltb, leb, List, [], ◌∷◌, ◌++◌, length, get_or, take, drop, sym, refl, ap, ◌∙◌, ⊎_elim, arith}
use borrow.Rule.Slice.PartMut.{put_mid}
use Rattle.std.proofs.lemmas.List.{append-nil, drop_all, drop-drop, length-append, length-drop, length-take-le, take_rest}
use Rattle.std.proofs.lemmas.Bool.{and_from, and_parts, cases_eq, cond-false, cond-true, eq-eqb, leb-true, lt-ltb, ltb-true, ne_eqb}
use Rattle.opset.specs.Meaning.{Meaning}
use Rattle.words.specs.declared.kinds.Operand.{Operand}
use Rattle.words.specs.Bits.{field, kind_of}
use Rattle.instructions.specs.Format.{says, says_as}
use Rattle.execution.specs.Cells.{copied_in, copied_out, stepped}
use Rattle.execution.specs.Words.{gives_behind, gives_in, go, need_at, operands_in, program, reset_by, reset_place, step_by, step_place, word_blocks}
use Rattle.execution.specs.Sound.{call_fine, fine, gives_fine, nodes_in, operand_fine, operands_fine, Sound}
use Rattle.runner.specs.From.{fine_from, run_from}
use Rattle.runner.specs.declared.calls.Call.{Call}
use Rattle.runner.specs.Calls.{CallAt, gives_of, operands_of, StepAt}
use Rattle.runner.proofs.Places.{fine_in, fine_past, fine_word}
use Rattle.runner.proofs.Readings.{operand_wider}
use Rattle.runner.proofs.Instructions.{Reaches, goes, said}

-- more cells are enough too
pub operands_wider : (n size : ℕ) (l : List Operand) → n ≤ size → operands_fine n l ≡ true → operands_fine size l ≡ true
operands_wider n size [] h f = refl
operands_wider n size (a ∷ l) h f =
    let q = and_parts (operand_fine n a) (operands_fine n l) f in
    and_from (operand_fine size a) (operands_fine size l) (operand_wider n size a h q.0) (operands_wider n size l h q.1)

pub gives_wider : (n size : ℕ) (l : List ℕ) → n ≤ size → gives_fine n l ≡ true → gives_fine size l ≡ true
gives_wider n size [] h f = refl
gives_wider n size (x ∷ l) h f =
    let q = and_parts (ltb x n) (gives_fine n l) f in
    and_from (ltb x size) (gives_fine size l) (lt-ltb x size (omega (arith, ltb-true x n q.0))) (gives_wider n size l h q.1)

-- an earlier node's blocks are those that it has by itself
module _ {V : Type 0} (m : Meaning V) (ws : List ℕ) where
  earlier_reset : (k g : ℕ) (cells : List V) → g < k → (word_blocks m ws k).resets g cells ≡ reset_by m ws g cells
  earlier_reset zero g cells h = absurd (omega arith)
  earlier_reset (suc k) g cells h =
      ⊎_elim
      (λ e. cond-true (eqb g k) _ _ (eq-eqb g k e) ∙ ap (λ n. reset_by m ws n cells) (sym e))
      (λ ne. cond-false (eqb g k) _ _ (ne_eqb g k ne) ∙ earlier_reset k g cells (omega arith))
      (cases_eq g k)

  earlier_step : (k g : ℕ) (cells : List V) → g < k → (word_blocks m ws k).steps g cells ≡ step_by m ws g cells
  earlier_step zero g cells h = absurd (omega arith)
  earlier_step (suc k) g cells h =
      ⊎_elim
      (λ e. cond-true (eqb g k) _ _ (eq-eqb g k e) ∙ ap (λ n. step_by m ws n cells) (sym e))
      (λ ne. cond-false (eqb g k) _ _ (ne_eqb g k ne) ∙ earlier_step k g cells (omega arith))
      (cases_eq g k)

-- after a run on the cells from `off` on
module _ {V : Type 0} (cells after : List V) (off : ℕ) where
  part_end : put_mid off (length cells - off) cells after ≡ take off cells ++ after
  part_end =
      let none = drop_all (length cells - off) (drop off cells) (omega (arith, length-drop off cells)) in
      ap (λ zs. take off cells ++ (after ++ zs)) none ∙ ap (λ zs. take off cells ++ zs) (append-nil after)

  pub part_run : (f : List V → List V) → after ≡ f (take (length cells - off) (drop off cells)) → put_mid off (length cells - off) cells after ≡ take off cells ++ f (drop off cells)
  part_run f e = part_end ∙ ap (λ zs. take off cells ++ zs) (e ∙ ap f (take_rest cells off))

  pub part_length : off ≤ length cells → length after ≡ length (take (length cells - off) (drop off cells)) → length (put_mid off (length cells - off) cells after) ≡ length cells
  part_length l e =
      let n : length after ≡ length cells - off = e ∙ ap length (take_rest cells off) ∙ length-drop off cells in
      ap length part_end ∙ length-append (take off cells) after ∙ omega (arith, n, length-take-le off cells l)

gives_behind_lem : (ws : List ℕ) (p : ℕ) → gives_behind (drop (p + 1) (program ws)) ≡ gives_of ws p
gives_behind_lem ws p = ap gives_in (drop-drop (length (operands_of ws p)) (p + 1) (program ws))

-- the gives stand behind so many operands
pub gives_at_lem : (ws : List ℕ) (p n : ℕ) → n ≡ length (operands_of ws p) → gives_in (drop (p + 1 + n) (program ws)) ≡ gives_of ws p
gives_at_lem ws p n e = ap (λ n. gives_in (drop (p + 1 + n) (program ws))) e

-- at a place of node k with the word w
module _ (ws : List ℕ) (k p : ℕ) (good : fine_from ws k p ≡ true) where
  abbrev w : ℕ
  w = get_or ws p 0

  reads : (j : ℕ) → kind_of w ≡ j → says w ≡ says_as j w
  reads j e = said ws k p w good refl j e

  call_at : (c : Call) → c.node ≡ field w 20 8 → c.offset ≡ field w 0 13 → call_fine ws k (field w 20 8) (field w 0 13) ≡ true
      → (c.node < k → fine_from ws c.node c.start ≡ true) → CallAt ws k p c
  call_at c g-is off-is h f =
      let g = field w 20 8 in
      let q = and_parts (ltb g k) (leb (field w 0 13 + need_at ws g) (need_at ws k)) h in
      let earlier : c.node < k = omega (arith, g-is, ltb-true g k q.0) in
      record {
        node = g-is;
        offset = off-is;
        earlier = earlier;
        room = omega (arith, off-is, ap (need_at ws) g-is, leb-true (field w 0 13 + need_at ws g) (need_at ws k) q.1);
        good = f earlier;
      }

  reset_fine : kind_of w ≡ 7 → (call_fine ws k (field w 20 8) (field w 0 13) ≡ true) × (fine ws k 0 (drop (p + 1) (program ws)) ≡ true)
  reset_fine e = and_parts (call_fine ws k (field w 20 8) (field w 0 13)) (fine ws k 0 (drop (p + 1) (program ws))) (fine_word ws k p _ good (reads 7 e))

  pub reset_earlier : kind_of w ≡ 7 → field w 20 8 < k
  reset_earlier e = ltb-true (field w 20 8) k (and_parts (ltb (field w 20 8) k) (leb (field w 0 13 + need_at ws (field w 20 8)) (need_at ws k)) (reset_fine e).0).0

  pub reset_call : (c : Call) → Sound ws → k < nodes_in ws → kind_of w ≡ 7 → c.node ≡ field w 20 8 → c.offset ≡ field w 0 13 → c.start ≡ reset_place ws c.node
      → CallAt ws k p c
  reset_call c sound l e g-is off-is s-is =
      call_at c g-is off-is (reset_fine e).0 (λ h. ap (fine_from ws c.node) s-is ∙ sound.resets c.node (omega arith))

  pub reset_behind : kind_of w ≡ 7 → p + 1 < length ws
  reset_behind e = let h = fine_in ws k (p + 1 + 0) (fine_past ws k p 0 (reset_fine e).1) in omega arith

  pub reset_reaches : {V : Type 0} (m : Meaning V) (cells after : List V) (c : Call) → kind_of w ≡ 7 → CallAt ws k p c → c.start ≡ reset_place ws c.node
      → after ≡ take c.offset cells ++ run_from m ws c.node c.start (drop c.offset cells) → Reaches m ws k p cells (p + 1) after
  reset_reaches m cells after c e f s-is a =
      let off = field w 0 13 in
      let g = field w 20 8 in
      goes ws k p w good refl m cells 0 (p + 1) after _ (reads 7 e)
      (ap (λ n. go 0 (take n cells ++ (word_blocks m ws k).resets g (drop n cells))) (sym f.offset)
      ∙ ap (λ n. go 0 (take c.offset cells ++ (word_blocks m ws k).resets n (drop c.offset cells))) (sym f.node)
      ∙ ap (λ zs. go 0 (take c.offset cells ++ zs)) (earlier_reset m ws k c.node (drop c.offset cells) f.earlier)
      ∙ ap (λ s. go 0 (take c.offset cells ++ run_from m ws c.node s (drop c.offset cells))) (sym s-is)
      ∙ ap (go 0) (sym a))
      (fine_past ws k p 0 (reset_fine e).1) (omega arith)

  record StepFine : Type 0 where
    call : call_fine ws k (field w 20 8) (field w 0 13) ≡ true
    operands : operands_fine (need_at ws k) (operands_of ws p) ≡ true
    gives : gives_fine (need_at ws k) (gives_of ws p) ≡ true
    fits : length (operands_of ws p) + length (gives_of ws p) ≤ need_at ws (field w 20 8)
    next : fine_from ws k (p + 1 + (length (operands_of ws p) + length (gives_of ws p))) ≡ true

  step_fine : kind_of w ≡ 8 → StepFine
  step_fine e =
      let n = need_at ws k in
      let g = field w 20 8 in
      let rest = drop (p + 1) (program ws) in
      let ops = operands_in rest in
      let gs = gives_behind rest in
      let same = gives_behind_lem ws p in
      let last = fine ws k (length ops + length gs) rest in
      let within = leb (length ops + length gs) (need_at ws g) in
      let q0 = and_parts (call_fine ws k g (field w 0 13)) (operands_fine n ops && (gives_fine n gs && (within && last))) (fine_word ws k p _ good (reads 8 e)) in
      let q1 = and_parts (operands_fine n ops) (gives_fine n gs && (within && last)) q0.1 in
      let q2 = and_parts (gives_fine n gs) (within && last) q1.1 in
      let q3 = and_parts within last q2.1 in
      record {
        call = q0.0;
        operands = q1.0;
        gives = ap (gives_fine n) (sym same) ∙ q2.0;
        fits = omega (arith, ap length same, leb-true (length ops + length gs) (need_at ws g) q3.0);
        next = ap (λ l. fine_from ws k (p + 1 + (length ops + length l))) (sym same) ∙ fine_past ws k p (length ops + length gs) q3.1;
      }

  pub step_earlier : kind_of w ≡ 8 → field w 20 8 < k
  step_earlier e = ltb-true (field w 20 8) k (and_parts (ltb (field w 20 8) k) (leb (field w 0 13 + need_at ws (field w 20 8)) (need_at ws k)) (step_fine e).call).0

  pub step_call : (c : Call) → Sound ws → k < nodes_in ws → kind_of w ≡ 8 → c.node ≡ field w 20 8 → c.offset ≡ field w 0 13 → c.start ≡ step_place ws c.node
      → CallAt ws k p c
  step_call c sound l e g-is off-is s-is =
      call_at c g-is off-is (step_fine e).call (λ h. ap (fine_from ws c.node) s-is ∙ sound.steps c.node (omega arith))

  pub step_behind : (g : ℕ) → kind_of w ≡ 8 → g ≡ field w 20 8 → StepAt ws k p g
  step_behind g e g-is =
      let f = step_fine e in
      record {
        operands = f.operands;
        gives = f.gives;
        fits = omega (arith, f.fits, ap (need_at ws) g-is);
        behind = fine_in ws k (p + 1 + (length (operands_of ws p) + length (gives_of ws p))) f.next;
      }

  -- the operands are copied in, the block runs, and the outputs are copied out
  pub step_reaches : {V : Type 0} (m : Meaning V) (cells given ran after : List V) (r : ℕ) (c : Call) → kind_of w ≡ 8 → CallAt ws k p c → c.start ≡ step_place ws c.node
      → given ≡ copied_in m cells c.offset (operands_of ws p)
      → ran ≡ take c.offset given ++ run_from m ws c.node c.start (drop c.offset given)
      → after ≡ copied_out ran (c.offset + length (operands_of ws p)) (gives_of ws p)
      → r ≡ p + 1 + (length (operands_of ws p) + length (gives_of ws p))
      → Reaches m ws k p cells r after
  step_reaches {V} m cells given ran after r c e f s-is i j o h =
      let n = length (operands_of ws p) in
      let gs = gives_of ws p in
      let done : ℕ → (List V → List V) → List V → List V = λ off block cs. copied_out (take off cs ++ block (drop off cs)) (off + n) gs in
      goes ws k p w good refl m cells (n + length gs) r after _ (reads 8 e)
      (ap (λ gs. go (n + length gs) (stepped m (word_blocks m ws k) (field w 20 8) (field w 0 13) (operands_of ws p) gs cells)) (gives_behind_lem ws p)
      ∙ ap (λ off. go (n + length gs) (done off ((word_blocks m ws k).steps (field w 20 8)) (copied_in m cells off (operands_of ws p)))) (sym f.offset)
      ∙ ap (λ cs. go (n + length gs) (done c.offset ((word_blocks m ws k).steps (field w 20 8)) cs)) (sym i)
      ∙ ap (λ g. go (n + length gs) (done c.offset ((word_blocks m ws k).steps g) given)) (sym f.node)
      ∙ ap (λ zs. go (n + length gs) (copied_out (take c.offset given ++ zs) (c.offset + n) gs)) (earlier_step m ws k c.node (drop c.offset given) f.earlier)
      ∙ ap (λ s. go (n + length gs) (done c.offset (run_from m ws c.node s) given)) (sym s-is)
      ∙ ap (λ cs. go (n + length gs) (copied_out cs (c.offset + n) gs)) (sym j)
      ∙ ap (go (n + length gs)) (sym o))
      (step_fine e).next h
