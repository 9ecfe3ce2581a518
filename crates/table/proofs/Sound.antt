-- Words that are read spell the table that is tracked to their end.
use Rattle.std.proofs.Common.{◌≡◌, ℕ, ◌+◌, ◌^◌, ◌<◌, ◌≤◌, Bool, true, false, cond, ◌||◌, eqb, ltb, List, [], ◌∷◌, ◌++◌, length, Ok, Err, Result, sym, refl, ap, ◌∙◌, subst, arith, ltb-false, ltb-true}
use Rattle.std.proofs.lemmas.List.{append-nil, append_assoc, length_push}
use Rattle.std.specs.List.{AllByRecursion}
use Rattle.reader.specs.declared.faults.ReadFault.TheVariants.{Length, Kind}
use Rattle.reader.specs.declared.outline.Outline.{Outline}
use Rattle.reader.specs.declared.scan.Expect.{Expect}
use Rattle.reader.specs.declared.scan.Expect.TheVariants.{Head as Due-head, Node as Due-node, Variables, Equation as Due-equation, Literal as Due-literal, Operands, Gives}
use Rattle.reader.specs.declared.scan.Scan.{Scan}
use Rattle.reader.specs.Scanning.{Fed, feed_by, feed_of, may_end, may_end_by, site_of, start}
use Rattle.reader.specs.Whole.{and_go, scanned, scan_of}
use Rattle.table.specs.Syntax.{Table}
use Rattle.table.specs.Spelling.{spelled, KeepsLimits, Outlines}
use Rattle.table.proofs.Tracked.{TrackedBy, Tracked}
use Rattle.table.proofs.Steps.{step_head, step_node, step_variable, step_literal, step_operand, step_give}
use Rattle.table.proofs.Heads.{step_equation}

step_by : (E : Expect) (own : ℕ) (s t : Scan) (ws : List ℕ) (w : ℕ) → w < 2 ^ 32 → TrackedBy E own s.variables s.outline ws
    → feed_by E own s (length ws) w ≡ Ok t → Tracked own t (ws ++ w ∷ [])
step_by Due-head own s t ws w h i e = step_head own s t ws w i e
step_by Due-node own s t ws w h i e = step_node own s t ws w i e
step_by (Variables more) own s t ws w h i e = step_variable own s t ws w more i e
step_by Due-equation own s t ws w h i e = step_equation own s t ws w i e
step_by Due-literal own s t ws w h i e = step_literal own s t ws w h i e
step_by (Operands more gives) own s t ws w h i e = step_operand own s t ws w more gives h i e
step_by (Gives more) own s t ws w h i e = step_give own s t ws w more i e

-- some table that the words spell
pub record SpellsSome (own : ℕ) (ws : List ℕ) (o : Outline) : Type 0 where
  pub table : Table
  pub words : ws ≡ spelled own table
  pub short : length ws ≤ 16384
  pub keeps : KeepsLimits table
  pub outlines : Outlines table o

-- at the end
ended : (E : Expect) (own v : ℕ) (o : Outline) (ws : List ℕ) → may_end_by E o.nodes ≡ true → TrackedBy E own v o ws → length ws ≤ 16384 → SpellsSome own ws o
ended Due-head own v o ws e i h = absurd (let z : ◌≡◌ {A = ℕ} 0 1 = cc in omega arith)
ended Due-node own v o ws e i h = record {
  table = i.table;
  words = i.words;
  keeps = record { count = (omega (arith, ltb-true 0 o.nodes e, i.nodes), i.finished.few); nodes = i.finished.keeps };
  outlines = record { nodes = i.nodes; each = i.finished.each };
  short = h;
}
ended (Variables more) own v o ws e i h = absurd (let z : ◌≡◌ {A = ℕ} 0 1 = cc in omega arith)
ended Due-equation own v o ws e i h = absurd (let z : ◌≡◌ {A = ℕ} 0 1 = cc in omega arith)
ended Due-literal own v o ws e i h = absurd (let z : ◌≡◌ {A = ℕ} 0 1 = cc in omega arith)
ended (Operands more gives) own v o ws e i h = absurd (let z : ◌≡◌ {A = ℕ} 0 1 = cc in omega arith)
ended (Gives more) own v o ws e i h = absurd (let z : ◌≡◌ {A = ℕ} 0 1 = cc in omega arith)

refusal : {X Y : Type 0} (f : Y) (x : X) → ◌≡◌ {A = Result X Y} (Err f) (Ok x) → ⊥
refusal f x e = let z : ◌≡◌ {A = ℕ} 0 1 = cc in omega arith

ended_by : (own : ℕ) (s : Scan) (ws : List ℕ) (o : Outline) (b : Bool) → may_end s ≡ b → Tracked own s ws → length ws ≤ 16384
    → cond b (Ok s.outline) (Err (Kind (site_of s (length ws)))) ≡ Ok o → SpellsSome own ws o
ended_by own s ws o true m i h e =
    let F : Outline → Type 0 = SpellsSome own ws in
    let same : s.outline ≡ o = cc in
    subst F same (ended s.expect own s.variables s.outline ws m i h)
ended_by own s ws o false m i h e = absurd (refusal (Kind (site_of s (length ws))) o e)

-- the words that are left, and that they go on to spell a table
abbrev Rest : ℕ → List ℕ → Outline → Type 0
Rest own rest o = (s : Scan) (ws : List ℕ) → Tracked own s ws → length (ws ++ rest) ≤ 16384
    → scanned own (length ws) s rest ≡ Ok o → SpellsSome own (ws ++ rest) o

fed_by : (own : ℕ) (s : Scan) (ws : List ℕ) (w : ℕ) (rest : List ℕ) (o : Outline) (r : Fed) → Rest own rest o → feed_of own s (length ws) w ≡ r → w < 2 ^ 32
    → Tracked own s ws → length (ws ++ w ∷ rest) ≤ 16384 → and_go (λ t. scanned own (length ws + 1) t rest) r ≡ Ok o → SpellsSome own (ws ++ w ∷ rest) o
fed_by own s ws w rest o (Ok t) go f b i h e =
    let n : (ws ++ w ∷ []) ++ rest ≡ ws ++ w ∷ rest = append_assoc ws (w ∷ []) rest in
    let F : List ℕ → Type 0 = λ l. SpellsSome own l o in
    let j = step_by s.expect own s t ws w b i f in
    let g = ap (λ k. scanned own k t rest) (length_push ws w) ∙ e in
    subst F n (go t (ws ++ w ∷ []) j (omega (arith, ap length n, h)) g)
fed_by own s ws w rest o (Err x) go f b i h e = absurd (refusal x o e)

rest_sound : (own : ℕ) (rest : List ℕ) (o : Outline) → AllByRecursion (λ w. w < 2 ^ 32) rest → Rest own rest o
rest_sound own [] o a s ws i h e =
    let n = append-nil ws in
    let F : List ℕ → Type 0 = λ l. SpellsSome own l o in
    subst F (sym n) (ended_by own s ws o (may_end s) refl i (omega (arith, ap length n, h)) e)
rest_sound own (w ∷ rest) o a s ws i h e =
    fed_by own s ws w rest o (feed_of own s (length ws) w) (rest_sound own rest o a.1) refl a.0 i h e

-- What is read is spelled.
length_by : (own : ℕ) (ws : List ℕ) (o : Outline) (b : Bool) → (eqb (length ws) 0 || ltb 16384 (length ws)) ≡ b → AllByRecursion (λ w. w < 2 ^ 32) ws
    → cond b (Err Length) (scanned own 0 start ws) ≡ Ok o → length ws ≤ 16384 → SpellsSome own ws o
length_by own ws o true t a e h = absurd (refusal Length o e)
length_by own ws o false t a e h = rest_sound own ws o a start [] (refl, refl) h e

not_or : (a b : Bool) → (a || b) ≡ false → b ≡ false
not_or true b e = absurd (let z : ◌≡◌ {A = ℕ} 0 1 = cc in omega arith)
not_or false b e = e

short_by : (own : ℕ) (ws : List ℕ) (o : Outline) (b : Bool) → (eqb (length ws) 0 || ltb 16384 (length ws)) ≡ b → cond b (Err Length) (scanned own 0 start ws) ≡ Ok o → length ws ≤ 16384
short_by own ws o true t e = absurd (refusal Length o e)
short_by own ws o false t e = ltb-false 16384 (length ws) (not_or (eqb (length ws) 0) (ltb 16384 (length ws)) t)

pub sound : (own : ℕ) (ws : List ℕ) (o : Outline) → AllByRecursion (λ w. w < 2 ^ 32) ws → scan_of own ws ≡ Ok o → SpellsSome own ws o
sound own ws o a e =
    let b = eqb (length ws) 0 || ltb 16384 (length ws) in
    length_by own ws o b refl a e (short_by own ws o b refl e)
