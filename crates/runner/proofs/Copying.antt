-- Operands and gives at their places, and what copying one of them leaves to copy.
use Rattle.std.proofs.Common.{◌≡◌, ℕ, ◌+◌, ◌<◌, ◌≤◌, Bool, true, ltb, List, [], ◌∷◌, length, get_or, drop, set, Some, None, Option, sym, refl, ap, ◌∙◌, arith}
use Rattle.std.specs.List.{slice_get}
use Rattle.std.proofs.lemmas.List.{length-set}
use Rattle.std.proofs.lemmas.Option.{slice_get_read}
use Rattle.std.proofs.lemmas.Bool.{and_parts, ltb-true}
use Rattle.opset.specs.Meaning.{Meaning}
use Rattle.words.specs.Bits.{field, kind_of}
use Rattle.words.specs.Format.{literal_in}
use Rattle.words.specs.declared.kinds.Literal.{Literal}
use Rattle.words.specs.declared.kinds.Operand.{Operand}
use Rattle.words.specs.declared.kinds.Operand.TheVariants.{Take, Literal as Constant}
use Rattle.instructions.specs.declared.code_word.CodeWord.{CodeWord}
use Rattle.instructions.specs.Format.{says}
use Rattle.streams.specs.Streams.{value_of}
use Rattle.execution.specs.Cells.{copied_in, copied_out, stored}
use Rattle.execution.specs.Words.{gives_by, gives_in, operands_by, operands_in, program}
use Rattle.execution.specs.Sound.{gives_fine, operand_fine, operands_fine}
use Rattle.runner.proofs.Places.{at_place}
use Rattle.runner.proofs.Readings.{by_kind, says_cases}

-- at the place p + i, with the word w
module _ (ws : List ℕ) (p i w : ℕ) (here : p + i < length ws) (at : w ≡ get_or ws (p + i) 0) where
  front : {A : Type 0} (F : List CodeWord → A) (c : CodeWord) → says w ≡ c → F (drop (p + i) (program ws)) ≡ F (c ∷ drop (p + (i + 1)) (program ws))
  front F c e =
      let on : p + i + 1 ≡ p + (i + 1) = omega arith in
      ap F (at_place ws (p + i) here)
      ∙ ap (λ c. F (c ∷ drop (p + i + 1) (program ws))) (ap says (sym at) ∙ e)
      ∙ ap (λ q. F (c ∷ drop q (program ws))) on

  pub take_here : kind_of w ≡ 9 → operands_in (drop (p + i) (program ws)) ≡ Take (field w 0 6) ∷ operands_in (drop (p + (i + 1)) (program ws))
  take_here e = front operands_in _ (by_kind w 9 e)

  pub literal_here : kind_of w ≡ 10 → operands_in (drop (p + i) (program ws)) ≡ Constant (literal_in w) ∷ operands_in (drop (p + (i + 1)) (program ws))
  literal_here e = front operands_in _ (by_kind w 10 e)

  pub no_operand : (kind_of w ≡ 9 → ⊥) → (kind_of w ≡ 10 → ⊥) → operands_in (drop (p + i) (program ws)) ≡ []
  no_operand n9 n10 =
      front operands_in (says w) refl
      ∙ says_cases (λ c. operands_by c (operands_in (drop (p + (i + 1)) (program ws))) ≡ []) w (kind_of w)
      (λ e. refl) (λ e. refl) (λ e. refl) (λ e. refl) (λ e. refl) (λ e. absurd (n9 e)) (λ e. absurd (n10 e)) (λ e. refl) refl refl refl refl refl refl

  pub give_here : kind_of w ≡ 11 → gives_in (drop (p + i) (program ws)) ≡ field w 0 6 ∷ gives_in (drop (p + (i + 1)) (program ws))
  give_here e = front gives_in _ (by_kind w 11 e)

  pub no_give : (kind_of w ≡ 11 → ⊥) → gives_in (drop (p + i) (program ws)) ≡ []
  no_give n11 =
      front gives_in (says w) refl
      ∙ says_cases (λ c. gives_by c (gives_in (drop (p + (i + 1)) (program ws))) ≡ []) w (kind_of w)
      (λ e. refl) (λ e. refl) (λ e. refl) (λ e. refl) (λ e. refl) (λ e. refl) (λ e. refl) (λ e. absurd (n11 e)) refl refl refl refl refl refl

-- lists are copied by F, one after the other, where Fine says that the cells are enough: i are, and `left` is still to be
module _ {V X : Type 0} (F : List V → ℕ → List X → List V) (Fine : ℕ → List X → Bool) where
  pub record Copying (start cells : List V) (at i : ℕ) (all left : List X) : Type 0 where
    pub count : i + length left ≡ length all
    pub fine : Fine (length cells) left ≡ true
    pub same : F cells (at + i) left ≡ F start at all

  module _ (start cells : List V) (at i : ℕ) (all left : List X) (inv : Copying start cells at i all left) where
    pub copying_place : (x : X) (rest : List X) → left ≡ x ∷ rest → at + length all ≤ length cells → at + i < length cells
    copying_place x rest e l = omega (arith, ap length e, inv.count)

    copying_more : (x : X) (rest : List X) → left ≡ x ∷ rest → (after : List V) → Fine (length after) rest ≡ true
        → F after (at + i + 1) rest ≡ F cells (at + i) (x ∷ rest) → Copying start after at (i + 1) all rest
    copying_more x rest e after f s =
        let on : at + (i + 1) ≡ at + i + 1 = omega arith in
        record {
          count = omega (arith, ap length e, inv.count);
          fine = f;
          same = ap (λ n. F after n rest) on ∙ s ∙ ap (F cells (at + i)) (sym e) ∙ inv.same;
        }

    copying_done : left ≡ [] → F cells (at + i) [] ≡ cells → (i ≡ length all) × (cells ≡ F start at all)
    copying_done e f = (omega (arith, ap length e, inv.count), sym f ∙ ap (F cells (at + i)) (sym e) ∙ inv.same)

length_stored : {V : Type 0} (cells : List V) (x : ℕ) (o : Option V) → length (stored cells x o) ≡ length cells
length_stored cells x None = refl
length_stored cells x (Some v) = length-set cells x v

-- operands
pub fine_operand : (size : ℕ) (left rest : List Operand) (a : Operand) → left ≡ a ∷ rest → operands_fine size left ≡ true → (operand_fine size a ≡ true) × (operands_fine size rest ≡ true)
fine_operand size left rest a e h = and_parts (operand_fine size a) (operands_fine size rest) (ap (operands_fine size) (sym e) ∙ h)

module _ {V : Type 0} (m : Meaning V) (start cells : List V) (at i : ℕ) (all left : List Operand) (inv : Copying (copied_in m) operands_fine start cells at i all left) where
  pub operand_copied : (a : Operand) (rest : List Operand) → left ≡ a ∷ rest → (after : List V)
      → after ≡ stored cells (at + i) (value_of m (slice_get cells) a) → Copying (copied_in m) operands_fine start after at (i + 1) all rest
  operand_copied a rest e after s =
      copying_more (copied_in m) operands_fine start cells at i all left inv a rest e after
      (ap (λ n. operands_fine n rest) (ap length s ∙ length_stored cells (at + i) (value_of m (slice_get cells) a)) ∙ (fine_operand (length cells) left rest a e inv.fine).1)
      (ap (λ cs. copied_in m cs (at + i + 1) rest) s)

  pub operands_copied : left ≡ [] → (i ≡ length all) × (cells ≡ copied_in m start at all)
  operands_copied e = copying_done (copied_in m) operands_fine start cells at i all left inv e refl

-- gives
pub fine_give : (size : ℕ) (left rest : List ℕ) (x : ℕ) → left ≡ x ∷ rest → gives_fine size left ≡ true → (x < size) × (gives_fine size rest ≡ true)
fine_give size left rest x e h =
    let q = and_parts (ltb x size) (gives_fine size rest) (ap (gives_fine size) (sym e) ∙ h) in
    (ltb-true x size q.0, q.1)

module _ {V : Type 0} (start cells : List V) (at i : ℕ) (all left : List ℕ) (inv : Copying copied_out gives_fine start cells at i all left) where
  pub give_copied : (x : ℕ) (rest : List ℕ) → left ≡ x ∷ rest → (after : List V)
      → after ≡ stored cells x (slice_get cells (at + i)) → Copying copied_out gives_fine start after at (i + 1) all rest
  give_copied x rest e after s =
      copying_more copied_out gives_fine start cells at i all left inv x rest e after
      (ap (λ n. gives_fine n rest) (ap length s ∙ length_stored cells x (slice_get cells (at + i))) ∙ (fine_give (length cells) left rest x e inv.fine).1)
      (ap (λ cs. copied_out cs (at + i + 1) rest) s)

  pub gives_copied : left ≡ [] → (i ≡ length all) × (cells ≡ copied_out start at all)
  gives_copied e = copying_done copied_out gives_fine start cells at i all left inv e refl

-- at a word of its kind, what copying one asks for, and what it leaves: x is a variable's number, and v is what a cell holds
module _ {V : Type 0} (m : Meaning V) (ws : List ℕ) (start cells : List V) (p at i w : ℕ) (here : p + i < length ws) (w-is : w ≡ get_or ws (p + i) 0)
    (inv : Copying (copied_in m) operands_fine start cells at i (operands_in (drop p (program ws))) (operands_in (drop (p + i) (program ws)))) where
  abbrev Taken : List V → Type 0
  Taken after = Copying (copied_in m) operands_fine start after at (i + 1) (operands_in (drop p (program ws))) (operands_in (drop (p + (i + 1)) (program ws)))

  pub take_cell : kind_of w ≡ 9 → field w 0 6 < length cells
  take_cell e = ltb-true (field w 0 6) (length cells) (fine_operand (length cells) _ _ _ (take_here ws p i w here w-is e) inv.fine).0

  pub take_place : kind_of w ≡ 9 → at + length (operands_in (drop p (program ws))) ≤ length cells → at + i < length cells
  take_place e l = copying_place (copied_in m) operands_fine start cells at i _ _ inv _ _ (take_here ws p i w here w-is e) l

  pub take_copied : (x : ℕ) (v : V) (after : List V) → kind_of w ≡ 9 → x ≡ field w 0 6 → v ≡ get_or cells x v → after ≡ set cells (at + i) v → Taken after
  take_copied x v after e x-is v-is a =
      let l : x < length cells = omega (arith, take_cell e) in
      let value : slice_get cells (field w 0 6) ≡ Some v = ap (slice_get cells) (sym x-is) ∙ slice_get_read cells (length cells) x v refl l v-is in
      operand_copied m start cells at i _ _ inv _ _ (take_here ws p i w here w-is e) after (a ∙ ap (stored cells (at + i)) (sym value))

  pub literal_place : kind_of w ≡ 10 → at + length (operands_in (drop p (program ws))) ≤ length cells → at + i < length cells
  literal_place e l = copying_place (copied_in m) operands_fine start cells at i _ _ inv _ _ (literal_here ws p i w here w-is e) l

  pub literal_copied : (l : Literal) (r : Option V) (after : List V) → kind_of w ≡ 10 → l ≡ literal_in w → r ≡ m.literal l.ty l.payload
      → after ≡ stored cells (at + i) r → Taken after
  literal_copied l r after e l-is r-is a =
      operand_copied m start cells at i _ _ inv _ _ (literal_here ws p i w here w-is e) after (a ∙ ap (stored cells (at + i)) (r-is ∙ ap (λ l. m.literal l.ty l.payload) l-is))

module _ {V : Type 0} (ws : List ℕ) (start cells : List V) (p at i w : ℕ) (here : p + i < length ws) (w-is : w ≡ get_or ws (p + i) 0) (e : kind_of w ≡ 11)
    (inv : Copying copied_out gives_fine start cells at i (gives_in (drop p (program ws))) (gives_in (drop (p + i) (program ws)))) where
  pub give_cell : field w 0 6 < length cells
  give_cell = (fine_give (length cells) _ _ _ (give_here ws p i w here w-is e) inv.fine).0

  pub give_place : at + length (gives_in (drop p (program ws))) ≤ length cells → at + i < length cells
  give_place l = copying_place copied_out gives_fine start cells at i _ _ inv _ _ (give_here ws p i w here w-is e) l

  pub give_ahead : p + length (gives_in (drop p (program ws))) < length ws → p + (i + 1) < length ws
  give_ahead l = omega (arith, ap length (give_here ws p i w here w-is e), inv.count)

  pub give_more : (x : ℕ) (v : V) → at + length (gives_in (drop p (program ws))) ≤ length cells → x ≡ field w 0 6 → v ≡ get_or cells (at + i) v
      → Copying copied_out gives_fine start (set cells x v) at (i + 1) (gives_in (drop p (program ws))) (gives_in (drop (p + (i + 1)) (program ws)))
  give_more x v l x-is v-is =
      give_copied start cells at i _ _ inv _ _ (give_here ws p i w here w-is e) (set cells x v)
      (ap (λ x. set cells x v) x-is ∙ ap (stored cells (field w 0 6)) (sym (slice_get_read cells (length cells) (at + i) v refl (give_place l) v-is)))
