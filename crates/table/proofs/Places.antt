-- What stands where in the words of a table.
use Rattle.std.proofs.Common.{◌≡◌, ℕ, zero, suc, ◌+◌, ◌<◌, ◌≤◌, List, [], ◌∷◌, ◌++◌, map, length, get_or, take, drop, sym, refl, ap, ◌∙◌, arith}
use Rattle.std.proofs.lemmas.List.{append_assoc, length-append, length-map, get_or-map, get_or-append-add, get_or_append_left}
use Rattle.words.specs.declared.kinds.Literal.{Literal}
use Rattle.words.specs.declared.kinds.Operand.{Operand}
use Rattle.words.specs.declared.kinds.Operand.TheVariants.{Take, Literal as Constant}
use Rattle.words.specs.declared.kinds.Ports.{Ports}
use Rattle.words.specs.declared.kinds.Variable.{Variable}
use Rattle.words.specs.declared.kinds.Word.{Word}
use Rattle.words.specs.declared.kinds.Word.TheVariants.{Head, Node as Open, Variable as Declare, Operand as With, End}
use Rattle.words.specs.Bits.{field, kind_of}
use Rattle.words.specs.Format.{encoded, ports_in, variable_in, literal_in, operand_in, WordFits}
use Rattle.words.proofs.Format.{words_stand, small_clock}
use Rattle.table.specs.Syntax.{Equation, Table, node_at, equation_at, an_equation}
use Rattle.table.specs.Spelling.{equation_words, equations_words, ports_of, node_words, nodes_words, node_place, head_place}

-- What is read from the word that spells it.
pub ports_back : (p : Ports) → WordFits (Open p) → ports_in (encoded (Open p)) ≡ p
ports_back p f =
    let w = encoded (Open p) in
    let k : kind_of w ≡ 1 = omega arith in
    let r = rw k at (words_stand.reads (Open p) f) in
    cc

pub variable_back : (v : Variable) → WordFits (Declare v) → variable_in (encoded (Declare v)) ≡ v
variable_back v f =
    let w = encoded (Declare v) in
    let k : kind_of w ≡ 2 = omega (arith, small_clock v.clock f.1) in
    let r = rw k at (words_stand.reads (Declare v) f) in
    cc

pub operand_back : (a : Operand) → WordFits (With a) → operand_in (encoded (With a)) ≡ a
operand_back (Take x) f =
    let w = encoded (With (Take x)) in
    let k : kind_of w ≡ 9 = omega arith in
    let b : field w 0 6 ≡ x = omega arith in
    rw (k, b)
operand_back (Constant l) f =
    let w = encoded (With (Constant l)) in
    let k : kind_of w ≡ 10 = omega arith in
    let b : field w 24 4 ≡ l.ty = omega arith in
    let c : field w 0 24 ≡ l.payload = omega arith in
    rw (k, b, c)

pub literal_back : (l : Literal) → WordFits (With (Constant l)) → literal_in (encoded (With (Constant l))) ≡ l
literal_back l f =
    let w = encoded (With (Constant l)) in
    let b : field w 24 4 ≡ l.ty = omega arith in
    let c : field w 0 24 ≡ l.payload = omega arith in
    rw (b, c)

-- A part of a list of words, behind what stands before it.
pub at_part : (xs before part : List Word) (n i : ℕ) → xs ≡ before ++ part → length before ≡ n → i < length part
    → get_or (map encoded xs) (n + i) 0 ≡ encoded (get_or part i End)
at_part xs before part n i e l h =
    ap (λ x. get_or (map encoded x) (n + i) 0) e
    ∙ ap (λ m. get_or (map encoded (before ++ part)) (m + i) 0) (sym l)
    ∙ get_or-map encoded (before ++ part) (length before + i) End 0 (omega (arith, length-append before part))
    ∙ ap encoded (get_or-append-add before part i End)

nodes_split : (T : Table) (k : ℕ) → k < length T → nodes_words T ≡ nodes_words (take k T) ++ (node_words (node_at T k) ++ nodes_words (drop (suc k) T))
nodes_split [] k h = absurd (omega arith)
nodes_split (N ∷ T) zero h = refl
nodes_split (N ∷ T) (suc k) h =
    ap (λ l. node_words N ++ l) (nodes_split T k (omega arith))
    ∙ sym (append_assoc (node_words N) (nodes_words (take k T)) (node_words (node_at T k) ++ nodes_words (drop (suc k) T)))

equations_split : (es : List Equation) (e : ℕ) → e < length es
    → equations_words es ≡ equations_words (take e es) ++ (equation_words (get_or es e an_equation) ++ equations_words (drop (suc e) es))
equations_split [] e h = absurd (omega arith)
equations_split (x ∷ es) zero h = refl
equations_split (x ∷ es) (suc e) h =
    ap (λ l. equation_words x ++ l) (equations_split es e (omega arith))
    ∙ sym (append_assoc (equation_words x) (equations_words (take e es)) (equation_words (get_or es e an_equation) ++ equations_words (drop (suc e) es)))

-- the words of a table: those before a part, the part, and those behind it
pub record Parted (xs part : List Word) (n : ℕ) : Type 0 where
  pub front : List Word
  pub behind : List Word
  pub is : xs ≡ front ++ (part ++ behind)
  pub place : length front ≡ n
  pub more : 1 ≤ length behind

abbrev all_words : ℕ → Table → List Word
all_words own T = Head own ∷ nodes_words T

-- a part of node k, by a front and a back of it
node_part : (own : ℕ) (T : Table) (k : ℕ) → k < length T → (front part back : List Word) → node_words (node_at T k) ≡ front ++ (part ++ back) → 1 ≤ length back
    → (n : ℕ) → node_place (take k T) + length front ≡ n → Parted (all_words own T) part n
node_part own T k h front part back e m n p =
    let P = nodes_words (take k T) in
    let rest = nodes_words (drop (suc k) T) in
    record {
      front = (Head own ∷ P) ++ front;
      behind = back ++ rest;
      is = ap (λ l. Head own ∷ l) (nodes_split T k h) ∙ ap (λ l. Head own ∷ (P ++ (l ++ rest))) e ∙ simp append_assoc;
      place = omega (arith, length-append (Head own ∷ P) front, p);
      more = omega (arith, length-append back rest, m);
    }

pub parted_word : (xs part : List Word) (n i : ℕ) → Parted xs part n → i < length part → get_or (map encoded xs) (n + i) 0 ≡ encoded (get_or part i End)
parted_word xs part n i t h =
    at_part xs t.front (part ++ t.behind) n i t.is t.place (omega (arith, length-append part t.behind, h))
    ∙ ap encoded (get_or_append_left part t.behind End i h)

pub parted_within : (xs part : List Word) (n : ℕ) → Parted xs part n → n + length part < length (map encoded xs)
parted_within xs part n t =
    omega (arith, length-map xs encoded, ap length t.is, length-append t.front (part ++ t.behind), length-append part t.behind, t.place, t.more)

module _ (own : ℕ) (T : Table) (k : ℕ) (h : k < length T) where
  pub node_parted : Parted (all_words own T) (Open (ports_of (node_at T k)) ∷ []) (node_place (take k T))
  node_parted =
      let N = node_at T k in
      let back = map Declare N.variables ++ (equations_words N.equations ++ (End ∷ [])) in
      node_part own T k h [] (Open (ports_of N) ∷ []) back refl
      (omega (arith, length-append (map Declare N.variables) (equations_words N.equations ++ (End ∷ [])), length-append (equations_words N.equations) (End ∷ [])))
      (node_place (take k T)) (omega arith)

  pub variables_parted : Parted (all_words own T) (map Declare (node_at T k).variables) (node_place (take k T) + 1)
  variables_parted =
      let N = node_at T k in
      node_part own T k h (Open (ports_of N) ∷ []) (map Declare N.variables) (equations_words N.equations ++ (End ∷ [])) refl
      (omega (arith, length-append (equations_words N.equations) (End ∷ [])))
      (node_place (take k T) + 1) (omega arith)

  pub equation_parted : (e : ℕ) → e < length (node_at T k).equations → Parted (all_words own T) (equation_words (equation_at (node_at T k) e)) (head_place (take k T) (node_at T k) e)
  equation_parted e l =
      let N = node_at T k in
      let es = N.equations in
      let ds = map Declare N.variables in
      let front = Open (ports_of N) ∷ (ds ++ equations_words (take e es)) in
      let back = equations_words (drop (suc e) es) ++ (End ∷ []) in
      node_part own T k h front (equation_words (equation_at N e)) back
      (ap (λ l. Open (ports_of N) ∷ (ds ++ (l ++ (End ∷ [])))) (equations_split es e l) ∙ simp append_assoc)
      (omega (arith, length-append (equations_words (drop (suc e) es)) (End ∷ [])))
      (head_place (take k T) N e) (omega (arith, length-append ds (equations_words (take e es)), length-map N.variables Declare))
