-- Equal calls get equal answers, where two tables differ only in the order of their equations.
use Rattle.std.proofs.Common.{◌≡◌, ℕ, ◌+◌, ◌-◌, ◌<◌, ◌≤◌, not, ltb, List, [], ◌∷◌, ◌++◌, get_or, is_some, Some, None, Option, sym, refl, ap, ◌∙◌, subst, ap₂, arith}
use Rattle.std.proofs.lemmas.Bool.{ltb-true}
use Rattle.opset.specs.Meaning.{Meaning}
use Rattle.words.specs.declared.kinds.Clock.TheVariants.{Base}
use Rattle.words.specs.declared.kinds.Variable.{Variable}
use Rattle.table.specs.Syntax.{Node, Table, variable_count}
use Rattle.rules.specs.Types.{type_of}
use Rattle.rules.specs.First.{or_else}
use Rattle.streams.specs.History.{History, row, instants, MaskedStreams}
use Rattle.streams.specs.Streams.{Streams}
use Rattle.streams.specs.Reordered.{ReorderedNode}
use Rattle.calls.specs.declared.refusal.Refusal.{Refusal}
use Rattle.calls.specs.declared.refusal.Refusal.TheVariants.{Memory, Port, Mistyped, Early, Twice}
use Rattle.calls.specs.Calls.{unless}
use Rattle.calls.specs.Story.{Ask, begin, offer, step, pass, restart, read, foreign, Answer, done, value, refused, Call, Story, at_rest, offers_in, row_of, row_values, goes_on, grows, story_of}
use Rattle.calls.specs.Answers.{main_node, refusal_for, Shows, GrantedRight, RightBy, Right}
use Rattle.calls.specs.Promise.{asks, answers}
use Rattle.calls.proofs.Tests.{both_none, unless_none}

abbrev type_in : List Variable → ℕ → ℕ
type_in vs x = (get_or vs x (record { ty = 0; clock = Base })).ty

-- the nodes differ only in their equations, which neither a story nor a refusal looks at
module _ {V : Type 0} (m : Meaning V) (N N' : Node) (same : ReorderedNode N N') where
  types_same : (x : ℕ) → type_of N x ≡ type_of N' x
  types_same x = ap (λ vs. type_in vs x) same.variables

  row_same : (offers : ℕ → Option V) → row_of m N offers ≡ row_of m N' offers
  row_same offers =
      ap₂ (λ vs n. row_values (λ i. or_else (offers i) (m.literal (type_in vs i) 0)) n) same.variables same.inputs

  refusal_same : (s : Story V) (ask : Ask V) → refusal_for m N s ask ≡ refusal_for m N' s ask
  refusal_same s begin = refl
  refusal_same s (offer room i v) =
      ap₂ (λ n t. or_else (unless room Memory) (or_else (unless (ltb i n) Port)
      (or_else (unless (not (is_some (offers_in s.instant i))) Twice) (unless (m.belongs v t) Mistyped)))) same.inputs (types_same i)
  refusal_same s (step room) = refl
  refusal_same s pass = refl
  refusal_same s (restart room) = refl
  refusal_same s (read room j) =
      ap (λ n. or_else (unless (ltb 0 (instants s.history)) Early) (or_else (unless room Memory) (unless (ltb j n) Port))) same.outputs
  refusal_same s (foreign k) = refl

  grows_same : (s : Story V) (ask : Ask V) → grows m N s ask ≡ grows m N' s ask
  grows_same s begin = refl
  grows_same s (offer room i v) = refl
  grows_same s (step room) = ap (λ vs. at_rest (s.history ++ row vs ∷ [])) (row_same (offers_in s.instant))
  grows_same s pass = refl
  grows_same s (restart room) = refl
  grows_same s (read room j) = refl
  grows_same s (foreign k) = refl

  goes_on_same : (s : Story V) (ask : Ask V) (a : Answer V) → goes_on m N s ask a ≡ goes_on m N' s ask a
  goes_on_same s ask done = grows_same s ask
  goes_on_same s ask (value o) = grows_same s ask
  goes_on_same s ask (refused r) = refl

module _ {V : Type 0} (m : Meaning V) (T T' : Table) (nodes : ReorderedNode (main_node T) (main_node T'))
    (few : (main_node T).inputs + (main_node T).outputs ≤ variable_count (main_node T))
    (streams : (h : History V) (S S' : Streams V) → MaskedStreams m T h S → MaskedStreams m T' h S'
    → (i y : ℕ) → i < instants h → y < variable_count (main_node T) → S i y ≡ S' i y) where
  -- the readings of two runs with one history
  shows_same : (h : History V) (j : ℕ) (o o' : Option V) → 0 < instants h → j < (main_node T).outputs → Shows m T h j o → Shows m T' h j o' → o ≡ o'
  shows_same h j o o' l k s s' =
      sym s.reading ∙ streams h s.streams s'.streams s.masked s'.masked (instants h - 1) ((main_node T).inputs + j) (omega arith) (omega arith)
      ∙ ap (λ n. s'.streams (instants h - 1) (n + j)) nodes.inputs ∙ s'.reading

  granted_same : (s : Story V) (ask : Ask V) (a a' : Answer V) → refusal_for m (main_node T) s ask ≡ None → GrantedRight m T s ask a → GrantedRight m T' s ask a' → a ≡ a'
  granted_same s begin a a' n g g' = g ∙ sym g'
  granted_same s (offer room i v) a a' n g g' = g ∙ sym g'
  granted_same s (step room) a a' n g g' = g ∙ sym g'
  granted_same s pass a a' n g g' = g ∙ sym g'
  granted_same s (restart room) a a' n g g' = g ∙ sym g'
  granted_same s (read room j) a a' n g g' =
      let b = both_none (unless (ltb 0 (instants s.history)) Early) _ n in
      let c = both_none (unless room Memory) _ b.1 in
      let early = ltb-true 0 (instants s.history) (unless_none _ Early b.0) in
      let within = ltb-true j (main_node T).outputs (unless_none _ Port c.1) in
      g.1 ∙ ap value (shows_same s.history j g.0 g'.0 early within g.2 g'.2) ∙ sym g'.1
  granted_same s (foreign k) a a' n g g' = absurd g

  answer_same : (s : Story V) (ask : Ask V) (a a' : Answer V) (o : Option Refusal) → refusal_for m (main_node T) s ask ≡ o
      → RightBy m T s ask a o → RightBy m T' s ask a' o → a ≡ a'
  answer_same s ask a a' None n r r' = granted_same s ask a a' n r r'
  answer_same s ask a a' (Some why) n r r' = r ∙ sym r'

  -- the latest call first
  same_so_far : (cs cs' : List (Call V)) → Right m T cs → Right m T' cs' → asks cs ≡ asks cs'
      → (answers cs ≡ answers cs') × (story_of m (main_node T) cs ≡ story_of m (main_node T') cs')
  same_so_far [] [] r r' e = (refl, refl)
  same_so_far [] (c ∷ cs') r r' e = absurd (let z : ◌≡◌ {A = ℕ} 0 1 = cc in omega arith)
  same_so_far (c ∷ cs) [] r r' e = absurd (let z : ◌≡◌ {A = ℕ} 0 1 = cc in omega arith)
  same_so_far (c ∷ cs) (c' ∷ cs') r r' e =
      let s = story_of m (main_node T) cs in
      let s' = story_of m (main_node T') cs' in
      let head : c.ask ≡ c'.ask = cc in
      let rest : asks cs ≡ asks cs' = cc in
      let before = same_so_far cs cs' r.1 r'.1 rest in
      let moved : RightBy m T' s c.ask c'.answer (refusal_for m (main_node T) s c.ask) =
      subst (RightBy m T' s c.ask c'.answer) (sym (refusal_same m (main_node T) (main_node T') nodes s c.ask))
      (subst (λ q. RightBy m T' s q c'.answer (refusal_for m (main_node T') s q)) (sym head)
      (subst (λ t. RightBy m T' t c'.ask c'.answer (refusal_for m (main_node T') t c'.ask)) (sym before.1) r'.0)) in
      let here = answer_same s c.ask c.answer c'.answer (refusal_for m (main_node T) s c.ask) refl r.0 moved in (
        ap₂ ◌∷◌ here before.0,
        goes_on_same m (main_node T) (main_node T') nodes s c.ask c.answer
            ∙ ap (λ t. goes_on m (main_node T') t c.ask c.answer) before.1
            ∙ ap₂ (goes_on m (main_node T') s') head here,
      )

  pub answers_same : (cs cs' : List (Call V)) → Right m T cs → Right m T' cs' → asks cs ≡ asks cs' → answers cs ≡ answers cs'
  answers_same cs cs' r r' e = (same_so_far cs cs' r r' e).0
