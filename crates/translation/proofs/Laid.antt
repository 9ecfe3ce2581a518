-- What is written in parts, one behind another, is written as a whole.
use Rattle.std.proofs.Common.{◌≡◌, ℕ, ◌+◌, ◌≤◌, List, [], ◌++◌, map, length, take, drop, sym, ap, ◌∙◌, subst, arith}
use Rattle.std.proofs.lemmas.List.{append_assoc, drop_at, drop-drop, length-append, length-drop, length-map, length-take, length-take-le, map-append, take-append-drop, take_at}
use Rattle.instructions.specs.declared.code_word.CodeWord.{CodeWord}
use Rattle.instructions.specs.Format.{code_word}
use Rattle.pieces.specs.declared.piece.Piece.{Piece}
use Rattle.pieces.specs.Holding.{Holds, contents}
use Rattle.translation.specs.Writing.{Wrote, written}

pub written_none : (at : ℕ) (b : List ℕ) → written at [] b ≡ b
unfolding written
written_none at b = let e : at + 0 ≡ at = omega arith in ap (λ n. take at b ++ drop n b) e ∙ take-append-drop at b

module _ (at : ℕ) (u b : List ℕ) (h : at + length u ≤ length b) where
  front_length_lem : length (take at b ++ u) ≡ at + length u
  front_length_lem = omega (arith, length-append (take at b) u, length-take-le at b (omega arith))

  pub written_length : length (written at u b) ≡ length b
  unfolding written
  written_length =
      omega (
        arith,
        length-append (take at b) (u ++ drop (at + length u) b),
        length-append u (drop (at + length u) b),
        length-take-le at b (omega arith),
        length-drop (at + length u) b,
      )

  pub written_join : (v : List ℕ) → written (at + length u) v (written at u b) ≡ written at (u ++ v) b
  unfolding written
  written_join v =
      let n = at + length u in
      let rest = drop n b in
      let w = take at b ++ (u ++ rest) in
      let split : w ≡ (take at b ++ u) ++ rest = sym (append_assoc (take at b) u rest) in
      let before : take n w ≡ take at b ++ u = ap (take n) split ∙ take_at (take at b ++ u) rest n front_length_lem in
      let behind : drop (n + length v) w ≡ drop (at + length (u ++ v)) b =
      sym (drop-drop (length v) n w) ∙ ap (λ l. drop (length v) (drop n l)) split
      ∙ ap (drop (length v)) (drop_at (take at b ++ u) rest n front_length_lem)
      ∙ drop-drop (length v) n b ∙ ap (λ m. drop m b) (let e : n + length v ≡ at + length (u ++ v) = omega (arith, length-append u v) in e) in
      ap (λ l. l ++ (v ++ drop (n + length v) w)) before
      ∙ ap (λ l. (take at b ++ u) ++ (v ++ l)) behind
      ∙ append_assoc (take at b) u (v ++ drop (at + length (u ++ v)) b)
      ∙ ap (λ l. take at b ++ l) (sym (append_assoc u v (drop (at + length (u ++ v)) b)))

pub wrote_none : (at : ℕ) (b : List ℕ) → Wrote at [] b at b
wrote_none at b = record { place = omega arith; stands = sym (written_none at b) }

pub wrote_as : {at : ℕ} {xs ys : List CodeWord} {b : List ℕ} {n : ℕ} {c : List ℕ} → xs ≡ ys → Wrote at xs b n c → Wrote at ys b n c
wrote_as {at} {xs} {ys} {b} {n} {c} e w = let F : List CodeWord → Type 0 = λ l. Wrote at l b n c in subst F e w

pub wrote_join : {at : ℕ} {u v : List CodeWord} {b : List ℕ} {n : ℕ} {c : List ℕ} {m : ℕ} {d : List ℕ}
    → Wrote at u b n c → Wrote n v c m d → at + length u ≤ length b → Wrote at (u ++ v) b m d
wrote_join {at} {u} {v} {b} {n} {c} {m} {d} p q h =
    let mu = map code_word u in
    let mv = map code_word v in
    let same : n ≡ at + length mu = omega (arith, p.place, length-map u code_word) in
    record {
      place = omega (arith, p.place, q.place, length-append u v);
      stands = q.stands ∙ ap (λ l. written n mv l) p.stands ∙ ap (λ i. written i mv (written at mu b)) same
          ∙ written_join at mu b (omega (arith, length-map u code_word)) mv ∙ ap (λ l. written at l b) (sym (map-append code_word u v));
    }

-- a piece holds its words within its array
pub piece_whole : (p : Piece) (xs : List CodeWord) → Holds p xs → p.len ≤ length p.words
piece_whole p xs h = omega (arith, h.count, ap length h.spelled, length-map xs code_word, length-take p.len p.words)

pub wrote_piece : {p : Piece} {xs : List CodeWord} (at : ℕ) (b : List ℕ) (n : ℕ) (c : List ℕ) → Holds p xs
    → n ≡ at + p.len → c ≡ written at (contents p) b → Wrote at xs b n c
wrote_piece {p} {xs} at b n c h e f =
    record { place = omega (arith, e, h.count); stands = f ∙ ap (λ l. written at l b) h.spelled }

-- both parts of the code, from the buffer's front on
pub wrote_code : (u v : List CodeWord) (code : List ℕ) (b : List ℕ) (m : ℕ) (d : List ℕ) → code ≡ map code_word u ++ map code_word v → Wrote 0 (u ++ v) b m d
    → (m ≡ length code) × (d ≡ code ++ drop (length code) b)
unfolding written
wrote_code u v code b m d e w =
    let same : map code_word (u ++ v) ≡ code = map-append code_word u v ∙ sym e in
    let z : 0 + length code ≡ length code = omega arith in (
      omega (arith, w.place, ap length same, length-map (u ++ v) code_word),
      w.stands ∙ ap (λ l. l ++ drop (0 + length l) b) same ∙ ap (λ n. code ++ drop n b) z,
    )
