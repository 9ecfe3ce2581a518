-- The numbers of a script, from the bytes of their text: a word in eight hex digits, and a count in decimal.
use Rattle.std.specs.Prelude.{ℕ, ◌+◌, ◌-◌, ◌*◌, cond, ◌&&◌, List, [], ◌∷◌, length, Some, None, Option, ◌==◌, nat_le}

-- 0 to 9, A to F and a to f
abbrev pub hex_digit : ℕ → Option ℕ
hex_digit b =
    cond (nat_le 48 b && nat_le b 57) (Some (b - 48))
    (cond (nat_le 65 b && nat_le b 70) (Some (b - 55))
    (cond (nat_le 97 b && nat_le b 102) (Some (b - 87)) None))

abbrev pub decimal_digit : ℕ → Option ℕ
decimal_digit b = cond (nat_le 48 b && nat_le b 57) (Some (b - 48)) None

abbrev pub and_then : (ℕ → Option ℕ) → Option ℕ → Option ℕ
and_then go None = None
and_then go (Some d) = go d

-- the number that digits spell in a base, behind the number that stands before them; none where one is no digit
abbrev pub spelled : ℕ → (ℕ → Option ℕ) → ℕ → List ℕ → Option ℕ
spelled base digit before [] = Some before
spelled base digit before (b ∷ bs) = and_then (λ d. spelled base digit (before * base + d) bs) (digit b)

-- exactly eight hex digits
abbrev pub hex_word : List ℕ → Option ℕ
hex_word text = cond (length text == 8) (spelled 16 hex_digit 0 text) None

-- one to eighteen decimal digits
abbrev pub decimal_number : List ℕ → Option ℕ
decimal_number text = cond (nat_le 1 (length text) && nat_le (length text) 18) (spelled 10 decimal_digit 0 text) None
