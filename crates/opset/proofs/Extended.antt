-- What sign extension is. Assumes nothing.
use Rattle.std.proofs.Common.{◌≡◌, ℕ, suc, ◌-◌, ◌^◌, ◌<◌, ◌≤◌, ℤ, pos, negsuc, ◌+ℤ◌, ◌*ℤ◌, ◌≤ℤ◌, ⊎_elim, le_of_suc-le-suc, arith}
use Rattle.std.proofs.lemmas.Int.{ints}
use Rattle.std.proofs.lemmas.Bool.Decides.{nat_tests, leb_tells}
use Rattle.opset.specs.Payload.{signed24, PayloadStands}

low : (b : ℕ) → b < 2 ^ 23 → signed24 b ≡ pos b
low b h = grind (arith, nat_tests)

high : (b : ℕ) → 2 ^ 23 ≤ b → signed24 b ≡ negsuc (2 ^ 24 - 1 - b)
high b h = grind (arith, nat_tests)

by_sign : {P : Type 0} (b : ℕ) → (b < 2 ^ 23 → P) → (2 ^ 23 ≤ b → P) → P
by_sign b f g = ⊎_elim (λ t. f t.1) (λ t. g (le_of_suc-le-suc t.1)) (leb_tells (suc b) (2 ^ 23))

least : (b : ℕ) → b < 2 ^ 24 → negsuc (2 ^ 23 - 1) ≤ℤ signed24 b
least b h = by_sign b (λ l. rw (low b l) (omega (arith, ints))) (λ l. rw (high b l) (omega (arith, ints)))

most : (b : ℕ) → b < 2 ^ 24 → signed24 b ≤ℤ pos (2 ^ 23 - 1)
most b h = by_sign b (λ l. rw (low b l) (omega (arith, ints))) (λ l. rw (high b l) (omega (arith, ints)))

congruent_low : (b : ℕ) → b < 2 ^ 23 → pos b ≡ signed24 b +ℤ pos 0 *ℤ pos (2 ^ 24)
congruent_low b l = rw (low b l) (omega (arith, ints))

congruent_high : (b : ℕ) → b < 2 ^ 24 → 2 ^ 23 ≤ b → pos b ≡ signed24 b +ℤ pos 1 *ℤ pos (2 ^ 24)
congruent_high b h l = rw (high b l) (omega (arith, ints))

congruent : (b : ℕ) → b < 2 ^ 24 → (k : ℤ) × (pos b ≡ signed24 b +ℤ k *ℤ pos (2 ^ 24))
congruent b h = by_sign b (λ l. (pos 0, congruent_low b l)) (λ l. (pos 1, congruent_high b h l))

one_to_one : (b c : ℕ) → b < 2 ^ 24 → c < 2 ^ 24 → signed24 b ≡ signed24 c → b ≡ c
one_to_one b c h k e = grind (arith, nat_tests)

pub payload_stands : PayloadStands
payload_stands = record { least = least; most = most; congruent = congruent; one_to_one = one_to_one }
