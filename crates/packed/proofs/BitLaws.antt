-- Laws of bits: a bit by division, a field of one byte, the leading bit of a byte, and the bits that a mask leaves. Assumes nothing.
use Rattle.std.proofs.Common.{◌≡◌, ℕ, zero, suc, ◌+◌, ◌-◌, ◌*◌, ◌/◌, ◌%◌, ◌^◌, ◌<◌, ◌≤◌, Bool, true, false, cond, eqb, List, get_or, sym, refl, ap, ◌∙◌, ⊎_elim, add-one, arith, pow_mono}
use native.Mathlib.Nat.{zero-div}
use lib.Bits.{bit_and}
use lib.Count.{count_leading_zeros}
use Rattle.std.proofs.lemmas.Nat.{and_mask, pow_pos, pow-add, shr-shr, field_of, leading_top, div-add-mod', div-mul-add, mod-mul-add, div_below, le-div, mod_below, mod-pow-add}
use Rattle.std.proofs.lemmas.Bool.{eq-eqb, ne_eqb, cases_eq, cond-true, cond-false}
use Rattle.structure.proofs.Below.{at_most_one}
use Rattle.packed.specs.Bits.{bit_of, bit_at, number_at, bit_in, spelled_by}

-- the last bit of a number, as the code takes it
pub last_bit : (x : ℕ) → bit_and x 1 ≡ x % 2
last_bit x = and_mask x 1

-- a remainder by 2 is the number of its own test
odd_part : (x : ℕ) → cond (eqb (x % 2) 1) 1 0 ≡ x % 2
odd_part x =
    ⊎_elim
    (λ e. cond-true (eqb (x % 2) 1) 1 0 (eq-eqb (x % 2) 1 e) ∙ sym e)
    (λ ne. cond-false (eqb (x % 2) 1) 1 0 (ne_eqb (x % 2) 1 ne) ∙ small (mod_below x 2 (omega arith)) ne)
    (cases_eq (x % 2) 1)
  where
    small : x % 2 < 2 → (x % 2 ≡ 1 → ⊥) → 0 ≡ x % 2
    small lt ne = ⊎_elim (λ e. sym e) (λ nz. absurd (ne (omega arith))) (cases_eq (x % 2) 0)

-- bit j of byte k of a file
pub bit_at_byte : (bytes : List ℕ) (k j : ℕ) → j < 8 → bit_at bytes (k * 8 + j) ≡ bit_of (get_or bytes k 0) j
unfolding bit_at
bit_at_byte bytes k j lt = rw (div-mul-add k 8 j lt, mod-mul-add k 8 j lt)

-- one bit more of a number
one_more : (x m : ℕ) → 2 * (x / 2 ^ (m + 1)) + cond (eqb (x / 2 ^ m % 2) 1) 1 0 ≡ x / 2 ^ m
one_more x m =
    let half : x / 2 ^ m / 2 ≡ x / 2 ^ (m + 1) = shr-shr x m 1 in
    let whole = div-add-mod' (x / 2 ^ m) 2 in
    omega (arith, odd_part (x / 2 ^ m))

-- the first w bits of byte k spell its quotient
pub number_at_byte : (bytes : List ℕ) (k w : ℕ) → get_or bytes k 0 < 256 → w ≤ 8 → number_at bytes (k * 8) w ≡ get_or bytes k 0 / 2 ^ (8 - w)
unfolding number_at bit_of
number_at_byte bytes k zero small le = sym (none small)
  where
    none : get_or bytes k 0 < 256 → get_or bytes k 0 / 2 ^ 8 ≡ 0
    none h = let q : get_or bytes k 0 / 256 < 1 = div_below (get_or bytes k 0) 256 1 (omega arith) (omega arith) in omega arith
number_at_byte bytes k (suc w) small le =
    let before = number_at_byte bytes k w small (omega arith) in
    let there : 8 - w ≡ (7 - w) + 1 = omega arith in
    let after : 8 - suc w ≡ 7 - w = omega arith in
    rw (before, bit_at_byte bytes k w (omega arith), there, after) (one_more (get_or bytes k 0) (7 - w))

-- a byte that is not 0: its leading 1, and the 0s before it
pub leading_below : (b : ℕ) → 0 < b → b < 256 → count_leading_zeros 8 b < 8
leading_below b some small = let top = leading_top 8 b some small in omega (arith, top.1)

pub leading_is_one : (b : ℕ) → 0 < b → b < 256 → bit_of b (count_leading_zeros 8 b) ≡ true
unfolding bit_of
leading_is_one b some small =
    let top = leading_top 8 b some small in
    let place : 7 - count_leading_zeros 8 b ≡ top.0 = omega (arith, top.1) in
    let low = le-div 1 b (2 ^ top.0) (pow_pos top.0) (omega (arith, top.2)) in
    let high = div_below b (2 ^ top.0) 2 (pow_pos top.0) (omega (arith, top.3, pow-add 2 top.0 1)) in
    let one : b / 2 ^ top.0 ≡ 1 = omega arith in
    rw (place, one)

pub before_leading_is_zero : (b : ℕ) → 0 < b → b < 256 → (i : ℕ) → i < count_leading_zeros 8 b → bit_of b i ≡ false
unfolding bit_of
before_leading_is_zero b some small i lt =
    let top = leading_top 8 b some small in
    let least : 2 ^ suc top.0 ≤ 2 ^ (7 - i) = pow_mono (omega (arith, top.1)) in
    let gone = div_below b (2 ^ (7 - i)) 1 (pow_pos (7 - i)) (omega (arith, top.3)) in
    let none : b / 2 ^ (7 - i) ≡ 0 = omega arith in
    rw none

pub no_ones : (i : ℕ) → bit_of 0 i ≡ false
unfolding bit_of
no_ones i = rw (zero-div (2 ^ (7 - i)))

-- the mask that leaves the last bits of a byte
mask : (k : ℕ) → k < 8 → 255 / 2 ^ k ≡ 2 ^ (8 - k) - 1
mask zero h = refl
mask (suc zero) h = refl
mask (suc (suc zero)) h = refl
mask (suc (suc (suc zero))) h = refl
mask (suc (suc (suc (suc zero)))) h = refl
mask (suc (suc (suc (suc (suc zero))))) h = refl
mask (suc (suc (suc (suc (suc (suc zero)))))) h = refl
mask (suc (suc (suc (suc (suc (suc (suc zero))))))) h = refl
mask (suc (suc (suc (suc (suc (suc (suc (suc k)))))))) h = absurd (omega arith)

masked : (b k : ℕ) → k < 8 → bit_and b (255 / 2 ^ k) ≡ b % 2 ^ (8 - k)
masked b k lt = ap (bit_and b) (mask k lt) ∙ and_mask b (8 - k)

last_of_more : (x q : ℕ) → x % 2 ^ (q + 1) % 2 ≡ x % 2
last_of_more x q = ap (λ m. m % 2) (mod-pow-add x q 1) ∙ mod-mul-add (x / 2 % 2 ^ q) 2 (x % 2) (mod_below x 2 (omega arith))

-- from place k on the mask leaves the bits, and before it none
pub masked_keeps : (b k j : ℕ) → k < 8 → k ≤ j → j < 8 → bit_of (bit_and b (255 / 2 ^ k)) j ≡ bit_of b j
unfolding bit_of
masked_keeps b k j lt le below =
    let split : 8 - k ≡ ((j - k) + 1) + (7 - j) = omega arith in
    rw (masked b k lt, split, field_of b ((j - k) + 1) (7 - j), last_of_more (b / 2 ^ (7 - j)) (j - k))

pub masked_clears : (b k j : ℕ) → k < 8 → j < k → bit_of (bit_and b (255 / 2 ^ k)) j ≡ false
unfolding bit_of
masked_clears b k j lt before =
    let small = mod_below b (2 ^ (8 - k)) (pow_pos (8 - k)) in
    let wide : 2 ^ (8 - k) ≤ 2 ^ (7 - j) = pow_mono (omega arith) in
    let gone = div_below (b % 2 ^ (8 - k)) (2 ^ (7 - j)) 1 (pow_pos (7 - j)) (omega arith) in
    let none : b % 2 ^ (8 - k) / 2 ^ (7 - j) ≡ 0 = omega arith in
    rw (masked b k lt, none)

-- a bit of a byte is a bit of a number written with 8 bits
pub bit_of_byte : (byte i : ℕ) → bit_of byte i ≡ bit_in 8 byte i
unfolding bit_of bit_in
bit_of_byte byte i = refl

-- the number at a place of a file is the one that its bits spell
pub number_spelled : (bytes : List ℕ) (i w : ℕ) → number_at bytes i w ≡ spelled_by (λ k. bit_at bytes (i + k)) w
unfolding number_at spelled_by
number_spelled bytes i zero = refl
number_spelled bytes i (suc w) = ap (λ n. 2 * n + cond (bit_at bytes (i + w)) 1 0) (number_spelled bytes i w)

-- bits that agree spell the same number
pub spelled_same : (p q : ℕ → Bool) (w : ℕ) → ((k : ℕ) → k < w → p k ≡ q k) → spelled_by p w ≡ spelled_by q w
unfolding spelled_by
spelled_same p q zero same = refl
spelled_same p q (suc w) same =
    let before = spelled_same p q w (λ k lt. same k (omega arith)) in
    let here : ◌≡◌ {A = ℕ} (cond (p w) 1 0) (cond (q w) 1 0) = ap (λ b. cond b 1 0) (same w (omega arith)) in
    omega arith

-- the first w of a number's m bits spell its quotient
pub spelled_bits : (m number w : ℕ) → number < 2 ^ m → w ≤ m → spelled_by (bit_in m number) w ≡ number / 2 ^ (m - w)
unfolding spelled_by bit_in
spelled_bits m number zero small le =
    let q : number / 2 ^ m < 1 = div_below number (2 ^ m) 1 (pow_pos m) (omega arith) in
    let none : 0 ≡ number / 2 ^ m = omega arith in
    let all : m ≡ m - 0 = omega arith in
    none ∙ ap (λ k. number / 2 ^ k) all
spelled_bits m number (suc w) small le =
    let before = spelled_bits m number w small (omega arith) in
    let there : m - w ≡ (m - 1 - w) + 1 = omega arith in
    let after : m - suc w ≡ m - 1 - w = omega arith in
    rw (before, there, after) (one_more number (m - 1 - w))

-- bits filled up to whole bytes: none is lost, and less than a byte is added
pub whole_bytes : (bits : ℕ) → (bits ≤ (bits + 7) / 8 * 8) × ((bits + 7) / 8 * 8 < bits + 8)
whole_bytes bits =
    let whole = div-add-mod' (bits + 7) 8 in
    let rest = mod_below (bits + 7) 8 (omega arith) in
    (omega arith, omega arith)

-- w bits spell a number below 2 ^ w, whatever they are
pub spelled_below : (bits : ℕ → Bool) (w : ℕ) → spelled_by bits w < 2 ^ w
unfolding spelled_by
spelled_below bits zero = omega arith
spelled_below bits (suc w) =
    let before = spelled_below bits w in
    let bit = at_most_one (bits w) in
    let double : 2 ^ suc w ≡ 2 ^ w * 2 = ap (λ k. 2 ^ k) (sym (add-one w)) ∙ pow-add 2 w 1 in
    omega arith
