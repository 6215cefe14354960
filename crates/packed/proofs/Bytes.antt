-- Bits and the bytes and numbers that they spell, both ways. Assumes nothing.
use Rattle.std.proofs.Common.{◌≡◌, ℕ, zero, suc, ◌+◌, ◌-◌, ◌*◌, ◌/◌, ◌%◌, ◌^◌, ◌<◌, ◌≤◌, Bool, true, false, cond, eqb, List, [], ◌∷◌, length, get_or, sym, refl, ap, ◌∙◌, ⊎_elim, div-one, arith}
use Rattle.std.proofs.lemmas.Nat.{shr-shr, div-add-mod', le-div, mod_below}
use Rattle.std.proofs.lemmas.List.{get_or_past}
use Rattle.std.proofs.lemmas.Bool.{cases_eq, cases_lt}
use Rattle.structure.proofs.Below.{at_most_one}
use Rattle.packed.specs.Bits.{bit_of, bit_in, bit_at, spelled_by, number_at, bytes_of}
use Rattle.packed.proofs.BitLaws.{bit_at_byte, bit_of_byte, number_spelled, spelled_same, spelled_bits, no_ones}

-- all bits of a number spell it
pub spelled_all : (m number : ℕ) → number < 2 ^ m → spelled_by (bit_in m number) m ≡ number
spelled_all m number small =
    let none : m - m ≡ 0 = omega arith in
    spelled_bits m number m small (omega arith) ∙ ap (λ k. number / 2 ^ k) none ∙ div-one number

-- a field that has a number's bits spells the number
pub number_from_bits : (bytes : List ℕ) (i m number : ℕ) → number < 2 ^ m → ((k : ℕ) → k < m → bit_at bytes (i + k) ≡ bit_in m number k) → number_at bytes i m ≡ number
number_from_bits bytes i m number small same =
    number_spelled bytes i m ∙ spelled_same (λ k. bit_at bytes (i + k)) (bit_in m number) m same ∙ spelled_all m number small

-- a test is the test of its own number
own_test : (b : Bool) → eqb (cond b 1 0) 1 ≡ b
own_test true = refl
own_test false = refl

-- one bit more: its remainder and its quotient by 2
last_of : (x : ℕ) (b : Bool) → (2 * x + cond b 1 0) % 2 ≡ cond b 1 0
last_of x b = omega (arith, at_most_one b)

rest_of : (x : ℕ) (b : Bool) → (2 * x + cond b 1 0) / 2 ≡ x
rest_of x b = omega (arith, at_most_one b)

-- the number that bits spell has these bits
pub bit_of_spelled : (bits : ℕ → Bool) (w j : ℕ) → j < w → bit_in w (spelled_by bits w) j ≡ bits j
unfolding bit_in spelled_by
bit_of_spelled bits zero j lt = absurd (omega arith)
bit_of_spelled bits (suc w) j lt =
    let number : ℕ = 2 * spelled_by bits w + cond (bits w) 1 0 in
    ⊎_elim
    (λ e.
    let none : suc w - 1 - j ≡ 0 = omega arith in
    ap (λ k. eqb (number / 2 ^ k % 2) 1) none
    ∙ ap (λ x. eqb (x % 2) 1) (div-one number)
    ∙ ap (λ x. eqb x 1) (last_of (spelled_by bits w) (bits w))
    ∙ own_test (bits w)
    ∙ ap bits (sym e))
    (λ ne.
    let before = bit_of_spelled bits w j (omega arith) in
    let more : suc w - 1 - j ≡ 1 + (w - 1 - j) = omega arith in
    ap (λ k. eqb (number / 2 ^ k % 2) 1) more
    ∙ ap (λ x. eqb (x % 2) 1) (sym (shr-shr number 1 (w - 1 - j)))
    ∙ ap (λ x. eqb (x / 2 ^ (w - 1 - j) % 2) 1) (rest_of (spelled_by bits w) (bits w))
    ∙ before)
    (cases_eq j w)

-- the bits of the first byte, of the bytes after it, and past the end
bit_at_first : (x : ℕ) (xs : List ℕ) (j : ℕ) → j < 8 → bit_at (x ∷ xs) j ≡ bit_in 8 x j
bit_at_first x xs j lt =
    let here : j ≡ 0 * 8 + j = omega arith in
    ap (bit_at (x ∷ xs)) here ∙ bit_at_byte (x ∷ xs) 0 j lt ∙ bit_of_byte x j

bit_at_rest : (x : ℕ) (xs : List ℕ) (i : ℕ) → bit_at (x ∷ xs) (8 + i) ≡ bit_at xs i
unfolding bit_at
bit_at_rest x xs i =
    let whole = div-add-mod' i 8 in
    let there : 8 + i ≡ suc (i / 8) * 8 + i % 8 = omega arith in
    ap (bit_at (x ∷ xs)) there ∙ bit_at_byte (x ∷ xs) (suc (i / 8)) (i % 8) (mod_below i 8 (omega arith))

pub bit_at_past : (bytes : List ℕ) (i : ℕ) → length bytes * 8 ≤ i → bit_at bytes i ≡ false
unfolding bit_at
bit_at_past bytes i ge =
    ap (λ b. bit_of b (i % 8)) (get_or_past bytes (i / 8) 0 (le-div (length bytes) i 8 (omega arith) ge)) ∙ no_ones (i % 8)

-- bytes whose bits are these are the bytes that these bits spell
pub bytes_from_bits : (bits : ℕ → Bool) (n : ℕ) (bytes : List ℕ) → length bytes ≡ n → ((k : ℕ) → get_or bytes k 0 < 256) → ((i : ℕ) → i < n * 8 → bit_at bytes i ≡ bits i) → bytes ≡ bytes_of bits n
unfolding bytes_of
bytes_from_bits bits zero [] len small same = refl
bytes_from_bits bits zero (x ∷ xs) len small same = absurd (omega arith)
bytes_from_bits bits (suc n) [] len small same = absurd (omega arith)
bytes_from_bits bits (suc n) (x ∷ xs) len small same =
    let first : x ≡ spelled_by bits 8 = sym (spelled_all 8 x (small 0)) ∙ spelled_same (bit_in 8 x) bits 8 (λ j lt. sym (bit_at_first x xs j lt) ∙ same j (omega arith)) in
    let rest : xs ≡ bytes_of (λ i. bits (8 + i)) n = bytes_from_bits (λ i. bits (8 + i)) n xs (omega arith) (λ k. small (suc k)) (λ i lt. sym (bit_at_rest x xs i) ∙ same (8 + i) (omega arith)) in
    λ i. first i ∷ rest i

-- and they have these bits
pub bits_of_bytes : (bits : ℕ → Bool) (n i : ℕ) → i < n * 8 → bit_at (bytes_of bits n) i ≡ bits i
unfolding bytes_of
bits_of_bytes bits zero i lt = absurd (omega arith)
bits_of_bytes bits (suc n) i lt =
    ⊎_elim
    (λ first. bit_at_first (spelled_by bits 8) (bytes_of (λ k. bits (8 + k)) n) i first ∙ bit_of_spelled bits 8 i first)
    (λ after.
    let there : 8 + (i - 8) ≡ i = omega arith in
    ap (bit_at (spelled_by bits 8 ∷ bytes_of (λ k. bits (8 + k)) n)) (sym there)
    ∙ bit_at_rest (spelled_by bits 8) (bytes_of (λ k. bits (8 + k)) n) (i - 8)
    ∙ bits_of_bytes (λ k. bits (8 + k)) n (i - 8) (omega arith)
    ∙ ap bits there)
    (cases_lt i 8)

pub length-bytes_of : (bits : ℕ → Bool) (n : ℕ) → length (bytes_of bits n) ≡ n
unfolding bytes_of
length-bytes_of bits zero = refl
length-bytes_of bits (suc n) = ap suc (length-bytes_of (λ i. bits (8 + i)) n)
