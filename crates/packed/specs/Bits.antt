-- What a reader must believe: the bits of a number and of a file, most significant first, and the numbers and bytes that bits spell. Past the end of a file every bit is 0.
use Rattle.std.specs.Prelude.{ℕ, zero, suc, ◌+◌, ◌-◌, ◌*◌, ◌/◌, ◌%◌, ◌^◌, Bool, cond, List, [], ◌∷◌, ◌==◌, slice_index}

-- bit i of a byte, counted from its most significant
unfoldable pub bit_of : ℕ → ℕ → Bool
bit_of byte i = byte / 2 ^ (7 - i) % 2 == 1

-- bit i of a file, counted from the first byte's most significant
unfoldable pub bit_at : List ℕ → ℕ → Bool
bit_at bytes i = bit_of (slice_index bytes (i / 8)) (i % 8)

-- the number that the w bits from place i on spell
unfoldable pub number_at : List ℕ → ℕ → ℕ → ℕ
number_at bytes i zero = 0
number_at bytes i (suc w) = 2 * number_at bytes i w + cond (bit_at bytes (i + w)) 1 0

-- bit i of a number that is written with w bits, counted from the most significant
unfoldable pub bit_in : ℕ → ℕ → ℕ → Bool
bit_in w number i = number / 2 ^ (w - 1 - i) % 2 == 1

-- the number that the first w bits spell
unfoldable pub spelled_by : (ℕ → Bool) → ℕ → ℕ
spelled_by bits zero = 0
spelled_by bits (suc w) = 2 * spelled_by bits w + cond (bits w) 1 0

-- the bytes that the bits spell, n of them
unfoldable pub bytes_of : (ℕ → Bool) → ℕ → List ℕ
bytes_of bits zero = []
bytes_of bits (suc n) = spelled_by bits 8 ∷ bytes_of (λ i. bits (8 + i)) n
