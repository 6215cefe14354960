-- The first byte that is not 0, by its place in a part of a file. Assumes nothing.
use Rattle.std.proofs.Common.{◌≡◌, ℕ, ◌+◌, ◌-◌, ◌<◌, ◌≤◌, Bool, true, false, not, List, length, get_or, Some, None, sym, ap, ◌∙◌, ⊎_elim, arith}
use Rattle.std.specs.List.{position, position_or_len, slice_range}
use Rattle.std.specs.Bool.{◌==◌}
use Rattle.std.proofs.lemmas.Bool.{cases_lt, lt-ltb, cond-true}
use Rattle.std.proofs.lemmas.Bool.Decides.{nat_tests}
use Rattle.std.proofs.lemmas.List.Edits.{get_or-between}
use Rattle.std.proofs.lemmas.List.Quantifiers.{position-Some}
use Rattle.std.proofs.lemmas.List.Sums.{fails_before_first}

abbrev pub nonzero : ℕ → Bool
nonzero byte = not (byte == 0)

zero_from : (byte : ℕ) → nonzero byte ≡ false → byte ≡ 0
zero_from byte h = grind (arith, nat_tests)

some_from : (byte : ℕ) → nonzero byte ≡ true → 0 < byte
some_from byte h = grind (arith, nat_tests)

-- where none is found every byte is 0
pub none_there : (bytes : List ℕ) → None ≡ position nonzero bytes → (k : ℕ) → k < length bytes → get_or bytes k 0 ≡ 0
none_there bytes none k lt =
    ⊎_elim
    (λ inside.
    let found : position nonzero bytes ≡ Some (position_or_len nonzero bytes) = cond-true _ _ _ (lt-ltb (position_or_len nonzero bytes) (length bytes) inside) in
    cc)
    (λ past. zero_from (get_or bytes k 0) (fails_before_first nonzero bytes k 0 (omega arith)))
    (cases_lt (position_or_len nonzero bytes) (length bytes))

-- and where one is found, every byte before it
pub first_there : (bytes : List ℕ) (i : ℕ) → Some i ≡ position nonzero bytes → (i < length bytes) × (0 < get_or bytes i 0) × ((k : ℕ) → k < i → get_or bytes k 0 ≡ 0)
first_there bytes i is =
    let found = position-Some nonzero bytes i 0 (sym is) in
    (found.0, some_from (get_or bytes i 0) found.1, λ k lt. zero_from (get_or bytes k 0) (found.2 k lt))

-- a byte of the part of a file from byte `from` on and before byte `to`
pub part_byte : (bytes part : List ℕ) (from to : ℕ) → part ≡ slice_range bytes from to → (j : ℕ) → from ≤ j → j < to → get_or bytes j 0 ≡ get_or part (j - from) 0
part_byte bytes part from to is j le lt =
    let whole : from + (j - from) ≡ j = omega arith in
    sym (ap (λ l. get_or l (j - from) 0) is ∙ get_or-between bytes from to (j - from) 0 (omega arith) ∙ ap (λ i. get_or bytes i 0) whole)
