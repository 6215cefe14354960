-- A bit that is set in a file: the other bits stay. Assumes nothing.
use Rattle.std.proofs.Common.{◌≡◌, ℕ, zero, suc, ◌-◌, ◌*◌, ◌/◌, ◌%◌, ◌^◌, ◌<◌, ◌||◌, eqb, List, length, get_or, set, sym, refl, ap, ◌∙◌, ⊎_elim, arith}
use lib.Bits.{bit_or}
use Rattle.std.proofs.lemmas.Nat.{or_shr, or_mod, mod_below, div_below, div-add-mod'}
use Rattle.std.proofs.lemmas.List.{get_or-set_same, get_or-set_other}
use Rattle.std.proofs.lemmas.Bool.{cases_eq, eq-eqb, ne_eqb}
use Rattle.structure.specs.Paths.{any_below}
use Rattle.structure.proofs.Below.{none_below}
use Rattle.packed.specs.Bits.{bit_of, bit_at}
use Rattle.packed.proofs.Agree.{differ, agree_below}

-- the byte with a 1 at place j alone
one_bit : (j i : ℕ) → j < 8 → i < 8 → bit_of (128 / 2 ^ j) i ≡ eqb i j
unfolding bit_of
one_bit j i lj li =
    agree_below (bit_of (128 / 2 ^ j)) (λ i. eqb i j) 8
    (none_below (λ j. any_below (λ i. differ (bit_of (128 / 2 ^ j) i) (eqb i j)) 8) 8 refl j lj) i li

one_of_two : (x y : ℕ) → x < 2 → y < 2 → eqb (bit_or x y) 1 ≡ (eqb y 1 || eqb x 1)
one_of_two zero zero lx ly = refl
one_of_two zero (suc zero) lx ly = refl
one_of_two (suc zero) zero lx ly = refl
one_of_two (suc zero) (suc zero) lx ly = refl
one_of_two zero (suc (suc y)) lx ly = absurd (omega arith)
one_of_two (suc zero) (suc (suc y)) lx ly = absurd (omega arith)
one_of_two (suc (suc x)) y lx ly = absurd (omega arith)

-- a bit of two bytes together
or_bit : (a b i : ℕ) → bit_of (bit_or a b) i ≡ (bit_of b i || bit_of a i)
unfolding bit_of
or_bit a b i =
    ap (λ x. eqb (x % 2) 1) (or_shr a b (7 - i))
    ∙ ap (λ x. eqb x 1) (or_mod (a / 2 ^ (7 - i)) (b / 2 ^ (7 - i)) 1)
    ∙ one_of_two (a / 2 ^ (7 - i) % 2) (b / 2 ^ (7 - i) % 2) (mod_below (a / 2 ^ (7 - i)) 2 (omega arith)) (mod_below (b / 2 ^ (7 - i)) 2 (omega arith))

module _ (bytes : List ℕ) (i : ℕ) (inside : i < length bytes * 8) where
  -- the file with bit i set
  abbrev pub with_bit : List ℕ
  with_bit = set bytes (i / 8) (bit_or (get_or bytes (i / 8) 0) (128 / 2 ^ (i % 8)))

  -- places in one byte are the same where they are the same there
  same_place : (k : ℕ) → k / 8 ≡ i / 8 → eqb (k % 8) (i % 8) ≡ eqb k i
  same_place k e =
      let first = div-add-mod' k 8 in
      let second = div-add-mod' i 8 in
      ⊎_elim
      (λ same. eq-eqb (k % 8) (i % 8) same ∙ sym (eq-eqb k i (omega arith)))
      (λ other. ne_eqb (k % 8) (i % 8) other ∙ sym (ne_eqb k i (λ is. other (ap (λ x. x % 8) is))))
      (cases_eq (k % 8) (i % 8))

  pub bits_after_set : (k : ℕ) → bit_at with_bit k ≡ (eqb k i || bit_at bytes k)
  unfolding bit_at
  bits_after_set k =
      ⊎_elim
      (λ e.
      ap (λ x. bit_of x (k % 8)) (ap (λ j. get_or with_bit j 0) e ∙ get_or-set_same bytes (i / 8) (bit_or (get_or bytes (i / 8) 0) (128 / 2 ^ (i % 8))) 0 (div_below i 8 (length bytes) (omega arith) inside))
      ∙ or_bit (get_or bytes (i / 8) 0) (128 / 2 ^ (i % 8)) (k % 8)
      ∙ (λ x. (one_bit (i % 8) (k % 8) (mod_below i 8 (omega arith)) (mod_below k 8 (omega arith)) ∙ same_place k e) x || bit_of (get_or bytes (sym e x) 0) (k % 8)))
      (λ other.
      ap (λ x. bit_of x (k % 8)) (get_or-set_other bytes (i / 8) (k / 8) (bit_or (get_or bytes (i / 8) 0) (128 / 2 ^ (i % 8))) 0 other)
      ∙ ap (λ b. b || bit_of (get_or bytes (k / 8) 0) (k % 8)) (sym (ne_eqb k i (λ is. other (ap (λ x. x / 8) is)))))
      (cases_eq (k / 8) (i / 8))
