-- Why going by whole bytes finds the first 1 of a file. Assumes nothing.
use Rattle.std.proofs.Common.{◌≡◌, ℕ, ◌+◌, ◌-◌, ◌*◌, ◌/◌, ◌%◌, ◌^◌, ◌<◌, ◌≤◌, Bool, true, false, cond, ◌&&◌, ltb, List, get_or, Some, None, Option, sym, ap, ◌∙◌, subst, ⊎_elim, arith}
use lib.Bits.{bit_and}
use lib.Count.{count_leading_zeros}
use Rattle.std.proofs.lemmas.Nat.{and_le_l, div-add-mod', mod_below}
use Rattle.std.proofs.lemmas.Bool.{cases_lt, lt-ltb, le-ltb, both_ways, and_from, and_left, and_right, cond-true, cond-false}
use Rattle.structure.specs.Next.{Smallest}
use Rattle.packed.specs.Bits.{bit_at, bit_of}
use Rattle.packed.proofs.BitLaws.{bit_at_byte, leading_below, leading_is_one, before_leading_is_zero, no_ones, masked_keeps, masked_clears}

-- no bit from place a on and before place b is 1
abbrev pub Zeros : List ℕ → ℕ → ℕ → Type 0
Zeros bytes a b = (i : ℕ) → a ≤ i → i < b → bit_at bytes i ≡ false

module _ (bytes : List ℕ) (from to : ℕ) where
  -- the test that the search is for
  abbrev pub sought : ℕ → Bool
  sought i = ltb i to && bit_at bytes i

  -- byte k, less the bits before `from`, is b
  pub record Part (k b : ℕ) : Type 0 where
    pub before : Zeros bytes from (k * 8)
    pub same : (j : ℕ) → j < 8 → from ≤ k * 8 + j → bit_at bytes (k * 8 + j) ≡ bit_of b j
    pub past : (j : ℕ) → j < 8 → bit_of b j ≡ true → from ≤ k * 8 + j
    pub small : b < 256

  pub none_sought : Zeros bytes from to → Smallest sought from None
  none_sought zeros u le =
      ⊎_elim
      (λ lt. and_right (ltb u to) (bit_at bytes u) (zeros u le lt))
      (λ ge. and_left (ltb u to) (bit_at bytes u) (le-ltb u to ge))
      (cases_lt u to)

  -- and where no byte up to the one with place `to` holds a 1
  pub none_in_bytes : Zeros bytes from ((to / 8 + 1) * 8) → Smallest sought from None
  none_in_bytes zeros = none_sought (λ i le lt. zeros i le (omega (arith, div-add-mod' to 8, mod_below to 8)))

  -- bytes that are 0 hold no 1
  pub zeros_on : (k n : ℕ) → Zeros bytes from (k * 8) → ((j : ℕ) → k ≤ j → j < n → get_or bytes j 0 ≡ 0) → Zeros bytes from (n * 8)
  zeros_on k n zeros none i le lt =
      ⊎_elim (zeros i le)
      (λ late.
      let whole = div-add-mod' i 8 in
      let rest = mod_below i 8 (omega arith) in
      subst (λ x. bit_at bytes x ≡ false) whole
      (bit_at_byte bytes (i / 8) (i % 8) rest ∙ ap (λ b. bit_of b (i % 8)) (none (i / 8) (omega arith) (omega arith)) ∙ no_ones (i % 8)))
      (cases_lt i (k * 8))

  module _ (k b : ℕ) (part : Part k b) where
    -- what is left of the byte has no 1
    pub zeros_after : b ≡ 0 → Zeros bytes from ((k + 1) * 8)
    zeros_after none i le lt =
        ⊎_elim (λ early. part.before i le early) (λ late. inside late) (cases_lt i (k * 8))
      where
        inside : k * 8 ≤ i → bit_at bytes i ≡ false
        inside late =
            let here : k * 8 + (i - k * 8) ≡ i = omega arith in
            let is = part.same (i - k * 8) (omega arith) (omega arith) in
            subst (λ x. bit_at bytes x ≡ false) here (is ∙ ap (λ x. bit_of x (i - k * 8)) none ∙ no_ones (i - k * 8))

    module _ (some : 0 < b) where
      first : (bit_at bytes (k * 8 + count_leading_zeros 8 b) ≡ true) × (from ≤ k * 8 + count_leading_zeros 8 b) × Zeros bytes from (k * 8 + count_leading_zeros 8 b)
      first =
          let below = leading_below b some part.small in
          let one = leading_is_one b some part.small in
          let reached = part.past (count_leading_zeros 8 b) below one in
          (part.same (count_leading_zeros 8 b) below reached ∙ one, reached, λ i le lt. ⊎_elim (part.before i le) (λ late. inside i le late lt below) (cases_lt i (k * 8)))
        where
          inside : (i : ℕ) → from ≤ i → k * 8 ≤ i → i < k * 8 + count_leading_zeros 8 b → count_leading_zeros 8 b < 8 → bit_at bytes i ≡ false
          inside i le late lt below =
              let here : k * 8 + (i - k * 8) ≡ i = omega arith in
              let is = part.same (i - k * 8) (omega arith) (omega arith) in
              subst (λ x. bit_at bytes x ≡ false) here (is ∙ before_leading_is_zero b some part.small (i - k * 8) (omega arith))

      -- what `leading_one` answers is the first 1 before `to`
      pub one_sought : (r : Option ℕ) → r ≡ cond (ltb (k * 8 + count_leading_zeros 8 b) to) (Some (k * 8 + count_leading_zeros 8 b)) None → Smallest sought from r
      one_sought r e =
          ⊎_elim
          (λ lt. subst (Smallest sought from) (sym (e ∙ cond-true (ltb p to) (Some p) None (lt-ltb p to lt))) (first.1, and_from (ltb p to) (bit_at bytes p) (lt-ltb p to lt) first.0, λ v le before. and_right (ltb v to) (bit_at bytes v) (first.2 v le before)))
          (λ ge. subst (Smallest sought from) (sym (e ∙ cond-false (ltb p to) (Some p) None (le-ltb p to ge))) (none_sought (λ i le lt. first.2 i le (omega arith))))
          (cases_lt p to)
        where
          p : ℕ
          p = k * 8 + count_leading_zeros 8 b

  -- the first byte b, with the bits before `from` masked away
  pub first_part : (b : ℕ) → b ≡ get_or bytes (from / 8) 0 → b < 256 → Part (from / 8) (bit_and b (255 / 2 ^ (from % 8)))
  first_part b is small =
      let whole = div-add-mod' from 8 in
      let rest = mod_below from 8 (omega arith) in
      record {
        before = λ i le lt. absurd (omega arith);
        same = λ j lt le. bit_at_byte bytes (from / 8) j lt ∙ ap (λ x. bit_of x j) (sym is) ∙ sym (masked_keeps b (from % 8) j rest (omega arith) lt);
        past = λ j lt one. ⊎_elim (λ early. absurd (both_ways (bit_of (bit_and b (255 / 2 ^ (from % 8))) j) (masked_clears b (from % 8) j rest early) one)) (λ late. omega arith) (cases_lt j (from % 8));
        small = omega (arith, and_le_l b (255 / 2 ^ (from % 8)));
      }

  -- a later byte b is whole
  pub later_part : (k b : ℕ) → b ≡ get_or bytes k 0 → b < 256 → from ≤ k * 8 → Zeros bytes from (k * 8) → Part k b
  later_part k b is small le zeros =
      record {
        before = zeros;
        same = λ j lt le'. bit_at_byte bytes k j lt ∙ ap (λ x. bit_of x j) (sym is);
        past = λ j lt one. omega arith;
        small = small;
      }
