-- The verdict says of a file what its cause means, in words of bits, states and steps. Assumes nothing.
use Rattle.std.proofs.Common.{◌≡◌, ℕ, ◌+◌, ◌-◌, ◌*◌, ◌<◌, ◌≤◌, true, false, cond, not, ◌&&◌, ltb, leb, List, length, Ok, Err, subst, arith}
use Rattle.std.proofs.lemmas.Bool.{cond_both, ltb-true, ltb-false, leb-true, leb-false, and_parts, not-true, not-false, both_ways}
use Rattle.refusal.specs.declared.Refusal.TheVariants.{FillingBitSet, StateWithoutStep}
use Rattle.structure.specs.Paths.{any_below}
use Rattle.structure.proofs.Below.{any_finds, none_below}
use Rattle.packed.specs.Bits.{bit_at}
use Rattle.packed.specs.Layout.{Widths, states_of, start_of, propositions_of, row_of, bits_of, size_of, spells}
use Rattle.packed.specs.Verdict.{filled, stuck, verdict, Exact, ZeroFilled, GoesOn, Judged, accepted, too_few_bytes, too_many_bytes, filling_bit_set, start_not_a_state, state_without_step}
use Rattle.packed.proofs.BitLaws.{whole_bytes}

module _ (w : Widths) (bytes : List ℕ) where
  -- a number of bytes by its bits: the last byte has a bit of the layout
  fewer : length bytes < size_of w bytes → 8 * length bytes < bits_of w bytes
  unfolding size_of
  fewer lt =
      omega (arith, whole_bytes (bits_of w bytes))

  more : size_of w bytes < length bytes → bits_of w bytes + 8 ≤ 8 * length bytes
  unfolding size_of
  more lt =
      omega (arith, whole_bytes (bits_of w bytes))

  as_many : size_of w bytes ≤ length bytes → length bytes ≤ size_of w bytes → Exact w bytes
  unfolding size_of
  as_many low high =
      (omega (arith, whole_bytes (bits_of w bytes)), omega (arith, whole_bytes (bits_of w bytes)))

  zero_filled : filled w bytes ≡ false → ZeroFilled w bytes
  unfolding filled
  zero_filled none i le lt =
      let here : bits_of w bytes + (i - bits_of w bytes) ≡ i = omega arith in
      subst (λ x. bit_at bytes x ≡ false) here
      (none_below (λ k. bit_at bytes (bits_of w bytes + k)) (8 * length bytes - bits_of w bytes) none (i - bits_of w bytes) (omega arith))

  some_filling : filled w bytes ≡ true → Exact w bytes → Judged w bytes (Err FillingBitSet)
  unfolding filled
  some_filling some exact =
      let found = any_finds (λ k. bit_at bytes (bits_of w bytes + k)) (8 * length bytes - bits_of w bytes) some in
      filling_bit_set exact (bits_of w bytes + found.0) (omega arith) (omega (arith, found.1)) found.2

  goes_on : (s : ℕ) → any_below ((spells w bytes).step s) (states_of w bytes) ≡ true → GoesOn w bytes s
  goes_on s some = let found = any_finds ((spells w bytes).step s) (states_of w bytes) some in (found.0, found.2)

  -- a step leads to a state
  no_step : (s : ℕ) → any_below ((spells w bytes).step s) (states_of w bytes) ≡ false → GoesOn w bytes s → ⊥
  no_step s none go =
      let parts = and_parts (ltb s (states_of w bytes)) (ltb go.0 (states_of w bytes) && bit_at bytes (row_of w bytes s + propositions_of w bytes + go.0)) go.1 in
      let lt = ltb-true go.0 (states_of w bytes) (and_parts (ltb go.0 (states_of w bytes)) (bit_at bytes (row_of w bytes s + propositions_of w bytes + go.0)) parts.1).0 in
      both_ways ((spells w bytes).step s go.0) (none_below ((spells w bytes).step s) (states_of w bytes) none go.0 lt) go.1

  last_cause : Exact w bytes → ZeroFilled w bytes → start_of w bytes < states_of w bytes → Judged w bytes (cond (stuck w bytes) (Err StateWithoutStep) (Ok tt))
  unfolding stuck
  last_cause exact zeros start =
      cond_both (stuck w bytes) (Err StateWithoutStep) (Ok tt) (Judged w bytes)
      (λ some.
      let found = any_finds (λ s. not (any_below ((spells w bytes).step s) (states_of w bytes))) (states_of w bytes) some in
      state_without_step exact zeros start found.0 found.1 (no_step found.0 (not-true (any_below ((spells w bytes).step found.0) (states_of w bytes)) found.2)))
      (λ none. accepted exact zeros start (λ s lt. goes_on s (not-false (any_below ((spells w bytes).step s) (states_of w bytes)) (none_below (λ k. not (any_below ((spells w bytes).step k) (states_of w bytes))) (states_of w bytes) none s lt))))

  pub verdict_judges : Judged w bytes (verdict w bytes)
  verdict_judges =
      cond_both (ltb (length bytes) (size_of w bytes)) _ _ (Judged w bytes)
      (λ few. too_few_bytes (fewer (ltb-true (length bytes) (size_of w bytes) few)))
      (λ enough.
      cond_both (ltb (size_of w bytes) (length bytes)) _ _ (Judged w bytes)
      (λ many. too_many_bytes (more (ltb-true (size_of w bytes) (length bytes) many)))
      (λ no_more.
      let exact = as_many (ltb-false (length bytes) (size_of w bytes) enough) (ltb-false (size_of w bytes) (length bytes) no_more) in
      cond_both (filled w bytes) _ _ (Judged w bytes)
      (λ some. some_filling some exact)
      (λ none.
      let zeros = zero_filled none in
      cond_both (leb (states_of w bytes) (start_of w bytes)) _ _ (Judged w bytes)
      (λ out. start_not_a_state exact zeros (leb-true (states_of w bytes) (start_of w bytes) out))
      (λ inside. last_cause exact zeros (leb-false (states_of w bytes) (start_of w bytes) inside)))))
