-- The bits of a structure's file, by the field in which they stand. Assumes nothing.
use Rattle.std.proofs.Common.{◌≡◌, ℕ, ◌+◌, ◌-◌, ◌*◌, ◌/◌, ◌%◌, ◌<◌, ◌≤◌, false, ltb, ap, ◌∙◌, arith}
use Rattle.std.proofs.lemmas.Nat.{mul-add-lt, div-mul-add, mod-mul-add}
use Rattle.std.proofs.lemmas.Bool.{lt-ltb, le-ltb, cond-true, cond-false}
use Rattle.structure.specs.Structure.{Structure}
use Rattle.packed.specs.Bits.{bit_in}
use Rattle.packed.specs.FileOf.{header_bits, row_bits, row_at, field_bits, row_bit, file_bit}
use Rattle.packed.specs.Layout.{Widths}

module _ (w : Widths) (S : Structure) where
  pub bit_of_states : (i : ℕ) → i < w.states → file_bit w S i ≡ bit_in w.states (S.states - 1) i
  unfolding file_bit
  bit_of_states i lt = cond-true (ltb i w.states) _ _ (lt-ltb i w.states lt)

  -- a bit of the starting state, by its place in the file
  start_at : (i : ℕ) → w.states ≤ i → i < w.states + w.start → file_bit w S i ≡ bit_in w.start S.start (i - w.states)
  unfolding file_bit
  start_at i ge lt =
      cond-false (ltb i w.states) _ _ (le-ltb i w.states ge)
      ∙ cond-true (ltb i (w.states + w.start)) _ _ (lt-ltb i (w.states + w.start) lt)

  pub bit_of_start : (j : ℕ) → j < w.start → file_bit w S (w.states + j) ≡ bit_in w.start S.start j
  bit_of_start j lt =
      let here : w.states + j - w.states ≡ j = omega arith in
      start_at (w.states + j) (omega arith) (omega arith) ∙ ap (bit_in w.start S.start) here

  -- a bit of the number of propositions, by its place in the file
  propositions_at : (i : ℕ) → w.states + w.start ≤ i → i < header_bits w S → file_bit w S i ≡ bit_in w.propositions S.propositions (i - (w.states + w.start))
  unfolding file_bit
  propositions_at i ge lt =
      cond-false (ltb i w.states) _ _ (le-ltb i w.states (omega arith))
      ∙ cond-false (ltb i (w.states + w.start)) _ _ (le-ltb i (w.states + w.start) ge)
      ∙ cond-true (ltb i (header_bits w S)) _ _ (lt-ltb i (header_bits w S) lt)

  pub bit_of_propositions : (j : ℕ) → j < w.propositions → file_bit w S (w.states + w.start + j) ≡ bit_in w.propositions S.propositions j
  bit_of_propositions j lt =
      let here : w.states + w.start + j - (w.states + w.start) ≡ j = omega arith in
      propositions_at (w.states + w.start + j) (omega arith) (omega arith) ∙ ap (bit_in w.propositions S.propositions) here

  -- a bit of a state, by its place in the file
  row_bit_at : (i : ℕ) → header_bits w S ≤ i → i < field_bits w S → file_bit w S i ≡ row_bit w S ((i - header_bits w S) / row_bits w S) ((i - header_bits w S) % row_bits w S)
  unfolding file_bit
  row_bit_at i ge lt =
      cond-false (ltb i w.states) _ _ (le-ltb i w.states (omega arith))
      ∙ cond-false (ltb i (w.states + w.start)) _ _ (le-ltb i (w.states + w.start) (omega arith))
      ∙ cond-false (ltb i (header_bits w S)) _ _ (le-ltb i (header_bits w S) ge)
      ∙ cond-true (ltb i (field_bits w S)) _ _ (lt-ltb i (field_bits w S) lt)

  pub bit_of_row : (s k : ℕ) → s < S.states → k < row_bits w S → file_bit w S (row_at w S s + k) ≡ row_bit w S s k
  bit_of_row s k ls lk =
      let below = mul-add-lt s (row_bits w S) k S.states ls lk in
      let here : row_at w S s + k - header_bits w S ≡ s * row_bits w S + k = omega arith in
      row_bit_at (row_at w S s + k) (omega arith) (omega arith)
      ∙ ap (λ x. row_bit w S (x / row_bits w S) (x % row_bits w S)) here
      ∙ (λ i. row_bit w S (div-mul-add s (row_bits w S) k lk i) (mod-mul-add s (row_bits w S) k lk i))

  pub bit_of_label : (s p : ℕ) → s < S.states → p < S.propositions → file_bit w S (row_at w S s + p) ≡ S.label s p
  bit_of_label s p ls lp =
      bit_of_row s p ls (omega arith)
      ∙ cond-true (ltb p S.propositions) _ _ (lt-ltb p S.propositions lp)

  pub bit_of_step : (s t : ℕ) → s < S.states → t < S.states → file_bit w S (row_at w S s + S.propositions + t) ≡ S.step s t
  bit_of_step s t ls lt =
      let there : row_at w S s + S.propositions + t ≡ row_at w S s + (S.propositions + t) = omega arith in
      let here : S.propositions + t - S.propositions ≡ t = omega arith in
      ap (file_bit w S) there
      ∙ bit_of_row s (S.propositions + t) ls (omega arith)
      ∙ cond-false (ltb (S.propositions + t) S.propositions) _ _ (le-ltb (S.propositions + t) S.propositions (omega arith))
      ∙ ap (S.step s) here

  pub bit_of_filling : (i : ℕ) → field_bits w S ≤ i → file_bit w S i ≡ false
  unfolding file_bit
  bit_of_filling i ge =
      cond-false (ltb i w.states) _ _ (le-ltb i w.states (omega arith))
      ∙ cond-false (ltb i (w.states + w.start)) _ _ (le-ltb i (w.states + w.start) (omega arith))
      ∙ cond-false (ltb i (header_bits w S)) _ _ (le-ltb i (header_bits w S) (omega arith))
      ∙ cond-false (ltb i (field_bits w S)) _ _ (le-ltb i (field_bits w S) ge)
