-- The file of a structure: its bits, that it is accepted and spells the structure, and that an accepted file is the file of what it spells. Assumes nothing.
use Rattle.std.proofs.Common.{◌≡◌, ℕ, ◌+◌, ◌-◌, ◌*◌, ◌/◌, ◌%◌, ◌^◌, ◌<◌, ◌≤◌, Bool, true, false, not, ◌&&◌, ltb, leb, List, length, get_or, is_ok, Ok, Result, sym, refl, ap, ◌∙◌, subst, ⊎_elim, zero-add, arith}
use Rattle.std.proofs.lemmas.Nat.{div-add-mod', mod_below, div_below}
use Rattle.std.proofs.lemmas.Bool.{cases_lt, lt-ltb, le-ltb, lt-leb, cond-false, and_left, and_right, false≢true}
use Rattle.refusal.specs.declared.Refusal.{Refusal}
use Rattle.structure.specs.Structure.{Structure, Limits}
use Rattle.structure.specs.Paths.{any_below}
use Rattle.structure.proofs.Below.{any_from, none_from}
use Rattle.structure.proofs.Conjunctions.{both_passed, false_unless}
use Rattle.packed.specs.Bits.{bit_in, bit_at, number_at}
use Rattle.packed.specs.FileOf.{header_bits, row_bits, row_at, field_bits, file_bit, file_size, file_of}
use Rattle.packed.specs.Layout.{Widths, narrow, states_of, start_of, propositions_of, row_of, bits_of, size_of, spells}
use Rattle.packed.specs.Verdict.{filled, stuck, verdict, Exact, ZeroFilled, Judged, accepted, too_few_bytes, too_many_bytes, filling_bit_set, start_not_a_state, state_without_step}
use Rattle.packed.proofs.BitLaws.{whole_bytes, number_spelled}
use Rattle.packed.proofs.Bytes.{bit_of_spelled, number_from_bits, bit_at_past, bytes_from_bits, bits_of_bytes, length-bytes_of}
use Rattle.packed.proofs.Causes.{verdict_judges}
use Rattle.packed.proofs.FileBits.{bit_of_states, bit_of_start, bit_of_propositions, bit_of_label, bit_of_step, bit_of_filling}

-- the three fixed fields have room for the structure's numbers
pub record Room (w : Widths) (S : Structure) : Type 0 where
  pub states : S.states ≤ 2 ^ w.states
  pub start : S.start < 2 ^ w.start
  pub propositions : S.propositions < 2 ^ w.propositions

pub narrow_room : (S : Structure) → Limits S → Room narrow S
narrow_room S keeps =
    record {
      states = keeps.bounded;
      start = omega (arith, keeps.starts, keeps.bounded);
      propositions = omega (arith, keeps.described);
    }

-- a bit that is true only inside two ranges, read behind the tests of both
guarded : (a b c d : ℕ) (x y : Bool) → (a < b → c < d → x ≡ y) → (y ≡ true → (a < b) × (c < d)) → (ltb a b && (ltb c d && x)) ≡ y
guarded a b c d x y same inside =
    ⊎_elim
    (λ la.
    ⊎_elim
    (λ lc. both_passed (ltb a b) (ltb c d) x (lt-ltb a b la) (lt-ltb c d lc) ∙ same la lc)
    (λ ge. and_right (ltb a b) (ltb c d && x) (and_left (ltb c d) x (le-ltb c d ge)) ∙ sym (false_unless y (λ h. omega (arith, (inside h).1))))
    (cases_lt c d))
    (λ ge. and_left (ltb a b) (ltb c d && x) (le-ltb a b ge) ∙ sym (false_unless y (λ h. omega (arith, (inside h).0))))
    (cases_lt a b)

module _ (w : Widths) (S : Structure) where
  pub file_from_bits : (bytes : List ℕ) → length bytes ≡ file_size w S → ((k : ℕ) → get_or bytes k 0 < 256) → ((i : ℕ) → bit_at bytes i ≡ file_bit w S i) → bytes ≡ file_of w S
  unfolding file_of
  file_from_bits bytes len small same = bytes_from_bits (file_bit w S) (file_size w S) bytes len small (λ i lt. same i)

  pub length-file_of : length (file_of w S) ≡ file_size w S
  unfolding file_of
  length-file_of = length-bytes_of (file_bit w S) (file_size w S)

  -- all fields stand in the file
  pub fields_inside : field_bits w S ≤ file_size w S * 8
  unfolding file_size
  fields_inside = (whole_bytes (field_bits w S)).0

  pub file_bits : (i : ℕ) → bit_at (file_of w S) i ≡ file_bit w S i
  unfolding file_of
  file_bits i =
      ⊎_elim
      (λ lt. bits_of_bytes (file_bit w S) (file_size w S) i lt)
      (λ ge. bit_at_past (file_of w S) i (omega (arith, length-file_of)) ∙ sym (bit_of_filling w S i (omega (arith, fields_inside))))
      (cases_lt i (file_size w S * 8))

  module _ (keeps : Limits S) (room : Room w S) where
    states_spelled : states_of w (file_of w S) ≡ S.states
    unfolding states_of
    states_spelled =
        let bit : (k : ℕ) → k < w.states → bit_at (file_of w S) (0 + k) ≡ bit_in w.states (S.states - 1) k = λ k lt. ap (bit_at (file_of w S)) (zero-add k) ∙ file_bits k ∙ bit_of_states w S k lt in
        let less = number_from_bits (file_of w S) 0 w.states (S.states - 1) (omega (arith, keeps.inhabited, room.states)) bit in
        omega (arith, keeps.inhabited, less)

    start_spelled : start_of w (file_of w S) ≡ S.start
    unfolding start_of
    start_spelled =
        number_from_bits (file_of w S) w.states w.start S.start room.start
        (λ k lt. file_bits (w.states + k) ∙ bit_of_start w S k lt)

    propositions_spelled : propositions_of w (file_of w S) ≡ S.propositions
    unfolding propositions_of
    propositions_spelled =
        number_from_bits (file_of w S) (w.states + w.start) w.propositions S.propositions room.propositions
        (λ k lt. file_bits (w.states + w.start + k) ∙ bit_of_propositions w S k lt)

    row_spelled : (s : ℕ) → row_of w (file_of w S) s ≡ row_at w S s
    unfolding row_of
    row_spelled s = λ i. header_bits w S + s * (propositions_spelled i + states_spelled i)

    label_spelled : (s p : ℕ) → (spells w (file_of w S)).label s p ≡ S.label s p
    label_spelled s p =
        guarded s (states_of w (file_of w S)) p (propositions_of w (file_of w S)) (bit_at (file_of w S) (row_of w (file_of w S) s + p)) (S.label s p)
        (λ ls lp.
        ap (λ x. bit_at (file_of w S) (x + p)) (row_spelled s)
        ∙ file_bits (row_at w S s + p)
        ∙ bit_of_label w S s p (omega (arith, states_spelled)) (omega (arith, propositions_spelled)))
        (λ h. let inside = keeps.labels s p h in (omega (arith, inside.0, states_spelled), omega (arith, inside.1, propositions_spelled)))

    step_spelled : (s t : ℕ) → (spells w (file_of w S)).step s t ≡ S.step s t
    step_spelled s t =
        guarded s (states_of w (file_of w S)) t (states_of w (file_of w S)) (bit_at (file_of w S) (row_of w (file_of w S) s + propositions_of w (file_of w S) + t)) (S.step s t)
        (λ ls lt.
        (λ i. bit_at (file_of w S) (row_spelled s i + propositions_spelled i + t))
        ∙ file_bits (row_at w S s + S.propositions + t)
        ∙ bit_of_step w S s t (omega (arith, states_spelled)) (omega (arith, states_spelled)))
        (λ h. let inside = keeps.steps s t h in (omega (arith, inside.0, states_spelled), omega (arith, inside.1, states_spelled)))

    pub file_spells : spells w (file_of w S) ≡ S
    file_spells =
        λ i. record { states = states_spelled i; start = start_spelled i; propositions = propositions_spelled i; label = λ s p. label_spelled s p i; step = λ s t. step_spelled s t i }

    bits_spelled : bits_of w (file_of w S) ≡ field_bits w S
    unfolding bits_of
    bits_spelled = row_spelled (states_of w (file_of w S)) ∙ ap (λ n. header_bits w S + n * row_bits w S) states_spelled

    size_spelled : size_of w (file_of w S) ≡ length (file_of w S)
    unfolding size_of file_size
    size_spelled = ap (λ n. (n + 7) / 8) bits_spelled ∙ sym length-file_of

    not_filled : filled w (file_of w S) ≡ false
    unfolding filled
    not_filled =
        none_from (λ i. bit_at (file_of w S) (bits_of w (file_of w S) + i)) (8 * length (file_of w S) - bits_of w (file_of w S))
        (λ k lt. file_bits (bits_of w (file_of w S) + k) ∙ bit_of_filling w S (bits_of w (file_of w S) + k) (omega (arith, bits_spelled)))

    not_stuck : stuck w (file_of w S) ≡ false
    unfolding stuck
    not_stuck =
        none_from (λ s. not (any_below ((spells w (file_of w S)).step s) (states_of w (file_of w S)))) (states_of w (file_of w S))
        (λ s lt.
        let step = keeps.goes_on s (omega (arith, states_spelled)) in
        let there = keeps.steps s step.0 step.1 in
        ap not (any_from ((spells w (file_of w S)).step s) (states_of w (file_of w S)) step.0 (omega (arith, there.1, states_spelled)) (step_spelled s step.0 ∙ step.1)))

    pub file_accepted : verdict w (file_of w S) ≡ Ok tt
    file_accepted =
        cond-false (ltb (length (file_of w S)) (size_of w (file_of w S))) _ _ (le-ltb (length (file_of w S)) (size_of w (file_of w S)) (omega (arith, size_spelled)))
        ∙ cond-false (ltb (size_of w (file_of w S)) (length (file_of w S))) _ _ (le-ltb (size_of w (file_of w S)) (length (file_of w S)) (omega (arith, size_spelled)))
        ∙ cond-false (filled w (file_of w S)) _ _ not_filled
        ∙ cond-false (leb (states_of w (file_of w S)) (start_of w (file_of w S))) _ _ (lt-leb (states_of w (file_of w S)) (start_of w (file_of w S)) (omega (arith, keeps.starts, states_spelled, start_spelled)))
        ∙ cond-false (stuck w (file_of w S)) _ _ not_stuck

module _ (w : Widths) (bytes : List ℕ) where
  -- what an accepted file passed
  exact_and_zeros : (r : Result (Unit {0}) Refusal) → Judged w bytes r → is_ok r ≡ true → Exact w bytes × ZeroFilled w bytes
  exact_and_zeros r (accepted exact zeros start goes) h = (exact, zeros)
  exact_and_zeros r (too_few_bytes few) h = absurd (false≢true h)
  exact_and_zeros r (too_many_bytes many) h = absurd (false≢true h)
  exact_and_zeros r (filling_bit_set exact i ge lt one) h = absurd (false≢true h)
  exact_and_zeros r (start_not_a_state exact zeros out) h = absurd (false≢true h)
  exact_and_zeros r (state_without_step exact zeros start s lt none) h = absurd (false≢true h)

  -- a bit of the file is the bit of the structure's file, field by field
  abbrev Same : ℕ → Type 0
  Same i = bit_at bytes i ≡ file_bit w (spells w bytes) i

  same_states : (i : ℕ) → i < w.states → Same i
  unfolding states_of
  same_states i lt =
      let less : states_of w bytes - 1 ≡ number_at bytes 0 w.states = omega arith in
      sym (bit_of_states w (spells w bytes) i lt
      ∙ ap (λ n. bit_in w.states n i) (less ∙ number_spelled bytes 0 w.states)
      ∙ bit_of_spelled (λ k. bit_at bytes (0 + k)) w.states i lt
      ∙ ap (bit_at bytes) (zero-add i))

  same_start : (j : ℕ) → j < w.start → Same (w.states + j)
  unfolding start_of
  same_start j lt =
      sym (bit_of_start w (spells w bytes) j lt ∙ ap (λ n. bit_in w.start n j) (number_spelled bytes w.states w.start) ∙ bit_of_spelled (λ k. bit_at bytes (w.states + k)) w.start j lt)

  same_propositions : (j : ℕ) → j < w.propositions → Same (w.states + w.start + j)
  unfolding propositions_of
  same_propositions j lt =
      sym (bit_of_propositions w (spells w bytes) j lt ∙ ap (λ n. bit_in w.propositions n j) (number_spelled bytes (w.states + w.start) w.propositions) ∙ bit_of_spelled (λ k. bit_at bytes (w.states + w.start + k)) w.propositions j lt)

  same_label : (s p : ℕ) → s < states_of w bytes → p < propositions_of w bytes → Same (row_at w (spells w bytes) s + p)
  unfolding row_of
  same_label s p ls lp =
      sym (bit_of_label w (spells w bytes) s p ls lp
      ∙ both_passed (ltb s (states_of w bytes)) (ltb p (propositions_of w bytes)) (bit_at bytes (row_of w bytes s + p)) (lt-ltb s (states_of w bytes) ls) (lt-ltb p (propositions_of w bytes) lp))

  same_step : (s t : ℕ) → s < states_of w bytes → t < states_of w bytes → Same (row_at w (spells w bytes) s + propositions_of w bytes + t)
  unfolding row_of
  same_step s t ls lt =
      sym (bit_of_step w (spells w bytes) s t ls lt
      ∙ both_passed (ltb s (states_of w bytes)) (ltb t (states_of w bytes)) (bit_at bytes (row_of w bytes s + propositions_of w bytes + t)) (lt-ltb s (states_of w bytes) ls) (lt-ltb t (states_of w bytes) lt))

  -- place k of the row of state s
  same_place : (s k : ℕ) → s < states_of w bytes → k < row_bits w (spells w bytes) → Same (row_at w (spells w bytes) s + k)
  same_place s k ls lk =
      let row : ℕ = row_at w (spells w bytes) s in
      ⊎_elim
      (λ lp. same_label s k ls lp)
      (λ ge.
      let there : row + propositions_of w bytes + (k - propositions_of w bytes) ≡ row + k = omega arith in
      subst Same there (same_step s (k - propositions_of w bytes) ls (omega arith)))
      (cases_lt k (propositions_of w bytes))

  -- a row has a bit for some state
  some_bit : 0 < row_bits w (spells w bytes)
  unfolding states_of
  some_bit = omega arith

  same_rows : (i : ℕ) → header_bits w (spells w bytes) ≤ i → i < field_bits w (spells w bytes) → Same i
  same_rows i ge lt =
      let width : ℕ = row_bits w (spells w bytes) in
      let place : ℕ = i - header_bits w (spells w bytes) in
      let whole = div-add-mod' place width in
      let there : header_bits w (spells w bytes) + place / width * width + place % width ≡ i = omega arith in
      subst Same there
      (same_place (place / width) (place % width) (div_below place width (states_of w bytes) some_bit (omega arith)) (mod_below place width some_bit))

  same_header : (i : ℕ) → i < header_bits w (spells w bytes) → Same i
  same_header i lt =
      ⊎_elim
      (λ first. same_states i first)
      (λ after.
      ⊎_elim
      (λ second.
      let there : w.states + (i - w.states) ≡ i = omega arith in
      subst Same there (same_start (i - w.states) (omega arith)))
      (λ third.
      let there : w.states + w.start + (i - (w.states + w.start)) ≡ i = omega arith in
      subst Same there (same_propositions (i - (w.states + w.start)) (omega arith)))
      (cases_lt i (w.states + w.start)))
      (cases_lt i w.states)

  -- the layout has the bits of the structure's fields
  bits_are_fields : bits_of w bytes ≡ field_bits w (spells w bytes)
  unfolding bits_of row_of
  bits_are_fields = refl

  module _ (exact : Exact w bytes) (zeros : ZeroFilled w bytes) where
    same_filling : (i : ℕ) → field_bits w (spells w bytes) ≤ i → Same i
    same_filling i ge =
        ⊎_elim (λ lt. zeros i (omega (arith, bits_are_fields)) lt) (λ past. bit_at_past bytes i (omega arith)) (cases_lt i (8 * length bytes))
        ∙ sym (bit_of_filling w (spells w bytes) i ge)

    same_bits : (i : ℕ) → Same i
    same_bits i =
        ⊎_elim
        (λ header. same_header i header)
        (λ after. ⊎_elim (λ row. same_rows i after row) (λ filling. same_filling i filling) (cases_lt i (field_bits w (spells w bytes))))
        (cases_lt i (header_bits w (spells w bytes)))

    same_length : length bytes ≡ file_size w (spells w bytes)
    unfolding file_size
    same_length = omega (arith, exact.0, exact.1, bits_are_fields, whole_bytes (field_bits w (spells w bytes)))

-- an accepted file is the file of the structure that it spells
pub file_again : (w : Widths) (bytes : List ℕ) → ((k : ℕ) → get_or bytes k 0 < 256) → is_ok (verdict w bytes) ≡ true → file_of w (spells w bytes) ≡ bytes
file_again w bytes small ok =
    let passed = exact_and_zeros w bytes (verdict w bytes) (verdict_judges w bytes) ok in
    sym (file_from_bits w (spells w bytes) bytes (same_length w bytes passed.0 passed.1) small (same_bits w bytes passed.0 passed.1))
