-- How the file of a structure is written: the header first, then bit by bit, where bits that are 0 are passed over. Assumes nothing.
use Rattle.std.proofs.Common.{◌≡◌, ℕ, zero, suc, ◌+◌, ◌-◌, ◌*◌, ◌/◌, ◌<◌, ◌≤◌, true, false, ◌&&◌, ◌||◌, eqb, ltb, List, ◌∷◌, length, get_or, set, replicate, sym, refl, ap, ◌∙◌, subst, ⊎_elim, add-mul, arith}
use Rattle.std.proofs.lemmas.Nat.{div-add-mod', mod_below, le-div, mul-add-lt}
use Rattle.std.proofs.lemmas.List.{length-replicate}
use Rattle.std.proofs.lemmas.Bool.{cases_lt, cases_eq, lt-ltb, le-ltb, eq-eqb, ne_eqb, and_left}
use Rattle.structure.specs.Structure.{Structure, Limits}
use Rattle.structure.specs.Paths.{any_below}
use Rattle.structure.proofs.Below.{none_below}
use Rattle.structure.proofs.Conjunctions.{and_true}
use Rattle.packed.specs.Bits.{bit_of, bit_in, bit_at}
use Rattle.packed.specs.FileOf.{row_bits, field_bits, file_bit, file_size, row_at}
use Rattle.packed.specs.Layout.{narrow}
use Rattle.packed.specs.Writing.{Written}
use Rattle.packed.proofs.BitLaws.{bit_at_byte, bit_of_byte, no_ones, whole_bytes}
use Rattle.packed.proofs.FileBits.{bit_of_states, bit_of_start, bit_of_propositions, bit_of_label, bit_of_step, bit_of_filling}
use Rattle.packed.proofs.Agree.{differ, agree_below}

module _ (S : Structure) where
  -- no bit of the file from place a on and before place b is 1
  abbrev pub Unset : ℕ → ℕ → Type 0
  Unset a b = (i : ℕ) → a ≤ i → i < b → file_bit narrow S i ≡ false

  -- a bit before the end is the file's, and one after it is 0
  before_end : (i end : ℕ) → i < end → (ltb i end && file_bit narrow S i) ≡ file_bit narrow S i
  before_end i end lt = and_true (ltb i end) (file_bit narrow S i) (lt-ltb i end lt)

  after_end : (i end : ℕ) → end ≤ i → (ltb i end && file_bit narrow S i) ≡ false
  after_end i end le = and_left (ltb i end) (file_bit narrow S i) (le-ltb i end le)

  module _ (bytes : List ℕ) (end : ℕ) (written : Written S bytes end) where
    -- bits that are 0 need not be written
    pub passes_over : (later : ℕ) → end ≤ later → Unset end later → Written S bytes later
    passes_over later le unset = record { size = written.size; bits = λ i. written.bits i ∙ same i }
      where
        same : (i : ℕ) → (ltb i end && file_bit narrow S i) ≡ (ltb i later && file_bit narrow S i)
        same i =
            ⊎_elim
            (λ lt. before_end i end lt ∙ sym (before_end i later (omega arith)))
            (λ ge.
            after_end i end ge
            ∙ ⊎_elim (λ lt. sym (before_end i later lt ∙ unset i ge lt)) (λ past. sym (after_end i later past)) (cases_lt i later))
            (cases_lt i end)

    -- a bit that is 1 is set
    pub sets : (after : List ℕ) → file_bit narrow S end ≡ true → length after ≡ length bytes → ((k : ℕ) → bit_at after k ≡ (eqb k end || bit_at bytes k)) → Written S after (end + 1)
    sets after one long bits = record { size = long ∙ written.size; bits = λ k. bits k ∙ same k }
      where
        same : (k : ℕ) → (eqb k end || bit_at bytes k) ≡ (ltb k (end + 1) && file_bit narrow S k)
        same k =
            ⊎_elim
            (λ e. ap (λ b. b || bit_at bytes k) (eq-eqb k end e) ∙ sym (before_end k (end + 1) (omega arith) ∙ ap (file_bit narrow S) e ∙ one))
            (λ ne.
            ap (λ b. b || bit_at bytes k) (ne_eqb k end ne) ∙ written.bits k
            ∙ ⊎_elim
            (λ lt. before_end k end lt ∙ sym (before_end k (end + 1) (omega arith)))
            (λ ge. after_end k end ge ∙ sym (after_end k (end + 1) (omega arith)))
            (cases_lt k end))
            (cases_eq k end)

    -- the file is written when all fields are
    pub all_written : end ≡ field_bits narrow S → (i : ℕ) → bit_at bytes i ≡ file_bit narrow S i
    all_written is i =
        written.bits i
        ∙ ⊎_elim (λ lt. before_end i end lt) (λ ge. after_end i end ge ∙ sym (bit_of_filling narrow S i (omega arith))) (cases_lt i end)

    -- a place before the end of the fields is in the file
    pub in_file : (i : ℕ) → i < field_bits narrow S → i < length bytes * 8
    unfolding file_size
    in_file i lt = omega (arith, written.size, whole_bytes (field_bits narrow S))

-- a state's bits end where the next one's begin
pub next_row : (S : Structure) (s : ℕ) → row_at narrow S s + S.propositions + S.states ≡ row_at narrow S (s + 1)
next_row S s = omega (arith, add-mul s 1 (row_bits narrow S))

module _ (S : Structure) (s : ℕ) (inside : s < S.states) where
  -- the places of a state's bits are in the file
  pub row_inside : (k : ℕ) → k < row_bits narrow S → row_at narrow S s + k < field_bits narrow S
  row_inside k lt = omega (arith, mul-add-lt s (row_bits narrow S) k S.states inside lt)

  module _ (bytes : List ℕ) where
    -- a proposition that is not true needs no bit, and one that is true sets its bit
    pub label_absent : (p : ℕ) → p < S.propositions → Written S bytes (row_at narrow S s + p) → S.label s p ≡ false → Written S bytes (row_at narrow S s + (p + 1))
    label_absent p lt written none =
        passes_over S bytes (row_at narrow S s + p) written (row_at narrow S s + (p + 1)) (omega arith)
        (λ i le less. let here : i ≡ row_at narrow S s + p = omega arith in ap (file_bit narrow S) here ∙ bit_of_label narrow S s p inside lt ∙ none)

    pub label_present : (p : ℕ) (after : List ℕ) → p < S.propositions → Written S bytes (row_at narrow S s + p) → S.label s p ≡ true → length after ≡ length bytes → ((k : ℕ) → bit_at after k ≡ (eqb k (row_at narrow S s + p) || bit_at bytes k)) → Written S after (row_at narrow S s + (p + 1))
    label_present p after lt written one long bits =
        let there : (row_at narrow S s + p) + 1 ≡ row_at narrow S s + (p + 1) = omega arith in
        subst (Written S after) there (sets S bytes (row_at narrow S s + p) written after (bit_of_label narrow S s p inside lt ∙ one) long bits)

    -- the bits of steps that are not there are passed over
    pub no_step_between : (from to : ℕ) → from ≤ to → to ≤ S.states → Written S bytes (row_at narrow S s + S.propositions + from) → ((u : ℕ) → from ≤ u → u < to → S.step s u ≡ false) → Written S bytes (row_at narrow S s + S.propositions + to)
    no_step_between from to le most written none =
        passes_over S bytes (row_at narrow S s + S.propositions + from) written (row_at narrow S s + S.propositions + to) (omega arith)
        (λ i low high.
        let here : i ≡ row_at narrow S s + S.propositions + (i - (row_at narrow S s + S.propositions)) = omega arith in
        ap (file_bit narrow S) here
        ∙ bit_of_step narrow S s (i - (row_at narrow S s + S.propositions)) inside (omega arith)
        ∙ none (i - (row_at narrow S s + S.propositions)) (omega arith) (omega arith))

    pub step_present : (t : ℕ) (after : List ℕ) → t < S.states → Written S bytes (row_at narrow S s + S.propositions + t) → S.step s t ≡ true → length after ≡ length bytes → ((k : ℕ) → bit_at after k ≡ (eqb k (row_at narrow S s + S.propositions + t) || bit_at bytes k)) → Written S after (row_at narrow S s + S.propositions + (t + 1))
    step_present t after lt written one long bits =
        let there : (row_at narrow S s + S.propositions + t) + 1 ≡ row_at narrow S s + S.propositions + (t + 1) = omega arith in
        subst (Written S after) there (sets S bytes (row_at narrow S s + S.propositions + t) written after (bit_of_step narrow S s t inside lt ∙ one) long bits)

-- the number of propositions in the third byte
in_third_byte : (p j : ℕ) → p < 32 → j < 8 → bit_of (p * 8) j ≡ (ltb j 5 && bit_in 5 p j)
unfolding bit_of bit_in
in_third_byte p j lp lj =
    agree_below (bit_of (p * 8)) (λ j. ltb j 5 && bit_in 5 p j) 8
    (none_below (λ p. any_below (λ j. differ (bit_of (p * 8) j) (ltb j 5 && bit_in 5 p j)) 8) 32 refl p lp) j lj

-- every file has the three bytes of the fixed fields
pub three_bytes : (S : Structure) → 3 ≤ file_size narrow S
unfolding file_size
three_bytes S = le-div 3 (field_bits narrow S + 7) 8 (omega arith) (omega arith)

-- three bytes and zeros after them
module _ (first second third rest : ℕ) where
  abbrev pub begun : List ℕ
  begun = first ∷ second ∷ third ∷ replicate rest 0

  zeros : (n k : ℕ) → ◌≡◌ {A = ℕ} (get_or (replicate n 0) k 0) 0
  zeros zero k = refl
  zeros (suc n) zero = refl
  zeros (suc n) (suc k) = zeros n k

  later : (k : ℕ) → 3 ≤ k → ◌≡◌ {A = ℕ} (get_or begun k 0) 0
  later zero le = absurd (omega arith)
  later (suc zero) le = absurd (omega arith)
  later (suc (suc zero)) le = absurd (omega arith)
  later (suc (suc (suc k))) le = zeros rest k

  in_byte : (q k : ℕ) → q * 8 ≤ k → k < q * 8 + 8 → bit_at begun k ≡ bit_of (get_or begun q 0) (k - q * 8)
  in_byte q k le lt =
      let here : q * 8 + (k - q * 8) ≡ k = omega arith in
      subst (λ x. bit_at begun x ≡ bit_of (get_or begun q 0) (k - q * 8)) here (bit_at_byte begun q (k - q * 8) (omega arith))

  past : (k : ℕ) → 24 ≤ k → bit_at begun k ≡ false
  past k le =
      let whole = div-add-mod' k 8 in
      let left = mod_below k 8 (omega arith) in
      in_byte (k / 8) k (omega arith) (omega arith) ∙ ap (λ x. bit_of x (k - k / 8 * 8)) (later (k / 8) (omega arith)) ∙ no_ones (k - k / 8 * 8)

module _ (S : Structure) (keeps : Limits S) (rest : ℕ) where
  abbrev pub header : List ℕ
  header = begun (S.states - 1) S.start (S.propositions * 8) rest

  byte : (q k : ℕ) → q * 8 ≤ k → k < q * 8 + 8 → bit_at header k ≡ bit_of (get_or header q 0) (k - q * 8)
  byte = in_byte (S.states - 1) S.start (S.propositions * 8) rest

  in_first : (k : ℕ) → k < 8 → bit_at header k ≡ file_bit narrow S k
  in_first k lt =
      let here : k - 0 * 8 ≡ k = omega arith in
      byte 0 k (omega arith) (omega arith) ∙ ap (bit_of (S.states - 1)) here ∙ bit_of_byte (S.states - 1) k ∙ sym (bit_of_states narrow S k lt)

  in_second : (k : ℕ) → 8 ≤ k → k < 16 → bit_at header k ≡ file_bit narrow S k
  in_second k le lt =
      let here : 8 + (k - 8) ≡ k = omega arith in
      byte 1 k le lt ∙ bit_of_byte S.start (k - 8) ∙ sym (bit_of_start narrow S (k - 8) (omega arith)) ∙ ap (file_bit narrow S) here

  in_third : (k : ℕ) → 16 ≤ k → k < 24 → bit_at header k ≡ (ltb (k - 16) 5 && bit_in 5 S.propositions (k - 16))
  in_third k le lt = byte 2 k le lt ∙ in_third_byte S.propositions (k - 16) (omega (arith, keeps.described)) (omega arith)

  in_fields : (k : ℕ) → k < 21 → bit_at header k ≡ file_bit narrow S k
  in_fields k lt =
      ⊎_elim (in_first k)
      (λ ge.
      ⊎_elim (in_second k ge)
      (λ ge'.
      let here : 16 + (k - 16) ≡ k = omega arith in
      in_third k ge' (omega arith)
      ∙ and_true (ltb (k - 16) 5) _ (lt-ltb (k - 16) 5 (omega arith))
      ∙ sym (bit_of_propositions narrow S (k - 16) (omega arith)) ∙ ap (file_bit narrow S) here)
      (cases_lt k 16))
      (cases_lt k 8)

  after_fields : (k : ℕ) → 21 ≤ k → bit_at header k ≡ false
  after_fields k le =
      ⊎_elim
      (λ lt. in_third k (omega arith) lt ∙ and_left (ltb (k - 16) 5) _ (le-ltb (k - 16) 5 (omega arith)))
      (past (S.states - 1) S.start (S.propositions * 8) rest k)
      (cases_lt k 24)

  -- the three bytes hold the fixed fields
  pub header_written : rest + 3 ≡ file_size narrow S → Written S header 21
  header_written long =
      record {
        size = omega (arith, length-replicate {A = ℕ} rest 0);
        bits = λ k. ⊎_elim (λ lt. in_fields k lt ∙ sym (before_end S k 21 lt)) (λ ge. after_fields k ge ∙ sym (after_end S k 21 ge)) (cases_lt k 21);
      }

-- the three bytes, set in a file of zeros, are its beginning
pub header_begins : (S : Structure) → Limits S → (n : ℕ) → n ≡ file_size narrow S → Written S (set (set (set (replicate n 0) 0 (S.states - 1)) 1 S.start) 2 (S.propositions * 8)) (row_at narrow S 0)
header_begins S keeps zero is = absurd (omega (arith, three_bytes S))
header_begins S keeps (suc zero) is = absurd (omega (arith, three_bytes S))
header_begins S keeps (suc (suc zero)) is = absurd (omega (arith, three_bytes S))
header_begins S keeps (suc (suc (suc rest))) is =
    let first : 21 ≡ row_at narrow S 0 = omega arith in
    subst (Written S (header S keeps rest)) first (header_written S keeps rest (omega arith))
