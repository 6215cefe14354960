-- What a reader must believe: the packed file of a structure, bit by bit. That it is accepted, and the only accepted file of a
-- structure within the limits, is proved on `pack` and `open`.
use Rattle.std.specs.Prelude.{ℕ, ◌+◌, ◌-◌, ◌*◌, ◌/◌, ◌%◌, Bool, false, cond, List, nat_lt}
use Rattle.structure.specs.Structure.{Structure, most_states, most_propositions}
use Rattle.packed.specs.Bits.{bit_in, bytes_of}
use Rattle.packed.specs.Layout.{Widths}

module _ (w : Widths) (S : Structure) where
  -- how many bits the three fixed fields have, and a state has
  abbrev pub header_bits : ℕ
  header_bits = w.states + w.start + w.propositions

  abbrev pub row_bits : ℕ
  row_bits = S.propositions + S.states

  -- where the bits of state s begin
  abbrev pub row_at : ℕ → ℕ
  row_at s = header_bits + s * row_bits

  -- how many bits all fields have together
  abbrev pub field_bits : ℕ
  field_bits = row_at S.states

  -- bit k of state s: first its propositions, then the states to which it has a step
  abbrev pub row_bit : ℕ → ℕ → Bool
  row_bit s k = cond (nat_lt k S.propositions) (S.label s k) (S.step s (k - S.propositions))

  -- bit i of the file: the three fixed fields, the states in turn, and zeros
  unfoldable pub file_bit : ℕ → Bool
  file_bit i =
      cond (nat_lt i w.states) (bit_in w.states (S.states - 1) i)
      (cond (nat_lt i (w.states + w.start)) (bit_in w.start S.start (i - w.states))
      (cond (nat_lt i header_bits) (bit_in w.propositions S.propositions (i - (w.states + w.start)))
      (cond (nat_lt i field_bits) (row_bit ((i - header_bits) / row_bits) ((i - header_bits) % row_bits)) false)))

  -- the bytes that the fields take, the last one filled up
  unfoldable pub file_size : ℕ
  file_size = (field_bits + 7) / 8

  -- the file
  unfoldable pub file_of : List ℕ
  file_of = bytes_of file_bit file_size

-- the bytes of the largest file, with as many states and propositions as a model may have
abbrev pub most_bytes : ℕ
most_bytes = (21 + most_states * (most_propositions + most_states) + 7) / 8
