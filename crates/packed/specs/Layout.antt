-- What a reader must believe: which structure a packed file spells, and how many bytes it takes.
-- The fields follow one another without gaps: the number of states less one, the starting state and the number of propositions;
-- then, for each state in turn, a bit for each proposition and a bit for each state to which it may step.
use Rattle.std.specs.Prelude.{ℕ, suc, ◌+◌, ◌*◌, ◌/◌, ◌&&◌, List, nat_lt}
use Rattle.structure.specs.Structure.{Structure}
use Rattle.packed.specs.Bits.{bit_at, number_at}

-- how many bits each of the three fixed fields has
pub record Widths : Type 0 where
  pub states : ℕ
  pub start : ℕ
  pub propositions : ℕ

-- the layout of today's files. The widths are a parameter so that a layout for more states can share the definitions
abbrev pub narrow : Widths
narrow = record { states = 8; start = 8; propositions = 5 }

module _ (w : Widths) (bytes : List ℕ) where
  -- the number of states
  unfoldable pub states_of : ℕ
  states_of = suc (number_at bytes 0 w.states)

  -- the starting state
  unfoldable pub start_of : ℕ
  start_of = number_at bytes w.states w.start

  -- the number of propositions
  unfoldable pub propositions_of : ℕ
  propositions_of = number_at bytes (w.states + w.start) w.propositions

  -- the place of the first bit of state s
  unfoldable pub row_of : ℕ → ℕ
  row_of s = w.states + w.start + w.propositions + s * (propositions_of + states_of)

  -- the bits of all fields together
  unfoldable pub bits_of : ℕ
  bits_of = row_of states_of

  -- the bytes that these bits take, the last one filled up
  unfoldable pub size_of : ℕ
  size_of = (bits_of + 7) / 8

  -- the structure that the bits spell; nothing outside its states and propositions is true
  abbrev pub spells : Structure
  spells =
      record {
        states = states_of;
        start = start_of;
        propositions = propositions_of;
        label = λ s p. nat_lt s states_of && (nat_lt p propositions_of && bit_at bytes (row_of s + p));
        step = λ s t. nat_lt s states_of && (nat_lt t states_of && bit_at bytes (row_of s + propositions_of + t));
      }
