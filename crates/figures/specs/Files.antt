-- What a reader must believe: the worked files of the documents, byte by byte, and the models that the accepted ones mean.
use Rattle.std.specs.Prelude.{◌≡◌, ℕ, zero, suc, Bool, cond, ◌&&◌, ◌||◌, List, [], ◌∷◌, ◌++◌, Ok, Err, Result, ◌==◌, nat_lt}
use Rattle.refusal.specs.Numbers.{number_of}
use Rattle.refusal.specs.declared.Refusal.{Refusal}
use Rattle.refusal.specs.declared.Refusal.TheVariants.{TooFewBytes, TooManyBytes, FillingBitSet, StartNotAState, StateWithoutStep}
use Rattle.structure.specs.Structure.{Structure}
use Rattle.structure.specs.Paths.{visited_count}
use Rattle.packed.specs.Layout.{narrow}
use Rattle.packed.specs.Verdict.{verdict, opened}

-- two states: proposition 0 is true at state 0, which steps to 0 and 1; state 1 steps to itself
abbrev pub two_states_file : List ℕ
two_states_file = 0x01 ∷ 0x00 ∷ 0x0F ∷ 0x20 ∷ []

abbrev pub two_states_model : Structure
two_states_model =
    record {
      states = 2;
      start = 0;
      propositions = 1;
      label = λ s p. (s == 0) && (p == 0);
      step = λ s t. (s == 0 && nat_lt t 2) || (s == 1 && t == 1);
    }

-- the still model
abbrev pub still_file : List ℕ
still_file = 0x00 ∷ 0x00 ∷ 0x04 ∷ []

-- three states: proposition 0 is true everywhere, state 0 steps to 1 and 2, which stay
abbrev pub three_states_file : List ℕ
three_states_file = 0x02 ∷ 0x00 ∷ 0x0D ∷ 0xD4 ∷ 0x80 ∷ []

-- one state with both of two propositions and a step to itself: 24 bits, so that no bit is filling
abbrev pub full_file : List ℕ
full_file = 0x00 ∷ 0x00 ∷ 0x17 ∷ []

-- two states of which the second is not visited: both step to themselves only
abbrev pub loose_file : List ℕ
loose_file = 0x01 ∷ 0x00 ∷ 0x0E ∷ 0x20 ∷ []

-- the sample model: the upload of a batch
abbrev pub sample_file : List ℕ
sample_file = 0x05 ∷ 0x00 ∷ 0x10 ∷ 0xC0 ∷ 0x20 ∷ 0x34 ∷ 0x08 ∷ 0x0A ∷ 0x08 ∷ []

-- the numbers below n that pass the test, in their order
abbrev pub those : (ℕ → Bool) → ℕ → List ℕ
those test zero = []
those test (suc n) = those test n ++ cond (test n) (n ∷ []) []

-- a structure as a table: for each of its first n states the propositions true there, and the states to which it has a step
abbrev pub rows : Structure → ℕ → List (List ℕ × List ℕ)
rows S zero = []
rows S (suc n) = rows S n ++ ((those (S.label n) S.propositions, those (S.step n) S.states) ∷ [])

pub record Drawn (S : Structure) (states start propositions : ℕ) (table : List (List ℕ × List ℕ)) : Type 0 where
  pub has_states : S.states ≡ states
  pub has_start : S.start ≡ start
  pub has_propositions : S.propositions ≡ propositions
  pub has_rows : rows S states ≡ table

abbrev pub ThreeStates : Type 0
ThreeStates =
    Drawn (opened narrow three_states_file) 3 0 1
    ((0 ∷ [], 1 ∷ 2 ∷ []) ∷ (0 ∷ [], 1 ∷ []) ∷ (0 ∷ [], 2 ∷ []) ∷ [])

abbrev pub FullFile : Type 0
FullFile = Drawn (opened narrow full_file) 1 0 2 ((0 ∷ 1 ∷ [], 0 ∷ []) ∷ [])

abbrev pub LooseFile : Type 0
LooseFile = Drawn (opened narrow loose_file) 2 0 1 ((0 ∷ [], 0 ∷ []) ∷ ([], 1 ∷ []) ∷ [])

-- how many states paths from the start visit
pub record Reached : Type 0 where
  pub two_states : visited_count (opened narrow two_states_file) ≡ 2
  pub three_states : visited_count (opened narrow three_states_file) ≡ 3
  pub loose : visited_count (opened narrow loose_file) ≡ 1
  pub sample : visited_count (opened narrow sample_file) ≡ 6

abbrev pub Sample : Type 0
Sample =
    Drawn (opened narrow sample_file) 6 0 2
    (([], 1 ∷ 2 ∷ []) ∷ ([], 3 ∷ []) ∷ ([], 3 ∷ 4 ∷ []) ∷ (0 ∷ [], 5 ∷ []) ∷ ([], 5 ∷ []) ∷ (1 ∷ [], 5 ∷ []) ∷ [])

-- the first file without its last byte, with a byte more, with its last and with its first filling bit, with a start that is no state, and with a state without a step
abbrev pub short_file : List ℕ
short_file = 0x01 ∷ 0x00 ∷ 0x0F ∷ []

abbrev pub long_file : List ℕ
long_file = 0x01 ∷ 0x00 ∷ 0x0F ∷ 0x20 ∷ 0x00 ∷ []

abbrev pub filled_file : List ℕ
filled_file = 0x01 ∷ 0x00 ∷ 0x0F ∷ 0x21 ∷ []

abbrev pub first_filled_file : List ℕ
first_filled_file = 0x01 ∷ 0x00 ∷ 0x0F ∷ 0x30 ∷ []

abbrev pub stray_file : List ℕ
stray_file = 0x01 ∷ 0x02 ∷ 0x0F ∷ 0x20 ∷ []

abbrev pub stuck_file : List ℕ
stuck_file = 0x01 ∷ 0x00 ∷ 0x0F ∷ 0x00 ∷ []

-- each of these is refused for the cause that it was made for
pub record Refused : Type 0 where
  pub short : verdict narrow short_file ≡ Err TooFewBytes
  pub long : verdict narrow long_file ≡ Err TooManyBytes
  pub filling : verdict narrow filled_file ≡ Err FillingBitSet
  pub first_filling : verdict narrow first_filled_file ≡ Err FillingBitSet
  pub stray : verdict narrow stray_file ≡ Err StartNotAState
  pub stepless : verdict narrow stuck_file ≡ Err StateWithoutStep

-- what `inspect` says, as a number: 0 where it accepts
abbrev pub spoken : Result (Unit {0}) Refusal → ℕ
spoken (Ok _) = 0
spoken (Err cause) = number_of cause
