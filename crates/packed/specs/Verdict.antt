-- What a reader must believe: which files are accepted, for which cause the others are refused, and what each file opens as.
use Rattle.std.specs.Prelude.{◌≡◌, ℕ, ◌+◌, ◌-◌, ◌*◌, ◌<◌, ◌≤◌, Bool, true, false, cond, not, List, length, is_ok, Ok, Err, Result, nat_le, nat_lt}
use Rattle.refusal.specs.declared.Refusal.{Refusal}
use Rattle.refusal.specs.declared.Refusal.TheVariants.{TooFewBytes, TooManyBytes, FillingBitSet, StartNotAState, StateWithoutStep}
use Rattle.structure.specs.Structure.{Structure, still}
use Rattle.structure.specs.Paths.{any_below}
use Rattle.packed.specs.Bits.{bit_at}
use Rattle.packed.specs.Layout.{Widths, states_of, start_of, bits_of, size_of, spells}

module _ (w : Widths) (bytes : List ℕ) where
  -- some bit after the layout's last is 1
  unfoldable pub filled : Bool
  filled = any_below (λ i. bit_at bytes (bits_of w bytes + i)) (8 * length bytes - bits_of w bytes)

  -- some state has no step
  unfoldable pub stuck : Bool
  stuck = any_below (λ s. not (any_below ((spells w bytes).step s) (states_of w bytes))) (states_of w bytes)

  -- the first cause that applies, each judged over the whole file before the next
  abbrev pub verdict : Result (Unit {0}) Refusal
  verdict =
      cond (nat_lt (length bytes) (size_of w bytes)) (Err TooFewBytes)
      (cond (nat_lt (size_of w bytes) (length bytes)) (Err TooManyBytes)
      (cond filled (Err FillingBitSet)
      (cond (nat_le (states_of w bytes) (start_of w bytes)) (Err StartNotAState)
      (cond stuck (Err StateWithoutStep) (Ok tt)))))

  -- the file has all bits of its layout, and less than a byte more
  abbrev pub Exact : Type 0
  Exact = (bits_of w bytes ≤ 8 * length bytes) × (8 * length bytes < bits_of w bytes + 8)

  -- every bit after the layout's last is 0
  abbrev pub ZeroFilled : Type 0
  ZeroFilled = (i : ℕ) → bits_of w bytes ≤ i → i < 8 * length bytes → bit_at bytes i ≡ false

  -- state s has a step
  abbrev pub GoesOn : ℕ → Type 0
  GoesOn s = (t : ℕ) × ((spells w bytes).step s t ≡ true)

  -- what the file opens as: the structure that it spells where it is accepted, else the still one
  abbrev pub opened : Structure
  opened = cond (is_ok verdict) (spells w bytes) still

-- what a verdict says of the file; a refusal also says that no cause before it applies
pub data Judged (w : Widths) (bytes : List ℕ) : Result (Unit {0}) Refusal → Type 0 where
  accepted : Exact w bytes → ZeroFilled w bytes → start_of w bytes < states_of w bytes → ((s : ℕ) → s < states_of w bytes → GoesOn w bytes s) → Judged w bytes (Ok tt)
  too_few_bytes : 8 * length bytes < bits_of w bytes → Judged w bytes (Err TooFewBytes)
  too_many_bytes : bits_of w bytes + 8 ≤ 8 * length bytes → Judged w bytes (Err TooManyBytes)
  filling_bit_set : Exact w bytes → (i : ℕ) → bits_of w bytes ≤ i → i < 8 * length bytes → bit_at bytes i ≡ true → Judged w bytes (Err FillingBitSet)
  start_not_a_state : Exact w bytes → ZeroFilled w bytes → states_of w bytes ≤ start_of w bytes → Judged w bytes (Err StartNotAState)
  state_without_step : Exact w bytes → ZeroFilled w bytes → start_of w bytes < states_of w bytes → (s : ℕ) → s < states_of w bytes → (GoesOn w bytes s → ⊥) → Judged w bytes (Err StateWithoutStep)
