-- What the loop over states and the loop over step bits keep.
use Rattle.std.proofs.Common.{◌≡◌, ℕ, ◌+◌, ◌<◌, false}
use Rattle.packed.specs.Bits.{bit_at}
use Rattle.packed.proofs.Judged.{Goes}
use Rattle.packed.proofs.File.has_dead_end.Given as goal

-- every state so far has a step
abbrev pub invariant-states : goal.invariant-states
invariant-states l = (l.dead_end ≡ false) × ((k : ℕ) → k < l.s → Goes l.self.bytes.now k)

-- the state has no step so far
abbrev pub invariant-loop-t : goal.invariant-loop-t
invariant-loop-t l = (k : ℕ) → k < l.t → bit_at l.self.bytes.now (l.steps + k) ≡ false
