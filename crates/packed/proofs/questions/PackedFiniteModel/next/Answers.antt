-- The next step is the first 1 among the step bits of the state.
use Rattle.std.proofs.Common.{ℕ, ◌+◌, ◌-◌, ◌&&◌, ltb, Some, None, Option, sym, subst, arith}
use Rattle.std.specs.Option.{option_map}
use Rattle.structure.specs.Next.{Smallest}
use Rattle.structure.proofs.Next.{next_of_from_smallest}
use Rattle.packed.specs.Bits.{bit_at}
use Rattle.packed.specs.Layout.{narrow, spells}
use Rattle.packed.specs.Kept.{spells_keeps}
use Rattle.packed.proofs.Stepped.{no_state, next_step}
use Rattle.packed.proofs.questions.PackedFiniteModel.next.Goals as goal
use Rattle.packed.proofs.questions.PackedFiniteModel.next.Goals.{After-from-2}

pub returns-then-s-self : goal.returns-then-s-self
returns-then-s-self c =
    let file = c.args.self.now.file in
    let none = no_state file.bytes.now c.args.s c.args.t (omega (arith, file.states, c.if-s-self.true)) in
    record { value = next_of_from_smallest (spells narrow file.bytes.now) (spells_keeps file.bytes.now c.args.self.now.accepted) c.args.s c.args.t None none; smallest = none }

-- what the search through the step bits tells
found : (c : After-from-2) (q : Option ℕ) → Smallest (λ i. ltb i (c.steps-steps.result + c.from.result) && bit_at c.args.self.now.file.bytes.now i) (c.steps-steps.result + c.from-2.result) q → Smallest ((spells narrow c.args.self.now.file.bytes.now).step c.args.s) c.args.t (option_map (λ i. i - c.steps-steps.result) q)
found c q told =
    let file = c.args.self.now.file in
    let steps = c.steps-steps.result in
    let end = steps + c.from.result in
    next_step file.bytes.now c.args.s c.args.t steps end (omega (arith, c.if-s-self.false, file.states)) c.steps-steps.ensures.place (omega (arith, file.states, c.from.ensures)) q
    (subst (λ t. Smallest (λ i. ltb i end && bit_at file.bytes.now i) (steps + t) q) c.from-2.ensures told)

pub returns : goal.returns
returns c =
    let file = c.args.self.now.file in
    let some = found (goal.at.returns c).After-from-2 (Some c.in_ok-place.place) c.in_ok-place.ensures in
    record { value = next_of_from_smallest (spells narrow file.bytes.now) (spells_keeps file.bytes.now c.args.self.now.accepted) c.args.s c.args.t _ some; smallest = some }

pub returns-in_err-place : goal.returns-in_err-place
returns-in_err-place c =
    let file = c.args.self.now.file in
    let none = subst (Smallest ((spells narrow file.bytes.now).step c.args.s) c.args.t) (sym c.from_residual.ensures) (found (goal.at.returns-in_err-place c).After-from-2 None c.in_err-place.ensures) in
    record { value = next_of_from_smallest (spells narrow file.bytes.now) (spells_keeps file.bytes.now c.args.self.now.accepted) c.args.s c.args.t c.from_residual.result none; smallest = none }
