-- A state is left at its first step bit that is 1, and the loop at the first state without one.
use Rattle.std.proofs.Common.{◌≡◌, ◌+◌, true, sym, ap, ◌∙◌, arith, below_more}
use Rattle.packed.specs.Bits.{bit_at}
use Rattle.packed.proofs.Judged.{goes_by, stuck_from, not_stuck_from}
use Rattle.packed.proofs.File.has_dead_end.Goals as goal

pub states-preserved : goal.states-preserved
states-preserved c =
    let states = c.args.self.now.states in
    let one : bit_at c.args.self.now.bytes.now (c.steps-steps.result + c.loop-t.t) ≡ true = ap (λ t. bit_at c.args.self.now.bytes.now (c.steps-steps.result + t)) (sym c.from.ensures) ∙ sym c.if-bit.ensures in
    (c.states.invariant.0, below_more _ _ c.states.invariant.1 (goes_by c.args.self.now.bytes.now c.states.s c.loop-t.t c.steps-steps.result (omega (arith, c.states-test.true)) (omega (arith, c.loop-t-test.true)) c.steps-steps.ensures.place one))

pub returns-after-states : goal.returns-after-states
returns-after-states c =
    let states = c.args.self.now.states in
    c.states.invariant.0 ∙ sym (not_stuck_from c.args.self.now.bytes.now (λ s lt. c.states.invariant.1 s (omega (arith, c.states-test.false))))

pub returns-after-loop-t : goal.returns-after-loop-t
returns-after-loop-t c =
    let states = c.args.self.now.states in
    sym (stuck_from c.args.self.now.bytes.now c.states.s c.steps-steps.result (omega (arith, c.states-test.true)) c.steps-steps.ensures.place (λ t lt. c.loop-t.invariant t (omega (arith, c.loop-t-test.false))))
