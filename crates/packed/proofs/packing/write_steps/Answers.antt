-- Each turn writes the next step; the bits between are 0.
use Rattle.std.proofs.Common.{◌≡◌, ◌+◌, ◌||◌, eqb, ap, ◌∙◌, subst, arith}
use Rattle.packed.specs.Bits.{bit_at}
use Rattle.packed.specs.FileOf.{row_at}
use Rattle.packed.specs.Layout.{narrow}
use Rattle.packed.specs.Writing.{Written}
use Rattle.packed.proofs.WritingLaws.{row_inside, in_file, no_step_between, step_present, next_row}
use Rattle.packed.proofs.packing.write_steps.Goals as goal

pub set_bit-requires : goal.set_bit-requires
set_bit-requires g c =
    let S = g.M.Model.meaning c.args.model.now in
    let next = c.in-Some.ensures.smallest in
    let there = ((g.met.M.Model.keeps c.args.model.now).steps c.args.s c.in-Some.t next.1).1 in
    let t = row_inside S c.args.s c.requires.inside (S.propositions + c.in-Some.t) (omega arith) in
    omega (arith, c.requires.steps, c.from.ensures, in_file S c.loop-t.file _ c.loop-t.invariant.0 (row_at narrow S c.args.s + (S.propositions + c.in-Some.t)) t)

pub loop-t-preserved : goal.loop-t-preserved
loop-t-preserved g c =
    let S = g.M.Model.meaning c.args.model.now in
    let s = c.args.s in
    let t = c.in-Some.t in
    let next = c.in-Some.ensures.smallest in
    let there = ((g.met.M.Model.keeps c.args.model.now).steps s t next.1).1 in
    let before = no_step_between S s c.requires.inside c.loop-t.file c.loop-t.from t next.0 (omega arith) c.loop-t.invariant.0 next.2 in
    let place : c.args.steps + c.from.result ≡ row_at narrow S s + S.propositions + t = omega (arith, c.requires.steps, c.from.ensures) in (
      step_present S s c.requires.inside c.loop-t.file t c.set_bit.new.file there before next.1 c.set_bit.ensures.size
          (λ k. c.set_bit.ensures.bits k ∙ ap (λ i. eqb k i || bit_at c.loop-t.file k) place),
      omega arith,
    )

pub returns : goal.returns
returns g c =
    let S = g.M.Model.meaning c.args.model.now in
    let none = c.in_default.ensures.smallest in
    subst (Written S c.loop-t.file) (next_row S c.args.s)
    (no_step_between S c.args.s c.requires.inside c.loop-t.file c.loop-t.from S.states c.loop-t.invariant.1 (omega arith) c.loop-t.invariant.0 (λ u le lt. none u le))
