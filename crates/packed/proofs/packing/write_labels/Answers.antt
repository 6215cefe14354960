-- Each turn writes one label.
use Rattle.std.proofs.Common.{◌≡◌, ◌+◌, ◌||◌, eqb, sym, ap, ◌∙◌, subst, arith}
use Rattle.packed.specs.Bits.{bit_at}
use Rattle.packed.specs.FileOf.{row_at}
use Rattle.packed.specs.Layout.{narrow}
use Rattle.packed.specs.Writing.{Written}
use Rattle.packed.proofs.WritingLaws.{row_inside, in_file, label_absent, label_present}
use Rattle.packed.proofs.packing.write_labels.Goals as goal
use Rattle.packed.proofs.packing.write_labels.Goals.{then-holds, else-holds}

pub set_bit-requires : goal.set_bit-requires
set_bit-requires g c =
    let S = g.M.Model.meaning c.args.model.now in
    let p = row_inside S c.args.s c.requires.inside c.loop-p.p (omega (arith, c.loop-p-test.true, c.propositions-p-end.ensures)) in
    omega (arith, c.requires.row, c.from.ensures, in_file S c.loop-p.file _ c.loop-p.invariant (row_at narrow S c.args.s + c.loop-p.p) p)

pub loop-p-preserved : goal.loop-p-preserved
loop-p-preserved g c =
    let S = g.M.Model.meaning c.args.model.now in
    let lt = c.loop-p-test.true in
    elim c.if-holds.branch [
      | then-holds w ↦
          let place : c.args.row + w.from.result ≡ row_at narrow S c.args.s + c.loop-p.p = omega (arith, c.requires.row, w.from.ensures) in
          subst (λ file. Written S file (row_at narrow S c.args.s + (c.loop-p.p + 1))) (sym w.file-is)
          (label_present S c.args.s c.requires.inside c.loop-p.file c.loop-p.p w.set_bit.new.file (omega (arith, lt, c.propositions-p-end.ensures)) c.loop-p.invariant (sym w.if-holds.ensures) w.set_bit.ensures.size
          (λ k. w.set_bit.ensures.bits k ∙ ap (λ i. eqb k i || bit_at c.loop-p.file k) place))
      | else-holds w ↦
          subst (λ file. Written S file (row_at narrow S c.args.s + (c.loop-p.p + 1))) (sym w.file-is)
          (label_absent S c.args.s c.requires.inside c.loop-p.file c.loop-p.p (omega (arith, lt, c.propositions-p-end.ensures)) c.loop-p.invariant (sym w.if-holds.ensures))
    ]
