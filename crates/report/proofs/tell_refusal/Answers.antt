-- The pieces are the line, and the line fits.
use Rattle.std.proofs.Common.{◌≡◌, true, length, ap, ◌∙◌, subst, arith}
use Rattle.refusal.specs.Numbers.{number_of}
use Rattle.refusal.specs.declared.Refusal.TheVariants.{SliceTooSmall}
use Rattle.report.specs.Headline.{refusal_line, roomy}
use Rattle.report.proofs.Lines.{passed, long_enough, written, length-refusal_line}
use Rattle.report.proofs.tell_refusal.Goals as goal

pub returns : goal.returns
unfolding refusal_line
returns c =
    let number = number_of c.args.cause in
    let same : c.from.result ≡ number = c.from.ensures ∙ c.number.ensures.value in
    let room : roomy 1 (length c.args.out.now) (length c.args.scratch.now) ≡ true = subst (λ k. roomy k (length c.args.out.now) (length c.args.scratch.now) ≡ true) c.states.ensures.value (passed _ SliceTooSmall c.in_ok-check_room.ensures) in
    let told = written (roomy 1 (length c.args.out.now) (length c.args.scratch.now)) (refusal_line c.from.result) (refusal_line number) c.args.out.now c.write_line.new.out SliceTooSmall c.write_line.result room (ap refusal_line same) (omega (arith, long_enough 1 (length c.args.out.now) (length c.args.scratch.now) room, length-refusal_line number (omega (arith, same)))) c.write_line.ensures.value c.write_line.ensures.after in
    record { value = told.0; after = told.1; within = told.2 }
