-- The pieces are the line, and the line fits.
use Rattle.std.proofs.Common.{◌≡◌, true, length, ◌∙◌, subst, arith}
use Rattle.refusal.specs.declared.Refusal.TheVariants.{SliceTooSmall}
use Rattle.structure.specs.Paths.{visited_count}
use Rattle.structure.proofs.Visited.{visits}
use Rattle.report.specs.Headline.{counts_line, model_line, roomy}
use Rattle.report.proofs.Lines.{passed, reached, long_enough, written, length-counts_line}
use Rattle.report.proofs.tell_model.Goals as goal

pub returns : goal.returns
unfolding counts_line
returns g c =
    let S = g.M.Model.meaning c.args.model.now in
    let n = c.states-states.ensures.value in
    let w : c.in_ok-reachable.reachable ≡ visited_count S = reached _ c.in_ok-reachable.reachable (visited_count S) SliceTooSmall c.in_ok-reachable.ensures.value in
    let room : roomy S.states (length c.args.out.now) (length c.args.scratch.now) ≡ true = subst (λ k. roomy k (length c.args.out.now) (length c.args.scratch.now) ≡ true) n (passed _ SliceTooSmall c.in_ok-check_room.ensures) in
    let told = written (roomy S.states (length c.args.out.now) (length c.args.scratch.now)) (counts_line c.from.result c.from-2.result c.from-3.result) (model_line S) c.args.out.now c.write_line.new.out SliceTooSmall c.write_line.result room (λ i. counts_line ((c.from.ensures ∙ n) i) ((c.from-2.ensures ∙ w) i) ((c.from-3.ensures ∙ c.propositions.ensures) i)) (omega (arith, long_enough S.states (length c.args.out.now) (length c.args.scratch.now) room, length-counts_line S.states (visited_count S) S.propositions (omega (arith, n)) (omega (arith, w)) (omega (arith, c.propositions.ensures)))) c.write_line.ensures.value c.write_line.ensures.after in
    record { value = told.0; after = told.1; within = told.2; counts = λ _. visits S (g.met.M.Model.keeps c.args.model.now) }
