-- What the code answers is what the definitions say.
use Rattle.std.proofs.Common.{[], ◌∷◌, ap, ◌∙◌}
use Rattle.structure.specs.Next.{next_of}
use Rattle.pair.specs.Sides.{paired}
use Rattle.figures.proofs.Pairs.{copies_drawn, mixed_drawn, loopless_drawn, nexts}
use Rattle.figures.proofs.paired_files.pair_figures.Goals as goal

pub returns : goal.returns
returns c =
    let file = c.open-file.ensures.meaning in
    let pair = c.new.ensures ∙ (λ i. paired (file i) (file i)) in
    record {
      value = c.first_steps.ensures ∙ ap (λ S. next_of S 0 0 ∷ next_of S 0 1 ∷ next_of S 0 2 ∷ next_of S 0 3 ∷ []) pair ∙ nexts;
      copies = copies_drawn;
      mixed = mixed_drawn;
      loopless = loopless_drawn;
    }
