-- What the code says of each worked file is what the definitions say.
use Rattle.std.proofs.Common.{[], ◌∷◌, ◌∙◌}
use Rattle.figures.specs.Files.{spoken}
use Rattle.figures.proofs.Worked.{two_states_accepted, two_states_open, still_accepted, still_open, three_states_accepted, three_states_drawn, full_accepted, full_drawn, loose_accepted, loose_drawn, sample_accepted, sample_drawn, reached_states, refused_files}
use Rattle.figures.proofs.packed_files.packed_figures.Goals as goal

pub returns : goal.returns
returns c =
    let one = c.judged.ensures ∙ two_states_accepted in
    let two = c.judged-2.ensures ∙ still_accepted in
    let three = c.judged-3.ensures ∙ three_states_accepted in
    let four = c.judged-4.ensures ∙ full_accepted in
    let five = c.judged-5.ensures ∙ loose_accepted in
    let six = c.judged-6.ensures ∙ sample_accepted in
    let seven = c.judged-7.ensures ∙ refused_files.short in
    let eight = c.judged-8.ensures ∙ refused_files.long in
    let nine = c.judged-9.ensures ∙ refused_files.filling in
    let ten = c.judged-10.ensures ∙ refused_files.first_filling in
    let eleven = c.judged-11.ensures ∙ refused_files.stray in
    let twelve = c.judged-12.ensures ∙ refused_files.stepless in
    record {
      verdicts = λ i. one i ∷ two i ∷ three i ∷ four i ∷ five i ∷ six i ∷ seven i ∷ eight i ∷ nine i ∷ ten i ∷ eleven i ∷ twelve i ∷ [];
      numbers = λ i. spoken (one i) ∷ spoken (two i) ∷ spoken (three i) ∷ spoken (four i) ∷ spoken (five i) ∷ spoken (six i) ∷ spoken (seven i) ∷ spoken (eight i) ∷ spoken (nine i) ∷ spoken (ten i) ∷ spoken (eleven i) ∷ spoken (twelve i) ∷ [];
      two_states = two_states_open;
      still = still_open;
      three_states = three_states_drawn;
      full = full_drawn;
      loose = loose_drawn;
      sample = sample_drawn;
      reached = reached_states;
      refused = refused_files;
    }
