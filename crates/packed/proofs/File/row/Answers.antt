-- The fields are those that the bytes spell.
use Rattle.std.proofs.Common.{◌+◌, ◌*◌, ◌∙◌}
use Rattle.packed.specs.Layout.{row_of}
use Rattle.packed.proofs.File.row.Goals as goal

pub returns-clause-place : goal.returns-clause-place
unfolding row_of
returns-clause-place c = let file = c.args.self.now in c.row.ensures.place ∙ (λ i. 21 + c.args.s * (file.propositions i + file.states i))
