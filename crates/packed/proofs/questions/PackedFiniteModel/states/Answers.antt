-- An accepted file keeps the limits.
use Rattle.packed.specs.Kept.{spells_keeps}
use Rattle.packed.proofs.questions.PackedFiniteModel.states.Goals as goal

pub returns-clause-keeps : goal.returns-clause-keeps
returns-clause-keeps c = spells_keeps c.args.self.now.file.bytes.now c.args.self.now.accepted
