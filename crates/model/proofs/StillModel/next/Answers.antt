-- The still model's one step, as the answer to `next`.
use Rattle.std.proofs.Common.{rules}
use Rattle.structure.specs.Structure.{still}
use Rattle.structure.specs.Next.{Smallest}
use Rattle.structure.proofs.Next.{next_of_from_smallest}
use Rattle.structure.proofs.StillKeeps.{still_keeps}
use Rattle.model.proofs.StillModel.next.Goals as goal

pub returns-clause-value : goal.returns-clause-value
returns-clause-value c =
    let smallest : Smallest (still.step c.args.s) c.args.t c.then_some.result = search rules in
    next_of_from_smallest still still_keeps c.args.s c.args.t c.then_some.result smallest
