-- The steps below `from` are written; and why the loop ends.
use Rattle.std.proofs.Common.{◌+◌, ◌-◌, ◌≤◌}
use Rattle.packed.specs.FileOf.{row_at}
use Rattle.packed.specs.Layout.{narrow}
use Rattle.packed.specs.Writing.{Written}
use Rattle.packed.proofs.packing.write_steps.Given as goal

abbrev pub invariant-loop-t : goal.invariant-loop-t
invariant-loop-t g l =
    Written (g.M.Model.meaning l.model) l.file (row_at narrow (g.M.Model.meaning l.model) l.s + (g.M.Model.meaning l.model).propositions + l.from)
    × (l.from ≤ (g.M.Model.meaning l.model).states)

abbrev pub decreases-loop-t : goal.decreases-loop-t
decreases-loop-t g l = (g.M.Model.meaning l.model).states - l.from
