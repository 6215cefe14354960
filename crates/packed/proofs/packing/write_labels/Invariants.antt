-- The labels so far are written.
use Rattle.std.proofs.Common.{◌+◌}
use Rattle.packed.specs.FileOf.{row_at}
use Rattle.packed.specs.Layout.{narrow}
use Rattle.packed.specs.Writing.{Written}
use Rattle.packed.proofs.packing.write_labels.Given as goal

abbrev pub invariant-loop-p : goal.invariant-loop-p
invariant-loop-p g l = Written (g.M.Model.meaning l.model) l.file (row_at narrow (g.M.Model.meaning l.model) l.s + l.p)
