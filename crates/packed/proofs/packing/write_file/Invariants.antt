-- The states so far are written, in bytes.
use Rattle.std.proofs.Common.{ℕ, ◌<◌, get_or}
use Rattle.packed.specs.FileOf.{row_at}
use Rattle.packed.specs.Layout.{narrow}
use Rattle.packed.specs.Writing.{Written}
use Rattle.packed.proofs.packing.write_file.Given as goal

abbrev pub invariant-loop-s : goal.invariant-loop-s
invariant-loop-s g l =
    Written (g.M.Model.meaning l.model) l.file (row_at narrow (g.M.Model.meaning l.model) l.s)
    × ((k : ℕ) → get_or l.file k 0 < 256)
