-- With a piece that passes the limit, all of them pass it.
use Rattle.std.proofs.Common.{arith}
use Rattle.std.proofs.lemmas.Bool.Decides.{nat_tests}
use Rattle.std.proofs.lemmas.List.Folds.{length-flat_map-take}
use Rattle.output.specs.Pieces.{spelled}
use Rattle.output.proofs.measure.Goals as goal

pub returns-then-length-limit : goal.returns-then-length-limit
returns-then-length-limit c = grind (arith, nat_tests, length-flat_map-take spelled)
