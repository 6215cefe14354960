-- What a reader must believe: the first line of a report, byte by byte, and how much room it takes to write it.
use Rattle.std.specs.Prelude.{ℕ, ◌*◌, Bool, ◌&&◌, List, ◌++◌, Ok, Err, codes, decimal, Result, nat_le}
use Rattle.refusal.specs.declared.Refusal.{Refusal}
use Rattle.refusal.specs.Numbers.{number_of}
use Rattle.structure.specs.Structure.{Structure}
use Rattle.structure.specs.Paths.{visited_count}
use Rattle.packed.specs.Layout.{narrow, spells}
use Rattle.packed.specs.Verdict.{verdict, opened}

-- the line of an accepted model: its states, those that paths from the start visit, and its propositions
unfoldable pub counts_line : ℕ → ℕ → ℕ → List ℕ
counts_line states reachable propositions =
    codes "states " ++ (decimal states ++ (codes " reachable " ++ (decimal reachable ++ (codes " propositions " ++ (decimal propositions ++ codes "\n")))))

abbrev pub model_line : Structure → List ℕ
model_line S = counts_line S.states (visited_count S) S.propositions

-- the line of a refused file, with the number of the cause
unfoldable pub refusal_line : ℕ → List ℕ
refusal_line number = codes "model refused " ++ (decimal number ++ codes "\n")

abbrev pub judged_line : List ℕ → Result (Unit {0}) Refusal → List ℕ
judged_line bytes (Ok _) = model_line (spells narrow bytes)
judged_line bytes (Err cause) = refusal_line (number_of cause)

-- the line for a file
abbrev pub headline_of : List ℕ → List ℕ
headline_of bytes = judged_line bytes (verdict narrow bytes)

-- every line of a report is written into this many bytes at least
abbrev pub line_room : ℕ
line_room = 1024

-- slices of these lengths are long enough for the line of a model with so many states
abbrev pub roomy : ℕ → ℕ → ℕ → Bool
roomy states out scratch = nat_le line_room out && nat_le (4 * states) scratch

-- slices of these lengths suffice: a refused file counts as the still model
abbrev pub suffices : List ℕ → ℕ → ℕ → Bool
suffices bytes out scratch = roomy (opened narrow bytes).states out scratch
