-- What a reader must believe: the number of each cause of a refusal, as reports print it. No cause carries a value yet.
use Rattle.std.specs.Prelude.{ℕ}
use Rattle.refusal.specs.declared.Refusal.{Refusal}
use Rattle.refusal.specs.declared.Refusal.TheVariants.{TooFewBytes, TooManyBytes, FillingBitSet, StartNotAState, StateWithoutStep, SliceTooSmall, TooFewFreeRows, OperandAbsent, PropositionAbsent, GradeTooLarge, LineTooLong, MalformedToken, TokenNotAllowed, TooManyLevels, RowAbsent, RowNotMarked, StateAbsent, FormWithoutQuestion, NoSuchWay}

abbrev pub number_of : Refusal → ℕ
number_of TooFewBytes = 1
number_of TooManyBytes = 2
number_of FillingBitSet = 3
number_of StartNotAState = 4
number_of StateWithoutStep = 5
number_of SliceTooSmall = 6
number_of TooFewFreeRows = 7
number_of OperandAbsent = 8
number_of PropositionAbsent = 9
number_of GradeTooLarge = 10
number_of LineTooLong = 11
number_of MalformedToken = 12
number_of TokenNotAllowed = 13
number_of TooManyLevels = 14
number_of RowAbsent = 15
number_of RowNotMarked = 16
number_of StateAbsent = 17
number_of FormWithoutQuestion = 18
number_of NoSuchWay = 19
