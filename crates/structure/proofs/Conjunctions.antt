-- Conjunctions whose first tests passed, and tests that cannot pass. Assumes nothing.
use Rattle.std.proofs.Common.{◌≡◌, Bool, true, false, ◌&&◌, refl, ◌∙◌}
use Rattle.std.proofs.lemmas.Bool.{false≢true}

pub and_true : (x y : Bool) → x ≡ true → (x && y) ≡ y
and_true true y p = refl
and_true false y p = absurd (false≢true p)

pub both_passed : (x y b : Bool) → x ≡ true → y ≡ true → (x && (y && b)) ≡ b
both_passed x y b p q = and_true x (y && b) p ∙ and_true y b q

pub false_unless : (x : Bool) → (x ≡ true → ⊥) → x ≡ false
false_unless true h = absurd (h refl)
false_unless false h = refl
