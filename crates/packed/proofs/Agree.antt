-- Tests that agree on every small number, which is found by computing both. Assumes nothing.
use Rattle.std.proofs.Common.{◌≡◌, ℕ, ◌<◌, Bool, true, false, not, refl}
use Rattle.std.proofs.lemmas.Bool.{true≢false}
use Rattle.structure.specs.Paths.{any_below}
use Rattle.structure.proofs.Below.{none_below}

abbrev pub differ : Bool → Bool → Bool
differ true b = not b
differ false b = b

agree : (a b : Bool) → differ a b ≡ false → a ≡ b
agree true true h = refl
agree true false h = absurd (true≢false h)
agree false true h = absurd (true≢false h)
agree false false h = refl

pub agree_below : (p q : ℕ → Bool) (n : ℕ) → any_below (λ i. differ (p i) (q i)) n ≡ false → (i : ℕ) → i < n → p i ≡ q i
agree_below p q n none i lt = agree (p i) (q i) (none_below (λ i. differ (p i) (q i)) n none i lt)
