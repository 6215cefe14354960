-- What a reader must believe: the answer to "which is the smallest state not below t to which s has a step?".
use Rattle.std.specs.Prelude.{◌≡◌, ℕ, zero, suc, ◌-◌, ◌<◌, ◌≤◌, Bool, true, false, cond, Some, None, Option}
use Rattle.structure.specs.Structure.{Structure}

-- r is the smallest number from t on that passes the test, or nothing where none does
abbrev pub Smallest : (ℕ → Bool) → ℕ → Option ℕ → Type 0
Smallest test t None = (u : ℕ) → t ≤ u → test u ≡ false
Smallest test t (Some u) = (t ≤ u) × (test u ≡ true) × ((v : ℕ) → t ≤ v → v < u → test v ≡ false)

-- the first of the k numbers from t on that passes the test
unfoldable pub first_of : (ℕ → Bool) → ℕ → ℕ → Option ℕ
first_of test zero t = None
first_of test (suc k) t = cond (test t) (Some t) (first_of test k (suc t))

-- the smallest state not below t to which s has a step, or nothing
abbrev pub next_of : Structure → ℕ → ℕ → Option ℕ
next_of S s t = first_of (S.step s) (S.states - t) t
