-- What `any_below` and `count_below` tell of the numbers below n. Assumes nothing.
use Rattle.std.proofs.Common.{◌≡◌, ℕ, zero, suc, ◌<◌, ◌≤◌, Bool, true, false, cond, sym, refl, ap, subst, ⊎_elim, arith}
use Rattle.std.proofs.lemmas.Bool.{cases_eq, or_left, or_right, or_from, or_cases, or_parts, true≢false}
use Rattle.structure.specs.Paths.{any_below, count_below}

module _ (test : ℕ → Bool) where
  pub any_from : (n k : ℕ) → k < n → test k ≡ true → any_below test n ≡ true
  any_from zero k lt h = absurd (omega arith)
  any_from (suc n) k lt h =
      ⊎_elim
      (λ e. or_left (test n) (any_below test n) (subst (λ x. test x ≡ true) e h))
      (λ ne. or_right (test n) (any_below test n) (any_from n k (omega arith) h))
      (cases_eq k n)

  pub none_from : (n : ℕ) → ((k : ℕ) → k < n → test k ≡ false) → any_below test n ≡ false
  none_from zero h = refl
  none_from (suc n) h = or_from (test n) (any_below test n) (h n (omega arith)) (none_from n (λ k lt. h k (omega arith)))

  pub any_finds : (n : ℕ) → any_below test n ≡ true → (k : ℕ) × (k < n) × (test k ≡ true)
  any_finds zero h = absurd (true≢false (sym h))
  any_finds (suc n) h =
      ⊎_elim
      (λ here. (n, omega arith, here))
      (λ below. let found = any_finds n below in (found.0, omega (arith, found.1), found.2))
      (or_cases (test n) (any_below test n) h)

  pub none_below : (n : ℕ) → any_below test n ≡ false → (k : ℕ) → k < n → test k ≡ false
  none_below zero h k lt = absurd (omega arith)
  none_below (suc n) h k lt =
      let parts = or_parts (test n) (any_below test n) h in
      ⊎_elim (λ e. subst (λ x. test x ≡ false) (sym e) parts.0) (λ ne. none_below n parts.1 k (omega arith)) (cases_eq k n)

-- tests that agree below n count alike there
pub count_same : (p q : ℕ → Bool) (n : ℕ) → ((k : ℕ) → k < n → p k ≡ q k) → count_below p n ≡ count_below q n
count_same p q zero h = refl
count_same p q (suc n) h =
    let before = count_same p q n (λ k lt. h k (omega arith)) in
    let here : ◌≡◌ {A = ℕ} (cond (p n) 1 0) (cond (q n) 1 0) = ap (λ b. cond b 1 0) (h n (omega arith)) in
    omega arith

-- a test counts for one at most
pub at_most_one : (b : Bool) → cond b 1 0 ≤ 1
at_most_one true = omega arith
at_most_one false = omega arith

pub count_le : (p : ℕ → Bool) (n : ℕ) → count_below p n ≤ n
count_le p zero = omega arith
count_le p (suc n) = let before = count_le p n in let one = at_most_one (p n) in omega arith

one_le : (a b : Bool) → (a ≡ true → b ≡ true) → cond a 1 0 ≤ cond b 1 0
one_le true true h = omega arith
one_le true false h = absurd (true≢false (sym (h refl)))
one_le false true h = omega arith
one_le false false h = omega arith

-- a test that passes where another does counts no less
pub count_mono : (p q : ℕ → Bool) (n : ℕ) → ((k : ℕ) → k < n → p k ≡ true → q k ≡ true) → count_below p n ≤ count_below q n
count_mono p q zero h = omega arith
count_mono p q (suc n) h =
    let before = count_mono p q n (λ k lt. h k (omega arith)) in
    let here = one_le (p n) (q n) (h n (omega arith)) in
    omega arith

-- and more where it passes once more
pub count_more : (p q : ℕ → Bool) (n j : ℕ) → ((k : ℕ) → k < n → p k ≡ true → q k ≡ true) → j < n → p j ≡ false → q j ≡ true → count_below p n < count_below q n
count_more p q zero j h lt no' yes' = absurd (omega arith)
count_more p q (suc n) j h lt no' yes' =
    ⊎_elim
    (λ e.
    let before = count_mono p q n (λ k l. h k (omega arith)) in
    let none : ◌≡◌ {A = ℕ} (cond (p n) 1 0) 0 = ap (λ b. cond b 1 0) (subst (λ x. p x ≡ false) e no') in
    let some : ◌≡◌ {A = ℕ} (cond (q n) 1 0) 1 = ap (λ b. cond b 1 0) (subst (λ x. q x ≡ true) e yes') in
    omega arith)
    (λ ne.
    let before = count_more p q n j (λ k l. h k (omega arith)) (omega arith) no' yes' in
    let here = one_le (p n) (q n) (h n (omega arith)) in
    omega arith)
    (cases_eq j n)

-- what passes once counts
pub count_some : (p : ℕ → Bool) (n j : ℕ) → j < n → p j ≡ true → 1 ≤ count_below p n
count_some p zero j lt yes' = absurd (omega arith)
count_some p (suc n) j lt yes' =
    ⊎_elim
    (λ e. let some : ◌≡◌ {A = ℕ} (cond (p n) 1 0) 1 = ap (λ b. cond b 1 0) (subst (λ x. p x ≡ true) e yes') in omega arith)
    (λ ne. let before = count_some p n j (omega arith) yes' in omega arith)
    (cases_eq j n)
