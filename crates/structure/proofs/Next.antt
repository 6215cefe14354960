-- The answer to `next` and the relation `Smallest` say the same. Assumes nothing.
use Rattle.std.proofs.Common.{◌≡◌, ℕ, zero, suc, ◌+◌, ◌-◌, ◌≤◌, Bool, false, Some, None, Option, sym, refl, ap, subst, ⊎_elim, arith}
use Rattle.std.proofs.lemmas.Bool.{cases_Bool, cond-true, cond-false, both_ways, cases_order}
use Rattle.structure.specs.Structure.{Structure, Limits}
use Rattle.structure.specs.Next.{Smallest, first_of, next_of}
use Rattle.structure.proofs.Conjunctions.{false_unless}

-- what `first_of` finds among k numbers, where nothing past them passes
pub smallest_first_of : (test : ℕ → Bool) (k t : ℕ) → ((u : ℕ) → t + k ≤ u → test u ≡ false) → Smallest test t (first_of test k t)
unfolding first_of
smallest_first_of test zero t past = λ u le. past u (omega arith)
smallest_first_of test (suc k) t past =
    ⊎_elim
    (λ yes'. subst (Smallest test t) (sym (cond-true (test t) (Some t) (first_of test k (suc t)) yes')) (omega arith, yes', λ v le lt. absurd (omega arith)))
    (λ no'. subst (Smallest test t) (sym (cond-false (test t) (Some t) (first_of test k (suc t)) no')) (later no' (first_of test k (suc t)) (smallest_first_of test k (suc t) (λ u le. past u (omega arith)))))
    (cases_Bool (test t))
  where
    upto : test t ≡ false → (v w : ℕ) → t ≤ v → (suc t ≤ v → test v ≡ false) → test v ≡ false
    upto no' v w le rest = ⊎_elim (λ e. subst (λ x. test x ≡ false) e no') (⊎_elim (λ lt. rest lt) (λ gt. absurd (omega arith))) (cases_order t v)

    later : test t ≡ false → (r : Option ℕ) → Smallest test (suc t) r → Smallest test t r
    later no' None h = λ u le. upto no' u u le (h u)
    later no' (Some u) h = (omega (arith, h.0), h.1, λ v le lt. upto no' v u le (λ le'. h.2 v le' lt))

-- at most one answer is the smallest
pub smallest_unique : (test : ℕ → Bool) (t : ℕ) (q r : Option ℕ) → Smallest test t q → Smallest test t r → q ≡ r
smallest_unique test t None None p q = refl
smallest_unique test t None (Some u) p q = absurd (both_ways (test u) (p u q.0) q.1)
smallest_unique test t (Some u) None p q = absurd (both_ways (test u) (q u p.0) p.1)
smallest_unique test t (Some u) (Some v) p q =
    ⊎_elim (λ e. ap Some e)
    (⊎_elim (λ lt. absurd (both_ways (test u) (q.2 u p.0 lt) p.1)) (λ lt. absurd (both_ways (test v) (p.2 v q.0 lt) q.1)))
    (cases_order u v)

module _ (S : Structure) (keeps : Limits S) (s t : ℕ) where
  outside : (u : ℕ) → S.states ≤ u → S.step s u ≡ false
  outside u le = false_unless (S.step s u) (λ yes'. omega (arith, (keeps.steps s u yes').1))

  pub smallest_next_of : Smallest (S.step s) t (next_of S s t)
  smallest_next_of = smallest_first_of (S.step s) (S.states - t) t (λ u le. outside u (omega arith))

  -- an answer that is the smallest is the one that `next_of` gives
  pub next_of_from_smallest : (r : Option ℕ) → Smallest (S.step s) t r → r ≡ next_of S s t
  next_of_from_smallest r h = smallest_unique (S.step s) t r (next_of S s t) h smallest_next_of
