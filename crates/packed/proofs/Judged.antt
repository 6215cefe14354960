-- What the judge's two searches through bits tell: of the filling bits, and of states without a step. Assumes nothing.
use Rattle.std.proofs.Common.{◌≡◌, ℕ, ◌+◌, ◌-◌, ◌*◌, ◌<◌, true, false, not, ◌&&◌, ltb, List, length, is_some, Some, None, Option, sym, ap, ◌∙◌, subst, mul_comm, arith}
use Rattle.std.proofs.lemmas.Bool.{lt-ltb, ltb-true, and_parts}
use Rattle.structure.specs.Next.{Smallest}
use Rattle.structure.specs.Paths.{any_below}
use Rattle.structure.proofs.Below.{any_from, none_from}
use Rattle.structure.proofs.Conjunctions.{and_true, both_passed}
use Rattle.packed.specs.Bits.{bit_at}
use Rattle.packed.specs.Layout.{narrow, states_of, propositions_of, row_of, bits_of, spells}
use Rattle.packed.specs.Verdict.{filled, stuck}

module _ (bytes : List ℕ) where
  -- the first 1 among the filling bits is there exactly where one is set
  pub filled_from : (bits to : ℕ) (r : Option ℕ) → bits ≡ bits_of narrow bytes → to ≡ length bytes * 8 → Smallest (λ i. ltb i to && bit_at bytes i) bits r → is_some r ≡ filled narrow bytes
  unfolding filled
  filled_from bits to r is end found =
      subst (λ b. is_some r ≡ any_below (λ i. bit_at bytes (b + i)) (8 * length bytes - b)) is
      (subst (λ m. is_some r ≡ any_below (λ i. bit_at bytes (bits + i)) (m - bits)) (end ∙ mul_comm (length bytes) 8) (answer r found))
    where
      answer : (q : Option ℕ) → Smallest (λ i. ltb i to && bit_at bytes i) bits q → is_some q ≡ any_below (λ i. bit_at bytes (bits + i)) (to - bits)
      answer None none =
          sym (none_from (λ i. bit_at bytes (bits + i)) (to - bits) (λ k lt. sym (and_true (ltb (bits + k) to) (bit_at bytes (bits + k)) (lt-ltb (bits + k) to (omega arith))) ∙ none (bits + k) (omega arith)))
      answer (Some u) some =
          let parts = and_parts (ltb u to) (bit_at bytes u) some.1 in
          let lt = ltb-true u to parts.0 in
          let here : bits + (u - bits) ≡ u = omega (arith, some.0) in
          sym (any_from (λ i. bit_at bytes (bits + i)) (to - bits) (u - bits) (omega (arith, some.0)) (subst (λ x. bit_at bytes x ≡ true) (sym here) parts.1))

  -- a step is a bit
  pub step_is_bit : (s t : ℕ) → s < states_of narrow bytes → t < states_of narrow bytes → (spells narrow bytes).step s t ≡ bit_at bytes (row_of narrow bytes s + propositions_of narrow bytes + t)
  step_is_bit s t ls lt =
      both_passed (ltb s (states_of narrow bytes)) (ltb t (states_of narrow bytes)) (bit_at bytes (row_of narrow bytes s + propositions_of narrow bytes + t)) (lt-ltb s (states_of narrow bytes) ls) (lt-ltb t (states_of narrow bytes) lt)

  -- some step of s is there
  abbrev pub Goes : ℕ → Type 0
  Goes s = any_below ((spells narrow bytes).step s) (states_of narrow bytes) ≡ true

  pub goes_by : (s t at : ℕ) → s < states_of narrow bytes → t < states_of narrow bytes → at ≡ row_of narrow bytes s + propositions_of narrow bytes → bit_at bytes (at + t) ≡ true → Goes s
  goes_by s t at ls lt is one =
      any_from ((spells narrow bytes).step s) (states_of narrow bytes) t lt
      (step_is_bit s t ls lt ∙ ap (λ x. bit_at bytes (x + t)) (sym is) ∙ one)

  pub stuck_from : (s at : ℕ) → s < states_of narrow bytes → at ≡ row_of narrow bytes s + propositions_of narrow bytes → ((t : ℕ) → t < states_of narrow bytes → bit_at bytes (at + t) ≡ false) → stuck narrow bytes ≡ true
  unfolding stuck
  stuck_from s at ls is zeros =
      any_from (λ k. not (any_below ((spells narrow bytes).step k) (states_of narrow bytes))) (states_of narrow bytes) s ls
      (ap not (none_from ((spells narrow bytes).step s) (states_of narrow bytes) (λ t lt. step_is_bit s t ls lt ∙ ap (λ x. bit_at bytes (x + t)) (sym is) ∙ zeros t lt)))

  pub not_stuck_from : ((s : ℕ) → s < states_of narrow bytes → Goes s) → stuck narrow bytes ≡ false
  unfolding stuck
  not_stuck_from goes =
      none_from (λ k. not (any_below ((spells narrow bytes).step k) (states_of narrow bytes))) (states_of narrow bytes) (λ s lt. ap not (goes s lt))
