-- The first 1 among the step bits of a state is its next step. Assumes nothing.
use Rattle.std.proofs.Common.{◌≡◌, ℕ, ◌+◌, ◌-◌, ◌<◌, ◌≤◌, ◌&&◌, ltb, List, Some, None, Option, sym, ap, ◌∙◌, ⊎_elim, arith}
use Rattle.std.specs.Option.{option_map}
use Rattle.std.proofs.lemmas.Bool.{cases_lt, lt-ltb, le-ltb, and_left}
use Rattle.structure.specs.Next.{Smallest}
use Rattle.structure.proofs.Conjunctions.{and_true}
use Rattle.packed.specs.Bits.{bit_at}
use Rattle.packed.specs.Layout.{narrow, states_of, propositions_of, row_of, spells}

same_test : (a b k : ℕ) → ltb a b ≡ ltb (k + a) (k + b)
same_test a b k =
    ⊎_elim
    (λ lt. lt-ltb a b lt ∙ sym (lt-ltb (k + a) (k + b) (omega arith)))
    (λ ge. le-ltb a b ge ∙ sym (le-ltb (k + a) (k + b) (omega arith)))
    (cases_lt a b)

module _ (bytes : List ℕ) (s t : ℕ) where
  pub no_state : states_of narrow bytes ≤ s → Smallest ((spells narrow bytes).step s) t None
  no_state ge u le = and_left (ltb s (states_of narrow bytes)) _ (le-ltb s (states_of narrow bytes) ge)

  module _ (steps end : ℕ) (inside : s < states_of narrow bytes) (is : steps ≡ row_of narrow bytes s + propositions_of narrow bytes) (ends : end ≡ steps + states_of narrow bytes) where
    same : (u : ℕ) → (spells narrow bytes).step s u ≡ (ltb (steps + u) end && bit_at bytes (steps + u))
    same u =
        and_true (ltb s (states_of narrow bytes)) _ (lt-ltb s (states_of narrow bytes) inside)
        ∙ (λ i. (same_test u (states_of narrow bytes) steps ∙ ap (ltb (steps + u)) (sym ends)) i && bit_at bytes (sym is i + u))

    pub next_step : (q : Option ℕ) → Smallest (λ i. ltb i end && bit_at bytes i) (steps + t) q → Smallest ((spells narrow bytes).step s) t (option_map (λ i. i - steps) q)
    next_step None none = λ u le. same u ∙ none (steps + u) (omega arith)
    next_step (Some place) some =
        let here : steps + (place - steps) ≡ place = omega (arith, some.0) in (
          omega (arith, some.0),
          same (place - steps) ∙ ap (λ x. ltb x end && bit_at bytes x) here ∙ some.1,
          λ v le lt. same v ∙ some.2 (steps + v) (omega arith) (omega arith),
        )
