-- Nothing in this file has to be believed: it proves that an accepted file spells a structure that keeps the limits, which the law of
-- `Model` asks of packed models. It stands here because an implementation takes the proof of a law, where that is of its own crate, from
-- `specs`.
use Rattle.std.proofs.Common.{◌≡◌, ℕ, zero, suc, ◌+◌, ◌*◌, ◌^◌, ◌<◌, ◌≤◌, Bool, true, false, cond, not, ◌&&◌, ltb, leb, List, length, is_ok, Err, Result, sym, refl, ap, ◌∙◌, add-one, arith}
use Rattle.std.proofs.lemmas.Nat.{pow-add}
use Rattle.std.proofs.lemmas.Bool.{ltb-true, leb-false, and_parts, not-false, false≢true}
use Rattle.refusal.specs.declared.Refusal.{Refusal}
use Rattle.structure.specs.Structure.{Limits}
use Rattle.structure.specs.Paths.{any_below}
use Rattle.structure.proofs.Below.{any_finds, none_below, at_most_one}
use Rattle.packed.specs.Bits.{bit_at, number_at}
use Rattle.packed.specs.Layout.{narrow, states_of, start_of, propositions_of, row_of, size_of, spells}
use Rattle.packed.specs.Verdict.{filled, stuck, verdict}

-- an accepted file passed each test
passed : (b : Bool) (e : Refusal) (r : Result (Unit {0}) Refusal) → is_ok (cond b (Err e) r) ≡ true → (b ≡ false) × (is_ok r ≡ true)
passed true e r h = absurd (false≢true h)
passed false e r h = (refl, h)

-- w bits spell a number below 2 ^ w
pub number_at_below : (bytes : List ℕ) (i w : ℕ) → number_at bytes i w < 2 ^ w
unfolding number_at
number_at_below bytes i zero = omega arith
number_at_below bytes i (suc w) =
    let before = number_at_below bytes i w in
    let bit = at_most_one (bit_at bytes (i + w)) in
    let double : 2 ^ suc w ≡ 2 ^ w * 2 = ap (λ k. 2 ^ k) (sym (add-one w)) ∙ pow-add 2 w 1 in
    omega arith

module _ (bytes : List ℕ) where
  pub states_of_small : states_of narrow bytes ≤ 256
  unfolding states_of
  states_of_small = omega (arith, number_at_below bytes 0 8)

  pub states_of_some : 1 ≤ states_of narrow bytes
  unfolding states_of
  states_of_some = omega arith

  pub propositions_of_small : propositions_of narrow bytes < 32
  unfolding propositions_of
  propositions_of_small = number_at_below bytes 16 5

  module _ (accepted : is_ok (verdict narrow bytes) ≡ true) where
    later : (start_of narrow bytes < states_of narrow bytes) × (stuck narrow bytes ≡ false)
    later =
        let exact = (passed (ltb (length bytes) (size_of narrow bytes)) _ _ accepted).1 in
        let zeros = (passed (ltb (size_of narrow bytes) (length bytes)) _ _ exact).1 in
        let start = (passed (filled narrow bytes) _ _ zeros).1 in
        let inside = passed (leb (states_of narrow bytes) (start_of narrow bytes)) _ _ start in
        (leb-false (states_of narrow bytes) (start_of narrow bytes) inside.0, (passed (stuck narrow bytes) _ _ inside.1).0)

    some_step : (s : ℕ) → s < states_of narrow bytes → any_below ((spells narrow bytes).step s) (states_of narrow bytes) ≡ true
    unfolding stuck
    some_step s lt =
        not-false (any_below ((spells narrow bytes).step s) (states_of narrow bytes))
        (none_below (λ k. not (any_below ((spells narrow bytes).step k) (states_of narrow bytes))) (states_of narrow bytes) later.1 s lt)

    pub spells_keeps : Limits (spells narrow bytes)
    spells_keeps =
        record {
          inhabited = states_of_some;
          bounded = states_of_small;
          starts = later.0;
          described = omega (arith, propositions_of_small);
          labels = λ s p h.
              let parts = and_parts (ltb s (states_of narrow bytes)) (ltb p (propositions_of narrow bytes) && bit_at bytes (row_of narrow bytes s + p)) h in
              (ltb-true s (states_of narrow bytes) parts.0, ltb-true p (propositions_of narrow bytes) (and_parts (ltb p (propositions_of narrow bytes)) (bit_at bytes (row_of narrow bytes s + p)) parts.1).0);
          steps = λ s t h.
              let parts = and_parts (ltb s (states_of narrow bytes)) (ltb t (states_of narrow bytes) && bit_at bytes (row_of narrow bytes s + propositions_of narrow bytes + t)) h in
              (ltb-true s (states_of narrow bytes) parts.0, ltb-true t (states_of narrow bytes) (and_parts (ltb t (states_of narrow bytes)) (bit_at bytes (row_of narrow bytes s + propositions_of narrow bytes + t)) parts.1).0);
          goes_on = λ s lt.
              let found = any_finds ((spells narrow bytes).step s) (states_of narrow bytes) (some_step s lt) in
              (found.0, found.2);
        }
