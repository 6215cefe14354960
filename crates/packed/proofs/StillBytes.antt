-- The three bytes of the still model: they are accepted, and spell the still structure. Assumes nothing.
use Rattle.std.proofs.Common.{◌≡◌, ℕ, zero, suc, true, false, eqb, ltb, List, [], ◌∷◌, is_ok, sym, refl, ◌∙◌, arith}
use Rattle.std.proofs.lemmas.Bool.{le-ltb, ne_eqb, and_left, and_right}
use Rattle.structure.specs.Structure.{still}
use Rattle.packed.specs.Bits.{bit_of, bit_at, number_at}
use Rattle.packed.specs.Layout.{narrow, states_of, start_of, propositions_of, row_of, bits_of, size_of, spells}
use Rattle.packed.specs.Verdict.{filled, stuck, verdict}

abbrev pub still_bytes : List ℕ
still_bytes = 0 ∷ 0 ∷ 4 ∷ []

pub still_accepted : is_ok (verdict narrow still_bytes) ≡ true
unfolding bit_of bit_at number_at states_of start_of propositions_of row_of bits_of size_of filled stuck
still_accepted = refl

no_label : (s p : ℕ) → (spells narrow still_bytes).label s p ≡ false
unfolding number_at bit_at bit_of propositions_of
no_label s p =
    and_right (ltb s (states_of narrow still_bytes)) _ (and_left (ltb p 0) _ (le-ltb p 0 (omega arith)))

one_step : (s t : ℕ) → (spells narrow still_bytes).step s t ≡ still.step s t
unfolding bit_of bit_at number_at states_of start_of propositions_of row_of
one_step zero zero = refl
one_step zero (suc t) = and_left (ltb (suc t) 1) _ (le-ltb (suc t) 1 (omega arith)) ∙ sym (ne_eqb (suc t) 0 (λ e. omega arith))
one_step (suc s) t =
    and_left (ltb (suc s) 1) _ (le-ltb (suc s) 1 (omega arith))
    ∙ sym (and_left (eqb (suc s) 0) (eqb t 0) (ne_eqb (suc s) 0 (λ e. omega arith)))

pub still_spelled : spells narrow still_bytes ≡ still
unfolding bit_of bit_at number_at states_of start_of propositions_of row_of
still_spelled = λ i. record { states = 1; start = 0; propositions = 0; label = λ s p. no_label s p i; step = λ s t. one_step s t i }
