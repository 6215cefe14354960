-- The worked files, judged and read by computing the definitions. Assumes nothing.
use Rattle.std.proofs.Common.{◌≡◌, ℕ, zero, suc, false, ◌&&◌, eqb, ltb, is_ok, Ok, sym, refl, ap, ◌∙◌, arith}
use Rattle.std.proofs.lemmas.Bool.{le-ltb, ne_eqb, and_left, or_from, cond-true}
use Rattle.structure.specs.Structure.{still}
use Rattle.structure.specs.Paths.{visited, visited_count}
use Rattle.packed.specs.Bits.{bit_of, bit_at, number_at}
use Rattle.packed.specs.Layout.{narrow, states_of, start_of, propositions_of, row_of, bits_of, size_of, spells}
use Rattle.packed.specs.Verdict.{filled, stuck, verdict, opened}
use Rattle.packed.proofs.StillBytes.{still_spelled}
use Rattle.figures.specs.Files.{two_states_file, two_states_model, still_file, three_states_file, full_file, loose_file, sample_file, ThreeStates, FullFile, LooseFile, Sample, Reached, Refused}

labels : (s p : ℕ) → (spells narrow two_states_file).label s p ≡ two_states_model.label s p
unfolding bit_of bit_at number_at states_of start_of propositions_of row_of
labels zero zero = refl
labels zero (suc p) = and_left (ltb (suc p) 1) _ (le-ltb (suc p) 1 (omega arith)) ∙ sym (ne_eqb (suc p) 0 (λ e. omega arith))
labels (suc zero) zero = refl
labels (suc zero) (suc p) = and_left (ltb (suc p) 1) _ (le-ltb (suc p) 1 (omega arith))
labels (suc (suc s)) p =
    and_left (ltb (suc (suc s)) 2) _ (le-ltb (suc (suc s)) 2 (omega arith))
    ∙ sym (and_left (eqb (suc (suc s)) 0) (eqb p 0) (ne_eqb (suc (suc s)) 0 (λ e. omega arith)))

steps : (s t : ℕ) → (spells narrow two_states_file).step s t ≡ two_states_model.step s t
unfolding bit_of bit_at number_at states_of start_of propositions_of row_of
steps zero zero = refl
steps zero (suc zero) = refl
steps zero (suc (suc t)) =
    and_left (ltb (suc (suc t)) 2) _ (le-ltb (suc (suc t)) 2 (omega arith))
    ∙ sym (or_from (ltb (suc (suc t)) 2) false (le-ltb (suc (suc t)) 2 (omega arith)) refl)
steps (suc zero) zero = refl
steps (suc zero) (suc zero) = refl
steps (suc zero) (suc (suc t)) =
    and_left (ltb (suc (suc t)) 2) _ (le-ltb (suc (suc t)) 2 (omega arith)) ∙ sym (ne_eqb (suc (suc t)) 1 (λ e. omega arith))
steps (suc (suc s)) t =
    and_left (ltb (suc (suc s)) 2) _ (le-ltb (suc (suc s)) 2 (omega arith))
    ∙ sym (or_from (eqb (suc (suc s)) 0 && ltb t 2) (eqb (suc (suc s)) 1 && eqb t 1) (and_left (eqb (suc (suc s)) 0) (ltb t 2) (ne_eqb (suc (suc s)) 0 (λ e. omega arith))) (and_left (eqb (suc (suc s)) 1) (eqb t 1) (ne_eqb (suc (suc s)) 1 (λ e. omega arith))))

spelled : spells narrow two_states_file ≡ two_states_model
unfolding bit_of bit_at number_at states_of start_of propositions_of row_of
spelled = λ i. record { states = 2; start = 0; propositions = 1; label = λ s p. labels s p i; step = λ s t. steps s t i }

pub two_states_accepted : verdict narrow two_states_file ≡ Ok tt
unfolding bit_of bit_at number_at states_of start_of propositions_of row_of bits_of size_of filled stuck
two_states_accepted = refl

pub two_states_open : opened narrow two_states_file ≡ two_states_model
two_states_open = cond-true (is_ok (verdict narrow two_states_file)) (spells narrow two_states_file) still (ap is_ok two_states_accepted) ∙ spelled

pub still_accepted : verdict narrow still_file ≡ Ok tt
unfolding bit_of bit_at number_at states_of start_of propositions_of row_of bits_of size_of filled stuck
still_accepted = refl

pub still_open : opened narrow still_file ≡ still
still_open = cond-true (is_ok (verdict narrow still_file)) (spells narrow still_file) still (ap is_ok still_accepted) ∙ still_spelled

pub three_states_accepted : verdict narrow three_states_file ≡ Ok tt
unfolding bit_of bit_at number_at states_of start_of propositions_of row_of bits_of size_of filled stuck
three_states_accepted = refl

pub three_states_drawn : ThreeStates
unfolding bit_of bit_at number_at states_of start_of propositions_of row_of bits_of size_of filled stuck
three_states_drawn = record { has_states = refl; has_start = refl; has_propositions = refl; has_rows = refl }

pub sample_accepted : verdict narrow sample_file ≡ Ok tt
unfolding bit_of bit_at number_at states_of start_of propositions_of row_of bits_of size_of filled stuck
sample_accepted = refl

pub sample_drawn : Sample
unfolding bit_of bit_at number_at states_of start_of propositions_of row_of bits_of size_of filled stuck
sample_drawn = record { has_states = refl; has_start = refl; has_propositions = refl; has_rows = refl }

pub full_accepted : verdict narrow full_file ≡ Ok tt
unfolding bit_of bit_at number_at states_of start_of propositions_of row_of bits_of size_of filled stuck
full_accepted = refl

pub full_drawn : FullFile
unfolding bit_of bit_at number_at states_of start_of propositions_of row_of bits_of size_of filled stuck
full_drawn = record { has_states = refl; has_start = refl; has_propositions = refl; has_rows = refl }

pub loose_accepted : verdict narrow loose_file ≡ Ok tt
unfolding bit_of bit_at number_at states_of start_of propositions_of row_of bits_of size_of filled stuck
loose_accepted = refl

pub loose_drawn : LooseFile
unfolding bit_of bit_at number_at states_of start_of propositions_of row_of bits_of size_of filled stuck
loose_drawn = record { has_states = refl; has_start = refl; has_propositions = refl; has_rows = refl }

pub reached_states : Reached
unfolding bit_of bit_at number_at states_of start_of propositions_of row_of bits_of size_of filled stuck visited visited_count
reached_states = record { two_states = refl; three_states = refl; loose = refl; sample = refl }

pub refused_files : Refused
unfolding bit_of bit_at number_at states_of start_of propositions_of row_of bits_of size_of filled stuck
refused_files = record { short = refl; long = refl; filling = refl; first_filling = refl; stray = refl; stepless = refl }
