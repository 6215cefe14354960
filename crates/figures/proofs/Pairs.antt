-- The worked pairs, by computing the definitions. Assumes nothing.
use Rattle.std.proofs.Common.{◌≡◌, ℕ, zero, suc, true, ◌⊎◌, [], ◌∷◌, Some, None, sym, refl, subst, inl, inr, ⊎_elim, arith}
use Rattle.std.proofs.lemmas.Bool.{false≢true}
use Rattle.structure.specs.Next.{first_of, next_of}
use Rattle.structure.specs.Structure.{Limits}
use Rattle.packed.specs.Bits.{bit_of, bit_in, bit_at, number_at, spelled_by, bytes_of}
use Rattle.packed.specs.FileOf.{file_bit, file_size, file_of}
use Rattle.packed.specs.Layout.{narrow, states_of, start_of, propositions_of, row_of, bits_of, size_of}
use Rattle.packed.specs.Verdict.{filled, stuck, opened}
use Rattle.packed.specs.Kept.{spells_keeps}
use Rattle.pair.specs.Kept.{paired_keeps}
use Rattle.figures.specs.Files.{two_states_file}
use Rattle.figures.specs.PairTables.{copies, Copies, Mixed, Loopless}

keeps : Limits (opened narrow two_states_file)
unfolding bit_of bit_in bit_at number_at spelled_by states_of start_of propositions_of row_of bits_of size_of filled stuck
keeps = spells_keeps two_states_file refl

four : copies.states ≡ 4
unfolding bit_of bit_in bit_at number_at spelled_by states_of start_of propositions_of row_of bits_of size_of filled stuck
four = refl

only_these : (t : ℕ) → copies.step 0 t ≡ true → (t ≡ 0) ⊎ (t ≡ 1) ⊎ (t ≡ 2)
unfolding bit_of bit_in bit_at number_at spelled_by states_of start_of propositions_of row_of bits_of size_of filled stuck
only_these zero h = inl refl
only_these (suc zero) h = inr (inl refl)
only_these (suc (suc zero)) h = inr (inr refl)
only_these (suc (suc (suc zero))) h = absurd (false≢true h)
only_these (suc (suc (suc (suc t)))) h =
    absurd (omega (arith, four, ((paired_keeps (opened narrow two_states_file) (opened narrow two_states_file) keeps keeps).steps 0 (suc (suc (suc (suc t)))) h).1))

all_these : (t : ℕ) → (t ≡ 0) ⊎ (t ≡ 1) ⊎ (t ≡ 2) → copies.step 0 t ≡ true
unfolding bit_of bit_in bit_at number_at spelled_by states_of start_of propositions_of row_of bits_of size_of filled stuck
all_these t =
    ⊎_elim (λ e. subst (λ x. copies.step 0 x ≡ true) (sym e) refl)
    (⊎_elim (λ e. subst (λ x. copies.step 0 x ≡ true) (sym e) refl) (λ e. subst (λ x. copies.step 0 x ≡ true) (sym e) refl))

pub copies_drawn : Copies
unfolding bit_of bit_in bit_at number_at spelled_by bytes_of states_of start_of propositions_of row_of bits_of size_of filled stuck file_bit file_size file_of
copies_drawn =
    record {
      drawn = record { has_states = refl; has_start = refl; has_propositions = refl; has_rows = refl };
      steps = λ t. (only_these t, all_these t);
      file = refl;
    }

pub mixed_drawn : Mixed
unfolding bit_of bit_in bit_at number_at spelled_by bytes_of states_of start_of propositions_of row_of bits_of size_of filled stuck file_bit file_size file_of
mixed_drawn = record { drawn = record { has_states = refl; has_start = refl; has_propositions = refl; has_rows = refl }; file = refl }

pub loopless_drawn : Loopless
unfolding bit_of bit_in bit_at number_at spelled_by bytes_of states_of start_of propositions_of row_of bits_of size_of filled stuck file_bit file_size file_of
loopless_drawn =
    record {
      first = record { has_states = refl; has_start = refl; has_propositions = refl; has_rows = refl };
      second = record { has_states = refl; has_start = refl; has_propositions = refl; has_rows = refl };
      drawn = record { has_states = refl; has_start = refl; has_propositions = refl; has_rows = refl };
      swapped = refl;
      file = refl;
    }

-- the steps of state 0, one after another
pub nexts : next_of copies 0 0 ∷ next_of copies 0 1 ∷ next_of copies 0 2 ∷ next_of copies 0 3 ∷ [] ≡ Some 0 ∷ Some 1 ∷ Some 2 ∷ None ∷ []
unfolding bit_of bit_in bit_at number_at spelled_by states_of start_of propositions_of row_of bits_of size_of filled stuck first_of
nexts = refl
