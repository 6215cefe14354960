-- The three fixed fields of the narrow layout, by the bytes that hold them. Assumes nothing.
use Rattle.std.proofs.Common.{◌≡◌, ℕ, suc, ◌+◌, ◌/◌, ◌<◌, List, get_or, sym, ap, ◌∙◌, div-one, add-one, arith}
use Rattle.packed.specs.Layout.{narrow, states_of, start_of, propositions_of}
use Rattle.packed.proofs.BitLaws.{number_at_byte}

module _ (bytes : List ℕ) where
  pub states_of_byte : get_or bytes 0 0 < 256 → states_of narrow bytes ≡ get_or bytes 0 0 + 1
  unfolding states_of
  states_of_byte small =
      ap suc (number_at_byte bytes 0 8 small (omega arith) ∙ div-one (get_or bytes 0 0)) ∙ sym (add-one (get_or bytes 0 0))

  pub start_of_byte : get_or bytes 1 0 < 256 → start_of narrow bytes ≡ get_or bytes 1 0
  unfolding start_of
  start_of_byte small = number_at_byte bytes 1 8 small (omega arith) ∙ div-one (get_or bytes 1 0)

  pub propositions_of_byte : get_or bytes 2 0 < 256 → propositions_of narrow bytes ≡ get_or bytes 2 0 / 8
  unfolding propositions_of
  propositions_of_byte small = number_at_byte bytes 2 5 small (omega arith)
