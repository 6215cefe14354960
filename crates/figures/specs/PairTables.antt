-- What a reader must believe: the worked pairs of the documents, drawn as tables, and their packed files byte by byte.
use Rattle.std.specs.Prelude.{◌≡◌, ℕ, ◌⊎◌, List, [], ◌∷◌, Decides}
use Rattle.structure.specs.Structure.{Structure}
use Rattle.packed.specs.FileOf.{file_of}
use Rattle.packed.specs.Layout.{narrow}
use Rattle.packed.specs.Verdict.{opened}
use Rattle.pair.specs.Sides.{paired}
use Rattle.figures.specs.Files.{two_states_file, three_states_file, Drawn}

-- two copies of the file with two states
abbrev pub copies : Structure
copies = paired (opened narrow two_states_file) (opened narrow two_states_file)

-- the file with two states, and the one with three
abbrev pub mixed : Structure
mixed = paired (opened narrow two_states_file) (opened narrow three_states_file)

-- a first side that starts at state 1, whose state 0 has a step to 1 only; a second side whose state 1 alone has a step to itself
abbrev pub late_start : List ℕ
late_start = 0x01 ∷ 0x01 ∷ 0x14 ∷ 0x98 ∷ []

abbrev pub late_loop : List ℕ
late_loop = 0x01 ∷ 0x00 ∷ 0x14 ∷ 0x88 ∷ []

abbrev pub loopless : Structure
loopless = paired (opened narrow late_start) (opened narrow late_loop)

pub record Copies : Type 0 where
  pub drawn : Drawn copies 4 0 2 ((0 ∷ 1 ∷ [], 0 ∷ 1 ∷ 2 ∷ []) ∷ (0 ∷ [], 1 ∷ 3 ∷ []) ∷ (1 ∷ [], 2 ∷ 3 ∷ []) ∷ ([], 3 ∷ []) ∷ [])
  -- from state 0 there are steps to 0, 1 and 2 and to no other state
  pub steps : (t : ℕ) → Decides (copies.step 0 t) ((t ≡ 0) ⊎ (t ≡ 1) ⊎ (t ≡ 2))
  pub file : file_of narrow copies ≡ 0x03 ∷ 0x00 ∷ 0x17 ∷ 0xD2 ∷ 0xA6 ∷ 0x08 ∷ []

pub record Mixed : Type 0 where
  pub drawn : Drawn mixed 6 0 2 ((0 ∷ 1 ∷ [], 0 ∷ 1 ∷ 2 ∷ 3 ∷ []) ∷ (0 ∷ 1 ∷ [], 1 ∷ 4 ∷ []) ∷ (0 ∷ 1 ∷ [], 2 ∷ 5 ∷ []) ∷ (1 ∷ [], 3 ∷ 4 ∷ 5 ∷ []) ∷ (1 ∷ [], 4 ∷ []) ∷ (1 ∷ [], 5 ∷ []) ∷ [])
  pub file : file_of narrow mixed ≡ 0x05 ∷ 0x00 ∷ 0x17 ∷ 0xE6 ∷ 0x96 ∷ 0x4A ∷ 0x3A ∷ 0x12 ∷ 0x08 ∷ []

pub record Loopless : Type 0 where
  pub first : Drawn (opened narrow late_start) 2 1 2 ((0 ∷ [], 1 ∷ []) ∷ ([], 0 ∷ 1 ∷ []) ∷ [])
  pub second : Drawn (opened narrow late_loop) 2 0 2 ((0 ∷ [], 1 ∷ []) ∷ ([], 1 ∷ []) ∷ [])
  pub drawn : Drawn loopless 4 2 4 ((0 ∷ 2 ∷ [], 1 ∷ 2 ∷ []) ∷ (0 ∷ [], 1 ∷ 3 ∷ []) ∷ (2 ∷ [], 0 ∷ 2 ∷ 3 ∷ []) ∷ ([], 1 ∷ 3 ∷ []) ∷ [])
  -- with the sides the other way round it is the second that starts at state 1
  pub swapped : (paired (opened narrow late_loop) (opened narrow late_start)).start ≡ 1
  pub file : file_of narrow loopless ≡ 0x03 ∷ 0x02 ∷ 0x25 ∷ 0x34 ∷ 0x29 ∷ 0x58 ∷ 0x28 ∷ []
