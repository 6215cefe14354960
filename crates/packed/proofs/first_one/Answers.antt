-- The first byte goes without the bits before `from`; every later byte is whole.
use Rattle.std.proofs.Common.{◌≡◌, ℕ, ◌+◌, ◌-◌, ◌*◌, ◌/◌, ◌%◌, ◌^◌, ◌<◌, ◌≤◌, get_or, sym, ap, ◌∙◌, subst, ⊎_elim, arith}
use lib.Bits.{bit_and}
use Rattle.std.proofs.lemmas.Nat.{div-add-mod', mod_below}
use Rattle.std.proofs.lemmas.Bool.{cases_lt}
use Rattle.std.proofs.lemmas.List.{get_or_past}
use Rattle.structure.specs.Next.{Smallest}
use Rattle.packed.proofs.Nonzero.{none_there, first_there, part_byte}
use Rattle.packed.proofs.FirstOne.{Part, first_part, later_part, Zeros, zeros_after, zeros_on, none_in_bytes, one_sought}
use Rattle.packed.proofs.first_one.Goals as goal
use Rattle.packed.proofs.first_one.Goals.{After-byte_at}

-- the first byte
rest : (c : After-byte_at) → Part c.args.bytes.now c.args.from c.args.to (c.args.from / 8) (bit_and c.byte_at.result (255 / 2 ^ (c.args.from % 8)))
rest c = first_part c.args.bytes.now c.args.from c.args.to c.byte_at.result c.byte_at.ensures c.byte_at.type_inv

-- where it is 0, nothing before the next one is 1
before : (c : After-byte_at) → bit_and c.byte_at.result (255 / 2 ^ (c.args.from % 8)) ≡ 0 → Zeros c.args.bytes.now c.args.from ((c.args.from / 8 + 1) * 8)
before c none = zeros_after c.args.bytes.now c.args.from c.args.to _ _ (rest c) none

pub returns-then-rest-ne0 : goal.returns-then-rest-ne0
returns-then-rest-ne0 c =
    one_sought c.args.bytes.now c.args.from c.args.to (c.args.from / 8) (bit_and c.byte_at.result (255 / 2 ^ (c.args.from % 8))) (rest (goal.at.returns-then-rest-ne0 c).After-byte_at) (omega (arith, c.if-rest-ne0.true)) c.leading_one.result c.leading_one.ensures

pub returns-in_err-later : goal.returns-in_err-later
returns-in_err-later c =
    let bytes = c.args.bytes.now in
    let short : c.min.result < c.args.from / 8 + 1 = ⊎_elim (λ h. h) (λ h. omega arith) c.in_err-later.ensures.lookup.0 in
    let zeros = zeros_on bytes c.args.from c.args.to (c.args.from / 8 + 1) (c.args.to / 8 + 1) (before (goal.at.returns-in_err-later c).After-byte_at c.if-rest-ne0.false) (λ j le lt. get_or_past bytes j 0 (omega arith)) in
    subst (Smallest _ c.args.from) (sym c.from_residual.ensures) (none_in_bytes bytes c.args.from c.args.to zeros)

pub returns-in_err-zeros : goal.returns-in_err-zeros
returns-in_err-zeros c =
    let bytes = c.args.bytes.now in
    let later = c.in_ok-later.ensures.lookup.0 in
    let none : (j : ℕ) → c.args.from / 8 + 1 ≤ j → j < c.args.to / 8 + 1 → get_or bytes j 0 ≡ 0 = λ j le lt.
    ⊎_elim
    (λ inside. part_byte bytes c.in_ok-later.later.now _ _ later.2 j le inside ∙ none_there c.in_ok-later.later.now c.in_err-zeros.ensures (j - (c.args.from / 8 + 1)) (omega (arith, later.3)))
    (λ past. get_or_past bytes j 0 (omega arith))
    (cases_lt j c.min.result) in
    let zeros = zeros_on bytes c.args.from c.args.to (c.args.from / 8 + 1) (c.args.to / 8 + 1) (before (goal.at.returns-in_err-zeros c).After-byte_at c.if-rest-ne0.false) none in
    subst (Smallest _ c.args.from) (sym c.from_residual-in_err-zeros.ensures) (none_in_bytes bytes c.args.from c.args.to zeros)

pub returns : goal.returns
returns c =
    let bytes = c.args.bytes.now in
    let later = c.in_ok-later.ensures.lookup.0 in
    let first = c.args.from / 8 + 1 in
    let at = first + c.in_ok-zeros.zeros in
    let found = first_there c.in_ok-later.later.now c.in_ok-zeros.zeros c.in_ok-zeros.ensures in
    let there : (j : ℕ) → first ≤ j → j < c.min.result → get_or bytes j 0 ≡ get_or c.in_ok-later.later.now (j - first) 0 = part_byte bytes c.in_ok-later.later.now first c.min.result later.2 in
    let zeros = zeros_on bytes c.args.from c.args.to first at (before (goal.at.returns c).After-byte_at c.if-rest-ne0.false) (λ j le lt. there j le (omega (arith, later.3, found.0)) ∙ found.2 (j - first) (omega arith)) in
    let same : at - first ≡ c.in_ok-zeros.zeros = omega arith in
    let is : get_or c.in_ok-later.later.now c.in_ok-zeros.zeros 0 ≡ get_or bytes at 0 = sym (there at (omega arith) (omega (arith, later.3, found.0)) ∙ ap (λ k. get_or c.in_ok-later.later.now k 0) same) in
    let small : get_or c.in_ok-later.later.now c.in_ok-zeros.zeros 0 < 256 = omega (arith, is, c.type_inv.bytes at) in
    one_sought bytes c.args.from c.args.to at (get_or c.in_ok-later.later.now c.in_ok-zeros.zeros 0)
    (later_part bytes c.args.from c.args.to at _ is small (omega (arith, div-add-mod' c.args.from 8, mod_below c.args.from 8)) zeros) found.1 c.leading_one-2.result c.leading_one-2.ensures
