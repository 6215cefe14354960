-- A line that fits its slice is written whole; the lines of the report fit. Assumes nothing.
use Rattle.std.proofs.Common.{is_ok, Bool, refl, ◌≡◌, ℕ, ◌*◌, ◌^◌, ◌<◌, ◌≤◌, true, false, cond, leb, List, ◌++◌, length, drop, IfOk, Ok, Err, Result, sym, ap, ◌∙◌, subst, arith, rules}
use Rattle.std.proofs.lemmas.List.{length-append}
use Rattle.std.proofs.lemmas.Bool.{le-leb, leb-true, and_parts, cond-true}
use Rattle.std.proofs.lemmas.Fmt.{length-decimal-le}
use Rattle.refusal.specs.declared.Refusal.{Refusal}
use Rattle.report.specs.Headline.{counts_line, refusal_line, roomy}

-- what a call that tests its room gave
pub passed : (room : Bool) (e : Refusal) → Ok tt ≡ cond {A = Result (Unit {0}) Refusal} room (Ok tt) (Err e) → room ≡ true
passed true e h = refl
passed false e h = cc

pub reached : (room : Bool) (given value : ℕ) (e : Refusal) → Ok given ≡ cond {A = Result ℕ Refusal} room (Ok value) (Err e) → given ≡ value
reached true given value e h = cc
reached false given value e h = cc

pub long_enough : (states out scratch : ℕ) → roomy states out scratch ≡ true → 1024 ≤ out
long_enough states out scratch h = leb-true 1024 out (and_parts (leb 1024 out) (leb (4 * states) scratch) h).0

-- a line that fits is written at the front of the slice
pub written : (room : Bool) (text line out out' : List ℕ) (e : Refusal) (r : Result ℕ Refusal) → room ≡ true → text ≡ line → length line ≤ length out → r ≡ cond (leb (length text) (length out)) (Ok (length text)) (Err e) → out' ≡ cond (leb (length text) (length out)) (text ++ drop (length text) out) out → (r ≡ cond room (Ok (length line)) (Err e)) × (out' ≡ cond (is_ok r) (line ++ drop (length line) out) out) × IfOk r (λ n. n ≤ length out)
written room text line out out' e r open' same fits value after =
    let there : leb (length text) (length out) ≡ true = le-leb (length text) (length out) (omega (arith, ap length same)) in
    let is : r ≡ Ok (length line) = value ∙ cond-true (leb (length text) (length out)) (Ok (length text)) (Err e) there ∙ ap (λ l. Ok (length l)) same in (
      is ∙ sym (cond-true room (Ok (length line)) (Err e) open'),
      after ∙ cond-true (leb (length text) (length out)) (text ++ drop (length text) out) out there ∙ ap (λ l. l ++ drop (length l) out) same ∙ sym (cond-true (is_ok r) (line ++ drop (length line) out) out (ap is_ok is)),
      subst (λ q. IfOk q (λ n. n ≤ length out)) (sym is) fits,
    )

pub length-counts_line : (a b d : ℕ) → a < 2 ^ 32 → b < 2 ^ 32 → d < 2 ^ 32 → length (counts_line a b d) ≤ 63
unfolding counts_line
length-counts_line a b d la lb ld =
    simp length-append (search (rules, length-decimal-le 10))

pub length-refusal_line : (n : ℕ) → n < 2 ^ 32 → length (refusal_line n) ≤ 25
unfolding refusal_line
length-refusal_line n small =
    simp length-append (search (rules, length-decimal-le 10))
