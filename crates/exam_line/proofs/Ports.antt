-- A decimal from 1 to 65535 is read as its number.
use Rattle.std.proofs.Common.{◌≡◌, ◌↔◌, ◌≤◌, ◌∙◌, ℕ, List, Option, None, Some, arith, refl, sym, subst, ap}
use Rattle.std.specs.Prelude.{Result, Ok, Err}
use Rattle.std.specs.Result.{result_ok}
use Rattle.std.specs.Fmt.{decimal}
use Rattle.std.specs.Str.Parse.{ParsesUnsigned}
use Rattle.std.proofs.lemmas.Fmt.{parse-decimal}

-- what is read of the decimal of a port
pub port_read : {E : Type 0} (n : ℕ) (text : List ℕ) (r : Result ℕ E) → n ≤ 65535 → decimal n ≡ text
    → ParsesUnsigned 16 10 text r → r ≡ Ok n
port_read n text r most written parses = parse-decimal 16 n text r (omega arith) (omega arith) (sym written) parses

-- where no port is answered, the text is the decimal of none
pub none_is : {E : Type 0} (r : Result ℕ E) (text : List ℕ) (answer : Option ℕ) → ParsesUnsigned 16 10 text r
    → answer ≡ None → ((n : ℕ) → r ≡ Ok n → 1 ≤ n → decimal n ≡ text → ⊥)
    → (n : ℕ) → (answer ≡ Some n) ↔ (((1 ≤ n) × (n ≤ 65535)) × (decimal n ≡ text))
none_is r text answer parses none never n = (
  λ h. absurd (let differ : None ≡ Some n = sym none ∙ h in cc),
  λ h. absurd (never n (port_read n text r h.0.1 h.1 parses) h.0.0 h.1),
)

-- where one is, the text is its decimal and no other's
pub some_is : {E : Type 0} (r : Result ℕ E) (text : List ℕ) (m : ℕ) → ParsesUnsigned 16 10 text r → r ≡ Ok m → 1 ≤ m
    → m ≤ 65535 → decimal m ≡ text
    → (n : ℕ) → (Some m ≡ Some n) ↔ (((1 ≤ n) × (n ≤ 65535)) × (decimal n ≡ text))
some_is r text m parses is low most written n = (
  λ h. let same : m ≡ n = cc in subst (λ k. ((1 ≤ k) × (k ≤ 65535)) × (decimal k ≡ text)) same ((low, most), written),
  λ h. let got : Ok m ≡ Ok n = sym is ∙ port_read n text r h.0.1 h.1 parses in let same : m ≡ n = cc in ap Some same,
)

pub ok_is : {E : Type 0} (r : Result ℕ E) (m : ℕ) → result_ok r ≡ Some m → r ≡ Ok m
ok_is (Ok k) m is = let same : k ≡ m = cc in ap Ok same
ok_is (Err e) m is = absurd (let differ : None ≡ Some m = is in cc)

-- a number that is no port, or whose decimal is another text
pub other_is : {E : Type 0} (r : Result ℕ E) (text : List ℕ) (m : ℕ) → ParsesUnsigned 16 10 text r → r ≡ Ok m
    → (1 ≤ m → decimal m ≡ text → ⊥)
    → (n : ℕ) → (None ≡ Some n) ↔ (((1 ≤ n) × (n ≤ 65535)) × (decimal n ≡ text))
other_is r text m parses is never = none_is r text None parses refl (λ n at low same.
    let both : Ok m ≡ Ok n = sym is ∙ at in
    let one : n ≡ m = cc in
    never (subst (λ k. 1 ≤ k) one low) (sym (ap decimal one) ∙ same))
