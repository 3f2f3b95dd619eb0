-- How bytes differ from a secret.
use Rattle.std.proofs.Common.{◌≡◌, ℕ, zero, suc, List, [], ◌∷◌, length, drop, refl, ap, ◌∙◌, ◌&&◌, nat_eq, arith}
use Rattle.std.proofs.Common.{slice_index_or}
use Rattle.std.specs.Bool.{Decides}
use Rattle.std.specs.Prelude.{◌↔◌}
use Rattle.std.proofs.lemmas.Bool.Decides.{Decides-and, Decides-eqb, Decides-like}
use Rattle.std.proofs.lemmas.Nat.{and_le_l, and_le_r, le_or_l, le_or_r}
use Rattle.std.specs.Int.Bits.{bit_or, bit_xor, or_zero_l, xor_add_and, xor_self}

-- the bits found so far, and those by which the bytes differ from the secret's from a place on
abbrev pub differing : ℕ → ℕ → List ℕ → List ℕ → ℕ
differing found index [] secret = found
differing found index (b ∷ given) secret =
    differing (bit_or found (bit_xor b (slice_index_or secret index 0))) (suc index) given secret

or_left : (a b : ℕ) → bit_or a b ≡ 0 → a ≡ 0
or_left a b h = let le = le_or_l a b in omega arith

or_right : (a b : ℕ) → bit_or a b ≡ 0 → b ≡ 0
or_right a b h = let le = le_or_r a b in omega arith

xor_equal : (a b : ℕ) → bit_xor a b ≡ 0 → a ≡ b
xor_equal a b h =
    let sum = xor_add_and a b in
    let l = and_le_l a b in
    let r = and_le_r a b in
    omega arith

at_place : (i : ℕ) (l : List ℕ) (x : ℕ) (rest : List ℕ) → drop i l ≡ x ∷ rest
    → (slice_index_or l i 0 ≡ x) × (drop (suc i) l ≡ rest)
at_place zero [] x rest e = cc e
at_place zero (y ∷ l) x rest e = (cc e, cc e)
at_place (suc i) [] x rest e = cc e
at_place (suc i) (y ∷ l) x rest e = at_place i l x rest e

kept : (found index : ℕ) (given secret : List ℕ) → differing found index given secret ≡ 0 → found ≡ 0
kept found index [] secret h = h
kept found index (b ∷ given) secret h =
    or_left found (bit_xor b (slice_index_or secret index 0))
    (kept (bit_or found (bit_xor b (slice_index_or secret index 0))) (suc index) given secret h)

pub alike : (found index : ℕ) (given secret rest : List ℕ) → drop index secret ≡ rest → length given ≡ length rest
    → differing found index given secret ≡ 0 → given ≡ rest
alike found index [] secret [] e n h = refl
alike found index [] secret (x ∷ rest) e n h = absurd (omega arith)
alike found index (b ∷ given) secret [] e n h = absurd (omega arith)
alike found index (b ∷ given) secret (x ∷ rest) e n h =
    let at = at_place index secret x rest e in
    let v = slice_index_or secret index 0 in
    let none = kept (bit_or found (bit_xor b v)) (suc index) given secret h in
    let first : b ≡ x = xor_equal b v (or_right found (bit_xor b v) none) ∙ at.0 in
    let later : given ≡ rest = alike (bit_or found (bit_xor b v)) (suc index) given secret rest at.1 (omega arith) h in
    cc (first, later)

pub no_difference : (index : ℕ) (given secret rest : List ℕ) → drop index secret ≡ rest → given ≡ rest
    → differing 0 index given secret ≡ 0
no_difference index [] secret rest e h = refl
no_difference index (b ∷ given) secret [] e h = cc h
no_difference index (b ∷ given) secret (x ∷ rest) e h =
    let at = at_place index secret x rest e in
    let first : slice_index_or secret index 0 ≡ b = cc (at.0, h) in
    let later : given ≡ rest = cc h in
    let bits : bit_or 0 (bit_xor b (slice_index_or secret index 0)) ≡ 0 =
    or_zero_l (bit_xor b (slice_index_or secret index 0)) ∙ ap (bit_xor b) first ∙ xor_self b in
    ap (λ found. differing found (suc index) given secret) bits ∙ no_difference (suc index) given secret rest at.1 later

-- the two tests together
pub decided : (given secret : List ℕ) (found : ℕ) → (length given ≡ length secret → (found ≡ 0) ↔ (given ≡ secret))
    → Decides (nat_eq (length given) (length secret) && nat_eq found 0) (given ≡ secret)
decided given secret found h =
    Decides-like (nat_eq (length given) (length secret) && nat_eq found 0) (λ p. (h p.0).0 p.1)
    (λ e. (ap length e, (h (ap length e)).1 e))
    (Decides-and (nat_eq (length given) (length secret)) (nat_eq found 0) (Decides-eqb (length given) (length secret))
    (Decides-eqb found 0))
