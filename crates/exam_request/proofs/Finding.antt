-- Where a head ends, from the front of the bytes on.
use Rattle.std.proofs.Common.{◌≡◌, ◌+◌, ◌-◌, ◌≤◌, ℕ, zero, suc, List, [], ◌∷◌, length, take, drop, Bool, true, false}
use Rattle.std.proofs.Common.{Option, Some, None, refl, sym, ap, subst, ◌∙◌, arith}
use Rattle.std.specs.Prelude.{option_map}
use Rattle.std.specs.Str.{bytes_eq}
use Rattle.std.proofs.lemmas.List.{length-drop, take-take, take_all}
use Rattle.exam_request.specs.Input.{begins, empty_line, head_len}

-- `&text[n..]`, as the check writes it
pub open_range : (n : ℕ) (text : List ℕ) → take (length text - n) (drop n text) ≡ drop n text
open_range n text = let h = length-drop n text in take_all (length text - n) (drop n text) (omega arith)

pub found_here : (xs : List ℕ) → begins xs ≡ true → head_len xs ≡ Some 4
unfolding head_len
found_here [] h = cc h
found_here (b ∷ rest) h = rw h refl

pub not_here : (xs : List ℕ) → begins xs ≡ false → head_len xs ≡ option_map suc (head_len (drop 1 xs))
unfolding head_len
not_here [] h = refl
not_here (b ∷ rest) h = rw h refl

pub none_in : (xs : List ℕ) → length xs ≡ 0 → head_len xs ≡ None
unfolding head_len
none_in [] h = refl
none_in (b ∷ rest) h = absurd (omega arith)

pub shifted : (p : ℕ) (o : Option ℕ) → option_map (λ n. p + n) (option_map suc o) ≡ option_map (λ n. p + 1 + n) o
shifted p None = refl
shifted p (Some n) = ap (λ (k : ℕ). Some k) (omega arith)

-- ---- a search that begins behind the front of the bytes

from_zero : (o : Option ℕ) → o ≡ option_map (λ k. 0 + k) o
from_zero None = refl
from_zero (Some n) = ap (λ (k : ℕ). Some k) (omega arith)

one_more : (n : ℕ) (o : Option ℕ) → option_map suc (option_map (λ k. n + k) o) ≡ option_map (λ k. suc n + k) o
one_more n None = refl
one_more n (Some m) = ap (λ (k : ℕ). Some k) (omega arith)

none_before : (o : Option ℕ) → option_map suc o ≡ None → o ≡ None
none_before None e = refl
none_before (Some n) e = absurd (let differ : Some (suc n) ≡ None = e in cc)

-- a front of the bytes begins as they do
same_begin : (n : ℕ) (xs : List ℕ) → 4 ≤ n → begins (take n xs) ≡ begins xs
same_begin n xs h = ap (bytes_eq empty_line) (take-take 4 n xs h)

-- the first bytes hold no end of a head, so the first end begins at most three bytes before they end
skipped : (n : ℕ) (xs : List ℕ) → n + 3 ≤ length xs → head_len (take (n + 3) xs) ≡ None
    → head_len xs ≡ option_map (λ k. n + k) (head_len (drop n xs))
skipped zero xs long none = from_zero (head_len xs)
skipped (suc n) [] long none = absurd (omega arith)
skipped (suc n) (b ∷ rest) long none =
    by (begins (b ∷ rest)) refl (λ h. skipped n rest (omega arith) h)
  where
    size : suc n + 3 ≡ suc (n + 3)
    size = omega arith

    front : begins (take (suc n + 3) (b ∷ rest)) ≡ begins (b ∷ rest)
    front = same_begin (suc n + 3) (b ∷ rest) (omega arith)

    behind : drop 1 (take (suc n + 3) (b ∷ rest)) ≡ take (n + 3) rest
    behind = ap (λ k. drop 1 (take k (b ∷ rest))) size

    by : (t : Bool) → begins (b ∷ rest) ≡ t
        → (head_len (take (n + 3) rest) ≡ None → head_len rest ≡ option_map (λ k. n + k) (head_len (drop n rest)))
        → head_len (b ∷ rest) ≡ option_map (λ k. suc n + k) (head_len (drop n rest))
    by true t next = absurd
        (let found = found_here _ (front ∙ t) in let differ : Some 4 ≡ None = sym found ∙ none in cc)
    by false t next =
        let shorter = none_before _ (sym (not_here _ (front ∙ t)) ∙ none) in
        not_here (b ∷ rest) t ∙ ap (option_map suc) (next (ap head_len (sym behind) ∙ shorter))
        ∙ one_more n (head_len (drop n rest))

pub from_seen : (seen : ℕ) (xs : List ℕ) → seen ≤ length xs → head_len (take seen xs) ≡ None
    → head_len xs ≡ option_map (λ k. (seen - 3) + k) (head_len (drop (seen - 3) xs))
from_seen zero xs within none = from_zero (head_len xs)
from_seen (suc zero) xs within none = from_zero (head_len xs)
from_seen (suc (suc zero)) xs within none = from_zero (head_len xs)
from_seen (suc (suc (suc n))) xs within none =
    let less : n ≡ suc (suc (suc n)) - 3 = omega arith in
    let same : suc (suc (suc n)) ≡ n + 3 = omega arith in
    subst (λ m. head_len xs ≡ option_map (λ k. m + k) (head_len (drop m xs))) less
    (skipped n xs (omega arith) (subst (λ m. head_len (take m xs) ≡ None) same none))
