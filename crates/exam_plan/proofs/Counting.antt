-- Counting: how many numbers below a bound pass a test, and counting in two ways.
use Rattle.exam_plan.proofs.Words.{range_with_len, cases_eq, cases_Bool, eq-eqb, ne_eqb, sum_by-cons}
use Rattle.std.proofs.Common.{◌≡◌, ◌≢◌, ℕ, zero, suc, ◌+◌, ◌<◌, ◌≤◌, Bool, true, false, cond, [], ◌∷◌, ◌++◌, count_by}
use Rattle.std.proofs.Common.{Option, None, Some, IfSome, nat_eq, refl, sym, ap, ◌∙◌, inl, inr, arith, add-zero}
use Rattle.std.proofs.Common.{zero-add, List}
use Rattle.std.proofs.lemmas.List.Sums.{sum_by_push}

abbrev pub bit : Bool → ℕ
bit b = cond b 1 0

pub bit_le : (x y : Bool) → (x ≡ true → y ≡ true) → bit x ≤ bit y
bit_le false y f = omega arith
bit_le true y f = let e : bit y ≡ 1 = ap bit (f refl) in omega arith

pub count_by-cons : {X : Type 0} (P : X → Bool) (x : X) (xs : List X) → count_by P (x ∷ xs) ≡ bit (P x) + count_by P xs
count_by-cons P x xs = sum_by-cons (λ y. bit (P y)) x xs

-- how many numbers below n pass
abbrev pub count_below : (ℕ → Bool) → ℕ → ℕ
count_below P zero = 0
count_below P (suc n) = count_below P n + bit (P n)

pub range_more : (a n : ℕ) → range_with_len a (suc n) ≡ range_with_len a n ++ (a + n) ∷ []
range_more a zero = ap (λ t. t ∷ []) (sym (add-zero a))
range_more a (suc m) =
    ap (λ t. a ∷ t) (range_more (a + 1) m
    ∙ (let e : (a + 1) + m ≡ a + suc m = omega arith in ap (λ t. range_with_len (a + 1) m ++ t ∷ []) e))

pub range_next : (n : ℕ) → range_with_len 0 (n + 1) ≡ range_with_len 0 n ++ n ∷ []
range_next n = (let e : n + 1 ≡ suc n = omega arith in ap (range_with_len 0) e) ∙ range_more 0 n
    ∙ ap (λ k. range_with_len 0 n ++ k ∷ []) (zero-add n)

pub count_by-range : (P : ℕ → Bool) (n : ℕ) → count_by P (range_with_len 0 n) ≡ count_below P n
count_by-range P zero = refl
count_by-range P (suc n) =
    let e : count_by P (range_with_len 0 (suc n)) ≡ count_by P (range_with_len 0 n ++ (0 + n) ∷ []) =
    ap (count_by P) (range_more 0 n) in
    let f : count_by P (range_with_len 0 n ++ (0 + n) ∷ []) ≡ count_by P (range_with_len 0 n) + bit (P (0 + n)) =
    sum_by_push (λ x. bit (P x)) (range_with_len 0 n) (0 + n) in
    let s : bit (P (0 + n)) ≡ bit (P n) = ap (λ t. bit (P t)) (zero-add n) in
    let h = count_by-range P n in omega arith

pub count_below-more : (P : ℕ → Bool) (n : ℕ) → count_below P (n + 1) ≡ count_below P n + bit (P n)
count_below-more P n = let e : n + 1 ≡ suc n = omega arith in ap (count_below P) e

pub count_below-le : (P Q : ℕ → Bool) (n : ℕ) → ((k : ℕ) → k < n → bit (P k) ≤ bit (Q k))
    → count_below P n ≤ count_below Q n
count_below-le P Q zero h = omega arith
count_below-le P Q (suc n) h = let e =
    count_below-le P Q n (λ k l. h k (omega arith)) in let f : bit (P n) ≤ bit (Q n) = h n (omega arith) in omega arith

pub count_below-same : (P Q : ℕ → Bool) (n : ℕ) → ((k : ℕ) → k < n → bit (P k) ≡ bit (Q k))
    → count_below P n ≡ count_below Q n
count_below-same P Q zero h = refl
count_below-same P Q (suc n) h = let e =
    count_below-same P Q n (λ k l. h k (omega arith)) in let f : bit (P n) ≡ bit (Q n) =
    h n (omega arith) in omega arith

pub count_below-lt : (P Q : ℕ → Bool) (n c : ℕ) → ((k : ℕ) → k < n → bit (P k) ≤ bit (Q k)) → c < n
    → bit (P c) < bit (Q c) → count_below P n < count_below Q n
count_below-lt P Q zero c h below less = absurd (omega arith)
count_below-lt P Q (suc n) c h below less = elim (cases_eq c n) [
  | inl e ↦ (let f = count_below-le P Q n (λ k l. h k (omega arith)) in
      let less' : bit (P n) < bit (Q n) = rw e at less in omega arith)
  | inr away ↦ (let f = count_below-lt P Q n c (λ k l. h k (omega arith)) (omega arith) less in
      let t : bit (P n) ≤ bit (Q n) = h n (omega arith) in omega arith)
]

-- more pass below a bound than below a number under it that passes
pub count_below-reaches : (P : ℕ → Bool) (c n : ℕ) → c < n → P c ≡ true → count_below P c < count_below P n
count_below-reaches P c zero l t = absurd (omega arith)
count_below-reaches P c (suc n) l t = elim (cases_eq c n) [
  | inl e ↦ (let one : bit (P n) ≡ 1 = ap (λ k. bit (P k)) (sym e) ∙ ap bit t in
      let s : count_below P c ≡ count_below P n = ap (count_below P) e in omega (arith, one, s))
  | inr a ↦ (let ih = count_below-reaches P c n (omega arith) t in omega (arith, ih))
]

pub count_below-none : (P : ℕ → Bool) (n : ℕ) → ((k : ℕ) → P k ≡ false) → count_below P n ≡ 0
count_below-none P zero none = refl
count_below-none P (suc n) none = let e = count_below-none P n none in let z : bit (P n) ≡ 0 =
    ap bit (none n) in omega (arith, e, z)

pub count_below-add : (P Q R : ℕ → Bool) (n : ℕ) → ((k : ℕ) → k < n → bit (P k) + bit (Q k) ≡ bit (R k))
    → count_below P n + count_below Q n ≡ count_below R n
count_below-add P Q R zero h = refl
count_below-add P Q R (suc n) h = let e =
    count_below-add P Q R n (λ k l. h k (omega arith)) in let f : bit (P n) + bit (Q n) ≡ bit (R n) =
    h n (omega arith) in omega arith

-- two tests that differ at one number alone
pub count_below-point : (P Q : ℕ → Bool) (n c : ℕ) → c < n → ((k : ℕ) → k < n → k ≢ c → bit (P k) ≡ bit (Q k))
    → count_below P n + bit (Q c) ≡ count_below Q n + bit (P c)
count_below-point P Q zero c below h = absurd (omega arith)
count_below-point P Q (suc n) c below h = elim (cases_eq c n) [
  | inl e ↦ (let f = count_below-same P Q n (λ k l. h k (omega arith) (omega arith)) in rw e (omega arith))
  | inr away ↦ (let f = count_below-point P Q n c (omega arith) (λ k l. h k (omega arith)) in
      let t : bit (P n) ≡ bit (Q n) = h n (omega arith) (λ z. away (sym z)) in omega arith)
]

pub count_below-le-bound : (P : ℕ → Bool) (n : ℕ) → count_below P n ≤ n
count_below-le-bound P zero = omega arith
count_below-le-bound P (suc n) = let e =
    count_below-le-bound P n in elim (cases_Bool (P n)) [ inl t ↦ rw t (omega arith) | inr f ↦ rw f (omega arith) ]

-- ---- sums over the halls that pass

abbrev pub sum_below : (ℕ → ℕ) → (ℕ → Bool) → ℕ → ℕ
sum_below f D zero = 0
sum_below f D (suc h) = sum_below f D h + cond (D h) (f h) 0

pub sum_below-le : (f g : ℕ → ℕ) (D : ℕ → Bool) (n : ℕ) → ((h : ℕ) → h < n → D h ≡ true → f h ≤ g h)
    → sum_below f D n ≤ sum_below g D n
sum_below-le f g D zero h = omega arith
sum_below-le f g D (suc n) h =
    let e = sum_below-le f g D n (λ k l. h k (omega arith)) in
    elim (cases_Bool (D n))
    [ inl t ↦ (let s : f n ≤ g n = h n (omega arith) t in rw t (omega arith)) | inr s ↦ rw s (omega arith) ]

pub sum_below-same : (f g : ℕ → ℕ) (D : ℕ → Bool) (n : ℕ) → ((h : ℕ) → h < n → D h ≡ true → f h ≡ g h)
    → sum_below f D n ≡ sum_below g D n
sum_below-same f g D zero h = refl
sum_below-same f g D (suc n) h =
    let e = sum_below-same f g D n (λ k l. h k (omega arith)) in
    elim (cases_Bool (D n))
    [ inl t ↦ (let s : f n ≡ g n = h n (omega arith) t in rw t (omega arith)) | inr s ↦ rw s (omega arith) ]

sum_below-add : (f g : ℕ → ℕ) (D : ℕ → Bool) (n : ℕ)
    → sum_below (λ h. f h + g h) D n ≡ sum_below f D n + sum_below g D n
sum_below-add f g D zero = refl
sum_below-add f g D (suc n) = let e =
    sum_below-add f g D n in elim (cases_Bool (D n)) [ inl t ↦ rw t (omega arith) | inr s ↦ rw s (omega arith) ]

sum_below-none : (f : ℕ → ℕ) (D : ℕ → Bool) (n : ℕ) → ((h : ℕ) → h < n → f h ≡ 0) → sum_below f D n ≡ 0
sum_below-none f D zero h = refl
sum_below-none f D (suc n) h =
    let e = sum_below-none f D n (λ k l. h k (omega arith)) in
    let s : f n ≡ 0 = h n (omega arith) in
    elim (cases_Bool (D n)) [ inl t ↦ rw t (omega arith) | inr t ↦ rw t (omega arith) ]

apart : (h k : ℕ) → h ≢ k → bit (nat_eq h k) ≡ 0
apart h k n = ap bit (ne_eqb h k n)

sum_below-one : (D : ℕ → Bool) (n k : ℕ) → k < n → sum_below (λ h. bit (nat_eq h k)) D n ≡ bit (D k)
sum_below-one D zero k below = absurd (omega arith)
sum_below-one D (suc n) k below = elim (cases_eq n k) [
  | inl e ↦ (let z = sum_below-none (λ h. bit (nat_eq h k)) D n (λ h l. apart h k (omega arith)) in
      let o : bit (nat_eq n k) ≡ 1 = ap bit (eq-eqb n k e) in
      let s : bit (D k) ≡ bit (D n) = ap (λ t. bit (D t)) (sym e) in
      elim (cases_Bool (D n)) [
        | inl t ↦ (let u : bit (D n) ≡ 1 = ap bit t in rw t (omega arith))
        | inr t ↦
            (let u : bit (D n) ≡ 0 = ap bit t in rw t (omega arith))
      ])
  | inr away ↦ (let z = sum_below-one D n k (omega arith) in let o : bit (nat_eq n k) ≡ 0 = apart n k away in
      elim (cases_Bool (D n)) [ inl t ↦ rw t (omega arith) | inr t ↦ rw t (omega arith) ])
]

-- the candidate's hall, if there is one, passes
abbrev pub sits_within : (ℕ → Bool) → Option ℕ → Bool
sits_within D None = false
sits_within D (Some h) = D h

abbrev pub sits_at : ℕ → Option ℕ → Bool
sits_at h None = false
sits_at h (Some k) = nat_eq h k

one_place : (D : ℕ → Bool) (n : ℕ) (o : Option ℕ) → IfSome o (λ h. h < n)
    → sum_below (λ h. bit (sits_at h o)) D n ≡ bit (sits_within D o)
one_place D n None below = sum_below-none (λ h. 0) D n (λ h l. refl)
one_place D n (Some k) below = sum_below-one D n k below

-- those in halls that pass, counted by candidates and by halls
pub counted_twice : (D : ℕ → Bool) (halls : ℕ) (q : ℕ → Option ℕ) (n : ℕ)
    → ((c : ℕ) → c < n → IfSome (q c) (λ h. h < halls))
    → count_below (λ c. sits_within D (q c)) n ≡ sum_below (λ h. count_below (λ c. sits_at h (q c)) n) D halls
counted_twice D halls q zero exist = sym (sum_below-none (λ h. 0) D halls (λ h l. refl))
counted_twice D halls q (suc n) exist =
    let e = counted_twice D halls q n (λ c l. exist c (omega arith)) in
    let a = sum_below-add (λ h. count_below (λ c. sits_at h (q c)) n) (λ h. bit (sits_at h (q n))) D halls in
    let o = one_place D halls (q n) (exist n (omega arith)) in
    omega (arith, e, a, o)
