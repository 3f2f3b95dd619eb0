-- What the bytes in hand say of the whole input.
use Rattle.std.proofs.Common.{◌≡◌, ◌+◌, ◌-◌, ◌≤◌, ◌<◌, ℕ, suc, List, [], ◌∷◌, ◌++◌, length, take, drop, cond, Bool}
use Rattle.std.proofs.Common.{true, false, Option, Some, None, refl, sym, ap, subst, ◌∙◌, arith, append-nil}
use Rattle.std.specs.Prelude.{IfSome, Ok, Err, nat_lt, option_map, ⊤}
use Rattle.std.specs.Str.{bytes_eq}
use Rattle.std.specs.Io.KnownBytes.{Consumes, IsAtEnd, Keeps}
use Rattle.std.proofs.KnownBytes.{Consumes-trans}
use Rattle.std.proofs.lemmas.Bool.{le-ltb, lt-ltb}
use Rattle.std.proofs.lemmas.List.{drop-append-le, length-append, length-take, length-take-le, nil_from_length}
use Rattle.std.proofs.lemmas.List.{take-append-le, take-take, take_all}
use Rattle.std.proofs.lemmas.Slice.{take-put_mid}
use Rattle.std.proofs.lemmas.Slice.Eq.{bytes_eq-Decides}
use Rattle.std.proofs.Math.Seq.{take-append-add, take-append_seam}
use borrow.Rule.Slice.PartMut.{put_mid}
use Rattle.exam_send.specs.Given.{Gave}
use Rattle.exam_request.specs.Input.{HeadRead, More, begins, empty_line, head_len, head_of, head_or_fault}
use Rattle.exam_request.specs.declared.fault.Fault.TheVariants.{Head, Size}
use Rattle.exam_request.specs.Sizes.{most_head}

-- a read of n bytes behind the first a
pub read_behind : (a k n : ℕ) (xs ys : List ℕ) → a ≤ length xs → n ≤ length ys
    → take (a + n) (put_mid a k xs ys) ≡ take a xs ++ take n ys
read_behind a k n xs ys p q =
    let whole = take-put_mid a k xs ys (a + length ys) refl p in
    let front = length-take-le a xs p in
    sym (take-take (a + n) (a + length ys) (put_mid a k xs ys) (omega arith)) ∙ ap (take (a + n)) whole
    ∙ ap (λ m. take (m + n) (take a xs ++ ys)) (sym front) ∙ take-append-add (take a xs) ys n

pub begins_long : (xs : List ℕ) → begins xs ≡ true → 4 ≤ length xs
begins_long xs h =
    let e = (bytes_eq-Decides empty_line (take 4 xs)).0 h in
    let four : 4 ≡ length (take 4 xs) = ap length e in
    omega (arith, length-take 4 xs)

pub head_within : (xs : List ℕ) (n : ℕ) → head_len xs ≡ Some n → (4 ≤ n) × (n ≤ length xs)
unfolding head_len
head_within [] n h = cc h
head_within (b ∷ rest) n h = here (begins (b ∷ rest)) refl h (head_len rest) refl (head_within rest)
  where
    here : (t : Bool) → begins (b ∷ rest) ≡ t → cond t (Some 4) (option_map suc (head_len rest)) ≡ Some n
        → (o : Option ℕ) → head_len rest ≡ o → ((m : ℕ) → head_len rest ≡ Some m → (4 ≤ m) × (m ≤ length rest))
        → (4 ≤ n) × (n ≤ length (b ∷ rest))
    here true t h o r more = let e : 4 ≡ n = cc in let l = begins_long (b ∷ rest) t in (omega arith, omega arith)
    here false t h None r more = let e : option_map suc None ≡ Some n = rw r at h in cc e
    here false t h (Some m) r more =
        let e : option_map suc (Some m) ≡ Some n = rw r at h in
        let s : suc m ≡ n = cc e in
        let w = more m r in (omega arith, omega arith)

-- more bytes change nothing of a head that is there
pub head_stays : (xs ys : List ℕ) (n : ℕ) → head_len xs ≡ Some n → head_len (xs ++ ys) ≡ Some n
unfolding head_len
head_stays [] ys n h = cc h
head_stays (b ∷ rest) ys n h =
    let long = head_within (b ∷ rest) n h in
    let four : 4 ≤ length (b ∷ rest) = omega arith in
    let same : begins ((b ∷ rest) ++ ys) ≡ begins (b ∷ rest) =
    ap (bytes_eq empty_line) (take-append-le 4 (b ∷ rest) ys four) in
    here (begins (b ∷ rest)) refl same h (head_len rest) refl (λ m. head_stays rest ys m)
  where
    here : (t : Bool) → begins (b ∷ rest) ≡ t → begins ((b ∷ rest) ++ ys) ≡ begins (b ∷ rest)
        → cond t (Some 4) (option_map suc (head_len rest)) ≡ Some n
        → (o : Option ℕ) → head_len rest ≡ o → ((m : ℕ) → head_len rest ≡ Some m → head_len (rest ++ ys) ≡ Some m)
        → cond (begins ((b ∷ rest) ++ ys)) (Some 4) (option_map suc (head_len (rest ++ ys))) ≡ Some n
    here true t s h o r more = rw (s, t) h
    here false t s h None r more = let e : option_map suc None ≡ Some n = rw r at h in cc e
    here false t s h (Some m) r more = let e : option_map suc (Some m) ≡ Some n = rw r at h in rw (s, t, more m r) e

-- the front of an input that begins with the bytes in hand
front : (xs rest : List ℕ) → length xs ≤ most_head → (zs : List ℕ) × (take most_head (xs ++ rest) ≡ xs ++ zs)
front xs rest h =
    let m = most_head - length xs in
    let e : length xs + m ≡ most_head = omega arith in
    (take m rest, ap (λ k. take k (xs ++ rest)) (sym e) ∙ take-append-add xs rest m)

-- the head is in hand
pub in_hand : (old new : Option (List ℕ)) (xs : List ℕ) (n : ℕ) → length xs ≤ most_head → head_len xs ≡ Some n
    → Consumes old new xs → HeadRead old new xs n
in_hand old new xs n few h c = record { within = (head_within xs n h).1; consumed = c; head = λ rest. stands rest }
  where
    stands : (rest : List ℕ) → head_of (xs ++ rest) ≡ Ok (take n xs, drop n xs ++ rest)
    stands rest =
        let w = (head_within xs n h).1 in
        let f = front xs rest few in
        let found : head_len (take most_head (xs ++ rest)) ≡ Some n = rw f.1 (head_stays xs f.0 n h) in
        ap (head_or_fault (xs ++ rest)) found
        ∙ ap (λ a. Ok (a, drop n (xs ++ rest))) (take-append-le n xs rest w)
        ∙ ap (λ d. Ok (take n xs, d)) (drop-append-le n xs rest w)

-- what was given says it whatever follows
pub gave_all : (P : List ℕ → Type 0) (old new : Option (List ℕ)) (xs : List ℕ) (most : ℕ) → length xs ≤ most
    → Consumes old new xs → ((rest : List ℕ) → P (xs ++ rest)) → Gave most old new P
gave_all P old new xs most few c says =
    record { given = xs; few = few; consumed = c; says = subst P (append-nil xs) (says []); known = whole old new c }
  where
    whole : (o n : Option (List ℕ)) → Consumes o n xs → IfSome o P
    whole None n c = tt
    whole (Some input) None c = absurd c
    whole (Some input) (Some rest) c = subst P (sym c) (says rest)

-- what was given says it, and nothing follows
pub gave_end : (P : List ℕ → Type 0) (old new : Option (List ℕ)) (xs : List ℕ) (most : ℕ) → length xs ≤ most
    → Consumes old new xs → IsAtEnd new → P xs → Gave most old new P
gave_end P old new xs most few c end says =
    record { given = xs; few = few; consumed = c; says = says; known = whole old new c end }
  where
    whole : (o n : Option (List ℕ)) → Consumes o n xs → IsAtEnd n → IfSome o P
    whole None n c end = tt
    whole (Some input) None c end = absurd c
    whole (Some input) (Some rest) c end = subst P (sym (c ∙ ap (λ r. xs ++ r) end ∙ append-nil xs)) says

-- the input ended without a head
pub cut_short : (old new : Option (List ℕ)) (xs : List ℕ) → length xs < most_head → head_len xs ≡ None
    → Consumes old new xs → IsAtEnd new → Gave most_head old new (λ input. head_of input ≡ Err Head)
cut_short old new xs few h c end =
    let short : take most_head xs ≡ xs = take_all most_head xs (omega arith) in
    let less : nat_lt (length xs) most_head ≡ true = lt-ltb (length xs) most_head few in
    let cut : head_of xs ≡ Err Head =
    ap (λ i. head_or_fault xs (head_len i)) short ∙ ap (head_or_fault xs) h ∙ rw less refl in
    gave_end (λ input. head_of input ≡ Err Head) old new xs most_head (omega arith) c end cut

-- the room ended without one
pub too_long : (old new : Option (List ℕ)) (xs : List ℕ) → length xs ≡ most_head → head_len xs ≡ None
    → Consumes old new xs → Gave most_head old new (λ input. head_of input ≡ Err Size)
too_long old new xs few h c =
    gave_all (λ input. head_of input ≡ Err Size) old new xs most_head (omega arith) c (λ rest. long rest)
  where
    long : (rest : List ℕ) → head_of (xs ++ rest) ≡ Err Size
    long rest =
        let front_is : take most_head (xs ++ rest) ≡ xs = rw (← few) (take-append_seam xs rest) in
        let size : most_head ≤ length (xs ++ rest) = omega (arith, length-append xs rest) in
        ap (λ i. head_or_fault (xs ++ rest) (head_len i)) front_is ∙ ap (head_or_fault (xs ++ rest)) h
        ∙ rw (le-ltb (length (xs ++ rest)) most_head size) refl

-- a read that failed took nothing
pub none_taken : (old mid new : Option (List ℕ)) (had : List ℕ) → Consumes old mid had → Keeps mid new
    → Consumes old new had
none_taken None mid new had c k = tt
none_taken (Some input) None new had c k = absurd c
none_taken (Some input) (Some rest) None had c k = absurd k
none_taken (Some input) (Some rest) (Some left) had c k = c ∙ ap (λ r. had ++ r) (sym k)

-- a read failed
pub gave_up : (old mid new : Option (List ℕ)) (buffer : List ℕ) (filled most : ℕ)
    → Consumes old mid (take filled buffer) → Keeps mid new → filled ≤ most → Gave most old new (λ input. ⊤)
gave_up old mid new buffer filled most c k few =
    gave_all (λ input. ⊤) old new (take filled buffer) most (omega (arith, length-take filled buffer))
    (none_taken old mid new (take filled buffer) c k) (λ rest. tt)

-- a turn that met the end of the input
pub ended : (old mid new : Option (List ℕ)) (had now : List ℕ) → Consumes old mid had → More mid new had now
    → length now ≡ length had → Consumes old new had × IsAtEnd new
ended old mid new had now c m same =
    let none : length m.got ≡ 0 = omega (arith, ap length m.now_is, length-append had m.got) in
    let empty = nil_from_length m.got none in (
      subst (Consumes old new) (append-nil had)
          (Consumes-trans old mid new had [] c (subst (Consumes mid new) empty m.consumed)),
      m.at_end empty,
    )

-- a turn that took more
pub taken : (old mid new : Option (List ℕ)) (had now : List ℕ) → Consumes old mid had → More mid new had now
    → Consumes old new now
taken old mid new had now c m =
    subst (Consumes old new) (sym m.now_is) (Consumes-trans old mid new had m.got c m.consumed)
