-- What a head and the bytes behind it say of the whole input.
use Rattle.std.proofs.Common.{◌≡◌, ◌+◌, ◌-◌, ◌≤◌, ◌<◌, ℕ, List, [], ◌++◌, length, take, drop, true, false, Option, refl}
use Rattle.std.proofs.Common.{sym, ap, subst, ◌∙◌, arith, append-nil, append_assoc}
use Rattle.std.specs.Prelude.{Result, Ok, Err, nat_lt}
use Rattle.std.specs.Io.KnownBytes.{Consumes, IsAtEnd, Keeps}
use Rattle.std.proofs.lemmas.Bool.{le-ltb, lt-ltb}
use Rattle.std.proofs.lemmas.List.{drop-append-le, drop-take, length-append, length-drop, length-take, length-take-le}
use Rattle.std.proofs.lemmas.List.{take-append-le, take-take}
use Rattle.exam_request.specs.Asked.{Asks, FindsMessage, request_with}
use Rattle.exam_request.specs.Head.{Judges, LiesIn, Said, said_at}
use Rattle.exam_send.specs.Given.{Gave}
use Rattle.exam_request.specs.Input.{HeadRead, More, head_of}
use Rattle.exam_request.specs.declared.fault.Fault.{Fault}
use Rattle.exam_request.specs.declared.fault.Fault.TheVariants.{Length}
use Rattle.exam_request.specs.declared.head.HeadSpans.{HeadSpans}
use Rattle.exam_request.specs.declared.reading.Message.{Message}
use Rattle.exam_request.specs.declared.reading.Stop.{Stop}
use Rattle.exam_request.specs.declared.reading.Stop.TheVariants.{Failed, Faulty}
use Rattle.exam_request.proofs.InHand.{gave_all, gave_end, gave_up, taken}
use Rattle.exam_request.specs.Sizes.{most_head, most_request}

-- what the bytes in hand begin with stays when more come
pub head_more : (old mid new : Option (List ℕ)) (had now : List ℕ) (n : ℕ) → HeadRead old mid had n
    → More mid new had now → HeadRead old new now n
head_more old mid new had now n h m =
    let w = h.within in
    record {
      within = omega (arith, ap length m.now_is, length-append had m.got);
      consumed = taken old mid new had now h.consumed m;
      head = λ rest. subst (λ bytes. head_of (bytes ++ rest) ≡ Ok (take n bytes, drop n bytes ++ rest)) (sym m.now_is)
          (stays rest m.got);
    }
  where
    stays : (rest got : List ℕ) → head_of ((had ++ got) ++ rest) ≡ Ok (take n (had ++ got), drop n (had ++ got) ++ rest)
    stays rest got =
        let front = take-append-le n had got h.within in
        let behind : drop n (had ++ got) ++ rest ≡ drop n had ++ (got ++ rest) =
        ap (λ l. l ++ rest) (drop-append-le n had got h.within) ∙ append_assoc (drop n had) got rest in
        ap head_of (append_assoc had got rest) ∙ h.head (got ++ rest)
        ∙ ap (λ l. Ok (l, drop n had ++ (got ++ rest))) (sym front) ∙ ap (λ l. Ok (take n (had ++ got), l)) (sym behind)

-- the body is in hand
message : (old new : Option (List ℕ)) (bytes : List ℕ) (n : ℕ) (said : Said) → HeadRead old new bytes n
    → Judges (take n bytes) (Ok said) → n + said.body_length ≤ length bytes
    → (rest : List ℕ) → Asks (bytes ++ rest) (Ok (request_with said (take said.body_length (drop n bytes))))
message old new bytes n said h j few rest =
    let k = said.body_length in
    let d = length-drop n bytes in
    let size = length-append (drop n bytes) rest in
    let enough : k ≤ length (drop n bytes) = omega arith in
    let fits : nat_lt (length (drop n bytes ++ rest)) k ≡ false = le-ltb _ k (omega arith) in
    let head = h.head rest in
    rw head (Ok said, j, rw (fits, take-append-le k (drop n bytes) rest enough) refl)

-- the input ended inside the body
pub no_body : (old new : Option (List ℕ)) (bytes : List ℕ) (n : ℕ) (said : Said) → HeadRead old new bytes n
    → Judges (take n bytes) (Ok said) → length bytes < n + said.body_length → IsAtEnd new
    → length bytes ≤ most_request → Gave most_request old new (λ input. Asks input (Err Length))
no_body old new bytes n said h j less end few =
    let k = said.body_length in
    let w = h.within in
    let d = length-drop n bytes in
    let size = length-append (drop n bytes) [] in
    let short : nat_lt (length (drop n bytes ++ [])) k ≡ true = lt-ltb _ k (omega arith) in
    let cut : Asks (bytes ++ []) (Err Length) = let head = h.head [] in rw head (Ok said, j, rw short refl) in
    gave_end (λ input. Asks input (Err Length)) old new bytes most_request few h.consumed end
    (subst (λ input. Asks input (Err Length)) (append-nil bytes) cut)

-- the head is at fault
bad_head : (old new : Option (List ℕ)) (bytes : List ℕ) (n : ℕ) (e : Fault) → HeadRead old new bytes n
    → Judges (take n bytes) (Err e) → (rest : List ℕ) → Asks (bytes ++ rest) (Err e)
bad_head old new bytes n e h j rest = let head = h.head rest in rw head (Err e, j, refl)

-- the head in a buffer is at fault
pub bad_head_in : (old new : Option (List ℕ)) (buf : List ℕ) (n filled : ℕ) (e : Fault) (r : Result Message Stop)
    → HeadRead old new (take filled buf) n → Judges (take n buf) (Err e)
    → filled ≤ most_head → r ≡ Err (Faulty e) → FindsMessage old new buf r
bad_head_in old new buf n filled e r h j few is =
    let within : n ≤ filled = omega (arith, h.within, length-take filled buf) in
    let front : take n (take filled buf) ≡ take n buf = take-take n filled buf within in
    let asks = bad_head old new (take filled buf) n e h (subst (λ x. Judges x (Err e)) (sym front) j) in
    subst (λ x. FindsMessage old new buf x) (sym is)
    (gave_all (λ input. Asks input (Err e)) old new (take filled buf) most_request
    (omega (arith, length-take filled buf)) h.consumed asks)

-- a read failed
pub fails : (old mid new : Option (List ℕ)) (buffer after : List ℕ) (filled : ℕ) (r : Result Message Stop)
    → Consumes old mid (take filled buffer) → Keeps mid new → filled ≤ most_request
    → r ≡ Err Failed → FindsMessage old new after r
fails old mid new buffer after filled r c k few is =
    subst (λ x. FindsMessage old new after x) (sym is) (gave_up old mid new buffer filled most_request c k few)

-- what a head says, and where
pub record JudgedAt (front : List ℕ) (s : HeadSpans) : Type 0 where
  pub judged : Judges front (Ok (said_at front s))
  pub lies : LiesIn front s

-- what the head says stays when more bytes come
pub fronts_stay : (old mid new : Option (List ℕ)) (had now : List ℕ) (n : ℕ) (s : HeadSpans) → HeadRead old mid had n
    → More mid new had now → JudgedAt (take n had) s → JudgedAt (take n now) s
fronts_stay old mid new had now n s h m j =
    let same : take n now ≡ take n had = ap (take n) m.now_is ∙ take-append-le n had m.got h.within in
    subst (λ front. JudgedAt front s) (sym same) j

-- the parts of the bytes in hand are those of the buffer
parts : (buf : List ℕ) (n k filled : ℕ) → n + k ≤ filled
    → (take n (take filled buf) ≡ take n buf) × (take k (drop n (take filled buf)) ≡ take k (drop n buf))
parts buf n k filled h =
    let m = filled - n in
    let e : filled ≡ n + m = omega arith in (
      take-take n filled buf (omega arith),
      ap (λ f. take k (drop n (take f buf))) e ∙ ap (take k) (drop-take n m buf)
          ∙ take-take k m (drop n buf) (omega arith),
    )

-- a message that is in hand lies in the buffer
pub message_in : (old new : Option (List ℕ)) (buf : List ℕ) (n : ℕ) (s : HeadSpans) (filled : ℕ)
    → HeadRead old new (take filled buf) n → JudgedAt (take n (take filled buf)) s
    → n + s.body_length ≤ filled → filled ≤ length buf → filled ≤ most_request
    → FindsMessage old new buf (Ok (record { head = n; spans = s }))
message_in old new buf n s filled h j few size most =
    let k = s.body_length in
    let p = parts buf n k filled few in
    let a = length-take-le filled buf size in
    let Q : List ℕ → List ℕ → Type 0 =
    λ x y. Gave most_request old new (λ input. Asks input (Ok (request_with (said_at x s) y))) in
    let said = said_at (take n (take filled buf)) s in
    let m : Q (take n (take filled buf)) (take k (drop n (take filled buf))) =
    gave_all (λ input. Asks input (Ok (request_with said (take k (drop n (take filled buf)))))) old new
    (take filled buf) most_request (omega arith) h.consumed
    (message old new (take filled buf) n said h j.judged (omega arith)) in (
      record { within = omega arith; parts = subst (λ x. LiesIn x s) p.0 j.lies },
      subst (λ y. Q (take n buf) y) p.1 (subst (λ x. Q x (take k (drop n (take filled buf)))) p.0 m),
    )
