-- What a writer has after some writes.
use Rattle.std.proofs.Common.{◌≡◌, ◌<◌, ◌+◌, ◌-◌, ◌++◌, ◌∙◌, ap, append_assoc, ℕ, List, length, arith, [], take, drop}
use Rattle.std.proofs.Common.{Option, sym, subst, append-nil}
use Rattle.std.specs.Prelude.{Result, Ok, Err, OnOk, OnErr}
use Rattle.std.proofs.lemmas.List.{length-drop, take-append-drop, take_all, length-append}
use Rattle.std.proofs.Math.Seq.{take-add}
use Rattle.std.proofs.KnownBytes.{Appends-kept, Appends-trans}
use Rattle.std.specs.Io.KnownBytes.{Appends, Keeps}
use Rattle.exam_send.specs.Sending.{AppendsPart}

-- `&text[sent..]`, as the check writes it
pub open_range : (sent : ℕ) (text : List ℕ) → take (length text - sent) (drop sent text) ≡ drop sent text
open_range sent text = let h = length-drop sent text in take_all (length text - sent) (drop sent text) (omega arith)

-- one more write took n bytes
pub sends-more : (old mid new : Option (List ℕ)) (text : List ℕ) (sent n : ℕ) → Appends old mid (take sent text)
    → Appends mid new (take n (drop sent text)) → Appends old new (take (sent + n) text)
sends-more old mid new text sent n a b = rw (take-add sent n text) (Appends-trans old mid new _ _ a b)

-- what is left of a text that was not sent whole
remains : (sent : ℕ) (text : List ℕ) → sent < length text → 0 < length (drop sent text)
remains sent text more = let h = length-drop sent text in omega arith

-- it took none
pub sends-none : (old mid new : Option (List ℕ)) (text : List ℕ) (sent : ℕ) → Appends old mid (take sent text)
    → sent < length text → Appends mid new [] → AppendsPart old new text
sends-none old mid new text sent a more b = (
  take sent text,
  drop sent text,
  sym (take-append-drop sent text),
  remains sent text more,
  subst (Appends old new) (append-nil _) (Appends-trans old mid new _ _ a b),
)

-- it failed
pub sends-fails : (old mid new : Option (List ℕ)) (text : List ℕ) (sent : ℕ) → Appends old mid (take sent text)
    → sent < length text → Keeps mid new → AppendsPart old new text
sends-fails old mid new text sent a more b = (
  take sent text,
  drop sent text,
  sym (take-append-drop sent text),
  remains sent text more,
  Appends-kept old mid new _ a b,
)

-- the first bytes went out in part
pub begins-first : (old new : Option (List ℕ)) (these those : List ℕ) → AppendsPart old new these
    → AppendsPart old new (these ++ those)
begins-first old new these those (front, rest, is, more, a) =
    let h = length-append rest those in
    (front, rest ++ those, ap (λ t. t ++ those) is ∙ append_assoc front rest those, omega arith, a)

-- the first went out whole, and the second in part
pub begins-second : (old mid new : Option (List ℕ)) (these those : List ℕ) → Appends old mid these
    → AppendsPart mid new those → AppendsPart old new (these ++ those)
begins-second old mid new these those a (front, rest, is, more, b) = (
  these ++ front,
  rest,
  ap (λ t. these ++ t) is ∙ sym (append_assoc these front rest),
  more,
  Appends-trans old mid new these front a b,
)

-- both went out, or the second in part
pub sends-both : {E : Type 0} (r : Result (Unit {0}) E) (old mid new : Option (List ℕ)) (these those : List ℕ)
    → Appends old mid these → OnOk r (Appends mid new those) → OnOk r (Appends old new (these ++ those))
sends-both (Ok u) old mid new these those a b = Appends-trans old mid new these those a b
sends-both (Err e) old mid new these those a b = tt

pub begins-both : {E : Type 0} (r : Result (Unit {0}) E) (old mid new : Option (List ℕ)) (these those : List ℕ)
    → Appends old mid these → OnErr r (AppendsPart mid new those) → OnErr r (AppendsPart old new (these ++ those))
begins-both (Ok u) old mid new these those a b = tt
begins-both (Err e) old mid new these those a b = begins-second old mid new these those a b

pub begins-unsent : {E : Type 0} (r : Result (Unit {0}) E) (old new : Option (List ℕ)) (these those : List ℕ)
    → AppendsPart old new these → OnErr r (AppendsPart old new (these ++ those))
begins-unsent (Ok u) old new these those a = tt
begins-unsent (Err e) old new these those a = begins-first old new these those a
