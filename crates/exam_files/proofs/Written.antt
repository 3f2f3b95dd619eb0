-- What a sheet leaves.
use Rattle.std.proofs.Common.{◌≡◌, List, ℕ, Option, refl, sym, subst, inl}
use Rattle.std.specs.Prelude.{IfErr, OnErr, OnOk, IsErrAnd, Result, Ok, Err}
use Rattle.std.specs.Io.KnownBytes.{Appends}
use Rattle.exam_types.specs.declared.refusal.Refusal.{Refusal}
use Rattle.exam_types.specs.declared.refusal.Refusal.TheVariants.{NoMemory}
use Rattle.exam_send.specs.Sending.{AppendsPart}
use Rattle.exam_files.specs.Writing.{Writes}
use Rattle.exam_files.specs.declared.sheet_fault.SheetFault.{SheetFault}
use Rattle.exam_files.specs.declared.sheet_fault.SheetFault.TheVariants.{Refused, Write}

-- the text was sent
pub written : {W : Type 0} (contents : W → Option (List ℕ)) (r : Result (Unit {0}) SheetFault) (old new : W)
    (text : List ℕ) (sheet : Result (List ℕ) Refusal) → sheet ≡ Ok text
    → OnOk r (Appends (contents old) (contents new) text) → OnErr r (AppendsPart (contents old) (contents new) text)
    → IfErr r (λ e. e ≡ Write)
    → Writes contents r old new sheet
written contents (Ok done) old new text sheet is ok err fault = (text, is, ok)
written contents (Err (Refused e)) old new text sheet is ok err fault = cc fault
written contents (Err Write) old new text sheet is ok err fault = (text, is, err)

-- there was not enough memory for the text
pub unsent : {W : Type 0} (contents : W → Option (List ℕ)) (w : W) (r : Result (Unit {0}) SheetFault)
    (refusal : Refusal) (text : List ℕ) (sheet : Result (List ℕ) Refusal)
    → IsErrAnd r (λ fault. fault ≡ Refused refusal) → refusal ≡ NoMemory → sheet ≡ Ok text
    → Writes contents r w w sheet
unsent contents w (Ok done) refusal text sheet given memory is = absurd given
unsent contents w (Err fault) refusal text sheet given memory is =
    subst (λ (f : SheetFault). Writes contents (Err f) w w sheet) (sym given) (refl, inl (memory, (text, is)))
