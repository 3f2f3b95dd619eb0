-- What a reader gave of a file, and what the file denotes.
use Rattle.std.proofs.Common.{◌≡◌, ◌≤◌, ◌<◌, ℕ, List, [], ◌++◌, length, Bool, true, false, Option, Some, None, refl}
use Rattle.std.proofs.Common.{sym, ap, ◌∙◌, inl, inr, arith, append-nil}
use Rattle.std.specs.Prelude.{◌⊎◌, IfSome, IsErrAnd, OnErr, Ok, Err, Result, nat_lt, ⊤}
use Rattle.std.specs.Io.KnownBytes.{Consumes, IsAtEnd}
use Rattle.std.proofs.lemmas.Bool.{lt-ltb, ltb-true}
use Rattle.std.proofs.lemmas.List.{length-append}
use Rattle.exam_types.specs.declared.refusal.Refusal.{Refusal}
use Rattle.exam_types.specs.declared.refusal.Refusal.TheVariants.{NoMemory, TooMany}
use Rattle.exam_commands.specs.declared.import_row.Kind.{Kind}
use Rattle.exam_commands.specs.Imports.{ImportRows}
use Rattle.exam_files.specs.ImportFiles.{import_of, most_bytes}
use Rattle.exam_send.specs.Given.{Gave}
use Rattle.exam_job.specs.Reading.{Reads, ReadsAll, ReadsImport, most_read}
use Rattle.exam_job.specs.declared.report.JobFault.{JobFault}
use Rattle.exam_job.specs.declared.report.JobFault.TheVariants.{Refused}

-- bytes that say nothing
pub reads : (input rest : Option (List ℕ)) (bytes : List ℕ) → length bytes ≤ most_read → Consumes input rest bytes
    → Reads input rest
reads input rest bytes few c = record { given = bytes; few = few; consumed = c; says = tt; known = nothing input }
  where
    nothing : (o : Option (List ℕ)) → IfSome o (λ xs. ⊤)
    nothing None = tt
    nothing (Some xs) = tt

pub reads_all : (input rest : Option (List ℕ)) (bytes : List ℕ) → ReadsAll input rest bytes → Reads input rest
reads_all input rest bytes all = reads input rest bytes all.few all.consumed

too_many : (kind : Kind) (bytes : List ℕ) → most_bytes < length bytes → import_of kind bytes ≡ Err TooMany
too_many kind bytes long = rw (lt-ltb most_bytes (length bytes) long) refl

-- The bytes that were read denote what the whole file does: where they are too many, so is it.
pub denotes : (kind : Kind) (input rest : Option (List ℕ)) (bytes : List ℕ) (import : Result ImportRows Refusal)
    → ReadsAll input rest bytes → import_of kind bytes ≡ import
    → Gave most_read input rest (λ xs. import_of kind xs ≡ import)
denotes kind input rest bytes import all is =
    record {
      given = bytes;
      few = all.few;
      consumed = all.consumed;
      says = is;
      known = whole input rest all.consumed all.whole;
    }
  where
    test : (ys : List ℕ) (short : Bool) → nat_lt (length bytes) most_read ≡ short
        → (length bytes < most_read → ys ≡ []) → import_of kind (bytes ++ ys) ≡ import
    test ys true e end =
        let none : ys ≡ [] = end (ltb-true (length bytes) most_read e) in
        ap (import_of kind) (ap (λ r. bytes ++ r) none ∙ append-nil bytes) ∙ is
    test ys false e end =
        let long : most_bytes < length bytes = grind (arith, e) in
        let longer : most_bytes < length (bytes ++ ys) = omega (arith, length-append bytes ys) in
        too_many kind (bytes ++ ys) longer ∙ sym (too_many kind bytes long) ∙ is

    whole : (o n : Option (List ℕ)) → Consumes o n bytes → (length bytes < most_read → IsAtEnd n)
        → IfSome o (λ xs. import_of kind xs ≡ import)
    whole None n c end = tt
    whole (Some xs) None c end = absurd c
    whole (Some xs) (Some ys) c end = ap (import_of kind) c ∙ test ys (nat_lt (length bytes) most_read) refl end

pub on_err : {A E : Type 0} (result : Result A E) {P : Type 0} → P → OnErr result P
on_err (Ok a) p = tt
on_err (Err e) p = p

-- a file that was read whole, and then refused
pub import_refused : (kind : Kind) (input rest : Option (List ℕ)) (bytes : List ℕ) (refusal : Refusal)
    (result : Result ImportRows JobFault) → ReadsAll input rest bytes
    → (refusal ≡ NoMemory) ⊎ (import_of kind bytes ≡ Err refusal) → IsErrAnd result (λ fault. fault ≡ Refused refusal)
    → ReadsImport kind input rest result
import_refused kind input rest bytes refusal (Ok rows) all why is = absurd is
import_refused kind input rest bytes refusal (Err fault) all (inl short) is =
    inl (inr (is ∙ ap Refused short), reads_all input rest bytes all)
import_refused kind input rest bytes refusal (Err fault) all (inr says) is =
    inr (refusal, is, denotes kind input rest bytes (Err refusal) all says)
