-- What a read of a record says of the records that are left.
use Rattle.std.proofs.Common.{◌≡◌, ℕ, List, [], ◌∷◌, Option, true, false, refl, sym, ap, ◌∙◌, inl}
use Rattle.std.specs.Prelude.{Bool, IfOk, OnOk, Result, Ok, Err}
use Rattle.std.specs.Result.{MatchResult, is_ok}
use Rattle.csv.specs.Reading.{ReadRecord, Reached, Ready, default_config, reader_state, reader_trim, took_first}
use Rattle.csv.specs.Records.{Row, fields_of}
use Rattle.csv.specs.declared.reader.Reader.{Reader}
use Rattle.csv.specs.declared.reader.Trim.TheVariants as trim
use Rattle.csv.proofs.ReadFacts.{rows-end, rows-more}
use Rattle.exam_files.specs.Left.{Leaves, StepsBy, records_left}
use Rattle.exam_files.proofs.Counts.{left-none, left-some}

pub takes : {R : Type 0} (rem : R → Option (List ℕ)) (a b : Reader R) (row : Row) (rs : List (List (List ℕ)))
    → Leaves rem a rs
    → took_first b ≡ true → ReadRecord rem a b true (fields_of row) → StepsBy rem true row b rs
unfolding Reached
takes rem a b row rs h first r =
    let m = rows-more rem a b (fields_of row) default_config (reader_state a) h.bytes.0 h.bytes.0 [] h.config h.bytes.1
    (refl, refl) r in
    let p = m.2.0 in
    let next = left-some (reader_state a) h.bytes.0 p m.2.1 in
    let rest = records_left (reader_state b) m.0 in
    let same : records_left p.1 p.2 ≡ rest = rw (m.2.3.0, m.2.3.1) refl in
    let all : rs ≡ fields_of row ∷ rest = h.bytes.2 ∙ next ∙ ap (λ x. p.0 ∷ x) same ∙ ap (λ x. x ∷ rest) (sym m.2.2) in
    (rest, all, record { trim = r.3 ∙ h.trim; ready = inl first; config = r.2 ∙ h.config; bytes = (m.0, m.1, refl) })

pub ends : {R : Type 0} (rem : R → Option (List ℕ)) (a b : Reader R) (row : Row) (rs : List (List (List ℕ)))
    → Leaves rem a rs
    → ReadRecord rem a b false (fields_of row) → StepsBy rem false row b rs
ends rem a b row rs h r =
    h.bytes.2 ∙ left-none (reader_state a) h.bytes.0
    (rows-end rem a b (fields_of row) default_config h.bytes.0 h.config h.bytes.1 r)

-- a call's answer, from the clauses of the read
pub step_of : {R E : Type 0} (rem : R → Option (List ℕ)) (a b : Reader R) (row : Row) (q : Result Bool E)
    → (reader_trim a ≡ trim.None → OnOk q (took_first b ≡ true))
    → IfOk q (λ found. reader_trim a ≡ trim.None → Ready a → ReadRecord rem a b found (fields_of row))
    → IfOk q (λ found. (rs : List (List (List ℕ))) → Leaves rem a rs → StepsBy rem found row b rs)
step_of rem a b row (Ok true) first reads = λ rs h. takes rem a b row rs h (first h.trim) (reads h.trim h.ready)
step_of rem a b row (Ok false) first reads = λ rs h. ends rem a b row rs h (reads h.trim h.ready)
step_of rem a b row (Err e) first reads = tt

-- what holds of an answer holds behind `map_err`
pub behind_map_err : {X E F : Type 0} (P : X → Type 0) (Q : E → Type 0) (q : Result X E) (r : Result X F)
    → MatchResult q (λ x. r ≡ Ok x) Q → is_ok r ≡ is_ok q → IfOk q P → IfOk r P
behind_map_err P Q (Ok x) r h same p = rw h p
behind_map_err P Q (Err e) (Ok x) h same p = cc same
behind_map_err P Q (Err e) (Err f) h same p = tt
