-- Rows are the same where `==` says so, and so are keys that compare as equal.
use Rattle.exam_tables.proofs.Words.{appeal_cmp, Appeal, Subject, Status}
use Rattle.std.proofs.Common.{◌≡◌, ℕ, Bool, true, List, Ordering, refl, ap}
use Rattle.std.specs.Cmp.{booleans_Decides}
use Rattle.std.specs.Cmp.Lexicographic.{pointwise}
use Rattle.std.specs.Ordering.{nat_cmp}
use Rattle.std.specs.Prelude.{nat_eq}
use Rattle.std.proofs.Math.Bool.{beq}
use Rattle.std.proofs.lemmas.Bool.{and_parts}
use Rattle.std.proofs.lemmas.Bool.Decides.{Decides-eqb}
use Rattle.std.proofs.lemmas.Map.Lookups.{CmpEqualImpliesEq, exact_unsigned, exact_bytes, exact_pairs}
use Rattle.std.proofs.lemmas.Slice.Eq.{slice_eq-Decides}
use Rattle.exam_types.proofs.FeatureFacts.{same_features-is}
use Rattle.exam_rules.specs.Relations.{code_cmp, pair_cmp, opening_cmp, entry_cmp, seat_cmp}
use Rattle.exam_rules.specs.declared.rows.Session.{Session}
use Rattle.exam_rules.specs.declared.rows.Paper.{Paper}
use Rattle.exam_rules.specs.declared.rows.Hall.{Hall}
use Rattle.exam_rules.specs.declared.rows.Opening.{Opening}
use Rattle.exam_rules.specs.declared.rows.Candidate.{Candidate}
use Rattle.exam_rules.specs.declared.rows.Entry.{Entry}
use Rattle.exam_rules.specs.declared.rows.Arrangement.{Arrangement}
use Rattle.exam_rules.specs.declared.rows.Subject.TheVariants as subject
use Rattle.exam_rules.specs.declared.rows.Status.TheVariants as status
use Rattle.exam_tables.specs.Differences.{AreExact}
use Rattle.exam_rules.specs.contracts.rows.SessionPartialEq.TheImpl as session_eq
use Rattle.exam_rules.specs.contracts.rows.PaperPartialEq.TheImpl as paper_eq
use Rattle.exam_rules.specs.contracts.rows.HallPartialEq.TheImpl as hall_eq
use Rattle.exam_rules.specs.contracts.rows.OpeningPartialEq.TheImpl as opening_eq
use Rattle.exam_rules.specs.contracts.rows.CandidatePartialEq.TheImpl as candidate_eq
use Rattle.exam_rules.specs.contracts.rows.EntryPartialEq.TheImpl as entry_eq
use Rattle.exam_rules.specs.contracts.rows.ArrangementPartialEq.TheImpl as arrangement_eq
use Rattle.exam_rules.specs.contracts.rows.AppealPartialEq.TheImpl as appeal_eq
use Rattle.exam_rules.specs.contracts.rows.SubjectPartialEq.TheImpl as subject_eq
use Rattle.exam_rules.specs.contracts.rows.StatusPartialEq.TheImpl as status_eq

number : (a b : ℕ) → nat_eq a b ≡ true → a ≡ b
number a b = (Decides-eqb a b).0

text : (a b : List ℕ) → pointwise nat_eq a b ≡ true → a ≡ b
text a b = (slice_eq-Decides Decides-eqb a b (pointwise nat_eq a b) refl).0

flag : (a b : Bool) → beq a b ≡ true → a ≡ b
flag a b = (booleans_Decides a b).0

session_same : (x y : Session) → session_eq.ghosts.eq x y ≡ true → x ≡ y
session_same x y h =
    let parts = and_parts _ _ h in
    let a : x.day ≡ y.day = number _ _ parts.0 in
    let b : x.start ≡ y.start = number _ _ parts.1 in
    λ i. record { day = a i; start = b i }

paper_same : (x y : Paper) → paper_eq.ghosts.eq x y ≡ true → x ≡ y
paper_same x y h =
    let h1 = and_parts _ _ h in
    let h2 = and_parts _ _ h1.1 in
    let h3 = and_parts _ _ h2.1 in
    let a : x.title ≡ y.title = text _ _ h1.0 in
    let b : x.session ≡ y.session = text _ _ h2.0 in
    let c : x.minutes ≡ y.minutes = number _ _ h3.0 in
    let d : x.required ≡ y.required = same_features-is _ _ h3.1 in
    λ i. record { title = a i; session = b i; minutes = c i; required = d i }

hall_same : (x y : Hall) → hall_eq.ghosts.eq x y ≡ true → x ≡ y
hall_same x y h =
    let parts = and_parts _ _ h in
    let a : x.title ≡ y.title = text _ _ parts.0 in
    let b : x.features ≡ y.features = same_features-is _ _ parts.1 in
    λ i. record { title = a i; features = b i }

opening_same : (x y : Opening) → opening_eq.ghosts.eq x y ≡ true → x ≡ y
opening_same x y h =
    let h1 = and_parts _ _ h in
    let h2 = and_parts _ _ h1.1 in
    let a : x.desks ≡ y.desks = number _ _ h1.0 in
    let b : x.until ≡ y.until = number _ _ h2.0 in
    let c : x.reserved ≡ y.reserved = flag _ _ h2.1 in
    λ i. record { desks = a i; until = b i; reserved = c i }

candidate_same : (x y : Candidate) → candidate_eq.ghosts.eq x y ≡ true → x ≡ y
candidate_same x y h =
    let parts = and_parts _ _ h in
    let a : x.name ≡ y.name = text _ _ parts.0 in
    let b : x.code ≡ y.code = text _ _ parts.1 in
    λ i. record { name = a i; code = b i }

entry_same : (x y : Entry) → entry_eq.ghosts.eq x y ≡ true → x ≡ y
entry_same x y h = let a : x.live ≡ y.live = flag _ _ h in λ i. record { live = a i }

arrangement_same : (x y : Arrangement) → arrangement_eq.ghosts.eq x y ≡ true → x ≡ y
arrangement_same x y h =
    let parts = and_parts _ _ h in
    let a : x.needs ≡ y.needs = same_features-is _ _ parts.0 in
    let b : x.extra ≡ y.extra = number _ _ parts.1 in
    λ i. record { needs = a i; extra = b i }

subject_same : (x y : Subject) → subject_eq.ghosts.eq x y ≡ true → x ≡ y
subject_same (subject.Hall a) (subject.Hall b) h = ap subject.Hall (text a b h)
subject_same (subject.Clash a) (subject.Clash b) h = ap subject.Clash (text a b h)
subject_same (subject.Arrangement a) (subject.Arrangement b) h = ap subject.Arrangement (arrangement_same a b h)
subject_same x y h = absurd cc

status_same : (x y : Status) → status_eq.ghosts.eq x y ≡ true → x ≡ y
status_same status.Pending status.Pending h = refl
status_same (status.Granted a) (status.Granted b) h = ap status.Granted (text a b h)
status_same (status.Refused a) (status.Refused b) h = ap status.Refused (text a b h)
status_same status.Retracted status.Retracted h = refl
status_same (status.Superseded a) (status.Superseded b) h = ap status.Superseded (text a b h)
status_same x y h = absurd cc

appeal_same : (x y : Appeal) → appeal_eq.ghosts.eq x y ≡ true → x ≡ y
appeal_same x y h =
    let h1 = and_parts _ _ h in
    let h2 = and_parts _ _ h1.1 in
    let h3 = and_parts _ _ h2.1 in
    let h4 = and_parts _ _ h3.1 in
    let a : x.session ≡ y.session = text _ _ h1.0 in
    let b : x.subject ≡ y.subject = subject_same _ _ h2.0 in
    let c : x.reason ≡ y.reason = text _ _ h3.0 in
    let d : x.status ≡ y.status = status_same _ _ h4.0 in
    let e : x.lodged ≡ y.lodged = number _ _ h4.1 in
    λ i. record { session = a i; subject = b i; reason = c i; status = d i; lodged = e i }

pairs_exact : {A B : Type 0} {P : A → A → Ordering} {Q : B → B → Ordering} → CmpEqualImpliesEq P → CmpEqualImpliesEq Q
    → CmpEqualImpliesEq (pair_cmp P Q)
pairs_exact {P} {Q} first second = exact_pairs P Q first second

-- the ten tables
pub sessions_exact : AreExact code_cmp session_eq.ghosts.eq
sessions_exact = record { keys = exact_bytes; values = session_same }

pub papers_exact : AreExact code_cmp paper_eq.ghosts.eq
papers_exact = record { keys = exact_bytes; values = paper_same }

pub halls_exact : AreExact code_cmp hall_eq.ghosts.eq
halls_exact = record { keys = exact_bytes; values = hall_same }

pub openings_exact : AreExact opening_cmp opening_eq.ghosts.eq
openings_exact = record { keys = pairs_exact exact_bytes exact_bytes; values = opening_same }

pub candidates_exact : AreExact nat_cmp candidate_eq.ghosts.eq
candidates_exact = record { keys = exact_unsigned; values = candidate_same }

pub entries_exact : AreExact entry_cmp entry_eq.ghosts.eq
entries_exact = record { keys = pairs_exact exact_unsigned exact_bytes; values = entry_same }

pub arrangements_exact : AreExact nat_cmp arrangement_eq.ghosts.eq
arrangements_exact = record { keys = exact_unsigned; values = arrangement_same }

pub appeals_exact : AreExact appeal_cmp appeal_eq.ghosts.eq
appeals_exact = record { keys = pairs_exact exact_unsigned exact_bytes; values = appeal_same }

pub standing_exact : AreExact appeal_cmp (λ (x y : Unit {0}). true)
standing_exact = record { keys = pairs_exact exact_unsigned exact_bytes; values = λ x y h. refl }

pub seats_exact : AreExact seat_cmp (pointwise nat_eq)
seats_exact = record { keys = pairs_exact exact_bytes exact_unsigned; values = text }
