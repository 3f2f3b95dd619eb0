-- An appeal that was stored stays stored, and asks for the same. One that was retracted stays retracted, and one that
-- was decided stays decided, unless a later grant supersedes it. So whatever comes after, the same lodging, retraction
-- and decision change nothing. And the first two move nobody.
use Rattle.exam_laws.proofs.Words.{is_at, Equal-is, option_map_or, option_or, nat_cmp, and_from, not-false, Refusal}
use Rattle.exam_laws.proofs.Words.{Appeal, Status, Subject, Code, Relations, appeal_cmp, has_row, put_row, row_at}
use Rattle.exam_laws.proofs.Words.{same_code, seat_cmp, is_marked, plan_of, seating, same_code_itself, appeals_exact}
use Rattle.exam_laws.proofs.Words.{appeals_total, put_found, same_rows, seats_exact, seats_total, Command, Decision}
use Rattle.exam_laws.proofs.Words.{Lodging, Outcome, Reply, appeal_at, bears_mark, decided, is_open, is_retracted}
use Rattle.exam_laws.proofs.Words.{stored_state, superseded, moved, reply_to, decision_checks, decision_refusal}
use Rattle.exam_laws.proofs.Words.{gives_way, giving_way, grant_checks, is_made, is_too_late, not_arrangement}
use Rattle.exam_laws.proofs.Words.{open_checks, with_decided, with_decision, with_outcome, with_superseded}
use Rattle.exam_laws.proofs.Words.{first_refusal, unless, with_live, with_rows, without_opening, early_refusal}
use Rattle.exam_laws.proofs.Words.{facts_made, IsGood, within_limits, IsInOrder, State, MayStep, Run, SameSeating, Step}
use Rattle.exam_laws.proofs.Words.{StepTo, change, passed, there}
use Rattle.std.proofs.Common.{◌≡◌, ℕ, ◌&&◌, not, Bool, true, false, cond, List, [], ◌∷◌, map, Option, None, Some}
use Rattle.std.proofs.Common.{Result, Ok, Err, is_none, arith, eq-eqb, refl, ap, sym, subst, ◌∙◌, ◌⊎◌, inl, inr}
use Rattle.exam_types.proofs.FeatureFacts.{same_features-itself}
use Rattle.exam_types.specs.declared.refusal.Refusal.TheVariants as refusal
use Rattle.exam_rules.specs.declared.rows.Status.TheVariants as status
use Rattle.exam_rules.specs.declared.rows.Subject.TheVariants as subject
use Rattle.exam_commands.proofs.KeyedRows.{put_stays}
use Rattle.exam_commands.specs.declared.command.Command.TheVariants as command
use Rattle.exam_commands.specs.declared.command.Outcome.TheVariants as outcome
use Rattle.exam_commands.specs.declared.command.Reply.TheVariants as reply
use Rattle.exam_commands.specs.Appeals.{is_decided, same_subject, state_of}
use Rattle.exam_commands.specs.declared.command.AppealState.TheVariants as state
use Rattle.exam_commands.specs.Lodgings as spec
use Rattle.exam_laws.proofs.Accepted.{change_made}
use Rattle.exam_laws.proofs.ByCase.{after_decision, after_lodging, after_retraction, was_open}
use Rattle.exam_laws.proofs.AppealSteps.{lodging_settled, retraction_settled}
use Rattle.exam_laws.proofs.DecidedFacts.{given_keyed, marked_as_made, marked_still}
use Rattle.exam_commands.proofs.Referring.{import_appeals, import_candidates, import_standing}

-- ---- the later states of an appeal

-- decided so, with this answer and with the mark or without it, or superseded since
abbrev IsSettled : Outcome → List ℕ → Bool → Status → Type 0
IsSettled outcome answer marked st = (is_decided outcome answer marked st ≡ true) ⊎ (state_of st ≡ state.Superseded)

-- it asks the same, and one that is retracted, decided or superseded stays so
record Continues (a b : Appeal) : Type 0 where
  session : b.session ≡ a.session
  subject : b.subject ≡ a.subject
  reason : b.reason ≡ a.reason
  retracted : a.status ≡ status.Retracted → b.status ≡ status.Retracted
  decided : (m : Outcome) (answer : List ℕ) (marked : Bool) → is_decided m answer marked a.status ≡ true
      → IsSettled m answer marked b.status
  closed : is_open a.status ≡ false → is_open b.status ≡ false
  superseded : state_of a.status ≡ state.Superseded → state_of b.status ≡ state.Superseded

continues_itself : (a : Appeal) → Continues a a
continues_itself a =
    record {
      session = refl;
      subject = refl;
      reason = refl;
      retracted = λ is. is;
      decided = λ m answer marked is. inl is;
      closed = λ is. is;
      superseded = λ is. is;
    }

settled_on : (a b : Appeal) → Continues a b → (m : Outcome) (answer : List ℕ) (marked : Bool)
    → IsSettled m answer marked a.status → IsSettled m answer marked b.status
settled_on a b on m answer marked (inl is) = on.decided m answer marked is
settled_on a b on m answer marked (inr is) = inr (on.superseded is)

-- what is open is neither decided nor superseded
open_undecided : {A : Type 0} (m : Outcome) (answer : List ℕ) (marked : Bool) (st : Status) → is_open st ≡ true
    → is_decided m answer marked st ≡ true → A
open_undecided m answer marked st open_yet is = absurd (grind arith)

open_not_superseded : {A : Type 0} (st : Status) → is_open st ≡ true → state_of st ≡ state.Superseded → A
open_not_superseded st open_yet is = absurd (grind arith)

-- so a stored appeal of this kind is not open
settled_closed : (m : Outcome) (answer : List ℕ) (marked : Bool) (st : Status) → IsSettled m answer marked st
    → is_open st ≡ false
settled_closed m answer marked st is_settled = grind arith

-- an appeal among these at the key, which continues this one
record GoesOn (rows : List ((ℕ × Code) × Appeal)) (k : ℕ × Code) (a : Appeal) : Type 0 where
  then : Appeal
  stored : row_at appeal_cmp rows k ≡ Some then
  continues : Continues a then

-- every candidate and every appeal is there still, and one that is decided keeps its mark, or that it has none
record Carries (r t : Relations) : Type 0 where
  candidates : (c : ℕ) → has_row nat_cmp r.candidates c ≡ true → has_row nat_cmp t.candidates c ≡ true
  appeals : (k : ℕ × Code) (a : Appeal) → row_at appeal_cmp r.appeals k ≡ Some a → GoesOn t.appeals k a
  marks : (k : ℕ × Code) (a : Appeal) → row_at appeal_cmp r.appeals k ≡ Some a → is_open a.status ≡ false
      → is_marked t k ≡ is_marked r k

carries_itself : (r : Relations) → Carries r r
carries_itself r = record {
  candidates = λ c has. has;
  appeals = λ k a at. record { then = a; stored = at; continues = continues_itself a };
  marks = λ k a at closed. refl;
}

carries_both : (r t u : Relations) → Carries r t → Carries t u → Carries r u
carries_both r t u one two = record {
  candidates = λ c has. two.candidates c (one.candidates c has);
  appeals = λ k a at.
      let first = one.appeals k a at in
      let second = two.appeals k first.then first.stored in
      record {
        then = second.then;
        stored = second.stored;
        continues = record {
          session = second.continues.session ∙ first.continues.session;
          subject = second.continues.subject ∙ first.continues.subject;
          reason = second.continues.reason ∙ first.continues.reason;
          retracted = λ is. second.continues.retracted (first.continues.retracted is);
          decided = λ m answer marked is. settled_on first.then second.then second.continues m answer marked
              (first.continues.decided m answer marked is);
          closed = λ is. second.continues.closed (first.continues.closed is);
          superseded = λ is. second.continues.superseded (first.continues.superseded is);
        };
      };
  marks = λ k a at closed.
      let first = one.appeals k a at in
      two.marks k first.then first.stored (first.continues.closed closed) ∙ one.marks k a at closed;
}

carries_put : (r : Relations) (k : ℕ × Code) (new : Appeal)
    → ((a : Appeal) → row_at appeal_cmp r.appeals k ≡ Some a → Continues a new)
    → Carries r (record r { appeals = put_row appeal_cmp r.appeals k new })
carries_put r k new continues =
    record {
      candidates = λ c has. has;
      appeals = λ q a at. inner q a at (is_at (appeal_cmp k) q) refl;
      marks = λ q a at closed. refl;
    }
  where
    inner : (q : ℕ × Code) (a : Appeal) → row_at appeal_cmp r.appeals q ≡ Some a → (b : Bool)
        → is_at (appeal_cmp k) q ≡ b → GoesOn (put_row appeal_cmp r.appeals k new) q a
    inner q a at true here =
        let same : k ≡ q = appeals_exact k q ((Equal-is (appeal_cmp k q)).0 here) in
        record {
          then = new;
          stored = ap (λ z. row_at appeal_cmp (put_row appeal_cmp r.appeals k new) z) (sym same)
              ∙ put_found appeal_cmp appeals_total r.appeals k new;
          continues = continues a (ap (λ z. row_at appeal_cmp r.appeals z) same ∙ at);
        }
    inner q a at false away = record {
      then = a;
      stored = put_stays appeal_cmp appeals_total r.appeals k q new a
          (λ here. absurd cc) at;
      continues = continues_itself a;
    }

-- ---- by a command

carries_import : (r t : Relations)
    → ((c : ℕ) → has_row nat_cmp r.candidates c ≡ true → has_row nat_cmp t.candidates c ≡ true) → t.appeals ≡ r.appeals
    → t.standing ≡ r.standing → Carries r t
carries_import r t grows same marked = record {
  candidates = grows;
  appeals = λ k a at. record
      { then = a; stored = ap (λ rows. row_at appeal_cmp rows k) same ∙ at; continues = continues_itself a };
  marks = λ k a at closed. ap (λ marks. has_row appeal_cmp marks k) marked;
}

lodging_carries : (r : Relations) (day : ℕ) (l : Lodging) → Carries r (spec.with_lodging r day l)
lodging_carries r day l =
    after_lodging r (Carries r) day l (λ none. carries_put r (l.number, l.reference) _ (λ a at. absurd cc))
    (λ a at. carries_itself r)

retraction_carries : (r : Relations) (c : ℕ) (reference : Code) → spec.retraction_refusal r c reference ≡ None
    → Carries r (spec.with_retraction r c reference)
retraction_carries r c reference ok =
    after_retraction r (Carries r) c reference ok (λ a at was. carries_itself r)
    (λ a at open_yet. carries_put r (c, reference) (record a { status = status.Retracted }) (λ b is.
    let same : a ≡ b = cc in
    record {
      session = ap (λ (x : Appeal). x.session) same;
      subject = ap (λ (x : Appeal). x.subject) same;
      reason = ap (λ (x : Appeal). x.reason) same;
      retracted = λ before. refl;
      decided = λ m answer marked is. open_undecided m answer marked a.status open_yet
          (ap (λ (x : Appeal). is_decided m answer marked x.status) same ∙ is);
      closed = λ is. refl;
      superseded = λ is. open_not_superseded a.status open_yet (ap (λ (x : Appeal). state_of x.status) same ∙ is);
    }))

superseding : (m : Outcome) (answer : List ℕ) (marked : Bool) (st : Status) → is_decided m answer marked st ≡ true
    → IsSettled m answer marked (superseded st)
superseding m answer marked st is = grind arith

superseded_closed : (st : Status) → is_open st ≡ false → is_open (superseded st) ≡ false
superseded_closed st is = grind arith

superseded_stays : (st : Status) → state_of st ≡ state.Superseded → state_of (superseded st) ≡ state.Superseded
superseded_stays st is = grind arith

-- a superseded appeal asks for the same, and a grant does not make it open
superseded_goes_on : (c : ℕ) (s : Code) (asked : Subject) (row : (ℕ × Code) × Appeal)
    → Continues row.1 (giving_way c s asked row).1
superseded_goes_on c s asked row = inner (gives_way c s asked row)
  where
    inner : (b : Bool) → Continues row.1 (cond b (row.0, record row.1 { status = superseded row.1.status }) row).1
    inner true = record {
      session = refl;
      subject = refl;
      reason = refl;
      retracted = λ is. ap superseded is;
      decided = λ m answer marked is. superseding m answer marked row.1.status is;
      closed = λ is. superseded_closed row.1.status is;
      superseded = λ is. superseded_stays row.1.status is;
    }
    inner false = continues_itself row.1

-- what an appeal at the key has become, among these
mapped_goes_on : (c : ℕ) (s : Code) (asked : Subject) (rows : List ((ℕ × Code) × Appeal)) (k : ℕ × Code) (a : Appeal)
    → row_at appeal_cmp rows k ≡ Some a → GoesOn (map (giving_way c s asked) rows) k a
mapped_goes_on c s asked [] k a at = absurd cc
mapped_goes_on c s asked (d ∷ ds) k a at = inner (is_at (appeal_cmp k) d.0) refl at (mapped_goes_on c s asked ds k a)
  where
    head : (b : Bool) → is_at (appeal_cmp k) d.0 ≡ b
        → row_at appeal_cmp (map (giving_way c s asked) (d ∷ ds)) k
        ≡ cond b (Some (giving_way c s asked d).1) (row_at appeal_cmp (map (giving_way c s asked) ds) k)
    head b is = ap (λ q. cond (is_at (appeal_cmp k) q) (Some (giving_way c s asked d).1)
        (row_at appeal_cmp (map (giving_way c s asked) ds) k)) (given_keyed c s asked d)
        ∙ ap (λ t. cond t (Some (giving_way c s asked d).1) (row_at appeal_cmp (map (giving_way c s asked) ds) k)) is

    inner : (b : Bool) → is_at (appeal_cmp k) d.0 ≡ b → cond b (Some d.1) (row_at appeal_cmp ds k) ≡ Some a
        → (row_at appeal_cmp ds k ≡ Some a → GoesOn (map (giving_way c s asked) ds) k a)
        → GoesOn (map (giving_way c s asked) (d ∷ ds)) k a
    inner true here is rest =
        let one : d.1 ≡ a = cc in
        record {
          then = (giving_way c s asked d).1;
          stored = head true here;
          continues = subst (λ x. Continues x (giving_way c s asked d).1) one (superseded_goes_on c s asked d);
        }
    inner false away is rest = let later =
        rest is in record { then = later.then; stored = head false away ∙ later.stored; continues = later.continues }

rows_go_on : (c : ℕ) (a : Appeal) (o : Outcome) (rows : List ((ℕ × Code) × Appeal)) (k : ℕ × Code) (x : Appeal)
    → row_at appeal_cmp rows k ≡ Some x → GoesOn (with_superseded c a o rows) k x
rows_go_on c a outcome.Refuse rows k x at = record { then = x; stored = at; continues = continues_itself x }
rows_go_on c a _ rows k x at = mapped_goes_on c a.session a.subject rows k x at

outcome_carries : (r : Relations) (d : Decision) (a : Appeal) → appeal_at r d.number d.reference ≡ Some a
    → is_open a.status ≡ true → Carries r (with_outcome r d a)
outcome_carries r d a stored open_yet = record {
  candidates = λ c has. has;
  appeals = λ q x at. inner q x at (is_at (appeal_cmp (d.number, d.reference)) q) refl;
  marks = λ q x at closed. marked_still r d q (λ same. cc);
}
  where
    decided_closed : (o : Outcome) → is_open (decided o d.answer) ≡ false
    decided_closed o = grind arith

    inner : (q : ℕ × Code) (x : Appeal) → row_at appeal_cmp r.appeals q ≡ Some x → (b : Bool)
        → is_at (appeal_cmp (d.number, d.reference)) q ≡ b → GoesOn (with_outcome r d a).appeals q x
    inner q x at true here =
        let same : (d.number, d.reference) ≡ q =
        appeals_exact (d.number, d.reference) q ((Equal-is (appeal_cmp (d.number, d.reference) q)).0 here) in
        let one : a ≡ x = cc in
        let new : Appeal = record a { status = decided d.outcome d.answer } in
        record {
          then = new;
          stored = ap (λ z. row_at appeal_cmp
              (put_row appeal_cmp (with_superseded d.number a d.outcome r.appeals) (d.number, d.reference) new) z)
              (sym same)
              ∙ put_found appeal_cmp appeals_total (with_superseded d.number a d.outcome r.appeals)
              (d.number, d.reference) new;
          continues = subst (λ z. Continues z new) one
              (record {
                session = refl;
                subject = refl;
                reason = refl;
                retracted = λ is. absurd cc;
                decided = λ m answer marked is. open_undecided m answer marked a.status open_yet is;
                closed = λ is. decided_closed d.outcome;
                superseded = λ is. open_not_superseded a.status open_yet is;
              });
        }
    inner q x at false away =
        let on = rows_go_on d.number a d.outcome r.appeals q x at in
        record {
          then = on.then;
          stored = put_stays appeal_cmp appeals_total (with_superseded d.number a d.outcome r.appeals)
              (d.number, d.reference) q (record a { status = decided d.outcome d.answer }) on.then
              (λ here. absurd cc) on.stored;
          continues = on.continues;
        }

decision_carries : (r : Relations) (day : ℕ) (d : Decision) → decision_refusal r day d ≡ None
    → Carries r (with_decision r d)
decision_carries r day d ok =
    after_decision r (Carries r) day d ok (λ a at made. carries_itself r)
    (λ a at passed. outcome_carries r d a at (was_open r day d a passed))

made_carries : (done : Command) (day : ℕ) (before : State) → early_refusal done day before ≡ None
    → Carries before.relations (facts_made done day before)
made_carries (command.Import import) day before ok =
    carries_import before.relations (with_rows before.relations import.rows)
    (import_candidates before.relations import.rows) (import_appeals before.relations import.rows)
    (import_standing before.relations import.rows)
made_carries (command.Withdraw c p) day before ok =
    carries_import before.relations (with_live before.relations c p false) (λ d has. has) refl refl
made_carries (command.Reinstate c p) day before ok =
    carries_import before.relations (with_live before.relations c p true) (λ d has. has) refl refl
made_carries (command.CloseHall s h) day before ok =
    carries_import before.relations (without_opening before.relations s h) (λ d has. has) refl refl
made_carries (command.Lodge l) day before ok = lodging_carries before.relations day l
made_carries (command.Retract c reference) day before ok = retraction_carries before.relations c reference ok
made_carries (command.Decide d) day before ok = decision_carries before.relations day d ok

step_carries : (done : Command) (day : ℕ) (before : State) (answer : Result Reply Refusal) (after : State)
    → Step done day before answer after → Carries before.relations after.relations
step_carries done day before answer after step = inner (change done day before) refl step
  where
    inner : (o : Result Relations Refusal) → change done day before ≡ o → StepTo done before answer after o
        → Carries before.relations after.relations
    inner (Ok t) is to =
        let accepted = change_made done day before t is in
        subst (Carries before.relations) (sym (to.0 ∙ accepted.0)) (made_carries done day before accepted.1)
    inner (Err e) is to =
        subst (λ (x : State). Carries before.relations x.relations) (sym to.1) (carries_itself before.relations)

run_carries : (done : List (Command × ℕ)) (before : State) (replies : List (Result Reply Refusal)) (after : State)
    → Run done before replies after → Carries before.relations after.relations
run_carries [] before [] after same =
    subst (λ (x : State). Carries before.relations x.relations) (sym same) (carries_itself before.relations)
run_carries [] before (q ∷ replies) after never = absurd never
run_carries (x ∷ done) before [] after never = absurd never
run_carries (x ∷ done) before (q ∷ replies) after run =
    carries_both before.relations run.0.relations after.relations (first run.1)
    (run_carries done run.0 replies after run.2)
  where
    first : {mid : State} → MayStep x.0 x.1 before q mid → Carries before.relations mid.relations
    first {mid} (inl memory) =
        subst (λ (y : State). Carries before.relations y.relations) (sym memory.1) (carries_itself before.relations)
    first {mid} (inr step) = step_carries x.0 x.1 before q mid step

-- ---- steps that change nothing

pub new_facts : (done : Command) (day : ℕ) (before : State) (answer : Reply) (after : State)
    → Step done day before (Ok answer) after → change done day before ≡ Ok after.relations
new_facts done day before answer after step = inner (change done day before) refl step
  where
    inner : (o : Result Relations Refusal) → change done day before ≡ o → StepTo done before (Ok answer) after o
        → o ≡ Ok after.relations
    inner (Ok t) is to = ap Ok (sym to.0)
    inner (Err e) is to = absurd cc

-- an accepted command passed the checks, and these are the facts that it makes
pub step_made : (done : Command) (day : ℕ) (before : State) (answer : Reply) (after : State)
    → Step done day before (Ok answer) after
    → (after.relations ≡ facts_made done day before) × (early_refusal done day before ≡ None)
step_made done day before answer after step =
    change_made done day before after.relations (new_facts done day before answer after step)

pub same_office : (done : Command) (before : State) (answer : Result Reply Refusal) (after : State) → IsInOrder before
    → IsInOrder after → StepTo done before answer after (Ok before.relations) → after ≡ before
same_office done before answer after up up_after to =
    let same : after.seats ≡ before.seats =
    same_rows seat_cmp seats_total seats_exact after.seats before.seats up_after.seats up.seats
    (λ q. (to.1 q.0).untouched (record { members = refl; fits = λ c h. refl; desks = λ h. refl }) q.1) in
    λ i. record { relations = to.0 i; seats = same i }

-- ---- lodging once more

subject_itself : (asked : Subject) → same_subject asked asked ≡ true
subject_itself (subject.Hall h) = same_code_itself h
subject_itself (subject.Clash p) = same_code_itself p
subject_itself (subject.Arrangement a) = and_from _ _ (same_features-itself a.needs) (eq-eqb a.extra a.extra refl)

record IsLodged (r : Relations) (l : Lodging) : Type 0 where
  candidate : has_row nat_cmp r.candidates l.number ≡ true
  appeal : Appeal
  stored : appeal_at r l.number l.reference ≡ Some appeal
  same : spec.is_same_lodging l appeal ≡ true

module _ (l : Lodging) where
  lodged_still : (r t : Relations) → Carries r t → IsLodged r l → IsLodged t l
  lodged_still r t carries is =
      let on = carries.appeals (l.number, l.reference) is.appeal is.stored in
      record {
        candidate = carries.candidates l.number is.candidate;
        appeal = on.then;
        stored = on.stored;
        same = ap (λ s. same_code l.session s
            && (same_subject l.subject on.then.subject && same_code l.reason on.then.reason)) on.continues.session
            ∙ ap (λ s. same_code l.session is.appeal.session
            && (same_subject l.subject s && same_code l.reason on.then.reason)) on.continues.subject
            ∙ ap (λ s. same_code l.session is.appeal.session
            && (same_subject l.subject is.appeal.subject && same_code l.reason s)) on.continues.reason
            ∙ is.same;
      }

  lodged_then : (day : ℕ) (before : State) → spec.lodging_refusal_but_limits before.relations before.seats day l ≡ None
      → IsLodged (spec.with_lodging before.relations day l) l
  lodged_then day before ok =
      let r = before.relations in
      let checks = spec.lodging_checks r before.seats day l in
      let first = passed (not (has_row nat_cmp r.candidates l.number)) refusal.UnknownCandidate
      (checks (appeal_at r l.number l.reference)) ok in
      let known = not-false (has_row nat_cmp r.candidates l.number) first.0 in
      after_lodging r (λ t. IsLodged t l) day l
      (λ none. record {
        candidate = known;
        appeal = _;
        stored = put_found appeal_cmp appeals_total r.appeals (l.number, l.reference) _;
        same = and_from _ _ (same_code_itself l.session)
            (and_from _ _ (subject_itself l.subject) (same_code_itself l.reason));
      })
      (λ a at. record {
        candidate = known;
        appeal = a;
        stored = at;
        same = there (spec.is_same_lodging l a) refusal.RefTaken []
            (ap (λ o. first_refusal (checks o)) (sym at) ∙ first.1);
      })

  lodged_again : (day : ℕ) (late : State) → IsLodged late.relations l
      → change (command.Lodge l) day late ≡ Ok late.relations
  lodged_again day late is =
      let r = late.relations in
      let limit = first_refusal (spec.one_too_many r day l ∷ []) in
      ap (λ b. unless (option_or
      (cond (not b) (Some refusal.UnknownCandidate)
      (first_refusal (spec.lodging_checks r late.seats day l (appeal_at r l.number l.reference)))) limit)
      (spec.with_lodging r day l)) is.candidate
      ∙ ap (λ o. unless (option_or (first_refusal (spec.lodging_checks r late.seats day l o)) limit)
      (spec.with_lodging r day l)) is.stored
      ∙ ap (λ b. unless (option_or (cond (not b) (Some refusal.RefTaken) None) limit) (spec.with_lodging r day l))
      is.same
      ∙ by_stored r (appeal_at r l.number l.reference) is.stored
    where
      by_stored : (r : Relations) (o : Option Appeal) → o ≡ Some is.appeal
          → unless (cond (is_none o && not (within_limits (spec.with_appeal r day l))) (Some refusal.TooMany) None)
          (cond (is_none o) (spec.with_appeal r day l) r) ≡ Ok r
      by_stored r o at = ap
          (λ o. unless (cond (is_none o && not (within_limits (spec.with_appeal r day l))) (Some refusal.TooMany) None)
          (cond (is_none o) (spec.with_appeal r day l) r)) at

pub repeated_lodging : (l : Lodging) (day later : ℕ) (before mid late after : State) (first : Reply)
    (done : List (Command × ℕ)) (replies : List (Result Reply Refusal)) (second : Result Reply Refusal)
    → IsInOrder late → IsInOrder after → Step (command.Lodge l) day before (Ok first) mid → Run done mid replies late
    → Step (command.Lodge l) later late second after
    → (second ≡ Ok (reply.Lodged (stored_state late.relations l.number l.reference))) × (after ≡ late)
repeated_lodging l day later before mid late after first done replies second up up_after one run two =
    let accepted = step_made (command.Lodge l) day before first mid one in
    let there : IsLodged mid.relations l =
    subst (λ t. IsLodged t l) (sym accepted.0) (lodged_then l day before accepted.1) in
    let still = lodged_still l mid.relations late.relations (run_carries done mid replies late run) there in
    let to : StepTo (command.Lodge l) late second after (Ok late.relations) =
    subst (StepTo (command.Lodge l) late second after) (lodged_again l later late still) two in (
      to.2 ∙ ap (λ (r : Relations). Ok (reply.Lodged (stored_state r l.number l.reference))) to.0,
      same_office (command.Lodge l) late second after up up_after to,
    )

-- ---- retracting once more

record IsRetractedAt (r : Relations) (c : ℕ) (reference : Code) : Type 0 where
  appeal : Appeal
  stored : appeal_at r c reference ≡ Some appeal
  retracted : appeal.status ≡ status.Retracted

retracted_is : (st : Status) → is_retracted st ≡ true → st ≡ status.Retracted
retracted_is st is = grind arith

module _ (c : ℕ) (reference : Code) where
  retracted_still : (r t : Relations) → Carries r t → IsRetractedAt r c reference → IsRetractedAt t c reference
  retracted_still r t carries is =
      let on = carries.appeals (c, reference) is.appeal is.stored in
      record { appeal = on.then; stored = on.stored; retracted = on.continues.retracted is.retracted }

  retracted_then : (r : Relations) → spec.retraction_refusal r c reference ≡ None
      → IsRetractedAt (spec.with_retraction r c reference) c reference
  retracted_then r ok =
      after_retraction r (λ t. IsRetractedAt t c reference) c reference ok
      (λ a at was. record { appeal = a; stored = at; retracted = retracted_is a.status was })
      (λ a at open_yet. record {
        appeal = _;
        stored = put_found appeal_cmp appeals_total r.appeals (c, reference) (record a { status = status.Retracted });
        retracted = refl;
      })

  retracted_again : (day : ℕ) (late : State) → IsRetractedAt late.relations c reference
      → change (command.Retract c reference) day late ≡ Ok late.relations
  retracted_again day late is =
      let r = late.relations in
      ap (λ o. unless (first_refusal (spec.retraction_checks o)) (spec.with_retracted r c reference o)) is.stored
      ∙ ap (λ st. unless (cond (not (is_open st) && not (is_retracted st)) (Some refusal.NotOpenAppeal) None)
      (cond (is_retracted st) r (spec.with_retracted_appeal r c reference is.appeal))) is.retracted

pub repeated_retraction : (c : ℕ) (reference : Code) (day later : ℕ) (before mid late after : State) (first : Reply)
    (done : List (Command × ℕ)) (replies : List (Result Reply Refusal)) (second : Result Reply Refusal)
    → IsInOrder late → IsInOrder after → Step (command.Retract c reference) day before (Ok first) mid
    → Run done mid replies late → Step (command.Retract c reference) later late second after
    → (second ≡ Ok reply.Retracted) × (after ≡ late)
repeated_retraction c reference day later before mid late after first done replies second up up_after one run two =
    let accepted = step_made (command.Retract c reference) day before first mid one in
    let there : IsRetractedAt mid.relations c reference =
    subst (λ t. IsRetractedAt t c reference) (sym accepted.0)
    (retracted_then c reference before.relations accepted.1) in
    let still = retracted_still c reference mid.relations late.relations
    (run_carries done mid replies late run) there in
    let to : StepTo (command.Retract c reference) late second after (Ok late.relations) =
    subst (StepTo (command.Retract c reference) late second after)
    (retracted_again c reference later late still) two in
    (to.2, same_office (command.Retract c reference) late second after up up_after to)

-- ---- deciding once more

record IsDecidedAt (r : Relations) (d : Decision) : Type 0 where
  appeal : Appeal
  stored : appeal_at r d.number d.reference ≡ Some appeal
  is_settled : IsSettled d.outcome d.answer (is_marked r (d.number, d.reference)) appeal.status

decided_itself : (m : Outcome) (answer : List ℕ) → is_decided m answer (bears_mark m) (decided m answer) ≡ true
decided_itself outcome.Grant answer = same_code_itself answer
decided_itself _ answer = same_code_itself answer

-- what a superseded appeal answers
over_refused : (r : Relations) (d : Decision) (day : ℕ) (a : Appeal) → state_of a.status ≡ state.Superseded
    → first_refusal (decision_checks r day d (Some a)) ≡ Some refusal.NotOpenAppeal
over_refused r d day a is =
    ap (λ b. first_refusal (cond b [] (open_checks r day d a)))
    (never d.outcome d.answer (is_marked r (d.number, d.reference)) a.status is)
    ∙ ap (λ b. cond (not b) (Some refusal.NotOpenAppeal) (first_refusal rest)) (closed a.status is)
  where
    rest : List (Bool × Refusal)
    rest = (is_too_late r a.session day, refusal.TooLate) ∷ not_arrangement a d.outcome
        ∷ grant_checks r d.number a d.outcome

    never : (o : Outcome) (answer : List ℕ) (marked : Bool) (st : Status) → state_of st ≡ state.Superseded
        → is_decided o answer marked st ≡ false
    never o answer marked st is = grind arith

    closed : (st : Status) → state_of st ≡ state.Superseded → is_open st ≡ false
    closed st is = grind arith

module _ (d : Decision) where
  decided_still : (r t : Relations) → Carries r t → IsDecidedAt r d → IsDecidedAt t d
  decided_still r t carries is =
      let on = carries.appeals (d.number, d.reference) is.appeal is.stored in
      let k : ℕ × Code = (d.number, d.reference) in
      let same : is_marked t k ≡ is_marked r k =
      carries.marks k is.appeal is.stored
      (settled_closed d.outcome d.answer (is_marked r k) is.appeal.status is.is_settled) in
      record {
        appeal = on.then;
        stored = on.stored;
        is_settled = subst (λ marked. IsSettled d.outcome d.answer marked on.then.status) (sym same)
            (settled_on is.appeal on.then on.continues d.outcome d.answer (is_marked r k) is.is_settled);
      }

  decided_then : (r : Relations) (day : ℕ) → decision_refusal r day d ≡ None → IsDecidedAt (with_decision r d) d
  decided_then r day ok =
      after_decision r (λ t. IsDecidedAt t d) day d ok
      (λ a at made. record { appeal = a; stored = at; is_settled = inl made })
      (λ a at passed. record {
        appeal = _;
        stored = put_found appeal_cmp appeals_total (with_superseded d.number a d.outcome r.appeals)
            (d.number, d.reference) (record a { status = decided d.outcome d.answer });
        is_settled = inl (subst (λ marked. is_decided d.outcome d.answer marked (decided d.outcome d.answer) ≡ true)
            (sym (marked_as_made r d a)) (decided_itself d.outcome d.answer));
      })

  -- decided so still
  again_unchanged : (day : ℕ) (late : State) (a : Appeal) → appeal_at late.relations d.number d.reference ≡ Some a
      → is_made late.relations d a ≡ true → change (command.Decide d) day late ≡ Ok late.relations
  again_unchanged day late a at is =
      let r = late.relations in
      ap (λ o. unless (first_refusal (decision_checks r day d o)) (with_decided r d o)) at
      ∙ ap (λ b. unless (first_refusal (cond b [] (open_checks r day d a))) (cond b r (with_outcome r d a))) is

  -- superseded since
  again_refused : (day : ℕ) (late : State) (a : Appeal) → appeal_at late.relations d.number d.reference ≡ Some a
      → state_of a.status ≡ state.Superseded → change (command.Decide d) day late ≡ Err refusal.NotOpenAppeal
  again_refused day late a at over =
      ap (λ o. unless (first_refusal (decision_checks late.relations day d o)) (with_decision late.relations d)) at
      ∙ ap (λ o. unless o (with_decision late.relations d)) (over_refused late.relations d day a over)

pub repeated_decision : (d : Decision) (day later : ℕ) (before mid late after : State) (first : Reply)
    (done : List (Command × ℕ)) (replies : List (Result Reply Refusal)) (second : Result Reply Refusal)
    → IsInOrder late → IsInOrder after → Step (command.Decide d) day before (Ok first) mid → Run done mid replies late
    → Step (command.Decide d) later late second after
    → ((second ≡ Ok reply.Unchanged)
    ⊎ ((stored_state late.relations d.number d.reference ≡ state.Superseded)
    × (second ≡ Err refusal.NotOpenAppeal))) × (after ≡ late)
repeated_decision d day later before mid late after first done replies second up up_after one run two =
    let accepted = step_made (command.Decide d) day before first mid one in
    let there : IsDecidedAt mid.relations d =
    subst (λ t. IsDecidedAt t d) (sym accepted.0) (decided_then d before.relations day accepted.1) in
    let still = decided_still d mid.relations late.relations (run_carries done mid replies late run) there in
    inner still.appeal still.stored still.is_settled
  where
    inner : (a : Appeal) → appeal_at late.relations d.number d.reference ≡ Some a
        → IsSettled d.outcome d.answer (is_marked late.relations (d.number, d.reference)) a.status
        → ((second ≡ Ok reply.Unchanged)
        ⊎ ((stored_state late.relations d.number d.reference ≡ state.Superseded)
        × (second ≡ Err refusal.NotOpenAppeal))) × (after ≡ late)
    inner a at (inl is) =
        let to : StepTo (command.Decide d) late second after (Ok late.relations) =
        subst (StepTo (command.Decide d) late second after) (again_unchanged d later late a at is) two in (
          inl (to.2 ∙ ap (λ o. Ok (reply_to late after d o)) at
              ∙ ap (λ b. Ok (cond b reply.Unchanged
              (reply.Decided (stored_state after.relations d.number d.reference)
              (plan_of after.seats a.session d.number) (moved late.seats after.seats d.number)))) is),
          same_office (command.Decide d) late second after up up_after to,
        )
    inner a at (inr over) =
        let to : StepTo (command.Decide d) late second after (Err refusal.NotOpenAppeal) =
        subst (StepTo (command.Decide d) late second after) (again_refused d later late a at over) two in (
          inr (
            ap (λ (o : Option Appeal). option_map_or (λ (x : Appeal). state_of x.status) o state.Pending) at ∙ over,
            to.0,
          ),
          to.1,
        )

-- ---- nobody moves

same_seats : (done : Command) (before : State) (answer : Result Reply Refusal) (after : State) (t : Relations)
    → ((s : Code) → SameSeating (seating before.relations s) (seating t s))
    → IsInOrder before → IsInOrder after → StepTo done before answer after (Ok t) → after.seats ≡ before.seats
same_seats done before answer after t same up up_after to =
    same_rows seat_cmp seats_total seats_exact after.seats before.seats up_after.seats up.seats
    (λ q. (to.1 q.0).untouched (same q.0) q.1)

pub lodging_moves_nobody : (l : Lodging) (day : ℕ) (before after : State) (first : Reply) → IsGood before
    → IsInOrder before → IsInOrder after → Step (command.Lodge l) day before (Ok first) after
    → after.seats ≡ before.seats
lodging_moves_nobody l day before after first good up up_after step =
    let changed = new_facts (command.Lodge l) day before first after step in
    let accepted = change_made (command.Lodge l) day before after.relations changed in
    let settled = lodging_settled before good day l after.relations accepted.1 accepted.0 in
    same_seats (command.Lodge l) before (Ok first) after after.relations settled.seated up up_after
    (subst (StepTo (command.Lodge l) before (Ok first) after) changed step)

pub retraction_moves_nobody : (c : ℕ) (reference : Code) (day : ℕ) (before after : State) (first : Reply)
    → IsGood before → IsInOrder before → IsInOrder after
    → Step (command.Retract c reference) day before (Ok first) after → after.seats ≡ before.seats
retraction_moves_nobody c reference day before after first good up up_after step =
    let changed = new_facts (command.Retract c reference) day before first after step in
    let accepted = change_made (command.Retract c reference) day before after.relations changed in
    let settled = retraction_settled before good c reference after.relations up.tables accepted.1 accepted.0 in
    same_seats (command.Retract c reference) before (Ok first) after after.relations settled.seated up up_after
    (subst (StepTo (command.Retract c reference) before (Ok first) after) changed step)
