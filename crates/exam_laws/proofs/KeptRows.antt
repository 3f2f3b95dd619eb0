-- No command takes a row away from the facts, but that the closing of a hall takes its opening.
use Rattle.exam_laws.proofs.Words.{is_at, Appeal, Subject, Code, Relations, appeal_cmp, entry_cmp}
use Rattle.exam_laws.proofs.Words.{opening_cmp, has_row, put_row, row_at, appeals_total, entries_total, openings_exact}
use Rattle.exam_laws.proofs.Words.{Command, Decision, Lodging, Outcome, Reply}
use Rattle.exam_laws.proofs.Words.{with_live, with_rows, decision_refusal}
use Rattle.exam_laws.proofs.Words.{giving_way}
use Rattle.exam_laws.proofs.Words.{with_decision, with_outcome, with_superseded}
use Rattle.exam_laws.proofs.Words.{early_refusal, facts_made, IsGood, State, Step}
use Rattle.std.proofs.Common.{◌≡◌, ℕ, Bool, true, false, cond, List, [], ◌∷◌, map, None, Some, Ok}
use Rattle.std.proofs.Common.{is_some, true≢false, refl, ap, sym, subst, ◌∙◌}
use Rattle.exam_rules.specs.Tables as table
use Rattle.exam_commands.proofs.KeyedRows.{has_put, key_apart}
use Rattle.exam_commands.proofs.KeyedRows.{removed_elsewhere}
use Rattle.exam_commands.specs.declared.command.Command.TheVariants as command
use Rattle.exam_commands.specs.declared.command.Outcome.TheVariants as outcome
use Rattle.exam_commands.specs.Good as good
use Rattle.exam_commands.specs.KeptRows.{KeepsKeys, KeepsOpenings, KeepsRows}
use Rattle.exam_commands.specs.Lodgings as spec
use Rattle.exam_laws.proofs.ByCase.{after_decision, after_lodging, after_retraction, was_open}
use Rattle.exam_laws.proofs.DecidedFacts.{given_keyed, marked_still, unmarked_open}
use Rattle.exam_laws.proofs.Lasting.{step_made}
use Rattle.exam_commands.proofs.Entering.{Keeps, keeps_rows}

keeps_itself : (r : Relations) → Keeps r r
keeps_itself r name k has = has

-- entries, or appeals and marks, keep their keys, and the rest stays
keeps_entries : (r : Relations) (c : ℕ) (p : Code) (live : Bool) → Keeps r (with_live r c p live)
keeps_entries r c p live =
    elim [
      | table.Entries ↦ λ k. has_put entry_cmp entries_total r.entries (c, p) k
          (record { live = live })
      | _ ↦ λ k has. has
    ]

keeps_appeals : (r : Relations) (appeals : List ((ℕ × Code) × Appeal)) (marks : List ((ℕ × Code) × Unit {0}))
    → KeepsKeys appeal_cmp r.appeals appeals → KeepsKeys appeal_cmp r.standing marks
    → Keeps r (record r { appeals = appeals; standing = marks })
keeps_appeals r appeals marks stay bear = elim [ table.Appeals ↦ stay | table.Standing ↦ bear | _ ↦ λ k has. has ]

put_appeal : (r : Relations) (k : ℕ × Code) (a : Appeal)
    → Keeps r (record r { appeals = put_row appeal_cmp r.appeals k a })
put_appeal r k a = keeps_appeals r (put_row appeal_cmp r.appeals k a) r.standing
    (λ q h. has_put appeal_cmp appeals_total r.appeals k q a h) (λ q h. h)

lodging_keeps : (r : Relations) (day : ℕ) (l : Lodging) → Keeps r (spec.with_lodging r day l)
lodging_keeps r day l =
    after_lodging r (Keeps r) day l (λ none. put_appeal r (l.number, l.reference) _) (λ a at. keeps_itself r)

retraction_keeps : (r : Relations) (c : ℕ) (reference : Code) → spec.retraction_refusal r c reference ≡ None
    → Keeps r (spec.with_retraction r c reference)
retraction_keeps r c reference ok =
    after_retraction r (Keeps r) c reference ok (λ a at was. keeps_itself r)
    (λ a at open_yet. put_appeal r (c, reference) _)

-- the superseded appeals stay
given_keeps : (c : ℕ) (s : Code) (asked : Subject) (rows : List ((ℕ × Code) × Appeal))
    → KeepsKeys appeal_cmp rows (map (giving_way c s asked) rows)
given_keeps c s asked [] k has = has
given_keeps c s asked (d ∷ ds) k has =
    ap (λ q. is_some (cond (is_at (appeal_cmp k) q) (Some (giving_way c s asked d).1)
    (row_at appeal_cmp (map (giving_way c s asked) ds) k))) (given_keyed c s asked d)
    ∙ found (is_at (appeal_cmp k) d.0) has (given_keeps c s asked ds k)
  where
    found : (b : Bool) → is_some (cond b (Some d.1) (row_at appeal_cmp ds k)) ≡ true
        → (has_row appeal_cmp ds k ≡ true → has_row appeal_cmp (map (giving_way c s asked) ds) k ≡ true)
        → is_some (cond b (Some (giving_way c s asked d).1) (row_at appeal_cmp (map (giving_way c s asked) ds) k))
        ≡ true
    found true h later = refl
    found false h later = later h

superseding_keeps : (c : ℕ) (a : Appeal) (o : Outcome) (rows : List ((ℕ × Code) × Appeal))
    → KeepsKeys appeal_cmp rows (with_superseded c a o rows)
superseding_keeps c a outcome.Refuse rows = λ k h. h
superseding_keeps c a _ rows = given_keeps c a.session a.subject rows

-- an open appeal has no mark that its decision could take away
decision_keeps : (r : Relations) (day : ℕ) (d : Decision) → good.marks_were_granted r ≡ true
    → decision_refusal r day d ≡ None → Keeps r (with_decision r d)
decision_keeps r day d stand ok =
    after_decision r (Keeps r) day d ok (λ a at made. keeps_itself r)
    (λ a at passed.
    keeps_appeals r (with_outcome r d a).appeals (with_outcome r d a).standing
    (λ k h. has_put appeal_cmp appeals_total (with_superseded d.number a d.outcome r.appeals)
    (d.number, d.reference) k _
    (superseding_keeps d.number a d.outcome r.appeals k h))
    (λ k h. marked_still r d k
    (λ same. true≢false (sym h ∙ ap (has_row appeal_cmp r.standing) same
    ∙ unmarked_open r d a stand at (was_open r day d a passed))) ∙ h))

-- what keeps all keys keeps those that stay
all_stay : (done : Command) (r t : Relations) → Keeps r t → KeepsRows r t × KeepsOpenings done r t
all_stay done r t keeps = (λ name stays. keeps name, λ k apart. keeps table.Openings k)

made_keeps : (done : Command) (day : ℕ) (before : State) → IsGood before → early_refusal done day before ≡ None
    → KeepsRows before.relations (facts_made done day before)
    × KeepsOpenings done before.relations (facts_made done day before)
made_keeps (command.Import import) day before fine ok =
    all_stay (command.Import import) before.relations (with_rows before.relations import.rows)
    (keeps_rows before.relations import.rows)
made_keeps (command.Withdraw c p) day before fine ok =
    all_stay (command.Withdraw c p) before.relations (with_live before.relations c p false)
    (keeps_entries before.relations c p false)
made_keeps (command.Reinstate c p) day before fine ok =
    all_stay (command.Reinstate c p) before.relations (with_live before.relations c p true)
    (keeps_entries before.relations c p true)
made_keeps (command.CloseHall s h) day before fine ok = (
  elim [
    | table.Openings ↦ λ stays. absurd cc
    | _ ↦ λ stays k has. has
  ],
  λ k apart has. ap is_some
      (removed_elsewhere opening_cmp openings_exact before.relations.openings (s, h) k
      (key_apart opening_cmp openings_exact k (s, h) apart)) ∙ has,
)
made_keeps (command.Lodge l) day before fine ok =
    all_stay (command.Lodge l) before.relations (spec.with_lodging before.relations day l)
    (lodging_keeps before.relations day l)
made_keeps (command.Retract c reference) day before fine ok =
    all_stay (command.Retract c reference) before.relations (spec.with_retraction before.relations c reference)
    (retraction_keeps before.relations c reference ok)
made_keeps (command.Decide d) day before fine ok =
    all_stay (command.Decide d) before.relations (with_decision before.relations d)
    (decision_keeps before.relations day d fine.marks ok)

pub step_keeps : (done : Command) (day : ℕ) (before : State) (reply : Reply) (after : State) → IsGood before
    → Step done day before (Ok reply) after
    → KeepsRows before.relations after.relations × KeepsOpenings done before.relations after.relations
step_keeps done day before reply after fine step =
    let made = step_made done day before reply after step in
    subst (λ t. KeepsRows before.relations t × KeepsOpenings done before.relations t) (sym made.0)
    (made_keeps done day before fine made.1)
