-- An accepted import repeated at once is accepted, changes nothing, and finds every row the same.
use Rattle.exam_laws.proofs.Words.{AllByRecursion, option_map, option_map_or, and_from, Refusal, Arrangement, Candidate}
use Rattle.exam_laws.proofs.Words.{Entry, Opening, Paper, Session, AreInOrder, Relations, entry_cmp, row_at}
use Rattle.exam_laws.proofs.Words.{same_code_itself, Reply, Row, first_refusal, imported, rows_refusal, too_many}
use Rattle.exam_laws.proofs.Words.{with_rows, within_limits, IsInOrder, State, Step, StepTo, neither, there}
use Rattle.std.proofs.Common.{◌≡◌, ℕ, not, Bool, true, false, cond, List, [], ◌∷◌, length, filter, nat_eq, Option, None}
use Rattle.std.proofs.Common.{Some, arith, Result, Ok, is_some, is_none, eq-eqb, refl, ap, sym, subst, ◌∙◌}
use Rattle.std.specs.Bool.{beq}
use Rattle.exam_types.proofs.FeatureFacts.{same_features-itself}
use Rattle.exam_types.specs.declared.refusal.Refusal.TheVariants.{TooMany}
use Rattle.exam_rules.specs.declared.rows.Hall.{Hall}
use Rattle.exam_commands.specs.declared.command.Command.TheVariants as command
use Rattle.exam_commands.specs.declared.command.Reply.TheVariants as reply
use Rattle.exam_commands.specs.declared.import_row.Row.TheVariants as row
use Rattle.exam_commands.specs.Changes.{import_refusal}
use Rattle.exam_commands.specs.Imports.{ImportRows, distinct_rows, has_key, is_consistent, key_of}
use Rattle.exam_commands.specs.SameRows as contents
use Rattle.exam_commands.specs.Replies as replies
use Rattle.exam_commands.specs.Replies.{import_reply, is_changed, is_new, is_same}
use Rattle.exam_commands.proofs.Referring.{import_refers_still}
use Rattle.exam_laws.proofs.Accepted.{unrefused}
use Rattle.exam_laws.proofs.Lasting.{new_facts, same_office}
use Rattle.exam_laws.proofs.Stepping.{import_accepted}
use Rattle.exam_commands.proofs.Stored.{IsStored, rows_again, rows_in_order, rows_stored}

-- ---- a stored row is found the same

number_itself : (n : ℕ) → nat_eq n n ≡ true
number_itself n = eq-eqb n n refl

flag_itself : (b : Bool) → beq b b ≡ true
flag_itself b = grind arith

session_itself : (x : Session) → contents.same_session x x ≡ true
session_itself x = and_from _ _ (number_itself x.day) (number_itself x.start)

paper_itself : (x : Paper) → contents.same_paper x x ≡ true
paper_itself x = and_from _ _ (same_code_itself x.title)
    (and_from _ _ (same_code_itself x.session)
    (and_from _ _ (number_itself x.minutes) (same_features-itself x.required)))

hall_itself : (x : Hall) → contents.same_hall x x ≡ true
hall_itself x = and_from _ _ (same_code_itself x.title) (same_features-itself x.features)

opening_itself : (x : Opening) → contents.same_opening x x ≡ true
opening_itself x = and_from _ _ (number_itself x.desks) (and_from _ _ (number_itself x.until) (flag_itself x.reserved))

candidate_itself : (x : Candidate) → contents.same_candidate x x ≡ true
candidate_itself x = and_from _ _ (same_code_itself x.name) (same_code_itself x.code)

arrangement_itself : (x : Arrangement) → contents.same_arrangement x x ≡ true
arrangement_itself x = and_from _ _ (same_features-itself x.needs) (number_itself x.extra)

found_same : {X : Type 0} (agree : X → X → Bool) (x : X) (o : Option X) → o ≡ Some x → agree x x ≡ true
    → option_map (agree x) o ≡ Some true
found_same agree x o at itself = ap (option_map (agree x)) at ∙ ap Some itself

row_same : (r : Relations) (x : Row) → IsStored r x → replies.is_stored r x ≡ Some true
row_same r (row.OfSession s x) at = found_same contents.same_session x _ at (session_itself x)
row_same r (row.OfPaper p x) at = found_same contents.same_paper x _ at (paper_itself x)
row_same r (row.OfHall h x) at = found_same contents.same_hall x _ at (hall_itself x)
row_same r (row.OfOpening s h x) at = found_same contents.same_opening x _ at (opening_itself x)
row_same r (row.OfCandidate c x) at = found_same contents.same_candidate x _ at (candidate_itself x)
row_same r (row.OfEntry c p) at = inner (row_at entry_cmp r.entries (c, p)) at
  where
    inner : (o : Option Entry) → is_some o ≡ true → option_map (λ _. true) o ≡ Some true
    inner o has = grind arith
row_same r (row.OfArrangement c x) at = found_same contents.same_arrangement x _ at (arrangement_itself x)

-- ---- the counts

all_kept : (P : Row → Type 0) (p : Row → Bool) (rows : List Row) → AllByRecursion P rows
    → AllByRecursion P (filter p rows)
all_kept P p [] every = tt
all_kept P p (x ∷ rows) every = inner (p x) (all_kept P p rows every.1)
  where
    inner : (b : Bool) → AllByRecursion P (filter p rows)
        → AllByRecursion P (cond b (x ∷ filter p rows) (filter p rows))
    inner true rest = (every.0, rest)
    inner false rest = rest

all_distinct : (P : Row → Type 0) (rows : List Row) → AllByRecursion P rows → AllByRecursion P (distinct_rows rows)
all_distinct P [] every = tt
all_distinct P (x ∷ rows) every =
    (every.0, all_kept P (λ other. not (has_key (key_of x) other)) (distinct_rows rows) (all_distinct P rows every.1))

module _ (r : Relations) where
  none_new : (rows : List Row) → AllByRecursion (IsStored r) rows → filter (is_new r) rows ≡ []
  none_new [] every = refl
  none_new (x ∷ rows) every =
      ap (λ o. cond (is_none o) (x ∷ filter (is_new r) rows) (filter (is_new r) rows)) (row_same r x every.0)
      ∙ none_new rows every.1

  none_changed : (rows : List Row) → AllByRecursion (IsStored r) rows → filter (is_changed r) rows ≡ []
  none_changed [] every = refl
  none_changed (x ∷ rows) every =
      ap (λ o. cond (option_map_or not o false) (x ∷ filter (is_changed r) rows) (filter (is_changed r) rows))
      (row_same r x every.0) ∙ none_changed rows every.1

  all_same : (rows : List Row) → AllByRecursion (IsStored r) rows → filter (is_same r) rows ≡ rows
  all_same [] every = refl
  all_same (x ∷ rows) every =
      ap (λ o. cond (option_map_or (λ same. same) o false) (x ∷ filter (is_same r) rows) (filter (is_same r) rows))
      (row_same r x every.0) ∙ ap (λ xs. x ∷ xs) (all_same rows every.1)

  pub stored_reply : (rows : List Row) → AllByRecursion (IsStored r) rows
      → import_reply r rows ≡ reply.Imported 0 0 (length (distinct_rows rows))
  stored_reply rows every =
      let distinct : AllByRecursion (IsStored r) (distinct_rows rows) = all_distinct (IsStored r) rows every in
      ap (λ (xs : List Row). reply.Imported (length xs) (length (filter (is_changed r) (distinct_rows rows)))
      (length (filter (is_same r) (distinct_rows rows)))) (none_new (distinct_rows rows) distinct)
      ∙ ap (λ (xs : List Row). reply.Imported 0 (length xs) (length (filter (is_same r) (distinct_rows rows))))
      (none_changed (distinct_rows rows) distinct)
      ∙ ap (λ (xs : List Row). reply.Imported 0 0 (length xs)) (all_same (distinct_rows rows) distinct)

-- ---- on the definitions

repeated_itself : (r : Relations) (rows : List Row) → AreInOrder r → is_consistent rows ≡ true
    → import_refusal r rows ≡ None
    → (imported (with_rows r rows) rows ≡ Ok (with_rows r rows))
    × (import_reply (with_rows r rows) rows ≡ reply.Imported 0 0 (length (distinct_rows rows)))
repeated_itself r rows up agree ok =
    let both = neither (rows_refusal r rows) (first_refusal (too_many (with_rows r rows) ∷ [])) ok in
    let limits : within_limits (with_rows r rows) ≡ true = there (within_limits (with_rows r rows)) TooMany [] both.1 in
    let stored : AllByRecursion (IsStored (with_rows r rows)) rows = rows_stored r rows agree in
    let same : with_rows (with_rows r rows) rows ≡ with_rows r rows =
    rows_again (with_rows r rows) rows (rows_in_order r rows up) stored in (
      import_accepted (with_rows r rows) rows (import_refers_still r rows both.0) (ap within_limits same ∙ limits)
          ∙ ap Ok same,
      stored_reply (with_rows r rows) rows stored,
    )

pub repeated_import : (r t : Relations) (rows : List Row) → AreInOrder r → is_consistent rows ≡ true
    → imported r rows ≡ Ok t
    → (imported t rows ≡ Ok t) × (import_reply t rows ≡ reply.Imported 0 0 (length (distinct_rows rows)))
repeated_import r t rows up agree is =
    let first = unrefused (import_refusal r rows) (with_rows r rows) t is in
    subst (λ u. (imported u rows ≡ Ok u) × (import_reply u rows ≡ reply.Imported 0 0 (length (distinct_rows rows))))
    (sym first.0) (repeated_itself r rows up agree first.1)

-- ---- on steps

pub repeated_step : (import : ImportRows) (day later : ℕ) (before mid after : State) (first : Reply)
    (second : Result Reply Refusal) → IsInOrder before → IsInOrder mid → IsInOrder after
    → is_consistent import.rows ≡ true → Step (command.Import import) day before (Ok first) mid
    → Step (command.Import import) later mid second after
    → (second ≡ Ok (reply.Imported 0 0 (length (distinct_rows import.rows)))) × (after ≡ mid)
repeated_step import day later before mid after first second up up_mid up_after agree one two =
    let again = repeated_import before.relations mid.relations import.rows up.tables agree
    (new_facts (command.Import import) day before first mid one) in
    let to : StepTo (command.Import import) mid second after (Ok mid.relations) =
    subst (StepTo (command.Import import) mid second after) again.0 two in
    (to.2 ∙ ap Ok again.1, same_office (command.Import import) mid second after up_mid up_after to)
