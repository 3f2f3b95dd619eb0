-- An accepted import repeated later, if no import came between and no hall was closed: its rows are still stored, so it
-- is accepted, changes nothing, and finds every row the same.
use Rattle.exam_laws.proofs.Words.{AllByRecursion, nat_cmp, Refusal, Appeal, Code, Relations, code_cmp, entry_cmp}
use Rattle.exam_laws.proofs.Words.{row_at, entries_total, Command, Decision, Lodging, Reply, Row}
use Rattle.exam_laws.proofs.Words.{imported, rows_refusal, with_live, with_rows}
use Rattle.exam_laws.proofs.Words.{with_decision, with_outcome, early_refusal, facts_made, IsGood, within_limits}
use Rattle.exam_laws.proofs.Words.{IsInOrder, State}
use Rattle.exam_laws.proofs.Words.{MayStep, Run, Step, StepTo, change}
use Rattle.std.proofs.Common.{Bool, Err, List, None, Ok, Option, Result, Some, [], ap, false, inl, inr}
use Rattle.std.proofs.Common.{is_some, length, refl, subst, sym, true, ℕ, ◌∙◌, ◌∷◌, ◌≡◌}
use Rattle.std.proofs.lemmas.List.Elements.{All-head, All-tail}
use Rattle.exam_commands.proofs.KeyedRows.{has_put}
use Rattle.exam_commands.specs.declared.command.Command.TheVariants as command
use Rattle.exam_commands.specs.declared.command.Reply.TheVariants as reply
use Rattle.exam_commands.specs.declared.import_row.Row.TheVariants as row
use Rattle.exam_commands.specs.Between.{NoneImportsOrCloses, imports_or_closes}
use Rattle.exam_commands.specs.Imports.{ImportRows, distinct_rows, is_consistent}
use Rattle.exam_commands.specs.Lodgings as spec
use Rattle.exam_laws.proofs.Accepted.{change_made}
use Rattle.exam_laws.proofs.ByCase.{after_lodging, after_retraction}
use Rattle.exam_laws.proofs.DecidedFacts.{either}
use Rattle.exam_laws.proofs.Lasting.{same_office, step_made}
use Rattle.exam_commands.proofs.Referring.{Grows, import_refers_still, rows_refer_still}
use Rattle.exam_laws.proofs.RepeatedImports.{stored_reply}
use Rattle.exam_laws.proofs.Stepping.{import_accepted}
use Rattle.exam_commands.proofs.Stored.{IsStored, rows_again, rows_stored}

-- ---- the rows of imports, and the facts that keep them

-- what an import stored is stored still
abbrev Holds : Relations → Relations → Type 0
Holds r t = (x : Row) → IsStored r x → IsStored t x

holds_both : (r t u : Relations) → Holds r t → Holds t u → Holds r u
holds_both r t u one two x at = two x (one x at)

-- if only appeals change
holds_decisions : (r : Relations) (appeals : List ((ℕ × Code) × Appeal)) (marks : List ((ℕ × Code) × Unit {0}))
    → Holds r (record r { appeals = appeals; standing = marks })
holds_decisions r appeals marks (row.OfSession s x) at = at
holds_decisions r appeals marks x at = at

holds_itself : (r : Relations) → Holds r r
holds_itself r = holds_decisions r r.appeals r.standing

holds_appeals : (r : Relations) (appeals : List ((ℕ × Code) × Appeal)) → Holds r (record r { appeals = appeals })
holds_appeals r appeals = holds_decisions r appeals r.standing

holds_live : (r : Relations) (c : ℕ) (p : Code) (live : Bool) → Holds r (with_live r c p live)
holds_live r c p live (row.OfEntry d q) at =
    has_put entry_cmp entries_total r.entries (c, p) (d, q) (record { live = live }) at
holds_live r c p live x at = at

-- ---- by a command

lodging_holds : (r : Relations) (day : ℕ) (l : Lodging) → Holds r (spec.with_lodging r day l)
lodging_holds r day l =
    after_lodging r (Holds r) day l (λ none. holds_appeals r (spec.with_appeal r day l).appeals)
    (λ a at. holds_itself r)

retraction_holds : (r : Relations) (c : ℕ) (reference : Code) → spec.retraction_refusal r c reference ≡ None
    → Holds r (spec.with_retraction r c reference)
retraction_holds r c reference ok =
    after_retraction r (Holds r) c reference ok (λ a at was. holds_itself r)
    (λ a at open_yet. holds_appeals r (spec.with_retracted_appeal r c reference a).appeals)

decision_holds : (r : Relations) (d : Decision) → Holds r (with_decision r d)
decision_holds r d =
    either r d (Holds r) (holds_itself r)
    (λ a at. holds_decisions r (with_outcome r d a).appeals (with_outcome r d a).standing)

made_holds : (done : Command) (day : ℕ) (before : State) → early_refusal done day before ≡ None
    → imports_or_closes done ≡ false → Holds before.relations (facts_made done day before)
made_holds (command.Withdraw c p) day before ok leaves = holds_live before.relations c p false
made_holds (command.Reinstate c p) day before ok leaves = holds_live before.relations c p true
made_holds (command.Lodge l) day before ok leaves = lodging_holds before.relations day l
made_holds (command.Retract c reference) day before ok leaves = retraction_holds before.relations c reference ok
made_holds (command.Decide d) day before ok leaves = decision_holds before.relations d
made_holds _ day before ok leaves = absurd cc

-- what a command keeps of an office's facts; an office in order stays in order
record GoesOn (before after : State) : Type 0 where
  holds : Holds before.relations after.relations
  order : IsInOrder before → IsInOrder after

goes_on_itself : (before after : State) → after ≡ before → GoesOn before after
goes_on_itself before after same =
    subst (GoesOn before) (sym same) (record { holds = holds_itself before.relations; order = λ up. up })

step_goes_on : (done : Command) (day : ℕ) (before : State) (answer : Result Reply Refusal) (after : State)
    → imports_or_closes done ≡ false → Step done day before answer after → GoesOn before after
step_goes_on done day before answer after leaves step = inner (change done day before) refl step
  where
    inner : (o : Result Relations Refusal) → change done day before ≡ o → StepTo done before answer after o
        → GoesOn before after
    inner (Ok t) is to =
        let made = change_made done day before t is in
        record {
          holds = subst (Holds before.relations) (sym (to.0 ∙ made.0)) (made_holds done day before made.1 leaves);
          order = λ up. to.3;
        }
    inner (Err e) is to = goes_on_itself before after to.1

run_goes_on : (done : List (Command × ℕ)) (before : State) (replies : List (Result Reply Refusal)) (after : State)
    → NoneImportsOrCloses done → Run done before replies after → GoesOn before after
run_goes_on [] before [] after none same = goes_on_itself before after same
run_goes_on [] before (q ∷ replies) after none never = absurd never
run_goes_on (x ∷ done) before [] after none never = absurd never
run_goes_on (x ∷ done) before (q ∷ replies) after none run =
    let one = first run.1 in
    let rest = run_goes_on done run.0 replies after
    (All-tail (λ (d : Command × ℕ). imports_or_closes d.0 ≡ false) x done none) run.2 in
    record {
      holds = holds_both before.relations run.0.relations after.relations one.holds rest.holds;
      order = λ up. rest.order (one.order up);
    }
  where
    first : {mid : State} → MayStep x.0 x.1 before q mid → GoesOn before mid
    first {mid} (inl memory) = goes_on_itself before mid memory.1
    first {mid} (inr step) =
        step_goes_on x.0 x.1 before q mid
        (All-head (λ (d : Command × ℕ). imports_or_closes d.0 ≡ false) x done none) step

-- an accepted command leaves the office in order
in_order_then : (done : Command) (day : ℕ) (before : State) (answer : Reply) (after : State)
    → Step done day before (Ok answer) after → IsInOrder after
in_order_then done day before answer after step = inner (change done day before) step
  where
    inner : (o : Result Relations Refusal) → StepTo done before (Ok answer) after o → IsInOrder after
    inner (Ok t) to = to.3
    inner (Err e) to = absurd cc

-- ---- the rows of the import

module _ (r t : Relations) (holds : Holds r t) where
  all_stored_still : (rows : List Row) → AllByRecursion (IsStored r) rows → AllByRecursion (IsStored t) rows
  all_stored_still [] every = tt
  all_stored_still (x ∷ rows) every = (holds x every.0, all_stored_still rows every.1)

  found_still : {X : Type 0} (o p : Option X) → ((x : X) → o ≡ Some x → p ≡ Some x) → is_some o ≡ true
      → is_some p ≡ true
  found_still (Some x) p stays has = ap is_some (stays x refl)
  found_still None p stays has = absurd cc

  grows_still : Grows r t
  grows_still = record {
    sessions = λ s. found_still (row_at code_cmp r.sessions s) (row_at code_cmp t.sessions s)
        (λ x. holds (row.OfSession s x));
    papers = λ p. found_still (row_at code_cmp r.papers p) (row_at code_cmp t.papers p) (λ x. holds (row.OfPaper p x));
    halls = λ h. found_still (row_at code_cmp r.halls h) (row_at code_cmp t.halls h) (λ x. holds (row.OfHall h x));
    candidates = λ c. found_still (row_at nat_cmp r.candidates c) (row_at nat_cmp t.candidates c)
        (λ x. holds (row.OfCandidate c x));
  }

-- rows that are stored, with references that are there, in an office that is within limits and in order
stored_import : (r : Relations) (rows : List Row) → rows_refusal r rows ≡ None → within_limits r ≡ true
    → with_rows r rows ≡ r → imported r rows ≡ Ok r
stored_import r rows refer limits same = import_accepted r rows refer (ap within_limits same ∙ limits) ∙ ap Ok same

pub repeated_later : (import : ImportRows) (day later : ℕ) (before mid late after : State) (first : Reply)
    (done : List (Command × ℕ)) (replies : List (Result Reply Refusal)) (second : Result Reply Refusal)
    → IsGood late → is_consistent import.rows ≡ true → NoneImportsOrCloses done
    → Step (command.Import import) day before (Ok first) mid → Run done mid replies late
    → Step (command.Import import) later late second after
    → (second ≡ Ok (reply.Imported 0 0 (length (distinct_rows import.rows)))) × (after ≡ late)
repeated_later import day later before mid late after first done replies second good agree none one run two =
    let made = step_made (command.Import import) day before first mid one in
    let on = run_goes_on done mid replies late none run in
    let stored_then : AllByRecursion (IsStored mid.relations) import.rows =
    subst (λ t. AllByRecursion (IsStored t) import.rows) (sym made.0)
    (rows_stored before.relations import.rows agree) in
    let referred_then : rows_refusal mid.relations import.rows ≡ None =
    ap (λ t. rows_refusal t import.rows) made.0 ∙ import_refers_still before.relations import.rows made.1 in
    let stored = all_stored_still mid.relations late.relations on.holds import.rows stored_then in
    let refer = rows_refer_still mid.relations late.relations import.rows
    (grows_still mid.relations late.relations on.holds) referred_then in
    let up : IsInOrder late = on.order (in_order_then (command.Import import) day before first mid one) in
    let same = rows_again late.relations import.rows up.tables stored in
    let to : StepTo (command.Import import) late second after (Ok late.relations) =
    subst (StepTo (command.Import import) late second after)
    (stored_import late.relations import.rows refer good.limits same) two in (
      to.2 ∙ ap Ok (stored_reply late.relations import.rows stored),
      same_office (command.Import import) late second after up to.3 to,
    )
