-- The days of sessions and of appeals: those of an opened office, and what a command makes of them.
use Rattle.std.proofs.Common.{All, ℕ, Bool, if◌then◌else◌, Option, Some, None, List, [], ◌∷◌, map, Ok}
use Rattle.std.proofs.Common.{subst, sym}
use Rattle.std.proofs.lemmas.Bool.{cond_both}
use Rattle.std.specs.Prelude.{is_none}
use Rattle.std.specs.List.{AllByRecursion}
use Rattle.std.specs.Map.{values_of}
use Rattle.std.specs.Option.{IfSome}
use Rattle.std.proofs.lemmas.List.Elements.{All-nil, All-cons, All-head, All-tail}
use Rattle.std.proofs.lemmas.Map.Views.{All-values-insert_entry, IfSome-lookup_from_All}
use Rattle.std.specs.BTreeMap.{is_at}
use Rattle.sqlite_trees.specs.Tree.{Trees}
use Rattle.exam_types.specs.Days.{IsDay}
use Rattle.exam_rules.specs.declared.rows.Appeal.{Appeal}
use Rattle.exam_rules.specs.declared.rows.Session.{Session}
use Rattle.exam_rules.specs.declared.rows.Subject.{Subject}
use Rattle.exam_rules.specs.Relations.{Code, Relations, appeal_cmp, code_cmp, put_row}
use Rattle.exam_rules.specs.Tables as table
use Rattle.exam_commands.specs.declared.command.Command.{Command}
use Rattle.exam_commands.specs.declared.command.Command.TheVariants as command
use Rattle.exam_commands.specs.declared.command.Decision.{Decision}
use Rattle.exam_commands.specs.declared.command.Lodging.{Lodging}
use Rattle.exam_commands.specs.declared.command.Outcome.{Outcome}
use Rattle.exam_commands.specs.declared.command.Reply.{Reply}
use Rattle.exam_commands.specs.declared.import_row.Row.{Row}
use Rattle.exam_commands.specs.declared.import_row.Row.TheVariants as row
use Rattle.exam_commands.specs.Appeals.{appeal_at, is_grant, is_retracted}
use Rattle.exam_commands.specs.Changes.{with_row, with_rows}
use Rattle.exam_commands.specs.Decisions.{gives_way, giving_way, is_made, with_decided, with_outcome, with_superseded}
use Rattle.exam_commands.specs.Lodgings.{with_appeal, with_lodging, with_retracted, with_retracted_appeal}
use Rattle.exam_commands.specs.State.{State, empty_state}
use Rattle.exam_commands.specs.FactsMade.{facts_made}
use Rattle.exam_commands.specs.Steps.{Step}
use Rattle.exam_laws.proofs.Lasting.{step_made}
use Rattle.exam_tables.specs.Rows.{IsAppeal, IsSession}
use Rattle.exam_store.specs.Refused.{HoldsFormed}
use Rattle.exam_store.specs.Stops.{HasDays, HasRowDay, HasRowDays}
use Rattle.exam_tables.proofs.OneTable.{session_day}

abbrev OfSession : Session → Type 0
OfSession x = IsDay x.day

abbrev OfAppeal : Appeal → Type 0
OfAppeal a = IsDay a.lodged

pub no_days : HasDays empty_state.relations
no_days = record { sessions = All-nil OfSession; appeals = All-nil OfAppeal }

-- ---- an office whose values have the forms of their columns

sessions_dated : (es : List (Code × Session)) → AllByRecursion (λ e. IsSession e.0 e.1) es
    → All OfSession (values_of es)
sessions_dated [] forms = All-nil OfSession
sessions_dated (e ∷ es) forms =
    All-cons OfSession e.1 (values_of es) (session_day e.1.day forms.0.1) (sessions_dated es forms.1)

appeals_dated : (es : List ((ℕ × Code) × Appeal)) → AllByRecursion (λ e. IsAppeal e.0 e.1) es
    → All OfAppeal (values_of es)
appeals_dated [] forms = All-nil OfAppeal
appeals_dated (e ∷ es) forms = All-cons OfAppeal e.1 (values_of es) forms.0.6 (appeals_dated es forms.1)

pub formed_days : (all : Trees) (office : State) → HoldsFormed all office → HasDays office.relations
formed_days all office formed =
    record {
      sessions = sessions_dated office.relations.sessions (formed.0 table.Sessions).forms;
      appeals =
          appeals_dated office.relations.appeals (formed.0 table.Appeals).forms;
    }

-- ---- the change of a command

one_of : (b : Bool) (r t : Relations) → HasDays r → HasDays t → HasDays (if b then r else t)
one_of b r t here there = cond_both b r t HasDays (λ is. here) (λ is. there)

with_row_days : (r : Relations) (x : Row) → HasDays r → HasRowDay x → HasDays (with_row r x)
with_row_days r (row.OfSession s x) days day =
    record {
      sessions = All-values-insert_entry code_cmp s x OfSession r.sessions days.sessions day;
      appeals = days.appeals;
    }
with_row_days r x days day = record { sessions = days.sessions; appeals = days.appeals }

with_rows_days : (r : Relations) (xs : List Row) → HasDays r → All HasRowDay xs → HasDays (with_rows r xs)
with_rows_days r [] days each = days
with_rows_days r (x ∷ xs) days each =
    with_rows_days (with_row r x) xs (with_row_days r x days (All-head HasRowDay x xs each))
    (All-tail HasRowDay x xs each)

put_appeal : (appeals : List ((ℕ × Code) × Appeal)) (key : ℕ × Code) (a : Appeal) → All OfAppeal (values_of appeals)
    → IsDay a.lodged → All OfAppeal (values_of (put_row appeal_cmp appeals key a))
put_appeal appeals key a days day = All-values-insert_entry appeal_cmp key a OfAppeal appeals days day

stored : (r : Relations) (c : ℕ) (reference : Code) → HasDays r → IfSome (appeal_at r c reference) OfAppeal
stored r c reference days = IfSome-lookup_from_All OfAppeal (is_at (appeal_cmp (c, reference))) r.appeals days.appeals

lodging_days : (r : Relations) (today : ℕ) (l : Lodging) → HasDays r → IsDay today → HasDays (with_lodging r today l)
lodging_days r today l days day =
    one_of (is_none (appeal_at r l.number l.reference)) (with_appeal r today l) r
    (record {
      sessions = days.sessions;
      appeals = put_appeal r.appeals (l.number, l.reference) _ days.appeals day;
    }) days

retraction_days : (r : Relations) (c : ℕ) (reference : Code) (found : Option Appeal) → HasDays r
    → IfSome found OfAppeal → HasDays (with_retracted r c reference found)
retraction_days r c reference None days day = days
retraction_days r c reference (Some a) days day =
    one_of (is_retracted a.status) r (with_retracted_appeal r c reference a) days
    (record { sessions = days.sessions; appeals = put_appeal r.appeals (c, reference) _ days.appeals day })

given_way : (c : ℕ) (s : Code) (asked : Subject) (es : List ((ℕ × Code) × Appeal)) → All OfAppeal (values_of es)
    → All OfAppeal (values_of (map (giving_way c s asked) es))
given_way c s asked [] days = days
given_way c s asked (e ∷ es) days =
    All-cons OfAppeal (giving_way c s asked e).1 (values_of (map (giving_way c s asked) es))
    (cond_both (gives_way c s asked e) _ e (λ x. OfAppeal x.1) (λ is. All-head OfAppeal e.1 (values_of es) days)
    (λ is. All-head OfAppeal e.1 (values_of es) days))
    (given_way c s asked es (All-tail OfAppeal e.1 (values_of es) days))

superseded_days : (c : ℕ) (a : Appeal) (o : Outcome) (es : List ((ℕ × Code) × Appeal)) → All OfAppeal (values_of es)
    → All OfAppeal (values_of (with_superseded c a o es))
superseded_days c a o es days =
    cond_both (is_grant o) _ es (λ rows. All OfAppeal (values_of rows))
    (λ is. given_way c a.session a.subject es days) (λ is. days)

decision_days : (r : Relations) (d : Decision) (found : Option Appeal) → HasDays r → IfSome found OfAppeal
    → HasDays (with_decided r d found)
decision_days r d None days day = days
decision_days r d (Some a) days day =
    one_of (is_made r d a) r (with_outcome r d a) days
    (record {
      sessions = days.sessions;
      appeals =
          put_appeal (with_superseded d.number a d.outcome r.appeals) (d.number, d.reference) _
          (superseded_days d.number a d.outcome r.appeals days.appeals) day;
    })

made_days : (done : Command) (today : ℕ) (before : State) → HasDays before.relations → IsDay today → HasRowDays done
    → HasDays (facts_made done today before)
made_days (command.Import import) today before days day rows = with_rows_days before.relations import.rows days rows
made_days (command.Lodge l) today before days day rows = lodging_days before.relations today l days day
made_days (command.Retract c reference) today before days day rows =
    retraction_days before.relations c reference (appeal_at before.relations c reference) days
    (stored before.relations c reference days)
made_days (command.Decide d) today before days day rows =
    decision_days before.relations d (appeal_at before.relations d.number d.reference) days
    (stored before.relations d.number d.reference days)
made_days _ today before days day rows = record { sessions = days.sessions; appeals = days.appeals }

pub command_days : (done : Command) (today : ℕ) (before after : State) (reply : Reply) → HasDays before.relations
    → IsDay today → HasRowDays done → Step done today before (Ok reply) after → HasDays after.relations
command_days done today before after reply days day rows step =
    subst HasDays (sym (step_made done today before reply after step).0) (made_days done today before days day rows)
