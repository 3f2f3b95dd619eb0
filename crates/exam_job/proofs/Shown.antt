-- From what is shown of a session to the office.
use Rattle.std.proofs.Common.{◌≡◌, ◌∙◌, ℕ, false, List, Option, Some, None, Result, Ok, Err, refl, sym, ap, subst, inl}
use Rattle.std.proofs.Common.{inr}
use Rattle.std.specs.Prelude.{IsErrAnd, is_some}
use Rattle.exam_types.specs.declared.refusal.Refusal.{Refusal}
use Rattle.exam_types.specs.declared.refusal.Refusal.TheVariants.{UnknownSession}
use Rattle.exam_rules.specs.declared.rows.Session.{Session}
use Rattle.exam_rules.specs.Relations.{Code, code_cmp, row_at}
use Rattle.exam_rules.specs.Sessions.{IsSessionRefusal}
use Rattle.exam_commands.specs.State.{State}
use Rattle.exam_views.specs.Views.{IsViewOf, View}
use Rattle.exam_files.specs.Shortages.{shortage_text}
use Rattle.exam_files.proofs.OfficeSheets.{attendance_is, clash_list_is, door_list_is, export_is, register_is}
use Rattle.exam_line.specs.declared.line.Sheet.{Sheet}
use Rattle.exam_line.specs.declared.line.Sheet.TheVariants as sheet
use Rattle.exam_job.specs.Sheets.{IsSheetOf, IsSheetOfView, IsShortageSheet, PrintsSheet, PrintsView}
use Rattle.exam_job.specs.declared.report.JobFault.{JobFault}
use Rattle.exam_job.specs.declared.report.JobFault.TheVariants.{Refused}

-- a sheet of the view is that of the office
sheet_of_office : (office : State) (s : Code) (view : View) (which : Sheet) (text : Result (List ℕ) Refusal)
    → IsViewOf office s view → IsSheetOfView view which text → IsSheetOf office s which text
sheet_of_office office s view (sheet.DoorList hall) text v is = is ∙ door_list_is office s view v hall
sheet_of_office office s view (sheet.Attendance paper) text v is = is ∙ attendance_is office s view v paper
sheet_of_office office s view sheet.Clashes text v is = is ∙ clash_list_is office s view v
sheet_of_office office s view sheet.Shortage text v is =
    subst (λ (row : Option Session). IsShortageSheet office s row text) (sym v.session) (
      is.0,
      v.shortage is.0 is.1,
      is.2 ∙ ap (λ (code : Code). let made : Result (List ℕ) Refusal = Ok (shortage_text code is.0) in made) v.code,
    )
sheet_of_office office s view sheet.Appeals text v is = is ∙ register_is office s view v
sheet_of_office office s view sheet.Export text v is = is ∙ export_is office s view v

-- what was printed of the view
pub printed : {W : Type 0} (contents : W → Option (List ℕ)) (office : State) (s : Code) (view : View) (which : Sheet)
    (before : W) (result : Result (Unit {0}) JobFault) (after : W)
    → IsViewOf office s view → PrintsView contents view which before result after
    → PrintsSheet contents office s which before result after
printed contents office s view which before result after v (inl short) = inl (ap is_some v.session, short)
printed contents office s view which before result after v (inr sent) =
    inr (sent.0, sheet_of_office office s view which sent.0 v sent.1, sent.2)

-- ---- without a view

no_row : (o : Option Session) → is_some o ≡ false → o ≡ None
no_row None h = refl
no_row (Some row) h = cc h

-- the sheet of a session that there is not
no_sheet : (office : State) (s : Code) (which : Sheet) → row_at code_cmp office.relations.sessions s ≡ None
    → IsSheetOf office s which (Err UnknownSession)
no_sheet office s (sheet.DoorList hall) none = rw none refl
no_sheet office s (sheet.Attendance paper) none = rw none refl
no_sheet office s sheet.Clashes none = rw none refl
no_sheet office s sheet.Shortage none = rw none refl
no_sheet office s sheet.Appeals none = rw none refl
no_sheet office s sheet.Export none = rw none refl

-- there was none to print
pub unprinted : {W : Type 0} (contents : W → Option (List ℕ)) (office : State) (s : Code) (which : Sheet) (before : W)
    (refusal : Refusal) (result : Result (Unit {0}) JobFault)
    → IsSessionRefusal office.relations s refusal → IsErrAnd result (λ fault. fault ≡ Refused refusal)
    → PrintsSheet contents office s which before result before
unprinted contents office s which before refusal (Ok done) why is = absurd is
unprinted contents office s which before refusal (Err fault) (inr (short, known)) is =
    inl (known, (ap Err (is ∙ ap Refused short), refl))
unprinted {W} contents office s which before refusal (Err fault) (inl (unknown, none)) is =
    subst (λ (f : JobFault). PrintsSheet contents office s which before (Err f) before) (sym is)
    (inr (
      Err UnknownSession,
      no_sheet office s which (no_row (row_at code_cmp office.relations.sessions s) none),
      (ap Err (sym unknown), refl),
    ))
