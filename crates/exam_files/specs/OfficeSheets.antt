-- What each sheet prints of a session of an office, in the office's own words.
use Rattle.std.specs.Prelude.{ℕ, List, Option, None, Some, Result, Ok, Err, filter_map, if◌then◌else◌}
use Rattle.std.specs.List.{list_any}
use Rattle.std.specs.Option.{ok_or}
use Rattle.exam_types.specs.declared.refusal.Refusal.{Refusal}
use Rattle.exam_types.specs.declared.refusal.Refusal.TheVariants.{HallNotOpened, UnknownHall, UnknownPaper}
use Rattle.exam_types.specs.declared.refusal.Refusal.TheVariants.{UnknownSession}
use Rattle.exam_rules.specs.declared.rows.Opening.{Opening}
use Rattle.exam_rules.specs.declared.rows.Session.{Session}
use Rattle.exam_rules.specs.Relations.{Code, Relations, code_cmp, has_row, opening_cmp, row_at, same_code}
use Rattle.exam_rules.specs.Sessions.{clashes, members}
use Rattle.exam_views.specs.declared.view.Clash.{Clash}
use Rattle.exam_views.specs.declared.view.Seat.{Seat}
use Rattle.exam_commands.specs.State.{State}
use Rattle.exam_views.specs.Views.{appeals_of, clash_of, papers_of, seat_of}
use Rattle.exam_files.specs.Attendances.{attendance_text}
use Rattle.exam_files.specs.Clashes.{clash_text}
use Rattle.exam_files.specs.Doors.{door_text}
use Rattle.exam_files.specs.Exports.{export_text}
use Rattle.exam_files.specs.Registers.{register_text}
use Rattle.exam_files.specs.Writing.{sheet_if}

-- the sheet of a session that exists; otherwise refused
abbrev pub of_known : (Session → Result (List ℕ) Refusal) → Option Session → Result (List ℕ) Refusal
of_known sheet None = Err UnknownSession
of_known sheet (Some session) = sheet session

abbrev pub for_session : State → Code → (Session → Result (List ℕ) Refusal) → Result (List ℕ) Refusal
for_session office s sheet = of_known sheet (row_at code_cmp office.relations.sessions s)

-- the seats of the members, by number
abbrev pub seats_in : State → Code → List Seat
seats_in office s = filter_map (seat_of office s) (members office.relations s)

-- the clashes of the members, by number and paper
abbrev pub clashes_in : State → Code → List Clash
clashes_in office s = filter_map (clash_of office.relations s) (clashes office.relations s)

-- how the hall is opened for the session, or why it is not
abbrev pub opening_for : Relations → Code → Code → Result Opening Refusal
opening_for r s h =
    if has_row code_cmp r.halls h then ok_or (row_at opening_cmp r.openings (s, h)) HallNotOpened
    else Err UnknownHall

-- a paper of the session, or its refusal
abbrev pub paper_for : Relations → Code → Code → Result (Unit {0}) Refusal
paper_for r s p = if list_any (λ code. same_code code p) (papers_of r s) then Ok tt else Err UnknownPaper

abbrev pub door_list_of : State → Code → Code → Result (List ℕ) Refusal
door_list_of office s h =
    for_session office s (λ session.
    sheet_if (λ opening. door_text s session h opening (seats_in office s))
    (opening_for office.relations s h))

abbrev pub attendance_of : State → Code → Code → Result (List ℕ) Refusal
attendance_of office s p =
    for_session office s (λ session.
    sheet_if (λ found. attendance_text s session p (seats_in office s)) (paper_for office.relations s p))

abbrev pub clash_list_of : State → Code → Result (List ℕ) Refusal
clash_list_of office s = for_session office s (λ session. Ok (clash_text s session (clashes_in office s)))

abbrev pub export_of : State → Code → Result (List ℕ) Refusal
export_of office s = for_session office s (λ session. Ok (export_text s (seats_in office s)))

abbrev pub register_of : State → Code → Result (List ℕ) Refusal
register_of office s = for_session office s (λ session. Ok (register_text s (appeals_of office.relations s)))
