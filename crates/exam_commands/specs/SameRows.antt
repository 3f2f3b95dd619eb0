-- When the contents of two rows are the same, column by column.
use Rattle.std.specs.Prelude.{◌==◌, ◌&&◌, Bool}
use Rattle.std.specs.Bool.{beq}
use Rattle.exam_types.specs.Features.{same_features}
use Rattle.exam_rules.specs.declared.rows.Session.{Session}
use Rattle.exam_rules.specs.declared.rows.Paper.{Paper}
use Rattle.exam_rules.specs.declared.rows.Hall.{Hall}
use Rattle.exam_rules.specs.declared.rows.Opening.{Opening}
use Rattle.exam_rules.specs.declared.rows.Candidate.{Candidate}
use Rattle.exam_rules.specs.declared.rows.Arrangement.{Arrangement}
use Rattle.exam_rules.specs.Relations.{same_code}

abbrev pub same_session : Session → Session → Bool
same_session a b = (a.day == b.day) && (a.start == b.start)

abbrev pub same_paper : Paper → Paper → Bool
same_paper a b =
    same_code a.title b.title && (same_code a.session b.session
    && ((a.minutes == b.minutes) && same_features a.required b.required))

abbrev pub same_hall : Hall → Hall → Bool
same_hall a b = same_code a.title b.title && same_features a.features b.features

abbrev pub same_opening : Opening → Opening → Bool
same_opening a b = (a.desks == b.desks) && ((a.until == b.until) && beq a.reserved b.reserved)

abbrev pub same_candidate : Candidate → Candidate → Bool
same_candidate a b = same_code a.name b.name && same_code a.code b.code

abbrev pub same_arrangement : Arrangement → Arrangement → Bool
same_arrangement a b = same_features a.needs b.needs && (a.extra == b.extra)
