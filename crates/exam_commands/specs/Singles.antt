-- The appeals that a candidate may have only once.
use Rattle.std.specs.Prelude.{ℕ, Bool, true, false, ◌==◌, ◌&&◌, Option, None, Some}
use Rattle.std.specs.List.{filter_map, IsDistinct}
use Rattle.std.specs.Option.{option_map}
use Rattle.exam_rules.specs.declared.rows.Appeal.{Appeal}
use Rattle.exam_rules.specs.declared.rows.Status.{Status}
use Rattle.exam_rules.specs.declared.rows.Status.TheVariants as status
use Rattle.exam_rules.specs.declared.rows.Subject.{Subject}
use Rattle.exam_rules.specs.declared.rows.Subject.TheVariants as subject
use Rattle.exam_rules.specs.Relations.{Code, Relations, same_code}
use Rattle.exam_commands.specs.declared.single.Single.{Single}
use Rattle.exam_commands.specs.declared.single.Single.TheVariants as single

-- what kind of appeal, which a candidate may have only once, this status and subject make, if any
abbrev pub single_as : Status → Subject → Option Single
single_as (status.Granted answer) (subject.Hall h) = None
single_as (status.Granted answer) (subject.Clash p) = Some single.GrantedClash
single_as (status.Granted answer) (subject.Arrangement a) = Some single.GrantedArrangement
single_as status.Pending (subject.Hall h) = Some single.OpenHall
single_as status.Pending (subject.Clash p) = Some single.OpenClash
single_as status.Pending (subject.Arrangement a) = Some single.OpenArrangement
single_as (status.Refused answer) asked = None
single_as status.Retracted asked = None
single_as (status.Superseded answer) asked = None

-- session, candidate and kind
abbrev pub SingleKey : Type 0
SingleKey = Code × ℕ × Single

abbrev pub single_key : (ℕ × Code) × Appeal → Option SingleKey
single_key a = option_map (λ kind. (a.1.session, a.0.0, kind)) (single_as a.1.status a.1.subject)

abbrev pub same_single : Single → Single → Bool
same_single single.GrantedClash single.GrantedClash = true
same_single single.GrantedArrangement single.GrantedArrangement = true
same_single single.OpenHall single.OpenHall = true
same_single single.OpenClash single.OpenClash = true
same_single single.OpenArrangement single.OpenArrangement = true
same_single a b = false

abbrev pub same_single_key : SingleKey → SingleKey → Bool
same_single_key x y = same_code x.0 y.0 && ((x.1 == y.1) && same_single x.2 y.2)

-- no two appeals have the same key
abbrev pub AreSingle : Relations → Type 0
AreSingle r = IsDistinct same_single_key (filter_map single_key r.appeals)
