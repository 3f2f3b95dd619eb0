-- How the lists of members and open halls are put back as they were.
use Rattle.std.specs.Prelude.{◌≡◌, ℕ, ⊤, Bool, IsTrue, List, None, Option, Vec, if◌then◌else◌}
use Rattle.std.specs.Global.{Global}
use Rattle.std.specs.Option.{option_and_then, option_map_or}
use Rattle.exam_rules.specs.declared.listing.Entrant.{Entrant}
use Rattle.exam_rules.specs.declared.listing.SessionLists.{SessionLists}
use Rattle.exam_rules.specs.Lists.{entered_session, listed}
use Rattle.exam_rules.specs.Orders.{AreInOrder}
use Rattle.exam_rules.specs.Relations.{Code, Relations, code_cmp, entry_cmp, has_row, row_at, same_code}
use Rattle.exam_commands.specs.declared.import_row.Kind.TheVariants as kind
use Rattle.exam_commands.specs.declared.import_row.Row.{Row}
use Rattle.exam_commands.specs.Changes.{rows_refusal, with_live, with_rows}
use Rattle.exam_commands.specs.Imports.{AreOfKind}
use Rattle.exam_office.specs.declared.relisting.ListUndo.{ListUndo}
use Rattle.exam_office.specs.declared.relisting.ListUndo.TheVariants as undo

-- the session's list among some, if it has one there, and otherwise the one of the lists
abbrev pub list_before : List (Code × Vec Entrant Global) → SessionLists → Code → List Entrant
list_before some lists s =
    option_map_or (λ (list : Vec Entrant Global). list.items) (row_at code_cmp some s)
    (listed lists.members.entries s)

-- the members of a session with the change taken back
abbrev pub members_before : ListUndo → SessionLists → Code → List Entrant
members_before undo.Nothing lists s = listed lists.members.entries s
members_before (undo.Members t list) lists s =
    if same_code t s then list.items else listed lists.members.entries s
members_before (undo.Several before) lists s = list_before before.entries lists s
members_before (undo.Halls t list) lists s = listed lists.members.entries s
members_before (undo.AllHalls halls) lists s = listed lists.members.entries s
members_before (undo.Whole old) lists s = listed old.members.entries s

-- the open halls of a session with the change taken back
abbrev pub halls_before : ListUndo → SessionLists → Code → List Code
halls_before undo.Nothing lists s = listed lists.halls.entries s
halls_before (undo.Members t list) lists s = listed lists.halls.entries s
halls_before (undo.Several before) lists s = listed lists.halls.entries s
halls_before (undo.Halls t list) lists s =
    if same_code t s then list.items else listed lists.halls.entries s
halls_before (undo.AllHalls halls) lists s = listed halls.entries s
halls_before (undo.Whole old) lists s = listed old.halls.entries s

-- each session whose list is put back has one
abbrev pub HasList : ListUndo → SessionLists → Type 0
HasList undo.Nothing lists = ⊤
HasList (undo.Members t list) lists = IsTrue (has_row code_cmp lists.members.entries t)
HasList (undo.Several before) lists =
    (s : Code) → IsTrue (has_row code_cmp before.entries s) → IsTrue (has_row code_cmp lists.members.entries s)
HasList (undo.Halls t list) lists = IsTrue (has_row code_cmp lists.halls.entries t)
HasList (undo.AllHalls halls) lists = ⊤
HasList (undo.Whole old) lists = ⊤

-- both give each session equal lists of members and of halls
pub record SameLists (a b : SessionLists) : Type 0 where
  pub members : (s : Code) → listed b.members.entries s ≡ listed a.members.entries s
  pub halls : (s : Code) → listed b.halls.entries s ≡ listed a.halls.entries s

-- taken back, the change leaves the old lists
pub record ListsBack (undo : ListUndo) (new old : SessionLists) : Type 0 where
  pub there : HasList undo new
  pub members : (s : Code) → members_before undo new s ≡ listed old.members.entries s
  pub halls : (s : Code) → halls_before undo new s ≡ listed old.halls.entries s

-- the new facts are the old ones with the candidate's entry for the paper live or withdrawn
pub record SetsLive (old new : Relations) (c : ℕ) (p : Code) : Type 0 where
  pub live : Bool
  pub facts : new ≡ with_live old c p live

-- the session for which the candidate's entry for the paper counts, if it is live
abbrev pub live_session : Relations → ℕ → Code → Option Code
live_session r c p = option_and_then (entered_session r p) (row_at entry_cmp r.entries (c, p))

-- the rows are entries, refer to what exists, and make these facts of the first ones
pub record EntersRows (first : Relations) (rows : List Row) (made : Relations) : Type 0 where
  pub order : AreInOrder first
  pub kind : AreOfKind kind.Entries rows
  pub known : rows_refusal first rows ≡ None
  pub facts : made ≡ with_rows first rows
