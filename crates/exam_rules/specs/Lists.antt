-- The members and the open halls of all sessions, as lists by session.
use Rattle.std.specs.Prelude.{◌≡◌, ◌<◌, ℕ, ◌-◌, not, length, slice_get, slice_index_or, nat_eq, nat_lt, Bool, true}
use Rattle.std.specs.Prelude.{false}
use Rattle.std.specs.Prelude.{List, [], ◌∷◌, ◌++◌, map, filter, Option, None, Vec, if◌then◌else◌}
use Rattle.std.specs.Global.{Global}
use Rattle.std.specs.List.{filter_map, cons_option}
use Rattle.std.specs.Map.{keys_of}
use Rattle.std.specs.Option.{option_map, option_map_or}
use Rattle.std.specs.Ordering.{nat_cmp, is_lt, match_ordering}
use Rattle.exam_rules.specs.declared.rows.Entry.{Entry}
use Rattle.exam_rules.specs.declared.listing.Entrant.{Entrant}
use Rattle.exam_rules.specs.declared.listing.SessionLists.{SessionLists}
use Rattle.exam_rules.specs.Relations.{Code, Relations, code_cmp, entry_cmp, opening_cmp, same_code}
use Rattle.exam_rules.specs.Relations.{has_row, put_row, remove_row, row_at}
use Rattle.exam_rules.specs.Sessions.{members, is_paper_of, least_live_paper}
use Rattle.exam_rules.specs.Seatings.{open_halls}
use Rattle.exam_rules.specs.Names.{ListsRise}

-- the session's list, or none
abbrev pub listed : {A : Type 0} → List (Code × Vec A Global) → Code → List A
listed {A} rows s = option_map_or (λ (list : Vec A Global). list.items) (row_at code_cmp rows s) []

-- the last entrant has this number
abbrev pub ends_with : List Entrant → ℕ → Bool
ends_with entrants n =
    option_map_or (λ (e : Entrant). nat_eq e.number n) (slice_get entrants (length entrants - 1)) false

-- the list with the entrant appended, unless its last is the same candidate
abbrev pub with_last : Entrant → List Entrant → List Entrant
with_last e entrants = if ends_with entrants e.number then entrants else entrants ++ e ∷ []

-- a candidate with the least of their live papers
abbrev pub entrant : ℕ → Code → Entrant
entrant n p = record { number = n; paper = p }

-- the list with the candidate and this paper as its last; with no paper, the list unchanged
abbrev pub with_member : ℕ → Option Code → List Entrant → List Entrant
with_member n paper entrants = option_map_or (λ p. with_last (entrant n p) entrants) paper entrants

-- the session of the paper, if the entry is live
abbrev pub entered_session : Relations → Code → Entry → Option Code
entered_session r p entry =
    if entry.live then option_map (λ paper. paper.session) (row_at code_cmp r.papers p) else None

-- the members of the session by number, each with the least of their live papers
abbrev pub entrants : Relations → Code → List Entrant
entrants r s = filter_map (λ c. option_map (entrant c) (least_live_paper r s c)) (keys_of r.candidates)

-- these are the lists of each session, also of one that does not exist; and numbers and codes rise
pub record AreListsOf (r : Relations) (lists : SessionLists) : Type 0 where
  pub numbers : (s : Code) → map (λ (e : Entrant). e.number) (entrants r s) ≡ members r s
  pub members : (s : Code) → listed lists.members.entries s ≡ entrants r s
  pub halls : (s : Code) → listed lists.halls.entries s ≡ open_halls r s
  pub rising : (s : Code) → ListsRise r s

-- ---- one candidate listed again

-- The list without the candidate of this number; if there is a paper, then with them between the lesser and the greater
-- numbers.
abbrev pub placed : ℕ → Option Code → List Entrant → List Entrant
placed n paper list =
    filter (λ (e : Entrant). nat_lt e.number n) list
    ++ cons_option (option_map (entrant n) paper) (filter (λ (e : Entrant). nat_lt n e.number) list)

-- the paper with which the number is listed: the least live one, if the number is a candidate's
abbrev pub listed_paper : Relations → Code → ℕ → Option Code
listed_paper r s c = if has_row nat_cmp r.candidates c then least_live_paper r s c else None

-- One entry has been set: that of this candidate for some paper of the session. It is new, or it replaces the one
-- before. The candidates, the papers and the openings are the same. Nothing is said of the rest, since the lists do not
-- show it.
pub record SetsEntry (before after : Relations) (s : Code) (c : ℕ) : Type 0 where
  pub paper : Code
  pub entry : Entry
  pub of_session : is_paper_of before s paper ≡ true
  pub entries : after.entries ≡ put_row entry_cmp before.entries (c, paper) entry
  pub candidates : after.candidates ≡ before.candidates
  pub papers : after.papers ≡ before.papers
  pub openings : after.openings ≡ before.openings

-- the entrant at this place is this one
abbrev pub StandsAt : List Entrant → ℕ → Entrant → Type 0
StandsAt entrants place entrant =
    (place < length entrants) × (slice_index_or entrants place entrant ≡ entrant)

-- the entrant at this place, if there is one, has another number
abbrev pub HasOtherAt : List Entrant → ℕ → ℕ → Type 0
HasOtherAt entrants place number =
    place < length entrants → (e : Entrant) → nat_eq (slice_index_or entrants place e).number number ≡ false

-- ---- one candidate entered

abbrev pub lesser_paper : Code → Code → Code
lesser_paper p q = if is_lt (code_cmp p q) then p else q

-- The list with the candidate of this number before the first greater number: with this paper, or with the one with
-- which they are listed already, if that is less.
abbrev pub entered : ℕ → Code → List Entrant → List Entrant
entered n p [] = entrant n p ∷ []
entered n p (e ∷ es) =
    match_ordering (nat_cmp n e.number) (entrant n p ∷ e ∷ es) (entrant n (lesser_paper p e.paper) ∷ es)
    (e ∷ entered n p es)

-- The entry of this candidate for this paper, which is one of the session, has been made live. It is new, or it
-- replaces the one before, which may have been live. The candidates, the papers and the openings are the same. Nothing
-- is said of the rest, since the lists do not show it.
pub record MakesLive (before after : Relations) (s : Code) (c : ℕ) (p : Code) : Type 0 where
  pub of_session : is_paper_of before s p ≡ true
  pub candidate : has_row nat_cmp before.candidates c ≡ true
  pub entries : after.entries ≡ put_row entry_cmp before.entries (c, p) (record { live = true })
  pub candidates : after.candidates ≡ before.candidates
  pub papers : after.papers ≡ before.papers
  pub openings : after.openings ≡ before.openings

-- ---- one hall closed

abbrev pub without_hall : Code → List Code → List Code
without_hall h halls = filter (λ k. not (same_code k h)) halls

-- the facts without the opening of the hall for the session
abbrev pub closed : Relations → Code → Code → Relations
closed r s h = record r { openings = remove_row opening_cmp r.openings (s, h) }
