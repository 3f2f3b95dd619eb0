-- Which halls fit a member, and the seating problem of a session.
use Rattle.std.specs.Prelude.{◌≡◌, ◌⊎◌, ◌<◌, length, ℕ, ◌+◌, ◌&&◌, ◌||◌, nat_le, nat_lt, nat_eq, not, Bool}
use Rattle.std.specs.Prelude.{true, false, List, [], ◌∷◌, map, filter, count_by, Option, None, Some, if◌then◌else◌}
use Rattle.std.specs.List.{list_any}
use Rattle.std.specs.Option.{option_map, option_and_then, option_map_or, option_cmp}
use Rattle.std.specs.declared.cmp.Ordering.{Ordering}
use Rattle.std.specs.Ordering.{nat_cmp, is_lt}
use Rattle.exam_types.specs.Features.{no_features, holds_features}
use Rattle.exam_types.specs.declared.refusal.Refusal.{Refusal}
use Rattle.exam_types.specs.declared.refusal.Refusal.TheVariants.{TooMany}
use Rattle.exam_rules.specs.declared.rows.Session.{Session}
use Rattle.exam_rules.specs.declared.rows.Paper.{Paper}
use Rattle.exam_rules.specs.declared.rows.Hall.{Hall}
use Rattle.exam_rules.specs.declared.rows.Opening.{Opening}
use Rattle.exam_rules.specs.declared.rows.Arrangement.{Arrangement}
use Rattle.exam_rules.specs.declared.fit.Terms.{Terms}
use Rattle.exam_rules.specs.declared.fit.Room.{Room}
use Rattle.exam_plan.specs.Matching.{Seating, Plan}
use Rattle.exam_plan.specs.HallSets.{most_halls}
use Rattle.exam_plan.specs.Problems.{Problem, most_members, seating_of}
use Rattle.exam_rules.specs.Relations.{Code, Relations, pair_cmp, code_cmp, same_code, opening_cmp, seat_cmp}
use Rattle.exam_rules.specs.Relations.{has_row, row_at}
use Rattle.exam_rules.specs.Sessions.{members, has_live_entry, sitting, sitting_row, arrangement_in_force}
use Rattle.exam_rules.specs.Sessions.{barred_halls, end_of, IsSessionRefusal}

-- a need, or extra time
abbrev pub is_special : Arrangement → Bool
is_special a = not (holds_features no_features a.needs) || nat_lt 0 a.extra

-- how a paper of the session is sat under the arrangement
abbrev pub terms_of : Session → Paper → Arrangement → Terms
terms_of session paper arrangement = record {
  end = end_of session paper arrangement;
  needs = arrangement.needs;
  required = paper.required;
  special = is_special arrangement;
}

-- how a member sits: their sitting paper, under the arrangement in force
abbrev pub sitting_terms : Relations → Code → ℕ → Option Terms
sitting_terms r s c =
    option_and_then (λ session.
    option_map (λ paper. terms_of session paper (arrangement_in_force r s c)) (sitting_row r s c))
    (row_at code_cmp r.sessions s)

abbrev pub room_of : Hall → Opening → Room
room_of hall opening = record { features = hall.features; until = opening.until; reserved = opening.reserved }

-- the hall as it is opened for the session
abbrev pub opened_room : Relations → Code → Code → Option Room
opened_room r s h =
    option_and_then (λ hall. option_map (room_of hall) (row_at opening_cmp r.openings (s, h)))
    (row_at code_cmp r.halls h)

-- The room has the features that are needed and required, and is open long enough; if it is reserved, the member has
-- needs or extra time.
abbrev pub suits : Terms → Room → Bool
suits terms room =
    (holds_features room.features terms.needs && holds_features room.features terms.required)
    && (nat_le terms.end room.until && (not room.reserved || terms.special))

abbrev pub suits_opened : Option Terms → Option Room → Bool
suits_opened (Some terms) (Some room) = suits terms room
suits_opened None room = false
suits_opened (Some terms) None = false

-- The hall fits the member: it is opened for the session and suits the member, and no granted appeal of the member for
-- the session bars it. Does not ask whether the number is a candidate's; plans seat only members.
abbrev pub fits : Relations → Code → ℕ → Code → Bool
fits r s c h =
    has_live_entry r s c
    && (suits_opened (sitting_terms r s c) (opened_room r s h)
    && not (list_any (same_code h) (barred_halls r s c)))

-- the desks of the hall in the session; 0 if it is not opened
abbrev pub desks : Relations → Code → Code → ℕ
desks r s h = option_map_or (λ opening. opening.desks) (row_at opening_cmp r.openings (s, h)) 0

-- the halls opened for the session, codes rising
abbrev pub open_halls : Relations → Code → List Code
open_halls r s = map (λ (o : (Code × Code) × Opening). o.0.1) (filter (λ o. same_code o.0.0 s) r.openings)

-- the seating problem of a session
abbrev pub seating : Relations → Code → Seating ℕ Code
seating r s = record {
  members = members r s;
  fits = fits r s;
  desks = desks r s;
  same_candidate = nat_eq;
  same_hall = same_code;
  candidate_cmp = nat_cmp;
  hall_cmp = code_cmp;
}

-- a plan of all sessions is a relation from session and number to hall; this is its part for a session
abbrev pub plan_of : List ((Code × ℕ) × Code) → Code → Plan ℕ Code
plan_of seats s c = row_at seat_cmp seats (s, c)

-- by the sitting paper, and then by the number
abbrev pub desk_key : Relations → Code → ℕ → Option Code × ℕ
desk_key r s c = (sitting r s c, c)

abbrev pub desk_cmp : Option Code × ℕ → Option Code × ℕ → Ordering
desk_cmp = pair_cmp (option_cmp code_cmp) nat_cmp

-- in the order of desks
abbrev pub comes_before : Relations → Code → ℕ → ℕ → Bool
comes_before r s c d = is_lt (desk_cmp (desk_key r s c) (desk_key r s d))

-- the places, from n on, of the elements that pass
abbrev pub positions : {A : Type 0} → (A → Bool) → ℕ → List A → List ℕ
positions p n [] = []
positions p n (x ∷ xs) = if p x then n ∷ positions p (n + 1) xs else positions p (n + 1) xs

-- the places of the halls that fit the candidate, in a list of halls
abbrev pub fitting_places : Relations → Code → ℕ → List Code → List ℕ
fitting_places r s c halls = positions (fits r s c) 0 halls

-- the candidate's place in the order of desks, from 0
abbrev pub rank : Relations → Code → ℕ → ℕ
rank r s c = count_by (λ d. comes_before r s d c) (members r s)

-- The session's seating with indices for candidates and halls: i is the i-th member, and j the j-th open hall.
abbrev pub problem_of : Relations → Code → Problem
problem_of r s = record {
  desk_counts = map (desks r s) (open_halls r s);
  fit = map (λ c. fitting_places r s c (open_halls r s)) (members r s);
  rank = map (rank r s) (members r s);
}

-- The seating problem of a session by indices.
abbrev pub indexed_seating : Relations → Code → Seating ℕ ℕ
indexed_seating r s = seating_of (problem_of r s)

-- there are more members, or more open halls, than any session may have
abbrev pub IsTooLarge : Relations → Code → Type 0
IsTooLarge r s = (most_members < length (members r s)) ⊎ (most_halls < length (open_halls r s))

-- the refusals of every call on a session, and `TooMany` for a known session with too many members or open halls
abbrev pub IsProblemRefusal : Relations → Code → Refusal → Type 0
IsProblemRefusal r s e =
    IsSessionRefusal r s e ⊎ ((e ≡ TooMany) × IsTooLarge r s × (has_row code_cmp r.sessions s ≡ true))

-- ---- definitions that only the code uses

-- halls with their rooms
abbrev pub with_rooms : Relations → Code → List Code → List (Code × Option Room)
with_rooms r s halls = map (λ h. (h, opened_room r s h)) halls

-- the hall suits the terms, and is none of the barred ones
abbrev pub is_suiting : Option Terms → List Code → Code × Option Room → Bool
is_suiting terms barred hall = suits_opened terms hall.1 && not (list_any (same_code hall.0) barred)

-- for each key, how many keys are less
abbrev pub ranks_of : List (Option Code × ℕ) → List ℕ
ranks_of keys = map (λ k. count_by (λ other. is_lt (desk_cmp other k)) keys) keys
