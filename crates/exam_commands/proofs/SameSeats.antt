-- Seats are the same if each candidate sits in the same hall.
use Rattle.std.proofs.Common.{◌≡◌, ℕ, ◌≤◌, ◌&&◌, ◌||◌, Bool, true, false, List, [], ◌∷◌, length, nat_eq, IsTrue}
use Rattle.std.proofs.Common.{BTreeMap, ap, sym, ◌∙◌, refl}
use Rattle.std.specs.Prelude.{nat_le}
use Rattle.std.specs.Bool.{Decides}
use Rattle.std.specs.List.{list_all, list_any}
use Rattle.std.specs.Map.{keys_of}
use Rattle.std.specs.BTreeMap.{IsOrdered}
use Rattle.std.proofs.lemmas.Bool.{and_parts, leb-true}
use Rattle.std.proofs.lemmas.Bool.Decides.{Decides-and, Decides-eqb}
use Rattle.std.proofs.lemmas.Map.Lookups.{btree_map_from_get}
use Rattle.exam_plan.specs.HallSets.{most_halls}
use Rattle.exam_plan.specs.Problems.{most_members}
use Rattle.exam_rules.specs.Relations.{Code, Relations, same_code, code_cmp, seat_cmp, has_row}
use Rattle.exam_rules.specs.Sessions.{members}
use Rattle.exam_rules.specs.Seatings.{plan_of, open_halls}
use Rattle.exam_rules.proofs.Naming.{same_code_exact, same_code_itself}
use Rattle.exam_commands.proofs.KeyedRows.{seats_exact, seats_total}
use Rattle.exam_commands.specs.Limits.{within_limits, sessions_within, papers_within, halls_within, openings_within}
use Rattle.exam_commands.specs.Limits.{candidates_within, members_within, appeals_within}
use Rattle.exam_commands.proofs.AllSessions.{known_among}

pub codes_decide : (h k : Code) → Decides (same_code h k) (h ≡ k)
codes_decide h k = (same_code_exact h k, λ e. ap (same_code h) (sym e) ∙ same_code_itself h)

pub keys_decide : (x y : Code × ℕ) → Decides (same_code x.0 y.0 && nat_eq x.1 y.1) (x ≡ y)
keys_decide x y = let both =
    Decides-and (same_code x.0 y.0) (nat_eq x.1 y.1) (codes_decide x.0 y.0) (Decides-eqb x.1 y.1) in (
      λ e. let w = both.0 e in ap (λ s. (s, x.1)) w.0 ∙ ap (λ c. (y.0, c)) w.1,
      λ e. both.1 (ap (λ (z : Code × ℕ). z.0) e, ap (λ (z : Code × ℕ). z.1) e),
    )

pub seats_from_plans : (one other : BTreeMap (Code × ℕ) Code) → IsOrdered seat_cmp one → IsOrdered seat_cmp other
    → ((s : Code) (c : ℕ) → plan_of one.entries s c ≡ plan_of other.entries s c) → one.entries ≡ other.entries
seats_from_plans one other s t same = btree_map_from_get seats_total one other s t (λ q. same q.0 q.1) seats_exact

-- what holds of all keys holds of one that is among them
all_at : (p : Code → Bool) (keys : List Code) (s : Code) → list_all p keys ≡ true → list_any (same_code s) keys ≡ true
    → p s ≡ true
all_at p [] s every among = cc
all_at p (k ∷ keys) s every among =
    inner (same_code s k) refl among (all_at p keys s (and_parts (p k) (list_all p keys) every).1)
  where
    inner : (b : Bool) → same_code s k ≡ b → (b || list_any (same_code s) keys) ≡ true
        → (list_any (same_code s) keys ≡ true → p s ≡ true) → p s ≡ true
    inner true e among rest = ap p (same_code_exact s k e) ∙ (and_parts (p k) (list_all p keys) every).0
    inner false e among rest = rest among

-- within its limit no session has too many members
pub few_within : (r : Relations) → IsTrue (members_within r) → (s : Code) → IsTrue (has_row code_cmp r.sessions s)
    → length (members r s) ≤ most_members
few_within r within s known =
    leb-true (length (members r s)) most_members
    (all_at (λ t. nat_le (length (members r t)) most_members) (keys_of r.sessions) s within
    (sym (known_among s r.sessions) ∙ known))

-- within its limit no session has too many open halls
pub few_halls_within : (r : Relations) → IsTrue (openings_within r) → (s : Code)
    → IsTrue (has_row code_cmp r.sessions s) → length (open_halls r s) ≤ most_halls
few_halls_within r within s known =
    leb-true (length (open_halls r s)) most_halls
    (all_at (λ t. nat_le (length (open_halls r t)) most_halls) (keys_of r.sessions) s within
    (sym (known_among s r.sessions) ∙ known))

-- the limits of openings and of members are among all limits
module _ (r : Relations) (limits : IsTrue (within_limits r)) where
  abbrev from_members : Bool
  from_members = members_within r && appeals_within r

  past_halls : IsTrue (openings_within r) × IsTrue (candidates_within r && from_members)
  past_halls =
      let from_openings = openings_within r && (candidates_within r && from_members) in
      let past_sessions = and_parts (sessions_within r) (papers_within r && (halls_within r && from_openings)) limits in
      let past_papers = and_parts (papers_within r) (halls_within r && from_openings) past_sessions.1 in
      and_parts (openings_within r) (candidates_within r && from_members)
      (and_parts (halls_within r) from_openings past_papers.1).1

  pub within_openings : IsTrue (openings_within r)
  within_openings = past_halls.0

  pub within_members : IsTrue (members_within r)
  within_members = (and_parts (members_within r) (appeals_within r)
      (and_parts (candidates_within r) from_members past_halls.1).1).0

  -- within all limits too
  pub few_members : (s : Code) → IsTrue (has_row code_cmp r.sessions s) → length (members r s) ≤ most_members
  few_members = few_within r within_members

  pub few_halls : (s : Code) → IsTrue (has_row code_cmp r.sessions s) → length (open_halls r s) ≤ most_halls
  few_halls = few_halls_within r within_openings
