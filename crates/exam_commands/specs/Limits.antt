-- The limits on the facts, by the table to which each belongs.
use Rattle.std.specs.Prelude.{ℕ, ◌&&◌, nat_le, Bool, true, length}
use Rattle.std.specs.List.{list_all}
use Rattle.std.specs.Map.{keys_of}
use Rattle.exam_types.specs.Features.{features_sum}
use Rattle.exam_plan.specs.HallSets.{most_halls}
use Rattle.exam_plan.specs.Problems.{most_members}
use Rattle.exam_rules.specs.declared.rows.Subject.{Subject}
use Rattle.exam_rules.specs.declared.rows.Subject.TheVariants as subject
use Rattle.exam_rules.specs.Relations.{Relations}
use Rattle.exam_rules.specs.Sessions.{members, appeal_count}
use Rattle.exam_rules.specs.Seatings.{open_halls}

-- ---- the numbers; those of a session's openings and members are limits of its problem too, and named there

abbrev pub most_sessions : ℕ
most_sessions = 400

abbrev pub most_papers : ℕ
most_papers = 2000

abbrev pub most_office_halls : ℕ
most_office_halls = 500

abbrev pub most_candidates : ℕ
most_candidates = 20000

-- of a candidate
abbrev pub most_appeals : ℕ
most_appeals = 64

-- ---- whether the facts are within them

abbrev pub sessions_within : Relations → Bool
sessions_within r = nat_le (length r.sessions) most_sessions

abbrev pub papers_within : Relations → Bool
papers_within r = nat_le (length r.papers) most_papers

abbrev pub halls_within : Relations → Bool
halls_within r = nat_le (length r.halls) most_office_halls

-- no session has more openings than so many
abbrev pub openings_at_most : ℕ → Relations → Bool
openings_at_most most r = list_all (λ s. nat_le (length (open_halls r s)) most) (keys_of r.sessions)

-- for each session
abbrev pub openings_within : Relations → Bool
openings_within r = openings_at_most most_halls r

abbrev pub candidates_within : Relations → Bool
candidates_within r = nat_le (length r.candidates) most_candidates

-- for each session
abbrev pub members_within : Relations → Bool
members_within r = list_all (λ s. nat_le (length (members r s)) most_members) (keys_of r.sessions)

-- for each candidate
abbrev pub appeals_within : Relations → Bool
appeals_within r = list_all (λ c. nat_le (appeal_count r c) most_appeals) (keys_of r.candidates)

abbrev pub within_limits : Relations → Bool
within_limits r =
    sessions_within r && (papers_within r && (halls_within r && (openings_within r && (candidates_within r
    && (members_within r && appeals_within r)))))

-- ---- what an older version of the tables could hold

abbrev pub needs_at_most : ℕ → Subject → Bool
needs_at_most greatest (subject.Hall h) = true
needs_at_most greatest (subject.Clash p) = true
needs_at_most greatest (subject.Arrangement a) = nat_le (features_sum a.needs) greatest

abbrev pub papers_at_most : ℕ → Relations → Bool
papers_at_most greatest r = list_all (λ x. nat_le (features_sum x.1.required) greatest) r.papers

abbrev pub halls_at_most : ℕ → Relations → Bool
halls_at_most greatest r = list_all (λ x. nat_le (features_sum x.1.features) greatest) r.halls

abbrev pub arrangements_at_most : ℕ → Relations → Bool
arrangements_at_most greatest r = list_all (λ x. nat_le (features_sum x.1.needs) greatest) r.arrangements

abbrev pub appeals_at_most : ℕ → Relations → Bool
appeals_at_most greatest r = list_all (λ x. needs_at_most greatest x.1.subject) r.appeals

-- no set of features has a greater sum, in whichever table
abbrev pub features_at_most : ℕ → Relations → Bool
features_at_most greatest r =
    papers_at_most greatest r
    && (halls_at_most greatest r && (arrangements_at_most greatest r && appeals_at_most greatest r))

-- both, with these limits
abbrev pub holds_at_most : ℕ → ℕ → Relations → Bool
holds_at_most openings greatest_sum r = openings_at_most openings r && features_at_most greatest_sum r
