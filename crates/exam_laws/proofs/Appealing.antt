-- What a lodging and a retraction change: no seating, and what each appeal refers to is there.
use Rattle.exam_laws.proofs.Words.{list_any, cons_option, filter_map, AllByRecursion, option_map, option_map_or}
use Rattle.exam_laws.proofs.Words.{option_and_then, option_or, nat_cmp, Appeal, Arrangement, Paper, Session, Status}
use Rattle.exam_laws.proofs.Words.{Subject, Code, Relations, appeal_cmp, code_cmp, put_row, row_at, same_code}
use Rattle.exam_laws.proofs.Words.{arrangement_by, asked_arrangement, granted_subjects, has_live_entry, is_granted}
use Rattle.exam_laws.proofs.Words.{is_granted_appeal, is_live_paper, is_marked, is_standing, option_filter, session_day}
use Rattle.exam_laws.proofs.Words.{standing_grant, standing_grants, fits, opened_room, seating, suits_opened}
use Rattle.exam_laws.proofs.Words.{appeals_exact, put_passed_over, is_open, SingleKey, same_single_key, single_key}
use Rattle.exam_laws.proofs.Words.{SameSeating}
use Rattle.std.proofs.Common.{◌≡◌, ℕ, ◌&&◌, not, Bool, false, List, [], ◌∷◌, map, nat_eq, Option, None}
use Rattle.std.proofs.Common.{Some, arith, refl, ap, sym, ◌∙◌}
use Rattle.std.proofs.lemmas.Bool.{or_parts}
use Rattle.exam_rules.specs.declared.rows.Status.TheVariants as status
use Rattle.exam_rules.specs.declared.rows.Subject.TheVariants as subject
use Rattle.exam_rules.specs.declared.standing.StandingGrant.{StandingGrant}
use Rattle.exam_rules.specs.Sessions.{asked_hall, asked_paper, head_of, least_live_paper}
use Rattle.exam_rules.specs.Seatings.{terms_of}
use Rattle.exam_commands.specs.declared.single.Single.{Single}
use Rattle.exam_commands.specs.declared.single.Single.TheVariants as single
use Rattle.exam_commands.specs.Appeals.{is_open_appeal, same_kind}
use Rattle.exam_commands.specs.Singles.{same_single, single_as}
use Rattle.exam_commands.proofs.ImportKeys.{code_flips, number_flips}

-- ---- the seating of a session knows of appeals what the granted ones ask

abbrev pub Appeals : Type 0
Appeals = List ((ℕ × Code) × Appeal)

abbrev pub Marks : Type 0
Marks = List ((ℕ × Code) × Unit {0})

abbrev pub with_appeals : Relations → Appeals → Relations
with_appeals r appeals = record r { appeals = appeals }

abbrev pub with_decisions : Relations → Appeals → Marks → Relations
with_decisions r appeals marks = record r { appeals = appeals; standing = marks }

module _ (r : Relations) (appeals : Appeals) (marks : Marks) (s : Code) where
  module _ (c : ℕ) (same : granted_subjects appeals s c ≡ granted_subjects r.appeals s c)
      (stand : standing_grants (with_decisions r appeals marks) c ≡ standing_grants r c) where
    -- the paper that is sat if this is granted
    abbrev sitting_by : List Subject → Option Code
    sitting_by asked = option_or (option_filter (is_live_paper r s c) (head_of (filter_map asked_paper asked)))
        (least_live_paper r s c)

    abbrev in_force_by : List Subject → List StandingGrant → Arrangement
    in_force_by asked grants =
        arrangement_by (head_of (filter_map asked_arrangement asked)) (session_day r s) grants
        (row_at nat_cmp r.arrangements c)

    abbrev fits_by : Code → List Subject → List StandingGrant → Bool
    fits_by h asked grants = has_live_entry r s c
        && (suits_opened (option_and_then
        (λ (session : Session). option_map (λ (paper : Paper). terms_of session paper (in_force_by asked grants))
        (option_and_then (row_at code_cmp r.papers) (sitting_by asked))) (row_at code_cmp r.sessions s))
        (opened_room r s h)
        && not (list_any (same_code h) (filter_map asked_hall asked)))

    -- a hall fits the candidate exactly if it did
    pub fits_same : (h : Code) → fits (with_decisions r appeals marks) s c h ≡ fits r s c h
    fits_same h = ap (fits_by h (granted_subjects appeals s c)) stand
        ∙ ap (λ asked. fits_by h asked (standing_grants r c)) same

  pub seating_by : ((c : ℕ) (h : Code) → fits (with_decisions r appeals marks) s c h ≡ fits r s c h)
      → SameSeating (seating r s) (seating (with_decisions r appeals marks) s)
  seating_by same = record { members = refl; fits = λ c h. sym (same c h); desks = λ h. refl }

-- what is not granted counts for nothing
pub not_granted : (mine here : Bool) → (mine && (here && false)) ≡ false
not_granted mine here = grind arith

-- ungranted, marked or not
pub never_marked : (mine marked : Bool) → (mine && (false && marked)) ≡ false
never_marked mine marked = grind arith

-- an appeal that is put leaves the standing grants as they are, if it is not granted and replaces no granted one
pub put_standing_same : (r : Relations) (k : ℕ × Code) (a : Appeal) → is_granted a.status ≡ false
    → ((b : Appeal) → row_at appeal_cmp r.appeals k ≡ Some b → is_granted b.status ≡ false)
    → (c : ℕ) → standing_grants (with_appeals r (put_row appeal_cmp r.appeals k a)) c ≡ standing_grants r c
put_standing_same r k a new old c =
    ap (filter_map (λ (x : (ℕ × Code) × Appeal). standing_grant r x.1))
    (put_passed_over appeal_cmp appeals_exact (is_standing r c) r.appeals k a
    (ap (λ g. nat_eq k.0 c && (g && is_marked r k)) new ∙ never_marked (nat_eq k.0 c) (is_marked r k))
    (λ b at. ap (λ g. nat_eq k.0 c && (g && is_marked r k)) (old b at) ∙ never_marked (nat_eq k.0 c) (is_marked r k)))

-- an appeal that is put seats nobody elsewhere, if it is not granted and replaces no granted one
pub put_seating_same : (r : Relations) (k : ℕ × Code) (a : Appeal) → is_granted a.status ≡ false
    → ((b : Appeal) → row_at appeal_cmp r.appeals k ≡ Some b → is_granted b.status ≡ false)
    → (s : Code) → SameSeating (seating r s) (seating (with_appeals r (put_row appeal_cmp r.appeals k a)) s)
put_seating_same r k a new old s = seating_by r (put_row appeal_cmp r.appeals k a) r.standing s (λ c.
    fits_same r (put_row appeal_cmp r.appeals k a) r.standing s c
    (ap (map (λ (x : (ℕ × Code) × Appeal). x.1.subject))
    (put_passed_over appeal_cmp appeals_exact (is_granted_appeal s c) r.appeals k a
    (ap (λ g. nat_eq k.0 c && (same_code a.session s && g)) new ∙ not_granted (nat_eq k.0 c) (same_code a.session s))
    (λ b at. ap (λ g. nat_eq k.0 c && (same_code b.session s && g)) (old b at)
    ∙ not_granted (nat_eq k.0 c) (same_code b.session s))))
    (put_standing_same r k a new old c))

-- ---- an appeal's own key among those that a candidate may have only once

abbrev pub open_as : Subject → Single
open_as (subject.Hall h) = single.OpenHall
open_as (subject.Clash p) = single.OpenClash
open_as (subject.Arrangement a) = single.OpenArrangement

abbrev pub key_with : Code → ℕ → Option Single → Option SingleKey
key_with s c o = option_map (λ kind. (s, c, kind)) o

pub open_key : (k : ℕ × Code) (a : Appeal) → a.status ≡ status.Pending
    → single_key (k, a) ≡ Some (a.session, k.0, open_as a.subject)
open_key k a pending = ap (λ st. key_with a.session k.0 (single_as st a.subject)) pending ∙ inner a.subject
  where
    inner : (asked : Subject)
        → key_with a.session k.0 (single_as status.Pending asked) ≡ Some (a.session, k.0, open_as asked)
    inner asked = grind arith

-- the key of an open appeal of its kind
same_open : (asked : Subject) (st : Status) (other : Subject)
    → option_map_or (same_single (open_as asked)) (single_as st other) false ≡ (same_kind other asked && is_open st)
same_open asked st other = grind arith

kind_flips : (a b : Single) → same_single a b ≡ same_single b a
kind_flips a b = grind arith

pub single_flips : (x y : SingleKey) → same_single_key x y ≡ same_single_key y x
single_flips x y =
    ap (λ b. b && (nat_eq x.1 y.1 && same_single x.2 y.2)) (code_flips x.0 y.0)
    ∙ ap (λ b. same_code y.0 x.0 && (b && same_single x.2 y.2)) (number_flips x.1 y.1)
    ∙ ap (λ b. same_code y.0 x.0 && (nat_eq y.1 x.1 && b)) (kind_flips x.2 y.2)

module _ (s : Code) (c : ℕ) (asked : Subject) where
  -- equal to the key of an open appeal of the candidate, session and kind
  abbrev is_tied : (ℕ × Code) × Appeal → Bool
  is_tied a = option_map_or (same_single_key (s, c, open_as asked)) (single_key a) false

  turned : (here mine tied : Bool) → (here && (mine && tied)) ≡ (mine && (here && tied))
  turned here mine tied = grind arith

  tied_open : (a : (ℕ × Code) × Appeal) → is_tied a ≡ is_open_appeal c s asked a
  tied_open a =
      at (single_as a.1.status a.1.subject)
      ∙ ap (λ b. same_code s a.1.session && (nat_eq c a.0.0 && b)) (same_open asked a.1.status a.1.subject)
      ∙ turned (same_code s a.1.session) (nat_eq c a.0.0) (same_kind a.1.subject asked && is_open a.1.status)
      ∙ ap (λ b. b && (same_code s a.1.session && (same_kind a.1.subject asked && is_open a.1.status)))
      (number_flips c a.0.0)
      ∙ ap (λ b. nat_eq a.0.0 c && (b && (same_kind a.1.subject asked && is_open a.1.status)))
      (code_flips s a.1.session)
    where
      at : (o : Option Single)
          → option_map_or (same_single_key (s, c, open_as asked)) (key_with a.1.session a.0.0 o) false
          ≡ (same_code s a.1.session && (nat_eq c a.0.0 && option_map_or (same_single (open_as asked)) o false))
      at None = sym (not_granted (same_code s a.1.session) (nat_eq c a.0.0))
      at (Some kind) = refl

  -- if none is open, the key of one differs from all
  pub apart_from_all : (rows : Appeals) → list_any (is_open_appeal c s asked) rows ≡ false
      → AllByRecursion (λ z. same_single_key (s, c, open_as asked) z ≡ false) (filter_map single_key rows)
  apart_from_all [] none = tt
  apart_from_all (a ∷ rows) none =
      let parts = or_parts (is_open_appeal c s asked a) (list_any (is_open_appeal c s asked) rows) none in
      inner (single_key a) refl parts.0 (apart_from_all rows parts.1)
    where
      inner : (o : Option SingleKey) → single_key a ≡ o → is_open_appeal c s asked a ≡ false
          → AllByRecursion (λ z. same_single_key (s, c, open_as asked) z ≡ false) (filter_map single_key rows)
          → AllByRecursion (λ z. same_single_key (s, c, open_as asked) z ≡ false)
          (cons_option o (filter_map single_key rows))
      inner None is closed rest = rest
      inner (Some z) is closed rest = (
        ap (λ o. option_map_or (same_single_key (s, c, open_as asked)) o false) (sym is) ∙ tied_open a ∙ closed,
        rest,
      )
