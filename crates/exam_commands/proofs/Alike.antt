-- What the seating of a session knows of the facts: facts that say the same of the session give it the same seating.
use Rattle.std.proofs.Common.{◌≡◌, ℕ, ◌==◌, ◌&&◌, ◌||◌, not, Bool, true, false, cond, List, [], ◌∷◌, map, filter}
use Rattle.std.proofs.Common.{Option, None, Some, is_some, refl, ap, sym, ◌∙◌}
use Rattle.std.specs.List.{list_any, filter_map}
use Rattle.std.specs.Map.{keys_of}
use Rattle.std.specs.Option.{option_and_then, option_map, option_map_or, option_or}
use Rattle.std.specs.BTreeMap.{is_at}
use Rattle.std.specs.Cmp.{Equal-is}
use Rattle.std.specs.declared.cmp.Ordering.{Ordering}
use Rattle.std.proofs.Math.Path.{fun_ext}
use Rattle.std.proofs.lemmas.Map.Lookups.{CmpEqualImpliesEq}
use Rattle.exam_rules.specs.declared.fit.Room.{Room}
use Rattle.exam_rules.specs.declared.rows.Arrangement.{Arrangement}
use Rattle.exam_rules.specs.declared.rows.Entry.{Entry}
use Rattle.exam_rules.specs.declared.rows.Hall.{Hall}
use Rattle.exam_rules.specs.declared.rows.Opening.{Opening}
use Rattle.exam_rules.specs.declared.rows.Paper.{Paper}
use Rattle.exam_rules.specs.declared.rows.Session.{Session}
use Rattle.exam_rules.specs.declared.rows.Subject.{Subject}
use Rattle.exam_rules.specs.Relations.{Code, Relations, code_cmp, entry_cmp, opening_cmp, has_row, row_at, same_code}
use Rattle.exam_rules.specs.Sessions.{arrangement_in_force, asked_hall, asked_paper, granted_subjects, has_live_entry}
use Rattle.exam_rules.specs.Sessions.{head_of, is_live, is_live_entry, is_live_paper, is_paper_of, least_live_paper}
use Rattle.exam_rules.specs.Sessions.{live_papers, members, option_filter, sitting, sitting_row}
use Rattle.exam_rules.specs.Seatings.{desks, fits, opened_room, room_of, seating, suits_opened, terms_of}
use Rattle.exam_rules.proofs.Relisting.{entries_exact}
use Rattle.exam_commands.specs.Steps.{SameSeating}
use Rattle.exam_commands.proofs.Keeping.{filtered}
use Rattle.exam_commands.proofs.Members.{sitting_paper}

-- ---- rows that pass

-- one passes if there is a first that does
any_first : {A : Type 0} (p : A → Bool) (xs : List A) → list_any p xs ≡ is_some (head_of (filter p xs))
any_first p [] = refl
any_first p (x ∷ xs) = inner (p x) (any_first p xs)
  where
    inner : (b : Bool) → list_any p xs ≡ is_some (head_of (filter p xs))
        → (b || list_any p xs) ≡ is_some (head_of (cond b (x ∷ filter p xs) (filter p xs)))
    inner true rest = refl
    inner false rest = rest

module _ {K X : Type 0} (cmp : K → K → Ordering) (exact : CmpEqualImpliesEq cmp) where
  -- a row whose key passes is found among those that pass
  pub found_among : (p : K × X → Bool) (rows : List (K × X)) (k : K) → ((x : X) → p (k, x) ≡ true)
      → row_at cmp (filter p rows) k ≡ row_at cmp rows k
  found_among p [] k passes = refl
  found_among p (e ∷ es) k passes = inner (p e) refl (is_at (cmp k) e.0) refl (found_among p es k passes)
    where
      inner : (b : Bool) → p e ≡ b → (a : Bool) → is_at (cmp k) e.0 ≡ a → row_at cmp (filter p es) k ≡ row_at cmp es k
          → row_at cmp (cond b (e ∷ filter p es) (filter p es)) k ≡ cond a (Some e.1) (row_at cmp es k)
      inner true is a at rest =
          ap (λ o. cond (is_at (cmp k) e.0) (Some e.1) o) rest ∙ ap (λ c. cond c (Some e.1) (row_at cmp es k)) at
      inner false is true at rest =
          let same : k ≡ e.0 = exact k e.0 ((Equal-is (cmp k e.0)).0 at) in
          absurd (let differ : true ≡ false = sym (passes e.1) ∙ ap (λ z. p (z, e.1)) same ∙ is in cc)
      inner false is false at rest = rest

-- ---- what is said of a session

-- The facts t say of the session what the facts r say: its row, its papers, the entries for them, its openings
-- with their halls, and of its members that they are there, their arrangements in force and what they were granted.
pub record SpeakAlike (r t : Relations) (s : Code) : Type 0 where
  pub session : row_at code_cmp t.sessions s ≡ row_at code_cmp r.sessions s
  pub papers : (p : Code) → is_paper_of t s p ≡ is_paper_of r s p
  pub paper_rows : (p : Code) → is_paper_of r s p ≡ true → row_at code_cmp t.papers p ≡ row_at code_cmp r.papers p
  pub entries : filter (λ (e : (ℕ × Code) × Entry). is_paper_of r s e.0.1) t.entries
      ≡ filter (λ (e : (ℕ × Code) × Entry). is_paper_of r s e.0.1) r.entries
  pub openings : (h : Code) → row_at opening_cmp t.openings (s, h) ≡ row_at opening_cmp r.openings (s, h)
  pub halls : (h : Code) → has_row opening_cmp r.openings (s, h) ≡ true
      → row_at code_cmp t.halls h ≡ row_at code_cmp r.halls h
  pub candidates : filter (has_live_entry r s) (keys_of t.candidates)
      ≡ filter (has_live_entry r s) (keys_of r.candidates)
  pub in_force : (c : ℕ) → has_live_entry r s c ≡ true → arrangement_in_force t s c ≡ arrangement_in_force r s c
  pub granted : (c : ℕ) → granted_subjects t.appeals s c ≡ granted_subjects r.appeals s c

pub alike_itself : (r : Relations) (s : Code) → SpeakAlike r r s
alike_itself r s = record {
  session = refl;
  papers = λ p. refl;
  paper_rows = λ p of. refl;
  entries = refl;
  openings = λ h. refl;
  halls = λ h opened. refl;
  candidates = refl;
  in_force = λ c member. refl;
  granted = λ c. refl;
}

module _ (r t : Relations) (s : Code) (alike : SpeakAlike r t s) where
  same_papers : is_paper_of t s ≡ is_paper_of r s
  same_papers = fun_ext alike.papers

  module _ (c : ℕ) where
    abbrev live_by : (Code → Bool) → (ℕ × Code) × Entry → Bool
    live_by of e = (e.0.0 == c) && (e.1.live && of e.0.1)

    absorbed : (mine live of : Bool) → (of && (mine && (live && of))) ≡ (mine && (live && of))
    absorbed mine live true = refl
    absorbed true true false = refl
    absorbed true false false = refl
    absorbed false live false = refl

    -- a live entry is for a paper of the session
    narrowed : (es : List ((ℕ × Code) × Entry))
        → filter (is_live_entry r s c) (filter (λ (e : (ℕ × Code) × Entry). is_paper_of r s e.0.1) es)
        ≡ filter (is_live_entry r s c) es
    narrowed es =
        filtered (λ (e : (ℕ × Code) × Entry). is_paper_of r s e.0.1) (is_live_entry r s c) es
        ∙ ap (λ f. filter f es)
        (fun_ext (λ (e : (ℕ × Code) × Entry). absorbed (e.0.0 == c) e.1.live (is_paper_of r s e.0.1)))

    live_rows : filter (is_live_entry t s c) t.entries ≡ filter (is_live_entry r s c) r.entries
    live_rows =
        ap (λ of. filter (live_by of) t.entries) same_papers
        ∙ sym (narrowed t.entries) ∙ ap (filter (is_live_entry r s c)) alike.entries ∙ narrowed r.entries

    pub entered_same : has_live_entry t s c ≡ has_live_entry r s c
    entered_same =
        any_first (is_live_entry t s c) t.entries
        ∙ ap (λ (es : List ((ℕ × Code) × Entry)). is_some (head_of es)) live_rows
        ∙ sym (any_first (is_live_entry r s c) r.entries)

    papers_same : live_papers t s c ≡ live_papers r s c
    papers_same = ap (map (λ (e : (ℕ × Code) × Entry). e.0.1)) live_rows

    live_paper_same : (p : Code) → is_live_paper t s c p ≡ is_live_paper r s c p
    live_paper_same p = ap (λ b. is_live t c p && b) (alike.papers p) ∙ inner (is_paper_of r s p) refl
      where
        none : (a b : Bool) → (a && false) ≡ (b && false)
        none true true = refl
        none true false = refl
        none false true = refl
        none false false = refl

        inner : (b : Bool) → is_paper_of r s p ≡ b → (is_live t c p && b) ≡ (is_live r c p && b)
        inner true of =
            let row : row_at entry_cmp t.entries (c, p) ≡ row_at entry_cmp r.entries (c, p) =
            sym (found_among entry_cmp entries_exact (λ (e : (ℕ × Code) × Entry). is_paper_of r s e.0.1) t.entries
            (c, p) (λ x. of))
            ∙ ap (λ (es : List ((ℕ × Code) × Entry)). row_at entry_cmp es (c, p)) alike.entries
            ∙ found_among entry_cmp entries_exact (λ (e : (ℕ × Code) × Entry). is_paper_of r s e.0.1) r.entries (c, p)
            (λ x. of) in
            ap (λ o. option_map_or (λ (entry : Entry). entry.live) o false && true) row
        inner false of = none (is_live t c p) (is_live r c p)

    abbrev sitting_by : (Code → Bool) → List Subject → Option Code → Option Code
    sitting_by live asked least = option_or (option_filter live (head_of (filter_map asked_paper asked))) least

    pub sitting_same : sitting t s c ≡ sitting r s c
    sitting_same =
        ap (λ live. sitting_by live (granted_subjects t.appeals s c) (least_live_paper t s c)) (fun_ext live_paper_same)
        ∙ ap (λ asked. sitting_by (is_live_paper r s c) asked (least_live_paper t s c)) (alike.granted c)
        ∙ ap (λ (ps : List Code). sitting_by (is_live_paper r s c) (granted_subjects r.appeals s c) (head_of ps))
        papers_same

    row_same : sitting_row t s c ≡ sitting_row r s c
    row_same = ap (option_and_then (row_at code_cmp t.papers)) sitting_same ∙ inner (sitting r s c) refl
      where
        inner : (o : Option Code) → sitting r s c ≡ o
            → option_and_then (row_at code_cmp t.papers) o ≡ option_and_then (row_at code_cmp r.papers) o
        inner None is = refl
        inner (Some p) is = alike.paper_rows p (sitting_paper r s c p is)

    room_same : (h : Code) → opened_room t s h ≡ opened_room r s h
    room_same h =
        ap (λ o. option_and_then (λ (hall : Hall). option_map (room_of hall) o) (row_at code_cmp t.halls h))
        (alike.openings h)
        ∙ inner (row_at opening_cmp r.openings (s, h)) refl
      where
        none : (o : Option Hall) → option_and_then (λ (hall : Hall). option_map {U = Room} (room_of hall) None) o ≡ None
        none None = refl
        none (Some hall) = refl

        inner : (o : Option Opening) → row_at opening_cmp r.openings (s, h) ≡ o
            → option_and_then (λ (hall : Hall). option_map (room_of hall) o) (row_at code_cmp t.halls h)
            ≡ option_and_then (λ (hall : Hall). option_map (room_of hall) o) (row_at code_cmp r.halls h)
        inner None is = none (row_at code_cmp t.halls h) ∙ sym (none (row_at code_cmp r.halls h))
        inner (Some opening) is =
            ap (option_and_then (λ (hall : Hall). option_map (room_of hall) (Some opening)))
            (alike.halls h (ap is_some is))

    abbrev fits_by : Code → Bool → Option Session → Option Paper → Arrangement → Option Room → List Subject → Bool
    fits_by h member session paper force room asked = member
        && (suits_opened (option_and_then
        (λ (x : Session). option_map (λ (p : Paper). terms_of x p force) paper) session) room
        && not (list_any (same_code h) (filter_map asked_hall asked)))

    pub fits_same : (h : Code) → fits t s c h ≡ fits r s c h
    fits_same h =
        ap (λ m. fits_by h m (row_at code_cmp t.sessions s) (sitting_row t s c) (arrangement_in_force t s c)
        (opened_room t s h) (granted_subjects t.appeals s c)) entered_same
        ∙ inner (has_live_entry r s c) refl
      where
        inner : (m : Bool) → has_live_entry r s c ≡ m
            → fits_by h m (row_at code_cmp t.sessions s) (sitting_row t s c) (arrangement_in_force t s c)
            (opened_room t s h) (granted_subjects t.appeals s c)
            ≡ fits_by h m (row_at code_cmp r.sessions s) (sitting_row r s c) (arrangement_in_force r s c)
            (opened_room r s h) (granted_subjects r.appeals s c)
        inner false is = refl
        inner true is =
            ap (λ o. fits_by h true o (sitting_row t s c) (arrangement_in_force t s c) (opened_room t s h)
            (granted_subjects t.appeals s c)) alike.session
            ∙ ap (λ o. fits_by h true (row_at code_cmp r.sessions s) o (arrangement_in_force t s c) (opened_room t s h)
            (granted_subjects t.appeals s c)) row_same
            ∙ ap (λ a. fits_by h true (row_at code_cmp r.sessions s) (sitting_row r s c) a (opened_room t s h)
            (granted_subjects t.appeals s c)) (alike.in_force c is)
            ∙ ap (λ o. fits_by h true (row_at code_cmp r.sessions s) (sitting_row r s c) (arrangement_in_force r s c) o
            (granted_subjects t.appeals s c)) (room_same h)
            ∙ ap (fits_by h true (row_at code_cmp r.sessions s) (sitting_row r s c) (arrangement_in_force r s c)
            (opened_room r s h)) (alike.granted c)

  members_same : members t s ≡ members r s
  members_same = ap (λ f. filter f (keys_of t.candidates)) (fun_ext entered_same) ∙ alike.candidates

  desks_same : (h : Code) → desks t s h ≡ desks r s h
  desks_same h = ap (λ o. option_map_or (λ (opening : Opening). opening.desks) o 0) (alike.openings h)

  pub alike_seating : SameSeating (seating r s) (seating t s)
  alike_seating = record
      { members = sym members_same; fits = λ c h. sym (fits_same c h); desks = λ h. sym (desks_same h) }
