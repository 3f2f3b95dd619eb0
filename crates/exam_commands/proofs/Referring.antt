-- After an import whose references are there, what each row refers to is there.
use Rattle.std.proofs.Common.{◌≡◌, ℕ, ◌&&◌, not, Bool, true, false, cond, List, [], ◌∷◌, Option, None, Some, refl, ap}
use Rattle.std.proofs.Common.{◌∙◌}
use Rattle.std.specs.List.{list_all}
use Rattle.std.specs.Option.{option_or}
use Rattle.std.specs.Map.{remove_entry}
use Rattle.std.specs.BTreeMap.{is_at}
use Rattle.std.specs.Ordering.{nat_cmp}
use Rattle.std.proofs.lemmas.Bool.{and_parts, and_from, not-false}
use Rattle.exam_types.specs.declared.refusal.Refusal.{Refusal}
use Rattle.exam_types.specs.declared.refusal.Refusal.TheVariants as refusal
use Rattle.exam_rules.specs.declared.rows.Appeal.{Appeal}
use Rattle.exam_rules.specs.declared.rows.Subject.{Subject}
use Rattle.exam_rules.specs.declared.rows.Subject.TheVariants as subject
use Rattle.exam_rules.specs.Relations.{Code, Relations, code_cmp, entry_cmp, has_row, opening_cmp, put_row, remove_row}
use Rattle.exam_commands.proofs.KeyedRows.{all_put, entries_total, has_put, keys_exact}
use Rattle.exam_rules.specs.Tables.{KeyOf, RowOf, Table, cmp_of, rows_of}
use Rattle.exam_commands.specs.declared.import_row.Row.{Row}
use Rattle.exam_commands.specs.declared.import_row.Row.TheVariants as row
use Rattle.exam_commands.specs.Changes.{first_refusal, no_candidate, no_hall, no_paper, row_checks, rows_with}
use Rattle.exam_commands.specs.Changes.{rows_refusal, target, with_live, with_row, with_rows, with_table}
use Rattle.exam_commands.specs.Changes.{without_opening}
use Rattle.exam_commands.specs.Good as good
use Rattle.exam_rules.specs.Tables as table
use Rattle.exam_rules.proofs.Relisting.{entries_exact}
use Rattle.exam_commands.proofs.Entering.{Keeps, rows_with_by, keeps_row, keeps_rows, table_by}

pub all_more : {A : Type 0} (p q : A → Bool) (xs : List A) → ((x : A) → p x ≡ true → q x ≡ true) → list_all p xs ≡ true
    → list_all q xs ≡ true
all_more p q [] more every = refl
all_more p q (x ∷ xs) more every =
    and_from (q x) (list_all q xs) (more x (and_parts (p x) (list_all p xs) every).0)
    (all_more p q xs more (and_parts (p x) (list_all p xs) every).1)

-- ---- the tables that are referred to only grow

pub record Grows (r t : Relations) : Type 0 where
  pub sessions : (s : Code) → has_row code_cmp r.sessions s ≡ true → has_row code_cmp t.sessions s ≡ true
  pub papers : (p : Code) → has_row code_cmp r.papers p ≡ true → has_row code_cmp t.papers p ≡ true
  pub halls : (h : Code) → has_row code_cmp r.halls h ≡ true → has_row code_cmp t.halls h ≡ true
  pub candidates : (c : ℕ) → has_row nat_cmp r.candidates c ≡ true → has_row nat_cmp t.candidates c ≡ true

pub grows_none : (r : Relations) → Grows r r
grows_none r = record { sessions = λ s h. h; papers = λ p h. h; halls = λ h k. k; candidates = λ c h. h }

pub grows_both : (r t u : Relations) → Grows r t → Grows t u → Grows r u
grows_both r t u a b = record {
  sessions = λ s h. b.sessions s (a.sessions s h);
  papers = λ p h. b.papers p (a.papers p h);
  halls = λ h k. b.halls h (a.halls h k);
  candidates = λ c h. b.candidates c (a.candidates c h);
}

pub grows_keys : (r t : Relations) → Keeps r t → Grows r t
grows_keys r t keeps =
    record {
      sessions = keeps table.Sessions;
      papers = keeps table.Papers;
      halls = keeps table.Halls;
      candidates =
          keeps table.Candidates;
    }

pub grows_row : (r : Relations) (x : Row) → Grows r (with_row r x)
grows_row r x = grows_keys r (with_row r x) (keeps_row r x)

-- ---- the rows of r refer to what is there in t

-- what the row refers to is there
abbrev pub row_refers : Relations → (t : Table) → KeyOf t × RowOf t → Bool
row_refers r table.Papers x = has_row code_cmp r.sessions x.1.session
row_refers r table.Openings x = has_row code_cmp r.sessions x.0.0 && has_row code_cmp r.halls x.0.1
row_refers r table.Entries x = has_row nat_cmp r.candidates x.0.0 && has_row code_cmp r.papers x.0.1
row_refers r table.Arrangements x = has_row nat_cmp r.candidates x.0
row_refers r table.Appeals x = has_row nat_cmp r.candidates x.0.0 && good.appeal_refers r x.1
row_refers r t x = true

abbrev pub RefersIn : Relations → Relations → Type 0
RefersIn t r = (name : Table) → list_all (row_refers t name) (rows_of r name) ≡ true

all_pass : {A : Type 0} (xs : List A) → list_all (λ x. true) xs ≡ true
all_pass [] = refl
all_pass (x ∷ xs) = all_pass xs

pub parted : (r : Relations) → good.refers r ≡ true → RefersIn r r
parted r every =
    let a = and_parts (good.papers_refer r)
    (good.openings_refer r && (good.entries_refer r && (good.arrangements_refer r && good.appeals_refer r))) every
    in
    let b = and_parts (good.openings_refer r)
    (good.entries_refer r && (good.arrangements_refer r && good.appeals_refer r)) a.1 in
    let c = and_parts (good.entries_refer r) (good.arrangements_refer r && good.appeals_refer r) b.1 in
    let d = and_parts (good.arrangements_refer r) (good.appeals_refer r) c.1 in
    elim [
      | table.Papers ↦ a.0
      | table.Openings ↦ b.0
      | table.Entries ↦ c.0
      | table.Arrangements ↦ d.0
      | table.Appeals ↦ d.1
      | name ↦ all_pass (rows_of r name)
    ]

joined : (r : Relations) → RefersIn r r → good.refers r ≡ true
joined r p =
    and_from (good.papers_refer r)
    (good.openings_refer r && (good.entries_refer r && (good.arrangements_refer r && good.appeals_refer r)))
    (p table.Papers)
    (and_from (good.openings_refer r) (good.entries_refer r && (good.arrangements_refer r && good.appeals_refer r))
    (p table.Openings)
    (and_from (good.entries_refer r) (good.arrangements_refer r && good.appeals_refer r) (p table.Entries)
    (and_from (good.arrangements_refer r) (good.appeals_refer r) (p table.Arrangements) (p table.Appeals))))

both_more : (a b c d : Bool) → (a ≡ true → c ≡ true) → (b ≡ true → d ≡ true) → (a && b) ≡ true → (c && d) ≡ true
both_more a b c d f g h = and_from c d (f (and_parts a b h).0) (g (and_parts a b h).1)

subject_more : (t u : Relations) → Grows t u → (asked : Subject) → good.subject_refers t asked ≡ true
    → good.subject_refers u asked ≡ true
subject_more t u grows (subject.Hall h) e = grows.halls h e
subject_more t u grows (subject.Clash p) e = grows.papers p e
subject_more t u grows (subject.Arrangement a) e = refl

row_more : (t u : Relations) → Grows t u → (name : Table) (x : KeyOf name × RowOf name) → row_refers t name x ≡ true
    → row_refers u name x ≡ true
row_more t u grows table.Papers x e = grows.sessions x.1.session e
row_more t u grows table.Openings x e =
    both_more (has_row code_cmp t.sessions x.0.0) (has_row code_cmp t.halls x.0.1) (has_row code_cmp u.sessions x.0.0)
    (has_row code_cmp u.halls x.0.1) (grows.sessions x.0.0) (grows.halls x.0.1) e
row_more t u grows table.Entries x e =
    both_more (has_row nat_cmp t.candidates x.0.0) (has_row code_cmp t.papers x.0.1)
    (has_row nat_cmp u.candidates x.0.0) (has_row code_cmp u.papers x.0.1) (grows.candidates x.0.0)
    (grows.papers x.0.1) e
row_more t u grows table.Arrangements x e = grows.candidates x.0 e
row_more t u grows table.Appeals x e =
    both_more (has_row nat_cmp t.candidates x.0.0) (good.appeal_refers t x.1)
    (has_row nat_cmp u.candidates x.0.0) (good.appeal_refers u x.1) (grows.candidates x.0.0)
    (both_more (has_row code_cmp t.sessions x.1.session) (good.subject_refers t x.1.subject)
    (has_row code_cmp u.sessions x.1.session) (good.subject_refers u x.1.subject) (grows.sessions x.1.session)
    (subject_more t u grows x.1.subject)) e
row_more t u grows name x e = e

-- with other rows in one table, all of which refer to what is there, and no fewer keys
refers_then : (r : Relations) (name : Table) (rows : List (KeyOf name × RowOf name)) → Grows r (with_table r name rows)
    → list_all (row_refers r name) rows ≡ true → RefersIn r r
    → RefersIn (with_table r name rows) (with_table r name rows)
refers_then r name rows grows here p other =
    all_more (row_refers r other) (row_refers (with_table r name rows) other) (rows_of (with_table r name rows) other)
    (row_more r (with_table r name rows) grows other)
    (table_by (λ t es. list_all (row_refers r t) es ≡ true) r name rows here p other)

-- ---- a checked row

pub passed : (b : Bool) (e : Refusal) (checks : List (Bool × Refusal)) → first_refusal ((b, e) ∷ checks) ≡ None
    → (b ≡ false) × (first_refusal checks ≡ None)
passed true e checks h = absurd (let k : Some e ≡ None = h in cc)
passed false e checks h = (refl, h)

pub there : (b : Bool) (e : Refusal) (checks : List (Bool × Refusal)) → first_refusal ((not b, e) ∷ checks) ≡ None
    → b ≡ true
there b e checks h = not-false b (passed (not b) e checks h).0

both_there : (b c : Bool) (e f : Refusal) (checks : List (Bool × Refusal))
    → first_refusal ((not b, e) ∷ (not c, f) ∷ checks) ≡ None → (b && c) ≡ true
both_there b c e f checks h =
    and_from b c (there b e ((not c, f) ∷ checks) h) (there c f checks (passed (not b) e ((not c, f) ∷ checks) h).1)

pub neither : (a b : Option Refusal) → option_or a b ≡ None → (a ≡ None) × (b ≡ None)
neither None b h = (refl, h)
neither (Some e) b h = absurd (let k : Some e ≡ None = h in cc)

-- the references of a row are checked one after the other
row_checked : (r : Relations) (x : Row) → first_refusal (row_checks r x) ≡ None
    → row_refers r (target x).0 ((target x).1, (target x).2) ≡ true
row_checked r (row.OfPaper p x) ok = there (has_row code_cmp r.sessions x.session) refusal.UnknownSession [] ok
row_checked r (row.OfOpening s h x) ok =
    both_there (has_row code_cmp r.sessions s)
    (has_row code_cmp r.halls h) refusal.UnknownSession refusal.UnknownHall [] ok
row_checked r (row.OfEntry c p) ok =
    both_there (has_row nat_cmp r.candidates c)
    (has_row code_cmp r.papers p) refusal.UnknownCandidate refusal.UnknownPaper [] ok
row_checked r (row.OfArrangement c x) ok = there (has_row nat_cmp r.candidates c) refusal.UnknownCandidate [] ok
row_checked r x ok = refl

refers_row : (r0 r : Relations) (x : Row) → Grows r0 r → RefersIn r r → first_refusal (row_checks r0 x) ≡ None
    → RefersIn (with_row r x) (with_row r x)
refers_row r0 r x grows p ok =
    let to = target x in
    refers_then r to.0 (rows_with to.0 (rows_of r to.0) to.1 to.2) (grows_row r x)
    (rows_with_by to.0 (rows_of r to.0) to.1 to.2 (λ es. list_all (row_refers r to.0) es ≡ true) (p to.0)
    (all_put (cmp_of to.0) (keys_exact to.0) (row_refers r to.0) (rows_of r to.0) to.1 to.2 (p to.0)
    (row_more r0 r grows to.0 (to.1, to.2) (row_checked r0 x ok)))) p

refers_rows : (r0 r : Relations) (rows : List Row) → Grows r0 r → RefersIn r r → rows_refusal r0 rows ≡ None
    → RefersIn (with_rows r rows) (with_rows r rows)
refers_rows r0 r [] grows p ok = p
refers_rows r0 r (x ∷ rows) grows p ok =
    let both = neither (first_refusal (row_checks r0 x)) (rows_refusal r0 rows) ok in
    refers_rows r0 (with_row r x) rows (grows_both r0 r (with_row r x) grows (grows_row r x))
    (refers_row r0 r x grows p both.0) both.1

-- the references of an import are looked up in the facts before it
pub import_refers : (r : Relations) (rows : List Row) → good.refers r ≡ true → rows_refusal r rows ≡ None
    → good.refers (with_rows r rows) ≡ true
import_refers r rows every ok = joined (with_rows r rows) (refers_rows r r rows (grows_none r) (parted r every) ok)

-- the references of an entry are known when it is made live or withdrawn
pub live_refers : (r : Relations) (c : ℕ) (p : Code) (live : Bool) (more : List (Bool × Refusal))
    → good.refers r ≡ true → first_refusal (no_candidate r c ∷ no_paper r p ∷ more) ≡ None
    → good.refers (with_live r c p live) ≡ true
live_refers r c p live more every ok =
    joined (with_live r c p live)
    (refers_then r table.Entries (put_row entry_cmp r.entries (c, p) (record { live = live }))
    (grows_keys r (with_live r c p live)
    (elim [
      | table.Entries ↦ λ k. has_put entry_cmp entries_total r.entries (c, p) k
          (record { live = live })
      | _ ↦ λ k has. has
    ]))
    (all_put entry_cmp entries_exact (row_refers r table.Entries) r.entries (c, p) (record { live = live })
    (parted r every table.Entries)
    (both_there (has_row nat_cmp r.candidates c)
    (has_row code_cmp r.papers p) refusal.UnknownCandidate refusal.UnknownPaper more ok)) (parted r every))

all_removed : {K X : Type 0} (test : K → Bool) (p : K × X → Bool) (rows : List (K × X)) → list_all p rows ≡ true
    → list_all p (remove_entry test rows) ≡ true
all_removed test p [] every = refl
all_removed test p (e ∷ es) every = inner (test e.0) (all_removed test p es (and_parts (p e) (list_all p es) every).1)
  where
    inner : (b : Bool) → list_all p (remove_entry test es) ≡ true
        → list_all p (cond b es (e ∷ remove_entry test es)) ≡ true
    inner true rest = (and_parts (p e) (list_all p es) every).1
    inner false rest = and_from (p e) (list_all p (remove_entry test es)) (and_parts (p e) (list_all p es) every).0 rest

pub closing_refers : (r : Relations) (s h : Code) → good.refers r ≡ true → good.refers (without_opening r s h) ≡ true
closing_refers r s h every =
    let p = parted r every in
    joined (without_opening r s h)
    (refers_then r table.Openings (remove_row opening_cmp r.openings (s, h))
    (record { sessions = λ t k. k; papers = λ p k. k; halls = λ j k. k; candidates = λ d k. k })
    (all_removed (is_at (opening_cmp (s, h))) (row_refers r table.Openings) r.openings (p table.Openings)) p)

-- appeals that refer to what is there
pub appeals_refer_so : (r : Relations) (appeals : List ((ℕ × Code) × Appeal)) → good.refers r ≡ true
    → list_all (λ x. has_row nat_cmp r.candidates x.0.0 && good.appeal_refers r x.1) appeals ≡ true
    → good.refers (record r { appeals = appeals }) ≡ true
appeals_refer_so r appeals every all =
    joined (record r { appeals = appeals })
    (refers_then r table.Appeals appeals
    (record { sessions = λ s k. k; papers = λ p k. k; halls = λ j k. k; candidates = λ d k. k }) all
    (parted r every))

pub stored_refer : (r : Relations) → good.refers r ≡ true
    → list_all (λ x. has_row nat_cmp r.candidates x.0.0 && good.appeal_refers r x.1) r.appeals ≡ true
stored_refer r every = parted r every table.Appeals

-- an import keeps all candidates
pub import_candidates : (r : Relations) (rows : List Row) (c : ℕ) → has_row nat_cmp r.candidates c ≡ true
    → has_row nat_cmp (with_rows r rows).candidates c ≡ true
import_candidates r rows = keeps_rows r rows table.Candidates

-- an import has no appeals
pub appeals_row : (r : Relations) (x : Row) → (with_row r x).appeals ≡ r.appeals
appeals_row r (row.OfSession s x) = refl
appeals_row r x = refl

pub import_appeals : (r : Relations) (rows : List Row) → (with_rows r rows).appeals ≡ r.appeals
import_appeals r [] = refl
import_appeals r (x ∷ rows) = import_appeals (with_row r x) rows ∙ appeals_row r x

pub standing_row : (r : Relations) (x : Row) → (with_row r x).standing ≡ r.standing
standing_row r (row.OfSession s x) = refl
standing_row r x = refl

pub import_standing : (r : Relations) (rows : List Row) → (with_rows r rows).standing ≡ r.standing
import_standing r [] = refl
import_standing r (x ∷ rows) = import_standing (with_row r x) rows ∙ standing_row r x

-- ---- what was there for an import is there for the same import after it

once_more : (b : Bool) (e : Refusal) (checks : List (Bool × Refusal)) → b ≡ true
    → first_refusal ((not b, e) ∷ checks) ≡ first_refusal checks
once_more b e checks is = ap (λ t. cond (not t) (Some e) (first_refusal checks)) is

-- what a row refers to is there, so its checks pass
row_passes : (r : Relations) (x : Row) → row_refers r (target x).0 ((target x).1, (target x).2) ≡ true
    → first_refusal (row_checks r x) ≡ None
row_passes r (row.OfPaper p x) is = once_more (has_row code_cmp r.sessions x.session) refusal.UnknownSession [] is
row_passes r (row.OfOpening s h x) is =
    let both = and_parts (has_row code_cmp r.sessions s) (has_row code_cmp r.halls h) is in
    once_more (has_row code_cmp r.sessions s) refusal.UnknownSession (no_hall r h ∷ []) both.0
    ∙ once_more (has_row code_cmp r.halls h) refusal.UnknownHall [] both.1
row_passes r (row.OfEntry c p) is =
    let both = and_parts (has_row nat_cmp r.candidates c) (has_row code_cmp r.papers p) is in
    once_more (has_row nat_cmp r.candidates c) refusal.UnknownCandidate (no_paper r p ∷ []) both.0
    ∙ once_more (has_row code_cmp r.papers p) refusal.UnknownPaper [] both.1
row_passes r (row.OfArrangement c x) is = once_more (has_row nat_cmp r.candidates c) refusal.UnknownCandidate [] is
row_passes r x is = refl

pub rows_refer_still : (r t : Relations) (rows : List Row) → Grows r t → rows_refusal r rows ≡ None
    → rows_refusal t rows ≡ None
rows_refer_still r t [] grows ok = refl
rows_refer_still r t (x ∷ rows) grows ok =
    let both = neither (first_refusal (row_checks r x)) (rows_refusal r rows) ok in
    ap (λ o. option_or o (rows_refusal t rows))
    (row_passes t x (row_more r t grows (target x).0 ((target x).1, (target x).2) (row_checked r x both.0)))
    ∙ rows_refer_still r t rows grows both.1

pub import_refers_still : (r : Relations) (rows : List Row) → rows_refusal r rows ≡ None
    → rows_refusal (with_rows r rows) rows ≡ None
import_refers_still r rows ok =
    rows_refer_still r (with_rows r rows) rows (grows_keys r (with_rows r rows) (keeps_rows r rows)) ok
