-- An import of what no list shows leaves the lists of members and open halls.
use Rattle.std.proofs.Common.{◌≡◌, ℕ, ◌||◌, Bool, true, false, cond, List, [], ◌∷◌, filter, Option, None, Some, is_some}
use Rattle.std.proofs.Common.{refl, ap, sym, subst, ◌∙◌}
use Rattle.std.specs.List.{cons_option, filter_map, list_any}
use Rattle.std.specs.List.Sorted.{IsStrictlySortedBy}
use Rattle.std.specs.Map.{keys_of}
use Rattle.std.specs.Option.{option_map}
use Rattle.std.specs.Ordering.{nat_cmp}
use Rattle.std.proofs.lemmas.List.Elements.{All-head, All-tail}
use Rattle.exam_rules.specs.declared.listing.Entrant.{Entrant}
use Rattle.exam_rules.specs.declared.listing.SessionLists.{SessionLists}
use Rattle.exam_rules.specs.declared.rows.Arrangement.{Arrangement}
use Rattle.exam_rules.specs.declared.rows.Candidate.{Candidate}
use Rattle.exam_rules.specs.declared.rows.Entry.{Entry}
use Rattle.exam_rules.specs.declared.rows.Hall.{Hall}
use Rattle.exam_rules.specs.declared.rows.Session.{Session}
use Rattle.exam_rules.specs.Lists.{AreListsOf, entrant, entrants}
use Rattle.exam_rules.specs.Orders.{AreInOrder}
use Rattle.exam_rules.specs.Relations.{Code, Relations}
use Rattle.exam_rules.specs.Sessions.{has_live_entry, is_live_entry, least_live_paper}
use Rattle.exam_rules.proofs.Listed.{entrants_are_members}
use Rattle.exam_rules.proofs.Together.{any_is}
use Rattle.exam_rules.specs.Tables as table
use Rattle.exam_commands.specs.declared.command.Command.TheVariants as command
use Rattle.exam_commands.specs.declared.import_row.Kind.{Kind}
use Rattle.exam_commands.specs.declared.import_row.Kind.TheVariants as kind
use Rattle.exam_commands.specs.declared.import_row.Row.{Row}
use Rattle.exam_commands.specs.declared.import_row.Row.TheVariants as row
use Rattle.exam_commands.specs.Changes.{rows_refusal, with_rows}
use Rattle.exam_commands.specs.FactsMade.{WasMade}
use Rattle.exam_commands.specs.Good.{refers}
use Rattle.exam_commands.specs.Imports.{AreOfKind, ImportRows, kind_of}
use Rattle.exam_commands.specs.Touched.{row_reaches, sets_session}
use Rattle.exam_changes.proofs.Undoing.{ChangesOnly, import_only}
use Rattle.exam_laws.proofs.Untouched.{import_spares}

-- no list shows what an import of this kind changes: a candidate who is new has no entry yet
abbrev pub is_unlisted : Kind → Bool
is_unlisted kind.Sessions = true
is_unlisted kind.Papers = false
is_unlisted kind.Halls = true
is_unlisted kind.Openings = false
is_unlisted kind.Candidates = true
is_unlisted kind.Entries = false
is_unlisted kind.Arrangements = true

-- elements that make nothing may be left out before
parted : (h : ℕ → Option Entrant) (p : ℕ → Bool) → ((c : ℕ) → p c ≡ false → h c ≡ None) → (cs : List ℕ)
    → filter_map h cs ≡ filter_map h (filter p cs)
parted h p none [] = refl
parted h p none (c ∷ cs) = inner (p c) refl (parted h p none cs)
  where
    inner : (b : Bool) → p c ≡ b → filter_map h cs ≡ filter_map h (filter p cs)
        → cons_option (h c) (filter_map h cs) ≡ filter_map h (cond b (c ∷ filter p cs) (filter p cs))
    inner true is rest = ap (cons_option (h c)) rest
    inner false is rest = ap (λ o. cons_option o (filter_map h cs)) (none c is) ∙ rest

-- candidates set no session
none_set : (s : Code) (rows : List Row) → AreOfKind kind.Candidates rows → list_any (sets_session s) rows ≡ false
none_set s [] of = refl
none_set s (x ∷ rows) of =
    ap (λ b. b || list_any (sets_session s) rows) (inner x (All-head (λ y. kind_of y ≡ kind.Candidates) x rows of))
    ∙ none_set s rows (All-tail (λ y. kind_of y ≡ kind.Candidates) x rows of)
  where
    inner : (y : Row) → kind_of y ≡ kind.Candidates → sets_session s y ≡ false
    inner (row.OfCandidate c v) is = refl
    inner (row.OfSession named v) is = cc
    inner (row.OfPaper p v) is = refl
    inner (row.OfHall h v) is = refl
    inner (row.OfOpening named h v) is = refl
    inner (row.OfEntry c p) is = refl
    inner (row.OfArrangement c v) is = refl

-- and reach none
none_reached : (r : Relations) (s : Code) (rows : List Row) → AreOfKind kind.Candidates rows
    → list_any (λ (x : Row). row_reaches r x s) rows ≡ false
none_reached r s [] of = refl
none_reached r s (x ∷ rows) of =
    ap (λ b. b || list_any (λ (y : Row). row_reaches r y s) rows)
    (inner x (All-head (λ y. kind_of y ≡ kind.Candidates) x rows of))
    ∙ none_reached r s rows (All-tail (λ y. kind_of y ≡ kind.Candidates) x rows of)
  where
    inner : (y : Row) → kind_of y ≡ kind.Candidates → row_reaches r y s ≡ false
    inner (row.OfCandidate c v) is = refl
    inner (row.OfSession named v) is = cc
    inner (row.OfPaper p v) is = cc
    inner (row.OfHall h v) is = cc
    inner (row.OfOpening named h v) is = cc
    inner (row.OfEntry c p) is = cc
    inner (row.OfArrangement c v) is = cc

module _ (r : Relations) (lists : SessionLists) (are : AreListsOf r lists) where
  with_others : (sessions : List (Code × Session)) (halls : List (Code × Hall)) (arrangements : List (ℕ × Arrangement))
      → AreListsOf (record r { sessions = sessions; halls = halls; arrangements = arrangements }) lists
  with_others sessions halls arrangements = record {
    numbers = are.numbers;
    members = are.members;
    halls = are.halls;
    rising = λ s. record { numbers = (are.rising s).numbers; codes = (are.rising s).codes };
  }

  -- other candidates, if the numbers with live entries stay
  with_candidates : (candidates : List (ℕ × Candidate))
      → ((s : Code) → filter (has_live_entry r s) (keys_of candidates)
      ≡ filter (has_live_entry r s) (keys_of r.candidates)) → AreListsOf (record r { candidates = candidates }) lists
  with_candidates candidates same = record {
    numbers = entrants_are_members (record r { candidates = candidates });
    members = λ s. are.members s ∙ sym (same_entrants s);
    halls = are.halls;
    rising = λ s. record {
      numbers = subst (IsStrictlySortedBy nat_cmp) (sym (same s)) (are.rising s).numbers;
      codes = (are.rising s).codes;
    };
  }
    where
      unlisted : (s : Code) (c : ℕ) → has_live_entry r s c ≡ false
          → option_map (entrant c) (least_live_paper r s c) ≡ None
      unlisted s c out = inner (least_live_paper r s c)
          (sym (any_is (is_live_entry r s c) (λ (e : (ℕ × Code) × Entry). e.0.1) r.entries) ∙ out)
        where
          inner : (o : Option Code) → is_some o ≡ false → option_map (entrant c) o ≡ None
          inner None none = refl
          inner (Some p) none = cc

      same_entrants : (s : Code) → entrants (record r { candidates = candidates }) s ≡ entrants r s
      same_entrants s =
          parted (λ c. option_map (entrant c) (least_live_paper r s c)) (has_live_entry r s) (unlisted s)
          (keys_of candidates)
          ∙ ap (filter_map (λ c. option_map (entrant c) (least_live_paper r s c))) (same s)
          ∙ sym (parted (λ c. option_map (entrant c) (least_live_paper r s c)) (has_live_entry r s) (unlisted s)
          (keys_of r.candidates))

  kept : (k : Kind) (rows : List Row) → refers r ≡ true → AreInOrder r → rows_refusal r rows ≡ None → AreOfKind k rows
      → is_unlisted k ≡ true → AreListsOf (with_rows r rows) lists
  kept k rows refer up known of keeps = inner k keeps of (import_only k r rows of)
    where
      inner : (k : Kind) → is_unlisted k ≡ true → AreOfKind k rows → ChangesOnly k r (with_rows r rows)
          → AreListsOf (with_rows r rows) lists
      inner kind.Sessions keeps of only =
          subst (λ (t : Relations). AreListsOf t lists) (sym only)
          (with_others (with_rows r rows).sessions r.halls r.arrangements)
      inner kind.Papers keeps of only = absurd (let differ : false ≡ true = keeps in cc)
      inner kind.Halls keeps of only =
          subst (λ (t : Relations). AreListsOf t lists) (sym only)
          (with_others r.sessions (with_rows r rows).halls r.arrangements)
      inner kind.Openings keeps of only = absurd (let differ : false ≡ true = keeps in cc)
      inner kind.Candidates keeps of only =
          subst (λ (t : Relations). AreListsOf t lists) (sym only)
          (with_candidates (with_rows r rows).candidates
          (λ s. (import_spares r refer s (up table.Candidates) rows (none_set s rows of)
          (none_reached r s rows of) known).candidates))
      inner kind.Entries keeps of only = absurd (let differ : false ≡ true = keeps in cc)
      inner kind.Arrangements keeps of only =
          subst (λ (t : Relations). AreListsOf t lists) (sym only)
          (with_others r.sessions r.halls (with_rows r rows).arrangements)

module _ (import : ImportRows) (r t : Relations) (was : WasMade (command.Import import) r t) where
  known : rows_refusal r import.rows ≡ None
  known = subst (λ (u : Relations). rows_refusal u import.rows ≡ None) was.facts was.early

  made : t ≡ with_rows r import.rows
  made = was.made ∙ ap (λ (u : Relations). with_rows u import.rows) was.facts

  pub kept_import : (lists : SessionLists) → AreListsOf r lists → AreOfKind import.kind import.rows
      → is_unlisted import.kind ≡ true → AreListsOf t lists
  kept_import lists are of keeps =
      subst (λ (u : Relations). AreListsOf u lists) (sym made)
      (kept r lists are import.kind import.rows
      (subst (λ (u : Relations). refers u ≡ true) was.facts was.good.refer) was.order known of keeps)

  pub import_opens : AreOfKind import.kind import.rows → import.kind ≡ kind.Openings
      → t ≡ record r { openings = t.openings }
  import_opens of is =
      subst (λ (u : Relations). u ≡ record r { openings = u.openings }) (sym made)
      (import_only kind.Openings r import.rows (subst (λ k. AreOfKind k import.rows) is of))
