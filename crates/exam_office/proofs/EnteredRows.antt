-- A row of an import of entries makes one entry live, or changes nothing.
use Rattle.std.proofs.Common.{◌≡◌, ℕ, not, Bool, true, false, cond, List, [], ◌∷◌, Option, None, Some, is_some, refl}
use Rattle.std.proofs.Common.{ap, sym, ◌∙◌}
use Rattle.std.specs.Cmp.{Equal-is}
use Rattle.std.specs.Option.{option_and_then, option_map, option_map_or}
use Rattle.std.specs.Ordering.{nat_cmp}
use Rattle.std.proofs.lemmas.Bool.{not-false}
use Rattle.std.proofs.lemmas.List.Elements.{All-tail}
use Rattle.exam_types.specs.declared.refusal.Refusal.TheVariants as refusal
use Rattle.exam_rules.specs.declared.rows.Entry.{Entry}
use Rattle.exam_rules.specs.declared.rows.Paper.{Paper}
use Rattle.exam_rules.specs.Lists.{MakesLive, entered_session}
use Rattle.exam_rules.specs.Relations.{Code, Relations, code_cmp, entry_cmp, has_row, put_row, row_at, same_code}
use Rattle.exam_rules.specs.Sessions.{is_paper_of}
use Rattle.exam_rules.proofs.Naming.{same_code_itself}
use Rattle.exam_rules.specs.Tables as table
use Rattle.exam_rules.proofs.Relisting.{entries_exact}
use Rattle.exam_commands.proofs.KeyedRows.{entries_total, put_found, put_same, put_stays}
use Rattle.exam_commands.specs.declared.import_row.Kind.TheVariants as kind
use Rattle.exam_commands.specs.declared.import_row.Row.{Row}
use Rattle.exam_commands.specs.declared.import_row.Row.TheVariants as row
use Rattle.exam_commands.specs.Changes.{first_refusal, no_paper, row_checks, rows_refusal, with_row, with_rows}
use Rattle.exam_commands.specs.Imports.{kind_of}
use Rattle.exam_office.specs.Relisting.{EntersRows, live_session}
use Rattle.exam_commands.proofs.Referring.{grows_row, neither, passed, rows_refer_still, there}
use Rattle.exam_commands.proofs.Stored.{rows_in_order}
use Rattle.exam_changes.proofs.Undoing.{import_only}

-- an entry that is there stays as it is
entry_stays_by : (r : Relations) (x : Row) (k : ℕ × Code) (e : Entry) → row_at entry_cmp r.entries k ≡ Some e
    → row_at entry_cmp (with_row r x).entries k ≡ Some e
entry_stays_by r (row.OfEntry c p) k e at = inner (has_row entry_cmp r.entries (c, p)) refl
  where
    inner : (b : Bool) → has_row entry_cmp r.entries (c, p) ≡ b
        → row_at entry_cmp (cond b r.entries (put_row entry_cmp r.entries (c, p) (record { live = true }))) k ≡ Some e
    inner true has = at
    inner false has =
        put_stays entry_cmp entries_total r.entries (c, p) k (record { live = true }) e
        (λ tied. absurd (let differ : true ≡ false =
        sym (ap is_some (ap (row_at entry_cmp r.entries)
        (entries_exact (c, p) k ((Equal-is (entry_cmp (c, p) k)).0 tied)) ∙ at)) ∙ has in cc)) at
entry_stays_by r x k e at = at

entry_stays : (r : Relations) (rows : List Row) (k : ℕ × Code) (e : Entry) → row_at entry_cmp r.entries k ≡ Some e
    → row_at entry_cmp (with_rows r rows).entries k ≡ Some e
entry_stays r [] k e at = at
entry_stays r (x ∷ rows) k e at = entry_stays (with_row r x) rows k e (entry_stays_by r x k e at)

module _ (r t : Relations) (x : Row) (later : List Row) (enters : EntersRows r (x ∷ later) t) where
  checks : (first_refusal (row_checks r x) ≡ None) × (rows_refusal r later ≡ None)
  checks = neither (first_refusal (row_checks r x)) (rows_refusal r later) enters.known

  -- what is left
  pub rest_enters : EntersRows (with_row r x) later t
  rest_enters = record {
    order = rows_in_order r (x ∷ []) enters.order;
    kind = All-tail (λ y. kind_of y ≡ kind.Entries) x later enters.kind;
    known = rows_refer_still r (with_row r x) later (grows_row r x) checks.1;
    facts = enters.facts;
  }

module _ (r t : Relations) (c : ℕ) (p : Code) (later : List Row)
    (enters : EntersRows r (row.OfEntry c p ∷ later) t) where
  paper_checks : (not (has_row nat_cmp r.candidates c) ≡ false) × (first_refusal (no_paper r p ∷ []) ≡ None)
  paper_checks = passed (not (has_row nat_cmp r.candidates c)) refusal.UnknownCandidate (no_paper r p ∷ [])
      (checks r t (row.OfEntry c p) later enters).0

  candidate_known : has_row nat_cmp r.candidates c ≡ true
  candidate_known = not-false (has_row nat_cmp r.candidates c) paper_checks.0

  paper_known : has_row code_cmp r.papers p ≡ true
  paper_known = there (has_row code_cmp r.papers p) refusal.UnknownPaper [] paper_checks.1

  papers_same : t.papers ≡ r.papers
  papers_same = ap (λ (u : Relations). u.papers)
      (enters.facts ∙ import_only kind.Entries r (row.OfEntry c p ∷ later) enters.kind)

  now_is : (e : Entry) → row_at entry_cmp t.entries (c, p) ≡ Some e
      → live_session t c p
      ≡ cond e.live (option_map (λ (paper : Paper). paper.session) (row_at code_cmp r.papers p)) None
  now_is e at =
      ap (option_and_then (entered_session t p)) at
      ∙ ap (λ (papers : List (Code × Paper)). cond e.live
      (option_map (λ (paper : Paper). paper.session) (row_at code_cmp papers p)) None) papers_same

  -- what the entry is at last, it is at once
  at_last : (e : Entry) → row_at entry_cmp (with_row r (row.OfEntry c p)).entries (c, p) ≡ Some e
      → row_at entry_cmp t.entries (c, p) ≡ Some e
  at_last e at = ap (λ (u : Relations). row_at entry_cmp u.entries (c, p)) enters.facts
      ∙ entry_stays (with_row r (row.OfEntry c p)) later (c, p) e at

  by_has : (b : Bool) → has_row entry_cmp r.entries (c, p) ≡ b
      → (with_row r (row.OfEntry c p)).entries
      ≡ cond b r.entries (put_row entry_cmp r.entries (c, p) (record { live = true }))
  by_has b has = ap (λ b. cond b r.entries (put_row entry_cmp r.entries (c, p) (record { live = true }))) has

  new_live : has_row entry_cmp r.entries (c, p) ≡ false
      → row_at entry_cmp t.entries (c, p) ≡ Some (record { live = true })
  new_live none = at_last (record { live = true })
      (ap (λ (es : List ((ℕ × Code) × Entry)). row_at entry_cmp es (c, p)) (by_has false none)
      ∙ put_found entry_cmp entries_total r.entries (c, p) (record { live = true }))

  old_stays : (e : Entry) → row_at entry_cmp r.entries (c, p) ≡ Some e → row_at entry_cmp t.entries (c, p) ≡ Some e
  old_stays e at = at_last e
      (ap (λ (es : List ((ℕ × Code) × Entry)). row_at entry_cmp es (c, p)) (by_has true (ap is_some at)) ∙ at)

  -- it is live at last, so the row makes it so, or it was
  entries_put : (s : Code) → live_session t c p ≡ Some s
      → (with_row r (row.OfEntry c p)).entries ≡ put_row entry_cmp r.entries (c, p) (record { live = true })
  entries_put s counts = inner (row_at entry_cmp r.entries (c, p)) refl
    where
      live_then : (e : Entry) (b : Bool) → e.live ≡ b → row_at entry_cmp r.entries (c, p) ≡ Some e
          → (with_row r (row.OfEntry c p)).entries ≡ put_row entry_cmp r.entries (c, p) (record { live = true })
      live_then e true live at =
          by_has true (ap is_some at)
          ∙ sym (put_same entry_cmp entries_total r.entries (c, p) (record { live = true })
          (enters.order table.Entries) (at ∙ ap (λ (b : Bool). Some (record { live = b })) live))
      live_then e false live at =
          absurd (let differ : Some s ≡ None = sym counts ∙ now_is e (old_stays e at)
          ∙ ap (λ b. cond b (option_map (λ (paper : Paper). paper.session) (row_at code_cmp r.papers p)) None) live
          in cc)

      inner : (o : Option Entry) → row_at entry_cmp r.entries (c, p) ≡ o
          → (with_row r (row.OfEntry c p)).entries ≡ put_row entry_cmp r.entries (c, p) (record { live = true })
      inner None at = by_has false (ap is_some at)
      inner (Some e) at = live_then e e.live refl at

  session_of : (s : Code) → live_session t c p ≡ Some s → is_paper_of r s p ≡ true
  session_of s counts = inner (row_at entry_cmp t.entries (c, p)) refl
    where
      of_paper : (o : Option Paper) → option_map (λ (paper : Paper). paper.session) o ≡ Some s
          → option_map_or (λ (paper : Paper). same_code paper.session s) o false ≡ true
      of_paper None is = absurd (let differ : None ≡ Some s = is in cc)
      of_paper (Some paper) is = let same : paper.session ≡ s = cc in ap (λ u. same_code u s) same ∙ same_code_itself s

      of_live : (b : Bool)
          → cond b (option_map (λ (paper : Paper). paper.session) (row_at code_cmp r.papers p)) None ≡ Some s
          → is_paper_of r s p ≡ true
      of_live true is = of_paper (row_at code_cmp r.papers p) is
      of_live false is = absurd (let differ : None ≡ Some s = is in cc)

      inner : (o : Option Entry) → row_at entry_cmp t.entries (c, p) ≡ o → is_paper_of r s p ≡ true
      inner None at = absurd
          (let differ : None ≡ Some s = sym (ap (option_and_then (entered_session t p)) at) ∙ counts in cc)
      inner (Some e) at = of_live e.live (sym (now_is e at) ∙ counts)

  pub makes_live : (s : Code) → live_session t c p ≡ Some s → MakesLive r (with_row r (row.OfEntry c p)) s c p
  makes_live s counts = record {
    of_session = session_of s counts;
    candidate = candidate_known;
    entries = entries_put s counts;
    candidates = refl;
    papers = refl;
    openings = refl;
  }

  -- it is not, so it was there, and the row changes nothing
  pub changes_nothing : live_session t c p ≡ None → with_row r (row.OfEntry c p) ≡ r
  changes_nothing away = inner (has_row entry_cmp r.entries (c, p)) refl
    where
      some_session : (o : Option Paper) → is_some o ≡ true → option_map (λ (paper : Paper). paper.session) o ≡ None → ⊥
      some_session None has none = let differ : false ≡ true = has in cc
      some_session (Some paper) has none = let differ : Some paper.session ≡ None = none in cc

      inner : (b : Bool) → has_row entry_cmp r.entries (c, p) ≡ b → with_row r (row.OfEntry c p) ≡ r
      inner true has = ap (λ es. record r { entries = es }) (by_has true has)
      inner false has = absurd
          (some_session (row_at code_cmp r.papers p) paper_known
          (sym (now_is (record { live = true }) (new_live has)) ∙ away))
