-- Where references hold, whatever a command reaches exists.
use Rattle.exam_laws.proofs.Words.{list_any, option_map_or, nat_cmp, and_from, and_parts, exact_bytes, Appeal, Entry}
use Rattle.exam_laws.proofs.Words.{Opening, Paper, Code, Relations, appeal_cmp, code_cmp, has_row, opening_cmp, row_at}
use Rattle.exam_laws.proofs.Words.{same_code, has_live_entry, is_granted, is_live_entry, is_marked, is_member}
use Rattle.exam_laws.proofs.Words.{is_paper_of, same_code_exact, all_at_row, appeals_exact, openings_exact, appeal_at}
use Rattle.exam_laws.proofs.Words.{bears_mark, is_grant, appeal_refers, refers, Command, Row, ends_standing}
use Rattle.exam_laws.proofs.Words.{grant_reaches, is_appeal_for, touches}
use Rattle.std.proofs.Common.{◌≡◌, ℕ, ◌&&◌, ◌||◌, Bool, true, false, List, [], ◌∷◌, nat_eq, Option, None, Some, is_some}
use Rattle.std.proofs.Common.{inl, inr, refl, ap, sym, ◌∙◌}
use Rattle.std.proofs.lemmas.Bool.{and_right, false_from_ne_true, or_cases, or_parts, true≢false}
use Rattle.exam_rules.specs.Tables as table
use Rattle.exam_commands.specs.Good.{subject_refers}
use Rattle.exam_commands.specs.declared.command.Command.TheVariants as command
use Rattle.exam_commands.specs.declared.import_row.Row.TheVariants as row
use Rattle.exam_commands.specs.Touched.{has_standing_member, is_of_sessions, is_set_by, names, reaches, row_reaches}
use Rattle.exam_commands.specs.Touched.{stands_in}
use Rattle.exam_commands.proofs.Referring.{parted}

pub and_none : (b : Bool) → (b && false) ≡ false
and_none b = and_right b false refl

module _ (r : Relations) (refer : refers r ≡ true) where
  appeal_known : (key : ℕ × Code) (a : Appeal) → row_at appeal_cmp r.appeals key ≡ Some a
      → has_row code_cmp r.sessions a.session ≡ true
  appeal_known key a at =
      let whole = all_at_row appeal_cmp appeals_exact
      (λ (x : (ℕ × Code) × Appeal). has_row nat_cmp r.candidates x.0.0 && appeal_refers r x.1) r.appeals key a
      (parted r refer table.Appeals) at in
      (and_parts (has_row code_cmp r.sessions a.session) (subject_refers r a.subject)
      (and_parts (has_row nat_cmp r.candidates key.0) (appeal_refers r a) whole).1).0

  -- the session of an appeal is read
  pub appeal_is_for : (key : ℕ × Code) (a : Appeal) → row_at appeal_cmp r.appeals key ≡ Some a
      → (itself : same_code a.session a.session ≡ true) → is_appeal_for r (Some a) a.session ≡ true
  appeal_is_for key a at itself =
      and_from (same_code a.session a.session) (has_row code_cmp r.sessions a.session) itself (appeal_known key a at)

module _ (r : Relations) (refer : refers r ≡ true) (s : Code) where
  abbrev Exists : Type 0
  Exists = has_row code_cmp r.sessions s ≡ true

  same_exists : (t : Code) → same_code t s ≡ true → has_row code_cmp r.sessions t ≡ true → Exists
  same_exists t same there_is = ap (has_row code_cmp r.sessions) (sym (same_code_exact t s same)) ∙ there_is

  of_paper : (p : Code) → is_paper_of r s p ≡ true → Exists
  of_paper p of = inner (row_at code_cmp r.papers p) refl of
    where
      inner : (o : Option Paper) → row_at code_cmp r.papers p ≡ o
          → option_map_or (λ (paper : Paper). same_code paper.session s) o false ≡ true → Exists
      inner None at is = cc
      inner (Some x) at is =
          same_exists x.session is
          (all_at_row code_cmp exact_bytes (λ (e : Code × Paper). has_row code_cmp r.sessions e.1.session) r.papers p x
          (parted r refer table.Papers) at)

  of_entries : (c : ℕ) (es : List ((ℕ × Code) × Entry)) → list_any (is_live_entry r s c) es ≡ true → Exists
  of_entries c [] some = cc
  of_entries c (e ∷ es) some = elim (or_cases (is_live_entry r s c e) (list_any (is_live_entry r s c) es) some) [
    | inl here ↦ of_paper e.0.1
        (and_parts e.1.live (is_paper_of r s e.0.1)
        (and_parts (nat_eq e.0.0 c) (e.1.live && is_paper_of r s e.0.1) here).1).1
    | inr later ↦ of_entries c es later
  ]

  pub of_member : (c : ℕ) → is_member r s c ≡ true → Exists
  of_member c is = of_entries c r.entries (and_parts (has_row nat_cmp r.candidates c) (has_live_entry r s c) is).1

  of_names : (t : Code) → names r t s ≡ true → Exists
  of_names t is = (and_parts (same_code t s) (has_row code_cmp r.sessions s) is).1

  of_opening : (h : Code) → has_row opening_cmp r.openings (s, h) ≡ true → Exists
  of_opening h is = inner (row_at opening_cmp r.openings (s, h)) refl is
    where
      inner : (o : Option Opening) → row_at opening_cmp r.openings (s, h) ≡ o → is_some o ≡ true → Exists
      inner None at some = cc
      inner (Some x) at some =
          (and_parts (has_row code_cmp r.sessions s) (has_row code_cmp r.halls h)
          (all_at_row opening_cmp openings_exact
          (λ (e : (Code × Code) × Opening). has_row code_cmp r.sessions e.0.0 && has_row code_cmp r.halls e.0.1)
          r.openings (s, h) x (parted r refer table.Openings) at)).0

  of_standing : (rows : List ((ℕ × Code) × Appeal)) → list_any (stands_in r s) rows ≡ true → Exists
  of_standing [] some = cc
  of_standing (a ∷ rows) some = elim (or_cases (stands_in r s a) (list_any (stands_in r s) rows) some) [
    | inl here ↦ of_member a.0.0 (and_parts (is_granted a.1.status && is_marked r a.0) (is_member r s a.0.0) here).1
    | inr later ↦ of_standing rows later
  ]

  of_row : (x : Row) → row_reaches r x s ≡ true → Exists
  of_row (row.OfSession named x) is = of_standing r.appeals is
  of_row (row.OfPaper p x) is =
      elim (or_cases (is_paper_of r s p) (names r x.session s) is)
      [ inl here ↦ of_paper p here | inr to ↦ of_names x.session to ]
  of_row (row.OfHall h x) is = of_opening h is
  of_row (row.OfOpening named h x) is = of_names named is
  of_row (row.OfCandidate c x) is = cc
  of_row (row.OfEntry c p) is = of_paper p is
  of_row (row.OfArrangement c x) is = of_member c is

  of_rows : (rows : List Row) → list_any (λ (x : Row). row_reaches r x s) rows ≡ true → Exists
  of_rows [] some = cc
  of_rows (x ∷ rows) some =
      elim (or_cases (row_reaches r x s) (list_any (λ (x : Row). row_reaches r x s) rows) some)
      [ inl here ↦ of_row x here | inr later ↦ of_rows rows later ]

  reached : (done : Command) → reaches r done s ≡ true → Exists
  reached (command.Import import) is =
      elim (or_cases (list_any (λ (x : Row). row_reaches r x s) import.rows)
      (is_of_sessions import.kind && has_standing_member r s) is) [
        | inl rows ↦ of_rows import.rows rows
        | inr dated ↦ of_standing r.appeals (and_parts (is_of_sessions import.kind) (has_standing_member r s) dated).1
      ]
  reached (command.Withdraw c p) is = of_paper p is
  reached (command.Reinstate c p) is = of_paper p is
  reached (command.CloseHall named h) is = of_names named is
  reached (command.Lodge l) is = cc
  reached (command.Retract c reference) is = cc
  reached (command.Decide d) is =
      inner (appeal_at r d.number d.reference) refl
      (and_parts (is_grant d.outcome)
      (option_map_or (λ (a : Appeal). grant_reaches r d a s) (appeal_at r d.number d.reference) false) is).1
    where
      inner : (o : Option Appeal) → appeal_at r d.number d.reference ≡ o
          → option_map_or (λ (a : Appeal). grant_reaches r d a s) o false ≡ true → Exists
      inner None at some = cc
      inner (Some a) at some =
          elim (or_cases (same_code a.session s)
          ((bears_mark d.outcome || ends_standing r d a) && is_member r s d.number) some) [
            | inl same ↦ same_exists a.session same (appeal_known r refer (d.number, d.reference) a at)
            | inr more ↦ of_member d.number
                (and_parts (bears_mark d.outcome || ends_standing r d a) (is_member r s d.number) more).1
          ]

  -- what a command does not touch it neither sets nor reaches
  pub untouched_is_unset : (done : Command) → touches r done s ≡ false → is_set_by done s ≡ false
  untouched_is_unset done away =
      (or_parts (is_set_by done s) (has_row code_cmp r.sessions s && reaches r done s) away).0

  pub untouched_is_unreached : (done : Command) → touches r done s ≡ false → reaches r done s ≡ false
  untouched_is_unreached done away =
      let unreached = (or_parts (is_set_by done s) (has_row code_cmp r.sessions s && reaches r done s) away).1 in
      false_from_ne_true (reaches r done s) (λ is. true≢false (sym
      (and_from (has_row code_cmp r.sessions s) (reaches r done s) (reached done is) is) ∙ unreached))
