-- The row's kind says which table is put; all other tables and what is kept of them stay.
use Rattle.std.proofs.Common.{◌≡◌, ℕ, cond, rules, is_some, true, false, Option, None, Some, ap, refl, subst, sym, ◌∙◌}
use Rattle.std.specs.Option.{option_map, option_map_or}
use Rattle.std.proofs.lemmas.Result.{on_ok_weaker}
use Rattle.std.proofs.lemmas.Map.Lookups.{exact_bytes, exact_unsigned}
use Rattle.exam_rules.specs.declared.rows.Entry.{Entry}
use Rattle.exam_rules.specs.Relations.{Code, Relations, entry_cmp, put_row, relations_of, row_at}
use Rattle.exam_rules.specs.Tables as table
use Rattle.exam_commands.specs.declared.import_row.Row.TheVariants as row
use Rattle.exam_commands.specs.Changes.{with_row}
use Rattle.exam_commands.specs.Replies.{is_same}
use Rattle.exam_commands.proofs.KeyedRows.{appeals_exact, openings_exact}
use Rattle.exam_changes.proofs.importing.set_row.Goals as goal

pub returns-in-OfSession-clause-back : goal.returns-in-OfSession-clause-back
returns-in-OfSession-clause-back c =
    λ first back. elim [
      | table.Sessions ↦ c.put_kept.ensures.back exact_bytes first.sessions
          (back table.Sessions)
      | t ↦ back t
    ]

pub returns-in_ok-copy-in-OfPaper-clause-back : goal.returns-in_ok-copy-in-OfPaper-clause-back
returns-in_ok-copy-in-OfPaper-clause-back c =
    λ first back. elim [
      | table.Papers ↦ c.put_kept-in-OfPaper.ensures.back exact_bytes first.papers
          (back table.Papers)
      | t ↦ back t
    ]

pub returns-in_ok-copy-in-OfHall-clause-back : goal.returns-in_ok-copy-in-OfHall-clause-back
returns-in_ok-copy-in-OfHall-clause-back c =
    λ first back. elim [
      | table.Halls ↦ c.put_kept-in-OfHall.ensures.back exact_bytes first.halls
          (back table.Halls)
      | t ↦ back t
    ]

pub returns-in-OfOpening-clause-back : goal.returns-in-OfOpening-clause-back
returns-in-OfOpening-clause-back c =
    λ first back. elim [
      | table.Openings ↦ c.put_kept-in-OfOpening.ensures.back openings_exact first.openings
          (back table.Openings)
      | t ↦ back t
    ]

pub returns-in_ok-copy-in-OfCandidate-clause-back : goal.returns-in_ok-copy-in-OfCandidate-clause-back
returns-in_ok-copy-in-OfCandidate-clause-back c =
    λ first back. elim [
      | table.Candidates ↦ c.put_kept-in-OfCandidate.ensures.back exact_unsigned first.candidates
          (back table.Candidates)
      | t ↦ back t
    ]

pub returns-in-OfEntry-clause-back : goal.returns-in-OfEntry-clause-back
returns-in-OfEntry-clause-back c =
    λ first back. elim [
      | table.Entries ↦ c.put_kept-in-OfEntry.ensures.back appeals_exact first.entries
          (back table.Entries)
      | t ↦ back t
    ]

pub returns-in-OfArrangement-clause-back : goal.returns-in-OfArrangement-clause-back
returns-in-OfArrangement-clause-back c =
    λ first back. elim [
      | table.Arrangements ↦ c.put_kept-in-OfArrangement.ensures.back exact_unsigned
          first.arrangements (back table.Arrangements)
      | t ↦ back t
    ]

pub returns-in-OfSession-clause-ok : goal.returns-in-OfSession-clause-ok
returns-in-OfSession-clause-ok c =
    let r : Relations = relations_of c.args.facts.now in
    on_ok_weaker c.put_kept.result
    (λ put. ap (λ rows. record r { sessions = rows }) put ∙ sym (ap (with_row r) c.in-OfSession.is))
    c.put_kept.ensures.ok

pub returns-in_ok-copy-in-OfPaper-clause-ok : goal.returns-in_ok-copy-in-OfPaper-clause-ok
returns-in_ok-copy-in-OfPaper-clause-ok c =
    let r : Relations = relations_of c.args.facts.now in
    let copied : c.in_ok-copy-in-OfPaper.copy ≡ c.in-OfPaper.paper = search rules in
    on_ok_weaker c.put_kept-in-OfPaper.result
    (λ put. ap (λ rows. record r { papers = rows }) put
    ∙ ap (λ x. with_row r (row.OfPaper c.in-OfPaper.code x)) copied
    ∙ sym (ap (with_row r) c.in-OfPaper.is))
    c.put_kept-in-OfPaper.ensures.ok

pub returns-in_ok-copy-in-OfHall-clause-ok : goal.returns-in_ok-copy-in-OfHall-clause-ok
returns-in_ok-copy-in-OfHall-clause-ok c =
    let r : Relations = relations_of c.args.facts.now in
    let copied : c.in_ok-copy-in-OfHall.copy ≡ c.in-OfHall.hall = search rules in
    on_ok_weaker c.put_kept-in-OfHall.result
    (λ put. ap (λ rows. record r { halls = rows }) put
    ∙ ap (λ x. with_row r (row.OfHall c.in-OfHall.code x)) copied
    ∙ sym (ap (with_row r) c.in-OfHall.is))
    c.put_kept-in-OfHall.ensures.ok

pub returns-in-OfOpening-clause-ok : goal.returns-in-OfOpening-clause-ok
returns-in-OfOpening-clause-ok c =
    let r : Relations = relations_of c.args.facts.now in
    on_ok_weaker c.put_kept-in-OfOpening.result
    (λ put. ap (λ rows. record r { openings = rows }) put ∙ sym (ap (with_row r) c.in-OfOpening.is))
    c.put_kept-in-OfOpening.ensures.ok

pub returns-in_ok-copy-in-OfCandidate-clause-ok : goal.returns-in_ok-copy-in-OfCandidate-clause-ok
returns-in_ok-copy-in-OfCandidate-clause-ok c =
    let r : Relations = relations_of c.args.facts.now in
    let copied : c.in_ok-copy-in-OfCandidate.copy ≡ c.in-OfCandidate.candidate = search rules in
    on_ok_weaker c.put_kept-in-OfCandidate.result
    (λ put. ap (λ rows. record r { candidates = rows }) put
    ∙ ap (λ x. with_row r (row.OfCandidate c.in-OfCandidate.number x)) copied
    ∙ sym (ap (with_row r) c.in-OfCandidate.is))
    c.put_kept-in-OfCandidate.ensures.ok

pub returns-in-OfArrangement-clause-ok : goal.returns-in-OfArrangement-clause-ok
returns-in-OfArrangement-clause-ok c =
    let r : Relations = relations_of c.args.facts.now in
    on_ok_weaker c.put_kept-in-OfArrangement.result
    (λ put. ap (λ rows. record r { arrangements = rows }) put ∙ sym (ap (with_row r) c.in-OfArrangement.is))
    c.put_kept-in-OfArrangement.ensures.ok

absent : {X : Type 0} (stored : Option X) → option_map_or (λ same. same) (option_map (λ _. true) stored) false ≡ false
    → is_some stored ≡ false
absent None is = refl
absent (Some x) is = is

pub returns-in-OfEntry-clause-ok : goal.returns-in-OfEntry-clause-ok
returns-in-OfEntry-clause-ok c =
    let r : Relations = relations_of c.args.facts.now in
    let key : ℕ × Code = (c.in-OfEntry.number, c.in-OfEntry.paper) in
    let live : Entry = record { live = true } in
    let new = absent (row_at entry_cmp r.entries key)
    (subst (λ x. is_same r x ≡ false) c.in-OfEntry.is c.requires) in
    on_ok_weaker c.put_kept-in-OfEntry.result
    (λ put. ap (λ rows. record r { entries = rows })
    (put ∙ sym (ap (λ there. cond there r.entries (put_row entry_cmp r.entries key live)) new))
    ∙ sym (ap (with_row r) c.in-OfEntry.is))
    c.put_kept-in-OfEntry.ensures.ok
