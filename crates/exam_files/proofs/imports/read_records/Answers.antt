-- The reader gives the records of the text one after the other. The rows so far are those of the records that were
-- taken, and what is left denotes the rest; there are no more records than bytes, so the loop meets the end.
use Rattle.std.proofs.Common.{◌≡◌, ◌∙◌, ◌+◌, ◌⊎◌, ℕ, [], ◌∷◌, ◌++◌, length, sym, ap, arith, inl, inr, length-append}
use Rattle.std.specs.Prelude.{Ok, Err}
use Rattle.exam_commands.specs.Imports.{ImportRows}
use Rattle.exam_commands.specs.declared.import_row.Kind.{Kind}
use Rattle.exam_types.specs.declared.refusal.Refusal.TheVariants.{NoMemory, RowConflict}
use Rattle.exam_files.specs.ImportFiles.{rows_from, rows_in, rows_of}
use Rattle.exam_files.proofs.Counts.{records_few}
use Rattle.exam_files.proofs.Steps.{header-no, header-yes, passes_on, rows-bad, rows-conflict, rows-end, rows-more}
use Rattle.exam_files.proofs.imports.read_records.Goals as goal
use Rattle.exam_files.proofs.imports.read_records.Goals.{else-loop-place-test}
use Rattle.exam_files.proofs.imports.read_records.Goals.{then-loop-place-test+in_ok-take_record-2+then-not-branch-2}

pub returns-then-not-branch : goal.returns-then-not-branch
returns-then-not-branch c =
    let none = rw c.if-not-branch.true at (c.in_ok-take_record.ensures.steps _ c.reader_of-reader.ensures.records) in
    inr (ap (rows_of c.args.kind) none)

pub returns-then-not-is_header : goal.returns-then-not-is_header
returns-then-not-is_header c =
    let first = rw c.if-not-branch.false at (c.in_ok-take_record.ensures.steps _ c.reader_of-reader.ensures.records) in
    inr (ap (rows_of c.args.kind) first.1 ∙ header-no c.args.kind _ first.0 c.if-not-is_header.ensures)

pub loop-place-init : goal.loop-place-init
loop-place-init c =
    let first = rw c.if-not-branch.false at (c.in_ok-take_record.ensures.steps _ c.reader_of-reader.ensures.records) in
    let few = rw first.1 at (records_few c.args.bytes.now) in
    let kind = ap (λ (v : ImportRows). v.kind) c.new-import.ensures in
    let rows = ap (λ (v : ImportRows). v.rows) c.new-import.ensures in (
      first.0,
      first.2,
      rw rows
          (sym (ap (rows_of c.args.kind) first.1 ∙ header-yes c.args.kind _ first.0 c.if-not-is_header.ensures)),
      omega arith,
      ap length rows,
      kind,
    )

pub returns-in_err-row : goal.returns-in_err-row
returns-in_err-row c =
    let inv = c.loop-place.invariant in
    let first = rw c.if-not-branch-2.false at (c.in_ok-take_record-2.ensures.steps _ inv.1) in
    let all : (c.in_err-row.field-0.0 ≡ NoMemory)
    ⊎ (rows_in c.args.kind c.args.bytes.now ≡ Err c.in_err-row.field-0.0) =
    elim c.in_err-row.ensures.row [
      | inl memory ↦ inl memory
      | inr bad ↦ inr (sym inv.2 ∙ ap (rows_from c.args.kind (c.loop-place.place + 1) c.loop-place.import.rows) first.1
          ∙ rows-bad c.args.kind _ _ _ first.0 _ bad)
    ] in
    passes_on _ _ _ c.from_residual-in_err-row.ensures.1 all

pub returns-in_err-push : goal.returns-in_err-push
returns-in_err-push c =
    let inv = c.loop-place.invariant in
    let first = rw c.if-not-branch-2.false at (c.in_ok-take_record-2.ensures.steps _ inv.1) in
    let all : (c.in_err-push.field-0.0 ≡ NoMemory)
    ⊎ (rows_in c.args.kind c.args.bytes.now ≡ Err c.in_err-push.field-0.0) =
    elim c.in_err-push.ensures.refused [
      | inl memory ↦ inl memory
      | inr p ↦
          inr
          (sym inv.2 ∙ ap (rows_from c.args.kind (c.loop-place.place + 1) c.loop-place.import.rows) first.1
          ∙ rows-conflict c.args.kind _ c.loop-place.import.rows _ first.0 _ c.in_ok-row.ensures.row p.1
          ∙ ap (λ (n : ℕ). Err (RowConflict (n + 1))) (sym inv.4) ∙ ap Err (sym p.0))
    ] in
    passes_on _ _ _ c.from_residual-in_err-push.ensures.1 all

pub loop-place-preserved : goal.loop-place-preserved
loop-place-preserved c =
    let inv = c.loop-place.invariant in
    let first = rw c.if-not-branch-2.false at (c.in_ok-take_record-2.ensures.steps _ inv.1) in
    let few = rw first.1 at inv.3 in
    let kind = ap (λ (v : ImportRows). v.kind) c.in_ok-push.ensures.ok in
    let rows : c.push.new.self.rows ≡ c.loop-place.import.rows ++ c.in_ok-row.row ∷ [] =
    ap (λ (v : ImportRows). v.rows) c.in_ok-push.ensures.ok in
    let more = rows-more c.args.kind
    (c.loop-place.place + 1) c.loop-place.import.rows _ first.0 _ c.in_ok-row.ensures.row
    c.in_ok-push.ensures.agrees in (
      first.0,
      first.2,
      rw rows (sym more ∙ ap (rows_from c.args.kind (c.loop-place.place + 1) c.loop-place.import.rows) (sym first.1)
          ∙ inv.2),
      omega arith,
      ap length rows ∙ length-append c.loop-place.import.rows (c.in_ok-row.row ∷ []) ∙ ap (λ n. n + 1) inv.4,
      kind ∙ inv.5,
    )

pub returns : goal.returns
returns c =
    let inv = c.loop-place.invariant in
    let whole : rows_in c.args.kind c.args.bytes.now
    ≡ rows_from c.args.kind (c.loop-place.place + 1) c.loop-place.import.rows inv.0 = sym inv.2 in
    elim c.loop-place-test.branch [
      | else-loop-place-test w ↦ absurd (omega (arith, inv.3))
      | then-loop-place-test+in_ok-take_record-2+then-not-branch-2 w ↦
          let none = rw w.if-not-branch-2.true at (w.in_ok-take_record-2.ensures.steps _ inv.1) in
          whole ∙ ap (rows_from c.args.kind (c.loop-place.place + 1) c.loop-place.import.rows) none
          ∙ rows-end c.args.kind _ c.loop-place.import.rows
          ∙ ap (λ (k : Kind). Ok (record { kind = k; rows = c.loop-place.import.rows })) (sym inv.5)
    ]
