-- A line that asks for a sheet changes no office, and what it prints is that sheet. Any other line is not carried out.
use Rattle.exam_theorem.proofs.Words.{job_shown, LineEnd, sheet_of, PrintsAsked}
use Rattle.std.proofs.Common.{◌≡◌, ◌∙◌, [], Some, true, refl, subst, sym}
use Rattle.std.specs.Prelude.{is_some}
use Rattle.exam_theorem.proofs.Settling.{unchanged_settles}
use Rattle.exam_theorem.proofs.Sheets.{job_keeps, job_printed}
use Rattle.exam_theorem.proofs.SettledSheets.{job_stays}
use Rattle.exam_theorem.proofs.printing.print_line.Goals as goal

pub returns-then-is_sheet-clause-sheet : goal.returns-then-is_sheet-clause-sheet
returns-then-is_sheet-clause-sheet g c =
    let job = job_shown c.args.line.now.job in
    let asks : is_some (sheet_of job) ≡ true = sym c.is_sheet.ensures ∙ c.if-is_sheet.true in
    subst (λ (o : LineEnd). PrintsAsked g.S.Store g.O.Write.contents c.args.store.now c.carry_out.new.store
    (sheet_of job) c.args.out.now o c.carry_out.new.out) (sym c.told.ensures)
    (job_printed g.S.Store g.O.Write.contents c.args.line.now.today (Some [])
    (Some []) c.args.store.now c.carry_out.new.store c.args.out.now c.carry_out.result c.carry_out.new.out job asks
    c.carry_out.ensures.does)

pub returns-then-is_sheet-clause-office : goal.returns-then-is_sheet-clause-office
returns-then-is_sheet-clause-office g c =
    let job = job_shown c.args.line.now.job in
    let asks : is_some (sheet_of job) ≡ true = sym c.is_sheet.ensures ∙ c.if-is_sheet.true in
    (job_keeps g.S.Store g.O.Write.contents c.args.line.now.today (Some [])
    (Some []) c.args.store.now c.carry_out.new.store c.args.out.now c.carry_out.result c.carry_out.new.out job asks
    c.carry_out.ensures.does).0

pub returns-then-is_sheet-clause-kept : goal.returns-then-is_sheet-clause-kept
returns-then-is_sheet-clause-kept g c =
    let job = job_shown c.args.line.now.job in
    let asks : is_some (sheet_of job) ≡ true = sym c.is_sheet.ensures ∙ c.if-is_sheet.true in
    (job_keeps g.S.Store g.O.Write.contents c.args.line.now.today (Some [])
    (Some []) c.args.store.now c.carry_out.new.store c.args.out.now c.carry_out.result c.carry_out.new.out job asks
    c.carry_out.ensures.does).1

pub returns-then-is_sheet-clause-stays : goal.returns-then-is_sheet-clause-stays
returns-then-is_sheet-clause-stays g c =
    let job = job_shown c.args.line.now.job in
    let asks : is_some (sheet_of job) ≡ true = sym c.is_sheet.ensures ∙ c.if-is_sheet.true in
    job_stays g.S.Store (λ h trees is may. g.met.S.Store.settled h.store trees is may) g.O.Write.contents
    c.args.line.now.today (Some [])
    (Some []) c.args.store.now c.carry_out.new.store c.args.out.now c.carry_out.result c.carry_out.new.out
    job asks c.carry_out.ensures.does

pub returns-else-is_sheet-clause-stays : goal.returns-else-is_sheet-clause-stays
returns-else-is_sheet-clause-stays g c = (
  refl,
  unchanged_settles g.S.Store (λ h trees is may. g.met.S.Store.settled h.store trees is may) ⊥
      (λ at. ⊥) c.args.store.now c.args.store.now refl,
)
