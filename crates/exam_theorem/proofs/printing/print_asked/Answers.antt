use Rattle.std.proofs.Common.{refl}
use Rattle.std.specs.Prelude.{map, string_bytes}
use Rattle.exam_theorem.proofs.Asked.{printed, unread}
use Rattle.exam_theorem.proofs.Settling.{unchanged_settles}
use Rattle.exam_theorem.proofs.printing.print_asked.Goals as goal

pub returns-in-Err-clause-sheet : goal.returns-in-Err-clause-sheet
returns-in-Err-clause-sheet g c =
    unread g.S.Store g.O.Write.contents c.args.store.now c.args.store.now
    (map string_bytes c.args.words.now) c.args.out.now c.in-Err.fault c.in-Err.ensures

pub returns-in-Ok-clause-sheet : goal.returns-in-Ok-clause-sheet
returns-in-Ok-clause-sheet g c =
    printed g.S.Store g.O.Write.contents c.args.store.now c.print_line.new.store
    (map string_bytes c.args.words.now) c.args.out.now c.in-Ok.line c.print_line.result c.print_line.new.out
    c.in-Ok.ensures c.print_line.ensures.sheet

pub returns-in-Err-clause-stays : goal.returns-in-Err-clause-stays
returns-in-Err-clause-stays g c = (
  refl,
  unchanged_settles g.S.Store (λ h trees is may. g.met.S.Store.settled h.store trees is may) ⊥
      (λ at. ⊥) c.args.store.now c.args.store.now refl,
)
