use Rattle.std.proofs.Common.{arith, ap, length, sym, ◌∙◌, ◌≤◌, ◌≡◌, true}
use Rattle.std.proofs.lemmas.List.{drop-replicate, length-append, length-drop, length-replicate}
use Rattle.std.proofs.lemmas.Slice.{drop-append-drop}
use Rattle.exam_types.specs.Codes.{is_code}
use Rattle.exam_types.proofs.CodeFacts.{front_is_code, longest}
use Rattle.exam_types.proofs.code.Code.parse.Goals as goal

pub invariant_of-result : goal.invariant_of-result
invariant_of-result g c =
    let n = length c.args.bytes.now in
    let is : is_code g.A.Alphabet.allowed g.row.LEAST g.row.GREATEST c.args.bytes.now ≡ true =
    sym {b = is_code g.A.Alphabet.allowed g.row.LEAST g.row.GREATEST c.args.bytes.now} c.if-not-has_form.ensures in
    let fits : n ≤ g.row.GREATEST = longest g.A.Alphabet.allowed g.row.LEAST g.row.GREATEST c.args.bytes.now is in (
      fits,
      simp (length-append, length-drop, length-replicate) (omega arith),
      drop-append-drop n _ _ n (omega arith) (ap length c.copy_from_slice.ensures.after)
          ∙ drop-replicate n g.row.GREATEST 0,
      front_is_code g.A.Alphabet.allowed g.row.LEAST g.row.GREATEST c.args.bytes.now _ _
          c.copy_from_slice.ensures.after is,
    )
