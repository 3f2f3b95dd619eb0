use Rattle.std.proofs.Common.{◌≡◌, refl, sym, subst, ◌∙◌}
use Rattle.std.proofs.lemmas.List.{drop_all}
use Rattle.exam_request.proofs.Secrets.{alike, differing, no_difference}
use Rattle.exam_request.proofs.secret.differences.Goals as goal

pub returns : goal.returns
returns c n =
    let l = c.loop-byte in
    let given = c.args.given.now in
    let secret = c.args.secret.now in
    let found : l.found ≡ differing 0 0 given secret =
    subst (λ rest. differing l.found l.index rest secret ≡ differing 0 0 given secret)
    (drop_all l.byte-index given c.loop-byte-test.false) l.invariant.1 in
    (λ h. alike 0 0 given secret secret refl n (sym found ∙ h), λ h. found ∙ no_difference 0 given secret secret refl h)
