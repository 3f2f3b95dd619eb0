use Rattle.std.proofs.Common.{◌≡◌, drop}
use Rattle.std.specs.Prelude.{find}
use Rattle.std.specs.Option.{option_map}
use Rattle.exam_rules.specs.Relations.{same_code}
use Rattle.exam_views.proofs.view.SessionView.opening.Given as goal

abbrev pub invariant-loop-opened : goal.invariant-loop-opened
invariant-loop-opened l =
    option_map (λ opened. opened.1) (find (λ opened. same_code opened.0 l.hall) (drop l.opened-index l.opened-items))
    ≡ option_map (λ opened. opened.1) (find (λ opened. same_code opened.0 l.hall) l.opened-items)
