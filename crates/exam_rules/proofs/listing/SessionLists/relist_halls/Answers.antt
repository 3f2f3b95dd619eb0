use Rattle.exam_rules.proofs.Words.{Global, Code, relations_of, listed}
use Rattle.std.proofs.Common.{Vec, refl, ap, ◌∙◌}
use Rattle.std.specs.BTreeMap.{BTreeMap}
use Rattle.exam_rules.proofs.Closing.{halls_anew}
use Rattle.exam_rules.proofs.listing.SessionLists.relist_halls.Goals as goal

pub returns-clause-ok : goal.returns-clause-ok
returns-clause-ok c = λ r are only.
    halls_anew r (relations_of c.args.facts.now) c.args.self.now
    (record { members = c.args.self.now.members; halls = c.replace.new.dest }) are only
    (λ s. ap (λ (halls : BTreeMap Code (Vec Code Global)). listed halls.entries s) c.replace.ensures.after
    ∙ c.in_ok-halls.ensures.ok s)
    c.in_ok-halls.ensures.rising refl
