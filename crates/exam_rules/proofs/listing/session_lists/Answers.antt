use Rattle.exam_rules.proofs.Words.{relations_of}
use Rattle.exam_rules.proofs.Listed.{entrants_are_members}
use Rattle.exam_rules.proofs.listing.session_lists.Goals as goal

pub returns-clause-ok : goal.returns-clause-ok
returns-clause-ok c = record {
  numbers = entrants_are_members (relations_of c.args.facts.now);
  members = c.in_ok-members_by_session.ensures.ok;
  halls = c.in_ok-halls_by_session.ensures.ok;
  rising = λ s. record {
    numbers = c.in_ok-members_by_session.ensures.rising s;
    codes = c.in_ok-halls_by_session.ensures.rising s;
  };
}
