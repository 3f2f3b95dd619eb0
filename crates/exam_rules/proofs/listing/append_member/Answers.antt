-- The entries of a candidate are walked by paper, rising. The first live one of a session has the least paper, and
-- appends the candidate; a later one of that session finds them last and changes nothing.
use Rattle.exam_rules.proofs.Words.{nat_tests, Entrant, Entry, Code, relations_of, same_code, head_of, listed}
use Rattle.exam_rules.proofs.Words.{with_last, with_member, entrant}
use Rattle.std.proofs.Common.{◌≡◌, ℕ, cond, nat_eq, true, None, Some, List, Bool, false, ap, sym, ◌∙◌, arith, rules}
use Rattle.exam_rules.specs.Lists.{entered_session}
use Rattle.exam_rules.proofs.Listed.{first_in, first_in_row, marked_once}
use Rattle.exam_rules.proofs.listing.append_member.Goals as goal

pub loop-key-init : goal.loop-key-init
loop-key-init c = let start : c.into_iter-key-iterator.result ≡ c.entries_of-key-items.result = search rules in (
  tt,
  tt,
  search rules,
  λ s. ap (λ o. with_member c.args.number o (listed c.args.members.now.entries s))
      (ap (λ (a : ℕ × List ((ℕ × Code) × Entry)). first_in (relations_of c.args.facts.now) c.args.number s a.1) start
      ∙ ap head_of (c.entries_of-key-items.ensures.live s)),
)

-- a list to which one is appended, or none
marked : (n : ℕ) (p : Code) (b : Bool) (old new : List Entrant) → new ≡ cond b (with_last (entrant n p) old) old
    → new ≡ with_member n (cond b (Some p) None) old
marked n p true old new e = e
marked n p false old new e = e

pub loop-key-preserved-in-Continue-1 : goal.loop-key-preserved-in-Continue-1
loop-key-preserved-in-Continue-1 c =
    let of_number : c.next.new.self.0 ≡ c.args.number = c.in-Some.ensures.steps.1 ∙ c.loop-key.invariant.2 in
    let own : nat_eq c.in-Some.key.now.0 c.args.number ≡ true =
    rw (c.in-Some.ensures.steps.2, c.loop-key.invariant.2) (grind (arith, nat_tests)) in
    let entered : entered_session (relations_of c.args.facts.now) c.in-Some.key.now.1 c.in-Some.entry.now
    ≡ Some c.in-Some-entered_session.session = search rules in (
      tt,
      tt,
      of_number,
      λ s. marked_once c.args.number
          (cond (same_code c.in-Some-entered_session.session s) (Some c.in-Some.key.now.1) None)
          (first_in (relations_of c.args.facts.now) c.args.number s c.next.new.self.1)
          (listed c.loop-key.members.entries s) (listed c.append_last.new.members.entries s)
          (marked c.args.number c.in-Some.key.now.1 (same_code c.in-Some-entered_session.session s)
          (listed c.loop-key.members.entries s) (listed c.append_last.new.members.entries s)
          (c.in_ok-append_last.ensures.ok s))
          ∙ ap (λ o. with_member c.args.number o (listed c.loop-key.members.entries s))
          (sym (first_in_row (relations_of c.args.facts.now) c.args.number s c.in-Some.key.now c.in-Some.entry.now
          c.next.new.self.1 (Some c.in-Some-entered_session.session) own entered))
          ∙ ap (λ rows. with_member c.args.number (first_in (relations_of c.args.facts.now) c.args.number s rows)
          (listed c.loop-key.members.entries s)) (sym c.in-Some.ensures.steps.0)
          ∙ c.loop-key.invariant.3 s,
    )
