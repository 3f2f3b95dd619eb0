-- No empty line begins in what was passed. The three bytes before the new ones are looked at again, since a line can
-- begin there and end in the new ones.
use Rattle.std.proofs.Common.{◌≡◌, ◌≤◌, ◌∙◌, ◌+◌, ◌-◌, ap, sym, subst, arith, rules, drop, length, true, false}
use Rattle.std.specs.Prelude.{option_map}
use Rattle.std.proofs.lemmas.List.{length-drop}
use Rattle.exam_request.specs.Input.{begins, head_len}
use Rattle.exam_request.proofs.Finding.{found_here, from_seen, none_in, not_here, open_range, shifted}
use Rattle.exam_request.proofs.reading.head_length.Goals as goal

pub loop-rest-init : goal.loop-rest-init
loop-rest-init c =
    let bytes = c.args.bytes.now in
    let passed = c.saturating_sub-passed.result in
    let start : c.saturating_sub-passed.result ≡ c.args.seen - 3 = c.saturating_sub-passed.ensures in
    let within = c.requires.within in
    let found = from_seen c.args.seen bytes within c.requires.none in
    rw open_range (
      subst (λ p. head_len bytes ≡ option_map (λ n. p + n) (head_len (drop p bytes))) (sym start) found,
      omega (arith, length-drop passed bytes),
    )

pub returns-then-starts_with : goal.returns-then-starts_with
returns-then-starts_with c =
    let yes : begins c.loop-rest.rest.now ≡ true = search rules in
    sym (c.loop-rest.invariant.0 ∙ ap (option_map (λ n. c.loop-rest.passed + n)) (found_here _ yes))

pub loop-rest-preserved : goal.loop-rest-preserved
loop-rest-preserved c =
    let no : begins c.loop-rest.rest.now ≡ false = search rules in
    let some : 1 ≤ length c.loop-rest.rest.now = search rules in
    rw open_range (
      c.loop-rest.invariant.0 ∙ ap (option_map (λ n. c.loop-rest.passed + n)) (not_here _ no)
          ∙ shifted _ _,
      omega (arith, length-drop 1 c.loop-rest.rest.now),
    )

pub returns : goal.returns
returns c =
    let none : length c.loop-rest.rest.now ≡ 0 = search rules in
    sym (c.loop-rest.invariant.0 ∙ ap (option_map (λ n. c.loop-rest.passed + n)) (none_in _ none))
