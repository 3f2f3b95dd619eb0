use Rattle.exam_rules.proofs.Words.{Appeal, Code, code_cmp, leading, is_row_of, same_code}
use Rattle.std.proofs.Common.{◌≡◌, ◌&&◌, ap, map, filter, ℕ, List, ◌∙◌}
use Rattle.exam_rules.specs.Sessions.{granted_subjects, is_granted}
use Rattle.exam_rules.proofs.Together.{rows_from, filter_and}
use Rattle.exam_rules.proofs.appeals.appeals_of.Goals as goal

pub returns : goal.returns
returns c =
    let n : ℕ = c.args.number in
    let own : leading (is_row_of n) c.range.result ≡ filter (is_row_of n) c.args.facts.now.appeals.entries =
    ap (leading (is_row_of n)) (c.range.ensures.between tt)
    ∙ rows_from code_cmp n c.least_reference-least.result c.args.facts.now.appeals.entries c.range.ensures.ordered
    c.no_appeal_before.ensures in
    let rows : c.new.result ≡ (n, filter (is_row_of n) c.args.facts.now.appeals.entries) =
    c.new.ensures ∙ ap (λ (l : List ((ℕ × Code) × Appeal)). (n, l)) own in
    record {
      rows = rows;
      granted = λ s. ap (λ (a : ℕ × List ((ℕ × Code) × Appeal)). granted_subjects a.1 s n) rows
          ∙ ap (map (λ (a : (ℕ × Code) × Appeal). a.1.subject))
          (filter_and (is_row_of n)
          (λ (a : (ℕ × Code) × Appeal). same_code a.1.session s && is_granted a.1.status)
          c.args.facts.now.appeals.entries);
    }
