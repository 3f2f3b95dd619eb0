use Rattle.exam_rules.proofs.Words.{Entry, Code, code_cmp, leading, is_row_of, relations_of, live_papers_in}
use Rattle.exam_rules.proofs.Words.{is_paper_of}
use Rattle.std.proofs.Common.{◌≡◌, ◌&&◌, ap, map, filter, ℕ, List, ◌∙◌}
use Rattle.exam_rules.proofs.Together.{rows_from, filter_and}
use Rattle.exam_rules.proofs.sessions.entries_of.Goals as goal

pub returns : goal.returns
returns c =
    let n : ℕ = c.args.number in
    let own : leading (is_row_of n) c.range.result ≡ filter (is_row_of n) c.args.facts.now.entries.entries =
    ap (leading (is_row_of n)) (c.range.ensures.between tt)
    ∙ rows_from code_cmp n c.least_paper-least.result c.args.facts.now.entries.entries c.range.ensures.ordered
    c.no_entry_before.ensures in
    let rows : c.new.result ≡ (n, filter (is_row_of n) c.args.facts.now.entries.entries) =
    c.new.ensures ∙ ap (λ (l : List ((ℕ × Code) × Entry)). (n, l)) own in
    record {
      rows = rows;
      live = λ s. ap (λ (a : ℕ × List ((ℕ × Code) × Entry)). live_papers_in (relations_of c.args.facts.now) a.1 s n)
          rows
          ∙ ap (map (λ (e : (ℕ × Code) × Entry). e.0.1))
          (filter_and (is_row_of n)
          (λ (e : (ℕ × Code) × Entry). e.1.live && is_paper_of (relations_of c.args.facts.now) s e.0.1)
          c.args.facts.now.entries.entries);
    }
