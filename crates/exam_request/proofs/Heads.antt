-- When bytes are a head, by what the parser answers.
use Rattle.std.proofs.Common.{◌≡◌, ◌∙◌, ◌≤◌, ℕ, List, [], length, take, drop, refl, sym, ap, subst, arith, inl, inr}
use Rattle.std.specs.Prelude.{Result, Err}
use Rattle.std.proofs.lemmas.List.{length-map, length-take, drop_all}
use Rattle.httparse.specs.Grammar.{ReadsRequest, RequestHead}
use Rattle.httparse.specs.Spans.{IsRequestAt, IsRequestOf, header_bytes, name_and_value}
use Rattle.httparse.specs.declared.spans.HeaderSpan.{HeaderSpan}
use Rattle.httparse.specs.declared.spans.RequestSpans.{RequestSpans}
use Rattle.exam_request.specs.Head.{HasWholeLines, IsHead, Judges, Said, said_by}
use Rattle.exam_request.specs.declared.fault.Fault.{Fault}
use Rattle.exam_request.specs.declared.fault.Fault.TheVariants.{Head}
use Rattle.exam_request.specs.Sizes.{most_lines}

-- the parser found a head of just these bytes
pub whole_head : (head : List ℕ) (headers : List HeaderSpan) (r : RequestSpans) (answer : Result Said Fault)
    → HasWholeLines head
    → IsRequestOf head headers r → length headers ≤ most_lines → r.len ≡ length head
    → ((h : RequestHead) → IsRequestAt head headers r h → answer ≡ said_by h)
    → Judges head answer
whole_head head headers r answer lines of room all said =
    let h = of.0 in
    let at = of.1 in
    let ends : drop r.len head ≡ [] = rw all (drop_all (length head) head (omega arith)) in
    let count : length (take r.headers headers) ≡ length h.fields =
    sym (length-map (take r.headers headers) (header_bytes head)) ∙ ap length at.fields
    ∙ length-map h.fields name_and_value in
    let few : length h.fields ≤ most_lines = omega (arith, length-take r.headers headers) in
    inr (
      h,
      record { lines = lines; reads = subst (λ rest. ReadsRequest head h rest) ends at.reads; few = few },
      said h at,
    )

-- these bytes are no head
pub no_head : (head : List ℕ) → ((h : RequestHead) → IsHead head h → ⊥) → Judges head (Err Head)
no_head head none = inl (none, refl)
