-- An input asks one thing, since a head is read in one way.
use Rattle.std.proofs.Common.{◌≡◌, ◌∙◌, ℕ, List, [], sym, ap, inl, inr}
use Rattle.std.specs.Prelude.{Result, Ok, Err, MatchResult}
use Rattle.httparse.proofs.GrammarLemmas.{request_unique}
use Rattle.exam_request.specs.Asked.{Request, asked_with}
use Rattle.exam_request.specs.Head.{Judges, Said, said_by}
use Rattle.exam_request.specs.declared.fault.Fault.{Fault}

one_saying : (head : List ℕ) (a b : Result Said Fault) → Judges head a → Judges head b → a ≡ b
one_saying head a b (inl x) (inl y) = x.1 ∙ sym y.1
one_saying head a b (inl x) (inr y) = absurd (x.0 y.0 y.1)
one_saying head a b (inr x) (inl y) = absurd (y.0 x.0 x.1)
one_saying head a b (inr x) (inr y) =
    let same = (request_unique head x.0 y.0 [] [] x.1.reads y.1.reads).0 in
    x.2 ∙ ap said_by same ∙ sym y.2

pub one_asking : (r : Result (List ℕ × List ℕ) Fault) (a b : Result Request Fault)
    → MatchResult r (λ p. (said : Result Said Fault) × Judges p.0 said × (a ≡ asked_with p.1 said)) (λ e. a ≡ Err e)
    → MatchResult r (λ p. (said : Result Said Fault) × Judges p.0 said × (b ≡ asked_with p.1 said)) (λ e. b ≡ Err e)
    → a ≡ b
one_asking (Ok p) a b x y = x.2 ∙ ap (asked_with p.1) (one_saying p.0 x.0 y.0 x.1 y.1) ∙ sym y.2
one_asking (Err e) a b x y = x ∙ sym y
