-- One more word of a command, and one more command.
use Rattle.std.proofs.Common.{Bor, ◌≡◌, ◌+◌, ◌<◌, ◌∙◌, ◌++◌, ◌∷◌, [], ℕ, List, map, length, take, get_or, sym, subst}
use Rattle.std.proofs.Common.{ap}
use Rattle.std.specs.Prelude.{Result, IfOk}
use Rattle.std.proofs.lemmas.List.{map-append, take_more}
use Rattle.clap.specs.Words.{App, Rule, Text, app_of, with_rule}
use Rattle.clap.specs.declared.builder.command.Command.{Command}
use Rattle.clap.specs.Simple.{new_shape}
use Rattle.exam_line.specs.Grammar.{job_app, with_job, word_rule}

pub job_more : (name : Text) (ws : List (Bor Text × Bor Text)) (i : ℕ) (d : Bor Text × Bor Text) → i < length ws
    → with_rule (job_app name (map (λ w. w.0.now) (take i ws))) (word_rule (get_or ws i d).0.now)
    ≡ job_app name (map (λ w. w.0.now) (take (i + 1) ws))
job_more name ws i d h =
    let w = get_or ws i d in
    let grown : map (λ w. w.0.now) (take (i + 1) ws) ≡ map (λ w. w.0.now) (take i ws) ++ w.0.now ∷ [] =
    ap (map (λ (w : Bor Text × Bor Text). w.0.now)) (take_more ws i d h)
    ∙ map-append (λ (w : Bor Text × Bor Text). w.0.now) (take i ws) (w ∷ []) in
    let rules : map word_rule (map (λ w. w.0.now) (take (i + 1) ws)) ≡ map word_rule (map (λ w. w.0.now) (take i ws))
    ++ word_rule w.0.now ∷ [] =
    ap (map word_rule) grown ∙ map-append word_rule (map (λ w. w.0.now) (take i ws)) (w.0.now ∷ []) in
    ap (λ (rs : List Rule). let a : App = record { top = record (new_shape name) { rules = rs }; subs = [] } in a)
    (sym rules)

-- one command more, after those so far
pub and_job : (a b so_far : App) (name : Text) (words : List Text) → b ≡ with_job a (name, words) → a ≡ so_far
    → b ≡ with_job so_far (name, words)
and_job a b so_far name words one before = one ∙ ap (λ x. with_job x (name, words)) before

pub last_job : {E : Type 0} (r : Result Command E) (a so_far : App) (name : Text) (words : List Text) → a ≡ so_far
    → IfOk r (λ c. app_of c ≡ with_job a (name, words)) → IfOk r (λ c. app_of c ≡ with_job so_far (name, words))
last_job r a so_far name words before one = subst (λ x. IfOk r (λ c. app_of c ≡ with_job x (name, words))) before one
