-- From what clap says of words to what the program answers.
use Rattle.std.proofs.Common.{◌≡◌, ◌≢◌, ◌⊎◌, ◌∙◌, [], ◌∷◌, List, Option, true, refl, sym, subst, ap₂, inl, inr}
use Rattle.std.specs.Prelude.{Result, Ok, Err}
use Rattle.clap.specs.Words.{App, HasMatchesOf, IsAmong, Text, fault_of, found_of, is_simple, is_simple_and_free}
use Rattle.clap.specs.Words.{matches_of, rows_of, subcommand_of, subcommand_rows_of}
use Rattle.clap.specs.declared.parser.matches.ArgMatches.{ArgMatches}
use Rattle.clap.specs.declared.error.kind.ErrorKind.{ErrorKind}
use Rattle.clap.specs.declared.error.kind.ErrorKind.TheVariants as kind
use Rattle.clap.proofs.OnLiterals.{clap_on_literals}
use Rattle.exam_line.specs.Grammar.{grammar}
use Rattle.exam_line.proofs.RequestAlone.{IsRequest, request_alone}
use Rattle.exam_line.specs.Lines.{Answers, AsksNothing, GivesLine, Said, Tells, rows, said, said_in}
use Rattle.exam_line.specs.declared.line.Line.{Line}
use Rattle.exam_line.specs.declared.line.LineFault.{LineFault}
use Rattle.exam_line.specs.declared.line.LineFault.TheVariants.{Help, NoMemory, NotUnderstood, Version}

pub simple : is_simple grammar ≡ true
unfolding clap_on_literals
simple = refl

pub free : is_simple_and_free grammar ≡ true
unfolding clap_on_literals
free = refl

accepted : (r : Result Line LineFault) (answer : Option Said) (words : List Text) → fault_of grammar words ≡ []
    → answer ≡ said words → GivesLine r answer → Answers r words
accepted (Ok line) answer words none same given = (none, sym same ∙ given)
accepted (Err NoMemory) answer words none same given = tt
accepted (Err NotUnderstood) answer words none same given = inl (none, sym same ∙ given)
accepted (Err (Help text)) answer words none same given = absurd given
accepted (Err Version) answer words none same given = absurd given

-- beside another kind no request is found
no_request : (k asked : ErrorKind) (words : List Text) → IsRequest asked → k ≢ asked
    → IsAmong k (fault_of grammar words) → IsAmong asked (fault_of grammar words) → ⊥
no_request k asked words is other among found =
    let single : IsAmong k (asked ∷ []) = subst (IsAmong k) (request_alone words asked is found) among in
    elim single [ inl e ↦ other e | inr further ↦ absurd further ]

told : (f : LineFault) (k : ErrorKind) (words : List Text) → Tells f k
    → (k ≡ kind.OutOfMemory) ⊎ IsAmong k (fault_of grammar words) → Answers (Err f) words
told NoMemory k words tells from = tt
told NotUnderstood k words tells (inl e) = absurd (tells.2 e)
told NotUnderstood k words tells (inr among) =
    inr (
      k,
      among,
      (
        no_request k kind.DisplayHelp words (inl refl) tells.0 among,
        no_request k kind.DisplayVersion words (inr refl) tells.1 among,
      ),
    )
told (Help text) k words tells (inl e) = cc (tells, e)
told (Help text) k words tells (inr among) = subst (λ x. IsAmong x (fault_of grammar words)) tells among
told Version k words tells (inl e) = cc (tells, e)
told Version k words tells (inr among) = subst (λ x. IsAmong x (fault_of grammar words)) tells among

-- what clap says of a command is said of the program's
matched : (a : App) (words : List Text) (m : ArgMatches) → a ≡ grammar → HasMatchesOf a words m
    → (rows_of (found_of m) ≡ matches_of grammar words) × (subcommand_rows_of m ≡ subcommand_of grammar words)
matched a words m e h = let P : App → Type 0 = λ b. HasMatchesOf b words m in subst P e h simple

no_fault : (a : App) (words : List Text) → a ≡ grammar → (is_simple_and_free a ≡ true → fault_of a words ≡ [])
    → fault_of grammar words ≡ []
no_fault a words e h = let P : App → Type 0 = λ b. is_simple_and_free b ≡ true
    → fault_of b words ≡ [] in subst P e h free

pub fault : (a : App) (words : List Text) (f : LineFault) (k : ErrorKind) → a ≡ grammar → Tells f k
    → (is_simple_and_free a ≡ true → (k ≡ kind.OutOfMemory) ⊎ IsAmong k (fault_of a words)) → Answers (Err f) words
fault a words f k e tells h = let P : App → Type 0 = λ b. is_simple_and_free b ≡ true
    → (k ≡ kind.OutOfMemory) ⊎ IsAmong k (fault_of b words) in told f k words tells (subst P e h free)

pub read : (r : Result Line LineFault) (a : App) (words : List Text) (m : ArgMatches) → a ≡ grammar
    → HasMatchesOf a words m → (is_simple_and_free a ≡ true → fault_of a words ≡ [])
    → GivesLine r (said_in (rows m) (subcommand_rows_of m)) → Answers r words
read r a words m e h k given =
    let found = matched a words m e h in
    accepted r (said_in (rows m) (subcommand_rows_of m)) words (no_fault a words e k)
    (ap₂ said_in found.0 found.1) given
