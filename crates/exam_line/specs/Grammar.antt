-- The words that the program takes.
use Rattle.std.specs.Prelude.{List, [], ◌∷◌, map, true, Some, codes}
use Rattle.std.specs.List.{fold}
use Rattle.clap.specs.Simple.{Shape, new_shape, on_top}
use Rattle.clap.specs.Words.{App, Rule, Text, new_app, new_rule, with_rule, with_subcommand}
use Rattle.clap.specs.declared.builder.action.ArgAction.TheVariants.{Set}

-- a word that must be given
abbrev pub word_rule : Text → Rule
word_rule name = record (new_rule name) { action = Some Set; required = true }

-- an option that must be given
abbrev pub option_rule : Text → Rule
option_rule name = record (word_rule name) { long = Some name }

-- a command and its words
abbrev pub job_shape : Text → List Text → Shape
job_shape name words = record (new_shape name) { rules = map word_rule words }

abbrev pub job_app : Text → List Text → App
job_app name words = record { top = job_shape name words; subs = [] }

abbrev pub with_job : App → Text × List Text → App
with_job app job = with_subcommand app (job_shape job.0 job.1)

-- a command must be given, `help` is no command, and the version may be asked for
abbrev pub program_app : App
program_app =
    on_top (λ shape. record shape { has_version = true; subcommand_required = true; disable_help_subcommand = true })
    (new_app (codes "examoffice"))

-- the options, which come before the command
abbrev pub options : App
options = with_rule (with_rule program_app (option_rule (codes "db"))) (option_rule (codes "today"))

-- the commands that make the office, change it or serve it, with their words
abbrev pub changes : List (Text × List Text)
changes =
    (codes "init", [])
    ∷ (codes "migrate", [])
    ∷ (codes "check", [])
    ∷ (codes "import", codes "kind" ∷ codes "file" ∷ [])
    ∷ (codes "withdraw", codes "number" ∷ codes "paper" ∷ [])
    ∷ (codes "reinstate", codes "number" ∷ codes "paper" ∷ [])
    ∷ (codes "close-hall", codes "session" ∷ codes "hall" ∷ [])
    ∷ (codes "decide", codes "number" ∷ codes "ref" ∷ codes "outcome" ∷ codes "reason" ∷ [])
    ∷ (codes "serve", codes "port" ∷ [])
    ∷ []

-- the commands that print a sheet, with their words
abbrev pub sheets : List (Text × List Text)
sheets =
    (codes "door-list", codes "session" ∷ codes "hall" ∷ [])
    ∷ (codes "attendance", codes "session" ∷ codes "paper" ∷ [])
    ∷ (codes "clashes", codes "session" ∷ [])
    ∷ (codes "shortage", codes "session" ∷ [])
    ∷ (codes "appeals", codes "session" ∷ [])
    ∷ (codes "export", codes "session" ∷ [])
    ∷ []

-- the options and each command
abbrev pub grammar : App
grammar = fold with_job (fold with_job options changes) sheets
