-- What a command line says.
use Rattle.std.specs.Prelude.{IsSome, ◌≡◌, ◌≢◌, ◌⊎◌, ⊤, ℕ, List, [], Bool, Option, Some, None, Result, Ok, Err, codes}
use Rattle.std.specs.Prelude.{option_and_then, option_map, if◌then◌else◌}
use Rattle.std.specs.Str.{bytes_eq}
use Rattle.std.specs.Fmt.{decimal}
use Rattle.clap.specs.Words.{IsAmong, Row, Text, fault_of, first_of, found_of, matches_of, rows_of, subcommand_of}
use Rattle.clap.specs.declared.error.kind.ErrorKind.{ErrorKind}
use Rattle.clap.specs.declared.error.kind.ErrorKind.TheVariants as kind
use Rattle.clap.specs.declared.parser.matches.ArgMatches.{ArgMatches}
use Rattle.exam_types.specs.Codes.{is_hall_code, is_paper_code, is_reference, is_session_code}
use Rattle.exam_types.specs.Days.{day_of}
use Rattle.exam_types.specs.Numbers.{number_in, value_in}
use Rattle.exam_types.specs.Texts.{is_reason}
use Rattle.exam_commands.specs.declared.command.Command.{Command}
use Rattle.exam_commands.specs.declared.command.Command.TheVariants.{Withdraw, Reinstate, CloseHall, Decide}
use Rattle.exam_commands.specs.declared.command.Decision.{Decision}
use Rattle.exam_commands.specs.declared.command.Outcome.{Outcome}
use Rattle.exam_commands.specs.declared.command.Outcome.TheVariants.{Grant, Refuse, Standing}
use Rattle.exam_commands.specs.declared.import_row.Kind.{Kind}
use Rattle.exam_commands.specs.declared.import_row.Kind.TheVariants.{Sessions, Papers, Halls, Openings}
use Rattle.exam_commands.specs.declared.import_row.Kind.TheVariants.{Candidates, Entries, Arrangements}
use Rattle.exam_line.specs.Grammar.{grammar}
use Rattle.exam_line.specs.declared.line.Job as coded
use Rattle.exam_line.specs.declared.line.Job.TheVariants as job
use Rattle.exam_line.specs.declared.line.Line.{Line}
use Rattle.exam_line.specs.declared.line.LineFault.{LineFault}
use Rattle.exam_line.specs.declared.line.LineFault.TheVariants.{Help, NoMemory, NotUnderstood, Version}
use Rattle.exam_line.specs.declared.line.Sheet.{Sheet}
use Rattle.exam_line.specs.declared.line.Sheet.TheVariants.{DoorList, Attendance, Clashes, Shortage, Appeals, Export}

-- ---- what a line may say

-- what a line tells the program to do; a command of the office is one of these
pub data Job : Type 0 where
  init : Job
  migrate : Job
  check : Job
  import : Kind → Text → Job
  apply : Command → Job
  serve : ℕ → Job
  print : Text → Sheet → Job

-- the path of the database, the day, and the job
pub record Said : Type 0 where
  pub db : Text
  pub today : ℕ
  pub job : Job

abbrev pub job_shown : coded.Job → Job
job_shown job.Init = init
job_shown job.Migrate = migrate
job_shown job.Check = check
job_shown (job.Import kind file) = import kind file.now
job_shown (job.Apply dated) = apply dated.0
job_shown (job.Serve port) = serve port
job_shown (job.Sheet session sheet) = print session sheet

abbrev pub shown : Line → Said
shown line = record { db = line.db.now; today = line.today; job = job_shown line.job }

-- ---- the values of words

abbrev pub rows : ArgMatches → List Row
rows matches = rows_of (found_of matches)

-- the value that the word with this name is the text of
abbrev pub value_of : {X : Type 0} → (Text → Option X) → Text → List Row → Option X
value_of read name words = option_and_then read (first_of name words)

-- the word with this name, if it has the form
abbrev pub text_of : (Text → Bool) → Text → List Row → Option Text
text_of has_form = value_of (λ text. if has_form text then Some text else None)

abbrev pub kind_in : Text → Option Kind
kind_in text =
    if bytes_eq text (codes "sessions") then Some Sessions
    else (if bytes_eq text (codes "papers") then Some Papers
    else (if bytes_eq text (codes "halls") then Some Halls
    else (if bytes_eq text (codes "openings") then Some Openings
    else (if bytes_eq text (codes "candidates") then Some Candidates
    else (if bytes_eq text (codes "entries") then Some Entries
    else (if bytes_eq text (codes "arrangements") then Some Arrangements
    else None))))))

abbrev pub outcome_in : Text → Option Outcome
outcome_in text =
    if bytes_eq text (codes "granted") then Some Grant
    else (if bytes_eq text (codes "standing") then Some Standing
    else (if bytes_eq text (codes "refused") then Some Refuse
    else None))

-- a decimal without leading zeros, from 1 to 65535
abbrev pub port_in : Text → Option ℕ
port_in = value_in decimal 1 65535

abbrev pub number_of : List Row → Option ℕ
number_of = value_of number_in (codes "number")

abbrev pub session_of : List Row → Option Text
session_of = text_of is_session_code (codes "session")

abbrev pub hall_of : List Row → Option Text
hall_of = text_of is_hall_code (codes "hall")

abbrev pub paper_of : List Row → Option Text
paper_of = text_of is_paper_code (codes "paper")

-- ---- the jobs

-- what two values make, if both are there
abbrev pub both : {X Y Z : Type 0} → (X → Y → Z) → Option X → Option Y → Option Z
both make first second = option_and_then (λ x. option_map (make x) second) first

abbrev pub import_job : List Row → Option Job
import_job words = both import (value_of kind_in (codes "kind") words) (first_of (codes "file") words)

-- a command about the entry of a candidate for a paper
abbrev pub entry_job : (ℕ → Text → Command) → List Row → Option Job
entry_job command words = both (λ number paper. apply (command number paper)) (number_of words) (paper_of words)

abbrev pub closing_of : List Row → Option Job
closing_of words = both (λ session hall. apply (CloseHall session hall)) (session_of words) (hall_of words)

-- an appeal, the outcome, and the text of the reason
abbrev pub decided_of : List Row → Option (ℕ × Text × Outcome × Text)
decided_of words =
    option_and_then (λ number.
    option_and_then (λ reference.
    option_and_then (λ outcome.
    option_map (λ reason. (number, reference, outcome, reason))
    (first_of (codes "reason") words))
    (value_of outcome_in (codes "outcome") words))
    (text_of is_reference (codes "ref") words))
    (number_of words)

abbrev pub decision_of : List Row → Option Decision
decision_of words =
    option_and_then (λ said.
    if is_reason said.3
    then Some (record { number = said.0; reference = said.1; outcome = said.2; answer = said.3 })
    else None)
    (decided_of words)

abbrev pub sheet_of : Text → List Row → Option Sheet
sheet_of name words =
    if bytes_eq name (codes "door-list") then option_map DoorList (hall_of words)
    else (if bytes_eq name (codes "attendance") then option_map Attendance (paper_of words)
    else (if bytes_eq name (codes "clashes") then Some Clashes
    else (if bytes_eq name (codes "shortage") then Some Shortage
    else (if bytes_eq name (codes "appeals") then Some Appeals
    else (if bytes_eq name (codes "export") then Some Export
    else None)))))

abbrev pub print_of : Text → List Row → Option Job
print_of name words = both print (session_of words) (sheet_of name words)

-- a job without a decision
abbrev pub plain_job_of : Text → List Row → Option Job
plain_job_of name words =
    if bytes_eq name (codes "init") then Some init
    else (if bytes_eq name (codes "migrate") then Some migrate
    else (if bytes_eq name (codes "check") then Some check
    else (if bytes_eq name (codes "import") then import_job words
    else (if bytes_eq name (codes "withdraw") then entry_job Withdraw words
    else (if bytes_eq name (codes "reinstate") then entry_job Reinstate words
    else (if bytes_eq name (codes "close-hall") then closing_of words
    else (if bytes_eq name (codes "serve") then option_map serve (value_of port_in (codes "port") words)
    else print_of name words)))))))

-- the job with this name and these words
abbrev pub job_of : Text → List Row → Option Job
job_of name words =
    if bytes_eq name (codes "decide") then option_map (λ d. apply (Decide d)) (decision_of words)
    else plain_job_of name words

-- ---- the line

-- the path of the database and the day
abbrev pub options_of : List Row → Option (Text × ℕ)
options_of words =
    both (λ db today. (db, today)) (first_of (codes "db") words) (value_of day_of (codes "today") words)

abbrev pub said_in : List Row → Option (Text × List Row) → Option Said
said_in words command =
    option_and_then (λ given.
    option_and_then (λ named.
    option_map (λ job. let s : Said = record { db = given.0; today = given.1; job = job } in s)
    (job_of named.0 named.1))
    command)
    (options_of words)

-- what the words say, if `clap` accepts them
abbrev pub said : List Text → Option Said
said words = said_in (matches_of grammar words) (subcommand_of grammar words)

-- no request is among the kinds of faults
abbrev pub AsksNothing : List ErrorKind → Type 0
AsksNothing kinds = (IsAmong kind.DisplayHelp kinds → ⊥) × (IsAmong kind.DisplayVersion kinds → ⊥)

-- What a call answers for words. The line that they say, if `clap` accepts them; help or the version, only if `clap`
-- finds a request for it; not understood, if it finds faults and no such request, or if they say nothing.
abbrev pub Answers : Result Line LineFault → List Text → Type 0
Answers (Ok line) words = (fault_of grammar words ≡ []) × (said words ≡ Some (shown line))
Answers (Err NoMemory) words = ⊤
Answers (Err (Help text)) words = IsAmong kind.DisplayHelp (fault_of grammar words)
Answers (Err Version) words = IsAmong kind.DisplayVersion (fault_of grammar words)
Answers (Err NotUnderstood) words =
    ((fault_of grammar words ≡ []) × (said words ≡ None))
    ⊎ ((k : ErrorKind) × IsAmong k (fault_of grammar words) × AsksNothing (fault_of grammar words))

-- ---- for the functions that the call is made of

-- the line that is said, or that none is; memory can run out only for a line
abbrev pub GivesLine : Result Line LineFault → Option Said → Type 0
GivesLine (Ok line) answer = answer ≡ Some (shown line)
GivesLine (Err NoMemory) answer = IsSome answer
GivesLine (Err NotUnderstood) answer = answer ≡ None
GivesLine (Err (Help text)) answer = ⊥
GivesLine (Err Version) answer = ⊥

-- the fault of an error of `clap`; the text of help may run out of memory too
abbrev pub Tells : LineFault → ErrorKind → Type 0
Tells NoMemory k = (k ≡ kind.OutOfMemory) ⊎ (k ≡ kind.DisplayHelp)
Tells NotUnderstood k = (k ≢ kind.DisplayHelp) × (k ≢ kind.DisplayVersion) × (k ≢ kind.OutOfMemory)
Tells (Help text) k = k ≡ kind.DisplayHelp
Tells Version k = k ≡ kind.DisplayVersion
