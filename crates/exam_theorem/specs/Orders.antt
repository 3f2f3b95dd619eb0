-- What an order says.
use Rattle.std.specs.Prelude.{⊤, ℕ, List, [], ◌∷◌, map, Option, Some, None, Result, Ok, Err, option_and_then}
use Rattle.std.specs.Prelude.{string_bytes}
use Rattle.clap.specs.Words.{Text, fault_of}
use Rattle.clap.specs.declared.error.kind.ErrorKind.{ErrorKind}
use Rattle.exam_types.specs.declared.refusal.Refusal.{Refusal}
use Rattle.exam_rules.specs.Relations.{Code}
use Rattle.exam_commands.specs.declared.command.Command.{Command}
use Rattle.exam_commands.specs.declared.command.Command.TheVariants as command
use Rattle.exam_commands.specs.Imports.{ImportRows}
use Rattle.exam_commands.specs.Steps.{IsNamed}
use Rattle.exam_files.specs.ImportFiles.{import_of}
use Rattle.exam_line.specs.Grammar.{grammar}
use Rattle.exam_line.specs.Lines.{Job, Said, said}
use Rattle.exam_line.specs.Lines as line
use Rattle.exam_line.specs.declared.line.Sheet.{Sheet}
use Rattle.exam_theorem.specs.declared.orders.Order.{Order}
use Rattle.exam_theorem.specs.declared.orders.Order.TheVariants as order

-- the words of a command line with the bytes of the file that it imports, or the bytes of a request with its day
pub data Given : Type 0 where
  of_line : List Text → List ℕ → Given
  of_request : List ℕ → ℕ → Given

abbrev pub shown : Order → Given
shown (order.Line words file) = of_line (map string_bytes words.now) file.now
shown (order.Request bytes today) = of_request bytes.now today

-- what the words say, if nothing is wrong with them
abbrev pub said_unless : List ErrorKind → Option Said → Option Said
said_unless [] answer = answer
said_unless (fault ∷ faults) answer = None

-- what words say, if `clap` accepts them
unfoldable pub line_of : List Text → Option Said
line_of words = said_unless (fault_of grammar words) (said words)

-- the command to import what a file denotes, or its refusal
abbrev pub import_command : Result ImportRows Refusal → Result Command Refusal
import_command (Ok rows) = Ok (command.Import rows)
import_command (Err refusal) = Err refusal

-- the command of the office, or why the file denotes none; none for any other job
abbrev pub command_of : Job → List ℕ → Option (Result Command Refusal)
command_of (line.import kind path) file = Some (import_command (import_of kind file))
command_of (line.apply done) file = Some (Ok done)
command_of other file = None

-- the session and the sheet of a line that prints one
abbrev pub sheet_of : Job → Option (Code × Sheet)
sheet_of (line.print session sheet) = Some (session, sheet)
sheet_of other = None

-- the session and the sheet that words ask for
abbrev pub sheet_asked : List Text → Option (Code × Sheet)
sheet_asked words = option_and_then (λ s. sheet_of s.job) (line_of words)

-- ---- who may lose a seat by an order

-- an import and the closing of a hall may cost anybody a seat; any other command only the candidate that it names
abbrev pub CommandMayUnseat : Command → ℕ → Type 0
CommandMayUnseat (command.Import import) c = ⊤
CommandMayUnseat (command.CloseHall session hall) c = ⊤
CommandMayUnseat other c = IsNamed other c

-- an order that is no command, or a file that denotes no import, costs nobody a seat
abbrev pub GivenMayUnseat : Option (Result Command Refusal) → ℕ → Type 0
GivenMayUnseat None c = ⊥
GivenMayUnseat (Some (Err refusal)) c = ⊥
GivenMayUnseat (Some (Ok done)) c = CommandMayUnseat done c

abbrev pub LineMayUnseat : Option Said → List ℕ → ℕ → Type 0
LineMayUnseat None file c = ⊥
LineMayUnseat (Some said) file c = GivenMayUnseat (command_of said.job file) c

-- a decision may cost only the appellant a seat; a request costs nobody one
abbrev pub MayUnseat : Given → ℕ → Type 0
MayUnseat (of_line words file) c = LineMayUnseat (line_of words) file c
MayUnseat (of_request bytes today) c = ⊥
