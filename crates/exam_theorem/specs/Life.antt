-- The whole life of an office: a database of any version is brought to the newest and opened, and orders are followed.
use Rattle.std.specs.Prelude.{◌≡◌, ⊤, ℕ, List, [], ◌∷◌, Option, Ok}
use Rattle.sqlite_trees.specs.declared.store.Store.{Ghosts}
use Rattle.sqlite_trees.specs.Tree.{Trees}
use Rattle.sqlite.specs.Effect.{Database}
use Rattle.sqlite.specs.Held.{Held, state}
use Rattle.sqlite.specs.State.{State as Shown, HasCleanDisk}
use Rattle.exam_rules.specs.Relations.{Code}
use Rattle.exam_commands.specs.Good.{IsGood}
use Rattle.exam_commands.specs.Headline.{IsSeated}
use Rattle.exam_commands.specs.Orders.{IsInOrder}
use Rattle.exam_commands.specs.State.{State}
use Rattle.exam_line.specs.Lines.{Job}
use Rattle.exam_line.specs.Lines as line
use Rattle.exam_line.specs.declared.line.Sheet.{Sheet}
use Rattle.exam_request.specs.Answer.{Told}
use Rattle.exam_request.specs.Asked.{Asks, Request}
use Rattle.exam_http.specs.Answering.{own_named}
use Rattle.exam_tables.specs.Transactions.{IsSound}
use Rattle.exam_store.specs.Kept.{HaveSameTables, Keeps}
use Rattle.exam_store.specs.Stops.{HasRowDays}
use Rattle.exam_store.specs.Stores.{OfficeIn}
use Rattle.exam_theorem.specs.Following.{AreFollowed, EachSparesOthers, EndsInOne, Follows, FollowsWords, MeetsFailure}
use Rattle.exam_theorem.specs.Following.{LineEnd, Spares}
use Rattle.exam_theorem.specs.Orders.{Given, of_line, of_request}
use Rattle.exam_theorem.specs.Printing.{PrintsAsked}
use Rattle.exam_theorem.specs.Requests.{TellsInOffice}
use Rattle.exam_theorem.specs.Resting.{HasOffice, IsAtRest, IsVersioned, LeavesOffice, Rests, Settles}
use Rattle.exam_theorem.specs.declared.orders.Outcome.{Outcome}
use Rattle.exam_theorem.specs.declared.orders.Outcome.TheVariants as outcome
use Rattle.exam_theorem.specs.declared.printing.EndOfDay.{EndOfDay}

-- ---- one order

-- the rows of a command that a line gives have days of their own; an import gets its rows from a file
abbrev pub HasJobDays : Job → Type 0
HasJobDays (line.apply done) = HasRowDays done
HasJobDays other = Unit {0}

-- the order may lead from the one office to the other, whatever is then printed or answered
abbrev pub LeadsTo : Given → State → State → Type 0
LeadsTo (of_line words file) before after = (end : LineEnd) × FollowsWords words file before end after
LeadsTo (of_request bytes today) before after = (told : Told) × TellsInOffice bytes today before told after

-- the bytes of the answer; none to a command line
abbrev pub answer_of : Outcome → List ℕ
answer_of (outcome.Request answered) = answered.answer.items
answer_of (outcome.Line end) = []

-- both offices show the same of the candidate that the bytes of a request name
abbrev pub ShowSame : List ℕ → State → State → Type 0
ShowSame bytes one other =
    (request : Request) → Asks bytes (Ok request) → own_named one request ≡ own_named other request

-- Any other office that shows the same of the candidate that the request names answers it that day with the same bytes,
-- unless one of them meets a failure. (Every office of a store is good and in order.)
abbrev pub OwnRowsDecide : Given → State → Outcome → Type 0
OwnRowsDecide (of_line words file) before outcome = ⊤
OwnRowsDecide (of_request bytes today) before outcome =
    (other after : State) (second : Outcome) → IsGood other → IsInOrder other → ShowSame bytes before other
    → Follows (of_request bytes today) other second after → (MeetsFailure outcome → ⊥) → (MeetsFailure second → ⊥)
    → answer_of outcome ≡ answer_of second

-- the outcome of an order over an office in a store, and the office after it
pub record Passes {S : Type 0} (g : Ghosts S) (order : Given) (old : OfficeIn S) (outcome : Outcome)
    (new : OfficeIn S) : Type 0 where
  pub follows : Follows order old.office outcome new.office
  -- others keep their seats
  pub spares : Spares order old.office new.office
  pub seated : (s : Code) → IsSeated new.office s
  -- of a request the candidate's own rows decide the answer
  pub own : OwnRowsDecide order old.office outcome
  -- the tables follow; a stop leaves the office before the order or one after it
  pub settles : Settles g (MeetsFailure outcome) (LeadsTo order old.office) old new

-- ---- a life

-- each order passes in the office that the order before it left
abbrev pub ArePassed : {S : Type 0} → Ghosts S → List Given → OfficeIn S → List Outcome → OfficeIn S → Type 0
ArePassed g [] old [] new = new ≡ old
ArePassed {S} g (order ∷ orders) old (outcome ∷ outcomes) new =
    (mid : OfficeIn S) × Passes g order old outcome mid × ArePassed g orders mid outcomes new
ArePassed g [] old (outcome ∷ outcomes) new = ⊥
ArePassed g (order ∷ orders) old [] new = ⊥

-- the call leads to no other office, and does not change this one
abbrev pub Stays : {S : Type 0} → Ghosts S → OfficeIn S → OfficeIn S → Type 0
Stays g old new = (new.office ≡ old.office) × Settles g ⊥ (λ at. ⊥) old new

-- Each order passes, and then the sheet is printed that is asked for, which changes nothing.
pub record PassesDay {S W : Type 0} (g : Ghosts S) (contents : W → Option (List ℕ)) (orders : List Given)
    (asked : Option (Code × Sheet)) (start : OfficeIn S) (before : W) (day : EndOfDay) (new : OfficeIn S) (after : W)
    : Type 0 where
  pub last : OfficeIn S
  pub passed : ArePassed g orders start day.outcomes.items last
  pub stays : Stays g last new
  pub sheet : PrintsAsked g contents last new asked before day.printed after

-- each order is followed in the office that the order before it left
abbrev pub FollowsDay : {S : Type 0} → List Given → OfficeIn S → EndOfDay → OfficeIn S → Type 0
FollowsDay orders start day new = AreFollowed orders start.office day.outcomes.items new.office

-- each order spares others
abbrev pub SparesDay : {S : Type 0} → List Given → OfficeIn S → EndOfDay → OfficeIn S → Type 0
SparesDay orders start day new = EachSparesOthers orders start.office day.outcomes.items new.office

-- followed again without a failure, the orders end in the same office
abbrev pub EndsDay : {S : Type 0} → List Given → OfficeIn S → EndOfDay → OfficeIn S → Type 0
EndsDay orders start day new = EndsInOne orders start.office day.outcomes.items new.office

-- The office that the database had is brought over and opened, and the orders pass.
pub record Lives {S : Type 0} (g : Ghosts S) (orders : List Given) (old : Shown) (first : State) (start : OfficeIn S)
    (outcomes : List Outcome) (new : OfficeIn S) : Type 0 where
  -- the opened store has the office that the database had
  pub opened : start.office ≡ first
  pub rests : HasCleanDisk (state g start.database) → IsAtRest g start
  -- and so has whatever a stop leaves before that
  pub stop : Rests old first → HasCleanDisk (state g start.database) → (trees : Trees)
      → (state g start.database).may_leave trees → LeavesOffice first trees
  -- no fault of the disk is forgotten
  pub was_clean : HasCleanDisk (state g new.database) → HasCleanDisk (state g start.database)
  pub followed : AreFollowed orders first outcomes new.office

-- ---- what a life comes to, from a database

-- there was a good office, if the tables were those of a version
abbrev pub HadFirst : {S : Type 0} → Ghosts S → Held S → OfficeIn S → Type 0
HadFirst g old new =
    HasCleanDisk (state g new.database) → IsVersioned (state g old).now
    → (first : State) × IsGood first × HasOffice (state g old).now first

-- A store is opened in which the orders pass and the sheet is printed. It has the office that was there, which lives
-- through the orders.
abbrev pub LivesFrom : {S W : Type 0} → Ghosts S → (W → Option (List ℕ)) → List Given → Option (Code × Sheet) → Held S
    → W → EndOfDay → OfficeIn S → W → Type 0
LivesFrom {S} g contents orders asked old before day new after =
    (start : OfficeIn S) × PassesDay g contents orders asked start before day new after
    × (HasCleanDisk (state g new.database) → (first : State) → HasOffice (state g old).now first
    → Lives g orders (state g old) first start day.outcomes.items new)

-- followed again without a failure from the office that was there, the orders end in the same office
abbrev pub EndsAlike : {S : Type 0} → Ghosts S → List Given → Held S → EndOfDay → OfficeIn S → Type 0
EndsAlike g orders old day new =
    HasCleanDisk (state g new.database) → (first : State) → HasOffice (state g old).now first
    → EndsInOne orders first day.outcomes.items new.office

-- the life can go on from the database that it leaves
abbrev pub GoesOn : {S : Type 0} → Ghosts S → Held S → OfficeIn S → Type 0
GoesOn g old new = IsSound (state g new.database) → IsVersioned (state g old).now → IsAtRest g new

-- a database that keeps the last office has the tables that the life leaves
abbrev pub HasItsTables : {S : Type 0} → Ghosts S → Held S → OfficeIn S → Type 0
HasItsTables g old new =
    IsSound (state g new.database) → IsVersioned (state g old).now → (there : Database) → Keeps there new.office
    → HaveSameTables (state g new.database).now there
