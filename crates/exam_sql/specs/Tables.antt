-- The eleven tables, each with its key and its texts.
use Rattle.std.specs.Prelude.{codes, List, ℕ, [], ◌∷◌, ◌++◌, ◌+◌, ◌-◌, ◌*◌, ◌/◌, nat_lt, Bool, true, false}
use Rattle.std.specs.Prelude.{if◌then◌else◌}
use Rattle.std.specs.Prelude.{Option, Some, None, drop, fold, get_or, length, map, take}
use Rattle.std.specs.List.{flat_map, range_with_len}
use Rattle.sqlite.specs.Collation.TheVariants.{Binary}
use Rattle.sqlite.specs.declared.types.Value.TheVariants.{Null}
use Rattle.sqlite.specs.Kind.{Kind}
use Rattle.sqlite.specs.Kind.TheVariants.{Integer, Text}
use Rattle.sqlite.specs.Schema.{Schema}
use Rattle.sqlite.specs.Table.{Table}
use Rattle.sqlite_schema.specs.declared.schema.Column.{Column}
use Rattle.sqlite_schema.specs.declared.schema.Reference.{Reference}
use Rattle.sqlite_schema.specs.declared.schema.Action.TheVariants.{NoAction}
use Rattle.sqlite_value.specs.Keys.{plain}
use Rattle.sqlite.specs.Change.{created}

abbrev pub no_schema : Schema
no_schema = record { tables = []; indexes = []; views = [] }

-- a column of a STRICT table
abbrev pub strict : List ℕ → Kind → Bool → Column
strict name kind not_null = record {
  name = name;
  kind = kind;
  is_strict = true;
  not_null = not_null;
  default = Null;
  collation = Binary;
}

abbrev pub integer : List ℕ → Column
integer name = strict name Integer true

abbrev pub text : List ℕ → Column
text name = strict name Text true

abbrev pub nullable_text : List ℕ → Column
nullable_text name = strict name Text false

-- a foreign key to the primary key of a table, with no action
abbrev pub refers : List ℕ → List ℕ → List (List ℕ) → Reference
refers columns parent parent_columns = record {
  columns = columns;
  parent = parent;
  parent_columns = parent_columns;
  on_delete = NoAction;
  on_update = NoAction;
  is_deferred = false;
}

-- a STRICT table whose key is its first column, a whole number, which is the rowid
abbrev pub rowid_table : ℕ → List ℕ → List Column → List Reference → Table
rowid_table tree name columns references = record {
  name = name;
  tree = tree;
  columns = columns;
  key = Some 0;
  primary = 0 ∷ [];
  uniques = [];
  orders = [];
  checks = [];
  references = references;
  computed = [];
  stamps = record { places = []; terms = []; formats = [] };
  is_counted = false;
}

-- a STRICT table with one key beside the rowid: so many of its first columns
abbrev pub strict_table : ℕ → List ℕ → ℕ → List Column → List Reference → Table
strict_table tree name count columns references = record {
  name = name;
  tree = tree;
  columns = columns;
  key = None;
  primary = range_with_len 1 count;
  uniques = range_with_len 1 count ∷ [];
  orders = plain ∷ [];
  checks = [];
  references = references;
  computed = [];
  stamps = record { places = []; terms = []; formats = [] };
  is_counted = false;
}

-- ---- the texts of a table, whose key is its first columns

-- words with a comma between each two
abbrev pub in_list : List (List ℕ) → List ℕ
in_list [] = []
in_list (word ∷ words) = word ++ flat_map (λ (w : List ℕ). codes ", " ++ w) words

abbrev pub in_brackets : List (List ℕ) → List ℕ
in_brackets words = codes " (" ++ in_list words ++ codes ")"

-- the parameter with this number, which is less than 100
abbrev pub parameter : ℕ → List ℕ
parameter n = codes "?" ++ (if nat_lt n 10 then [] else ((48 + n / 10) ∷ [])) ++ (48 + (n - n / 10 * 10)) ∷ []

abbrev pub names : Table → List (List ℕ)
names table = map (λ (c : Column). c.name) table.columns

abbrev pub key_names : Table → List (List ℕ)
key_names table = take (length table.primary) (names table)

-- the name of the column whose value is at a place of a stored row, which begins with the rowid
abbrev pub name_at : Table → ℕ → List ℕ
name_at table place = get_or (name_of table.key ∷ names table) place []
  where
    name_of : Option ℕ → List ℕ
    name_of None = []
    name_of (Some at) = get_or (names table) at []

abbrev pub kind_text : Kind → List ℕ
kind_text Integer = codes " INTEGER"
kind_text _ = codes " TEXT"

abbrev pub column_text : Column → List ℕ
column_text c = c.name ++ kind_text c.kind ++ (if c.not_null then codes " NOT NULL" else [])

abbrev pub reference_text : Table → Reference → List ℕ
reference_text table r =
    codes "FOREIGN KEY" ++ in_brackets (map (name_at table) r.columns) ++ codes " REFERENCES " ++ r.parent
    ++ in_brackets r.parent_columns

-- the text that makes the table
abbrev pub create_text : Table → List ℕ
create_text table =
    codes "CREATE TABLE " ++ table.name
    ++ in_brackets (map column_text table.columns ++ (codes "PRIMARY KEY" ++ in_brackets (key_names table))
    ∷ map (reference_text table) table.references)
    ++ codes " STRICT"

-- the text that loads all rows
abbrev pub load_text : Table → List ℕ
load_text table = codes "SELECT " ++ in_list (names table) ++ codes " FROM " ++ table.name

-- the end of a text that asks for the row with a key
abbrev pub key_text : Table → List ℕ
key_text table = codes " WHERE " ++ equal_to 1 (key_names table)
  where
    equal_to : ℕ → List (List ℕ) → List ℕ
    equal_to n [] = []
    equal_to n (name ∷ []) = name ++ codes " = " ++ parameter n
    equal_to n (name ∷ more) = name ++ codes " = " ++ parameter n ++ codes " AND " ++ equal_to (n + 1) more

-- what a row gives for each column
abbrev pub values_text : Table → List ℕ
values_text table =
    table.name ++ in_brackets (names table) ++ codes " VALUES"
    ++ in_brackets (map parameter (range_with_len 1 (length table.columns)))

-- the text that puts a row in the place of the one with its key, if there is one
abbrev pub replace_text : Table → List ℕ
replace_text table = codes "INSERT OR REPLACE INTO " ++ values_text table

-- the text that puts a row, and sets these columns of the one with its key, if there is one
abbrev pub set_text : (Table → List (List ℕ)) → Table → List ℕ
set_text changed table =
    codes "INSERT INTO " ++ values_text table ++ codes " ON CONFLICT" ++ in_brackets (key_names table)
    ++ codes " DO UPDATE SET "
    ++ in_list (map (λ (name : List ℕ). name ++ codes " = excluded." ++ name) (changed table))

-- the columns that are not of the key
abbrev pub others : Table → List (List ℕ)
others table = drop (length table.primary) (names table)

-- ---- the tables

-- all that is said of a table
pub record Described : Type 0 where
  -- its place among the tables, from 0
  pub at : ℕ
  -- its name, its columns and what its rows refer to, with the tree of its rows
  pub table : Table
  -- the places of its key among the columns, from 1
  pub key : List ℕ
  -- the texts that make it, that put a row, whether or not its key exists, and that load all rows
  pub create : List ℕ
  pub put : List ℕ
  pub load : List ℕ

-- the table at this place, whose rows are put by this text
abbrev pub described : ℕ → (Table → List ℕ) → Table → Described
described at put table = record {
  at = at;
  table = table;
  key = range_with_len 1 (length table.primary);
  create = create_text table;
  put = put table;
  load = load_text table;
}

-- the version
abbrev pub office : Described
office = described 0 (λ table. codes "INSERT OR REPLACE INTO office (one, version) VALUES (1, ?1)")
    (rowid_table 0 (codes "office")
    (integer (codes "one") ∷ integer (codes "version") ∷ [])
    [])

abbrev pub session : Described
session = described 1 (set_text others) (strict_table 1 (codes "session") 1
    (text (codes "code") ∷ text (codes "day") ∷ integer (codes "start") ∷ [])
    [])

abbrev pub paper : Described
paper = described 2 (set_text others) (strict_table 3 (codes "paper") 1
    (text (codes "code") ∷ text (codes "title") ∷ text (codes "session") ∷ integer (codes "minutes")
    ∷ integer (codes "requires") ∷ [])
    (refers (3 ∷ []) (codes "session") (codes "code" ∷ []) ∷ []))

abbrev pub hall : Described
hall = described 3 (set_text others) (strict_table 5 (codes "hall") 1
    (text (codes "code") ∷ text (codes "title") ∷ integer (codes "features") ∷ [])
    [])

abbrev pub candidate : Described
candidate = described 4 (set_text others) (rowid_table 7 (codes "candidate")
    (integer (codes "number") ∷ text (codes "name") ∷ text (codes "code") ∷ [])
    [])

abbrev pub opening : Described
opening = described 5 (set_text others) (strict_table 8 (codes "opening") 2
    (text (codes "session") ∷ text (codes "hall") ∷ integer (codes "desks") ∷ integer (codes "until")
    ∷ integer (codes "reserved") ∷ [])
    (refers (1 ∷ []) (codes "session") (codes "code" ∷ [])
    ∷ refers (2 ∷ []) (codes "hall") (codes "code" ∷ []) ∷ []))

abbrev pub entry : Described
entry = described 6 replace_text (strict_table 10 (codes "entry") 2
    (integer (codes "number") ∷ text (codes "paper") ∷ integer (codes "live") ∷ [])
    (refers (1 ∷ []) (codes "candidate") (codes "number" ∷ [])
    ∷ refers (2 ∷ []) (codes "paper") (codes "code" ∷ []) ∷ []))

abbrev pub arrangement : Described
arrangement = described 7 replace_text (rowid_table 12 (codes "arrangement")
    (integer (codes "number") ∷ integer (codes "needs") ∷ integer (codes "extra") ∷ [])
    (refers (0 ∷ []) (codes "candidate") (codes "number" ∷ []) ∷ []))

-- SQL takes 1.0 for equal to 1, so the number of the row with the key is set too.
abbrev pub appeal : Described
appeal = described 8 (set_text (λ table. codes "number" ∷ others table)) (strict_table 13 (codes "appeal") 2
    (integer (codes "number") ∷ text (codes "ref") ∷ text (codes "session") ∷ integer (codes "kind")
    ∷ text (codes "target") ∷ integer (codes "needs") ∷ integer (codes "extra") ∷ text (codes "reason")
    ∷ integer (codes "state") ∷ nullable_text (codes "answer") ∷ text (codes "lodged") ∷ [])
    (refers (1 ∷ []) (codes "candidate") (codes "number" ∷ [])
    ∷ refers (3 ∷ []) (codes "session") (codes "code" ∷ []) ∷ []))

abbrev pub seat : Described
seat = described 9 replace_text (strict_table 15 (codes "seat") 2
    (text (codes "session") ∷ integer (codes "number") ∷ text (codes "hall") ∷ [])
    (refers (2 ∷ []) (codes "candidate") (codes "number" ∷ [])
    ∷ refers (1 ∷ 3 ∷ []) (codes "opening") (codes "session" ∷ codes "hall" ∷ []) ∷ []))

-- It is made last, even if all tables are new, so that a database that is brought to this version has the schema of a
-- new one.
abbrev pub standing : Described
standing = described 10 replace_text (strict_table 17 (codes "standing") 2
    (integer (codes "number") ∷ text (codes "ref") ∷ [])
    (refers (1 ∷ 2 ∷ []) (codes "appeal") (codes "number" ∷ codes "ref" ∷ []) ∷ []))

-- the tables in the order in which they are made, each after those to which its rows refer
abbrev pub all_tables : List Described
all_tables =
    office ∷ session ∷ paper ∷ hall ∷ candidate ∷ opening ∷ entry ∷ arrangement ∷ appeal ∷ seat ∷ standing ∷ []

-- those of version 1
abbrev pub first_tables : List Described
first_tables = take 10 all_tables

-- the schema with these tables
abbrev pub schema_of : List Described → Schema
schema_of = fold (λ schema d. created schema d.table) no_schema

-- the schema with the first tables
unfoldable pub made : ℕ → Schema
made count = schema_of (take count all_tables)

-- the tables of version 1
unfoldable pub first_schema : Schema
first_schema = schema_of first_tables

-- the tables of this version
unfoldable pub store_schema : Schema
store_schema = schema_of all_tables
