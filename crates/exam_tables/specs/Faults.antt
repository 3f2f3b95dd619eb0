-- How a failed call of the database is reported.
use Rattle.std.specs.Prelude.{Bool, true, false}
use Rattle.sqlite_resolve.specs.declared.error.CompileError.TheVariants.{NoSuchTable, NoSuchColumn}
use Rattle.sqlite.specs.declared.error.Error.{Error}
use Rattle.sqlite.specs.declared.error.Error.TheVariants.{SqliteFailure, SqlInputError}
use Rattle.sqlite.specs.declared.error.ErrorCode.TheVariants.{OutOfMemory}
use Rattle.exam_types.specs.declared.refusal.Refusal.{Refusal}
use Rattle.exam_types.specs.declared.refusal.Refusal.TheVariants.{NoMemory, Store, BadStore}

-- out of memory, a missing table or column, or another failure
abbrev pub refusal_of : Error → Refusal
refusal_of (SqliteFailure OutOfMemory) = NoMemory
refusal_of (SqlInputError NoSuchTable) = BadStore
refusal_of (SqlInputError NoSuchColumn) = BadStore
refusal_of _ = Store

-- the refusals of any call that reads or writes tables
abbrev pub is_store_refusal : Refusal → Bool
is_store_refusal NoMemory = true
is_store_refusal Store = true
is_store_refusal BadStore = true
is_store_refusal _ = false
