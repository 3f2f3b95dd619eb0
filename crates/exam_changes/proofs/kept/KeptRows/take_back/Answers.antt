-- Each table tells its keys apart and has the keys that were kept, so each goes back by itself.
use Rattle.std.proofs.lemmas.Map.Lookups.{exact_bytes}
use Rattle.exam_rules.specs.Tables as table
use Rattle.exam_commands.proofs.KeyedRows.{appeals_exact, openings_exact}
use Rattle.exam_changes.proofs.kept.KeptRows.take_back.Goals as goal

pub put_back-requires-clause-exact : goal.put_back-requires-clause-exact
put_back-requires-clause-exact c = exact_bytes

pub put_back-requires-2-clause-exact : goal.put_back-requires-2-clause-exact
put_back-requires-2-clause-exact c = exact_bytes

pub put_back-requires-3-clause-exact : goal.put_back-requires-3-clause-exact
put_back-requires-3-clause-exact c = exact_bytes

pub put_back-requires-4-clause-exact : goal.put_back-requires-4-clause-exact
put_back-requires-4-clause-exact c = openings_exact

pub put_back-requires-6-clause-exact : goal.put_back-requires-6-clause-exact
put_back-requires-6-clause-exact c = appeals_exact

pub put_back-requires-8-clause-exact : goal.put_back-requires-8-clause-exact
put_back-requires-8-clause-exact c = appeals_exact

pub put_back-requires-9-clause-exact : goal.put_back-requires-9-clause-exact
put_back-requires-9-clause-exact c = appeals_exact

pub put_back-requires-clause-there : goal.put_back-requires-clause-there
put_back-requires-clause-there c = c.requires table.Sessions

pub put_back-requires-2-clause-there : goal.put_back-requires-2-clause-there
put_back-requires-2-clause-there c = c.requires table.Papers

pub put_back-requires-3-clause-there : goal.put_back-requires-3-clause-there
put_back-requires-3-clause-there c = c.requires table.Halls

pub put_back-requires-4-clause-there : goal.put_back-requires-4-clause-there
put_back-requires-4-clause-there c = c.requires table.Openings

pub put_back-requires-5-clause-there : goal.put_back-requires-5-clause-there
put_back-requires-5-clause-there c = c.requires table.Candidates

pub put_back-requires-6-clause-there : goal.put_back-requires-6-clause-there
put_back-requires-6-clause-there c = c.requires table.Entries

pub put_back-requires-7-clause-there : goal.put_back-requires-7-clause-there
put_back-requires-7-clause-there c = c.requires table.Arrangements

pub put_back-requires-8-clause-there : goal.put_back-requires-8-clause-there
put_back-requires-8-clause-there c = c.requires table.Appeals

pub put_back-requires-9-clause-there : goal.put_back-requires-9-clause-there
put_back-requires-9-clause-there c = c.requires table.Standing
