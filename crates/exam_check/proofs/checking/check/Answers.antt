-- A database that lists no table of the newest version is a bad office before any table is read. Otherwise the first
-- bad table is the one that was found, and none was found exactly where opening accepts it.
use Rattle.std.proofs.Common.{◌≡◌, inl, inr, refl, sym, subst, rules}
use Rattle.std.proofs.lemmas.Bool.{both_ways}
use Rattle.std.specs.Prelude.{option_map}
use Rattle.sqlite.specs.Held.{state}
use Rattle.exam_sql.proofs.Listed.{listed_newest}
use Rattle.exam_check.specs.FirstBad.{IsFirstBadTable}
use Rattle.exam_check.specs.declared.tables.Table.TheVariants as table
use Rattle.exam_check.proofs.Judging.{found_as}
use Rattle.exam_check.proofs.checking.check.Goals as goal

pub returns-in-Ok-clause-found : goal.returns-in-Ok-clause-found
returns-in-Ok-clause-found g c = λ clean.
    let db = (state g.S.Store c.args.conn.now).now in
    let it = c.in-Ok.ensures in
    let is : c.map.result ≡ option_map table.Of c.in-Ok.bad = search rules in
    record {
      bad = λ all was. subst (IsFirstBadTable db all) (sym is) (found_as db all c.in-Ok.bad (it.found clean all was));
      understood = inr (it.understood clean);
      listed = inr (it.listed clean);
      newest = it.newest clean;
    }

pub returns-in-Err-BadStore-clause-found : goal.returns-in-Err-BadStore-clause-found
returns-in-Err-BadStore-clause-found g c = λ clean.
    let it = c.in-Err-BadStore.ensures in
    let is = c.in-Err-BadStore.field-0-is in
    record {
      bad = λ all was. inl ((it.looks.bad clean is).1 all, refl);
      understood = inl refl;
      listed = inl refl;
      newest = it.newest clean is;
    }

-- ---- the names of the tables

pub returns-in-Ok-clause-unlisted : goal.returns-in-Ok-clause-unlisted
returns-in-Ok-clause-unlisted g c =
    λ clean none. absurd (both_ways _ none (listed_newest _ (c.in-Ok.ensures.listed clean)))
