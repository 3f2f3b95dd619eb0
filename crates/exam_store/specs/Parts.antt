-- What is loaded from the tables of an office.
use Rattle.std.specs.Prelude.{◌≡◌, ℕ, ◌∷◌, IsTrue}
use Rattle.exam_commands.specs.Good.{IsGood}
use Rattle.exam_commands.specs.State.{State}
use Rattle.exam_sql.specs.Made.{ContainsMade, lists_marks}
use Rattle.exam_sql.specs.Texts.{held_texts, load_office, load_standing}
use Rattle.exam_tables.specs.Loaded.{AreUnderstood, IsUnderstood}
use Rattle.exam_tables.specs.Parts.{Part}
use Rattle.exam_tables.specs.Versions.{ContainsOf, IsVersion}
use Rattle.exam_tables.specs.declared.version.Version.{Version}
use Rattle.exam_store.specs.Found.{HoldsGood, version_texts}
use Rattle.exam_store.specs.Refused.{HoldsFormed, HoldsNoOffice, HoldsNone}

-- the office that the tables of any version hold
abbrev pub held_part : Part State
held_part = record {
  Holds = ContainsMade;
  Has = λ office db all. HoldsFormed all office;
  HasNone = λ db all. HoldsNoOffice IsGood all;
  Understands = λ office db.
      AreUnderstood db held_texts × (IsTrue (lists_marks db.schema) → IsUnderstood db load_standing);
}

-- that of the tables of this version
abbrev pub office_part : Version → Part State
office_part v = record held_part {
  HasNone = λ db all. ContainsOf v.number db all → HoldsNone v.number all;
  Understands = λ office db. (lists_marks db.schema ≡ v.has_marks) × AreUnderstood db (version_texts v.number);
}

-- the version of a good office
abbrev pub judged_part : Part Version
judged_part = record {
  Holds = ContainsMade;
  Has = λ v db all. HoldsGood v.number db all;
  HasNone = λ db all. (v : ℕ) → IsVersion v → ContainsOf v db all → HoldsNone v all;
  Understands = λ v db. AreUnderstood db (load_office ∷ version_texts v.number);
}
