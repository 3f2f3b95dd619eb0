-- What the texts of the ten tables have in common. The code names these facts, and a file of specs may not name proofs
-- of its own crate, so the facts of keys are proved here too.
use Rattle.std.proofs.Common.{◌≡◌, ◌&&◌, ℕ, pos, Bool, true, false, Ordering, Less, Equal, Greater, refl, ap, subst}
use Rattle.std.proofs.Common.{◌∙◌, lit<, true≢false, if◌then◌else◌}
use Rattle.std.specs.Bool.{Decides, one_answer}
use Rattle.std.specs.Cmp.{Equal-is, tied_itself, nat_cmp_total}
use Rattle.std.specs.Cmp.Lexicographic.{nat_list_cmp_total}
use Rattle.std.specs.List as lists
use Rattle.std.specs.Ordering.{is_eq, ordering_then, nat_cmp}
use Rattle.std.proofs.lemmas.Map.Lookups.{exact_unsigned, exact_bytes}
use Rattle.sqlite_value.specs.declared.value.Value.TheVariants.{Text}
use Rattle.sqlite_value.specs.Keys.{plain, first_key}
use Rattle.sqlite_schema.specs.Rules.{equal}
use Rattle.sqlite_trees.specs.Tree.{Trees}
use Rattle.sqlite.specs.Effect.{Database}
use Rattle.exam_types.specs.Days.{day_text}
use Rattle.exam_types.specs.Features.{features_sum}
use Rattle.exam_sql.specs.Made.{ContainsMade, made_schema}
use Rattle.exam_sql.specs.Tables.{store_schema}
use Rattle.exam_sql.specs.Texts.{load_texts, load_office}
use Rattle.exam_sql.proofs.EachRow.{puts}
use Rattle.exam_sql.proofs.EachTable.{is_query, loads}
use Rattle.exam_sql.proofs.Keys.{equal_itself, int_same, text_itself, text_same}
use Rattle.exam_sql.proofs.Names.{Session, Paper, Hall, Candidate, Opening, Entry, Arrangement, Appeal, Seat, Standing}
use Rattle.exam_rules.specs.Relations.{Code, code_cmp}
use Rattle.exam_tables.specs.Forms as forms
use Rattle.exam_tables.specs.Forms.{IsOurTable}
use Rattle.exam_tables.specs.Inside.{Contains}
use Rattle.exam_tables.specs.Stored.{kind_number, target_of, needs_of, extra_of, state_number, answer_of, whole}

-- ---- keys

pub text_key : (a b : Code) → equal (first_key plain).collation (Text a) (Text b) ≡ is_eq (code_cmp a b)
text_key a b = one_answer _ _ (
  λ h. let e = text_same (Text a) b h in
      cc,
  λ (e : a ≡ b). subst (λ t. equal (first_key plain).collation (Text a) (Text t) ≡ true) e
      (text_itself a),
) (same_codes a b)
  where
    same_codes : (a b : Code) → Decides (is_eq (code_cmp a b)) (a ≡ b)
    same_codes a b = (
      λ h. exact_bytes a b ((Equal-is (code_cmp a b)).0 h),
      λ e. subst (λ t. is_eq (code_cmp a t) ≡ true) e (ap is_eq (tied_itself nat_list_cmp_total a)),
    )

pub whole_key : (m n : ℕ) → equal (first_key plain).collation (whole m) (whole n) ≡ is_eq (nat_cmp m n)
whole_key m n = one_answer _ _ (
  λ h. let e = int_same (pos m) (pos n) h in
      cc,
  λ (e : m ≡ n). subst (λ k. equal (first_key plain).collation (whole m) (whole k) ≡ true) e
      (equal_itself (pos m)),
) (same_numbers m n)
  where
    same_numbers : (m n : ℕ) → Decides (is_eq (nat_cmp m n)) (m ≡ n)
    same_numbers m n = (
      λ h. exact_unsigned m n ((Equal-is (nat_cmp m n)).0 h),
      λ e. subst (λ k. is_eq (nat_cmp m k) ≡ true) e (ap is_eq (tied_itself nat_cmp_total m)),
    )

one_part : (a b : Bool) → a ≡ b → (a && true) ≡ b
one_part a b is = and_true a ∙ is
  where
    and_true : (b : Bool) → (b && true) ≡ b
    and_true true = refl
    and_true false = refl

pub two_parts : (a b : Bool) (o p : Ordering) → a ≡ is_eq o → b ≡ is_eq p
    → (a && (b && true)) ≡ is_eq (ordering_then o p)
two_parts a b Less p first second = ap (λ c. c && (b && true)) first
two_parts a b Equal p first second = ap (λ c. c && (b && true)) first ∙ one_part b (is_eq p) second
two_parts a b Greater p first second = ap (λ c. c && (b && true)) first

-- ---- the tables

-- the tables of the newest version are those of some version
newest_made : (db : Database) (all : Trees) → Contains db all → ContainsMade db all
newest_made db all was = record { has_marks = true; contains = was; unmarked = λ none. absurd (true≢false none) }

pub sessions_ours : IsOurTable forms.sessions.cmp forms.sessions
sessions_ours = record {
  keys = record { rows = λ a b. one_part _ _ (text_key a.0 b.0) };
  puts = λ k x. puts Session k (day_text x.day) (pos x.start);
  loads = (1, lit< tt, refl);
  query = is_query Session;
  newest = newest_made;
  shows = λ db all was. (made_schema was.has_marks, was.contains, loads Session was.has_marks);
}

pub papers_ours : IsOurTable forms.papers.cmp forms.papers
papers_ours = record {
  keys = record { rows = λ a b. one_part _ _ (text_key a.0 b.0) };
  puts = λ k x. puts Paper k x.title x.session (pos x.minutes) (pos (features_sum x.required));
  loads = (2, lit< tt, refl);
  query = is_query Paper;
  newest = newest_made;
  shows = λ db all was. (made_schema was.has_marks, was.contains, loads Paper was.has_marks);
}

pub halls_ours : IsOurTable forms.halls.cmp forms.halls
halls_ours = record {
  keys = record { rows = λ a b. one_part _ _ (text_key a.0 b.0) };
  puts = λ k x. puts Hall k x.title (pos (features_sum x.features));
  loads = (3, lit< tt, refl);
  query = is_query Hall;
  newest = newest_made;
  shows = λ db all was. (made_schema was.has_marks, was.contains, loads Hall was.has_marks);
}

pub candidates_ours : IsOurTable forms.candidates.cmp forms.candidates
candidates_ours = record {
  keys = record { rows = λ a b. one_part _ _ (whole_key a.0 b.0) };
  puts = λ k x. puts Candidate (pos k) x.name x.code;
  loads = (4, lit< tt, refl);
  query = is_query Candidate;
  newest = newest_made;
  shows = λ db all was. (made_schema was.has_marks, was.contains, loads Candidate was.has_marks);
}

pub openings_ours : IsOurTable forms.openings.cmp forms.openings
openings_ours = record {
  keys = record { rows = λ a b. two_parts _ _ _ _ (text_key a.0.0 b.0.0) (text_key a.0.1 b.0.1) };
  puts = λ k x. puts Opening k.0 k.1 (pos x.desks) (pos x.until) (pos (if x.reserved then 1 else 0));
  loads = (5, lit< tt, refl);
  query = is_query Opening;
  newest = newest_made;
  shows = λ db all was. (made_schema was.has_marks, was.contains, loads Opening was.has_marks);
}

pub entries_ours : IsOurTable forms.entries.cmp forms.entries
entries_ours = record {
  keys = record { rows = λ a b. two_parts _ _ _ _ (whole_key a.0.0 b.0.0) (text_key a.0.1 b.0.1) };
  puts = λ k x. puts Entry (pos k.0) k.1 (pos (if x.live then 1 else 0));
  loads = (6, lit< tt, refl);
  query = is_query Entry;
  newest = newest_made;
  shows = λ db all was. (made_schema was.has_marks, was.contains, loads Entry was.has_marks);
}

pub arrangements_ours : IsOurTable forms.arrangements.cmp forms.arrangements
arrangements_ours = record {
  keys = record { rows = λ a b. one_part _ _ (whole_key a.0 b.0) };
  puts = λ k x. puts Arrangement (pos k) (pos (features_sum x.needs)) (pos x.extra);
  loads = (7, lit< tt, refl);
  query = is_query Arrangement;
  newest = newest_made;
  shows = λ db all was. (made_schema was.has_marks, was.contains, loads Arrangement was.has_marks);
}

pub appeals_ours : IsOurTable forms.appeals.cmp forms.appeals
appeals_ours = record {
  keys = record { rows = λ a b. two_parts _ _ _ _ (whole_key a.0.0 b.0.0) (text_key a.0.1 b.0.1) };
  puts = λ k x. puts Appeal (pos k.0) k.1 x.session (pos (kind_number x.subject)) (target_of x.subject)
      (pos (needs_of x.subject)) (pos (extra_of x.subject)) x.reason (pos (state_number x.status)) (answer_of x.status)
      (day_text x.lodged);
  loads = (8, lit< tt, refl);
  query = is_query Appeal;
  newest = newest_made;
  shows = λ db all was. (made_schema was.has_marks, was.contains, loads Appeal was.has_marks);
}

pub seats_ours : IsOurTable forms.seats.cmp forms.seats
seats_ours = record {
  keys = record { rows = λ a b. two_parts _ _ _ _ (text_key a.0.0 b.0.0) (whole_key a.0.1 b.0.1) };
  puts = λ k x. puts Seat k.0 (pos k.1) x;
  loads = (9, lit< tt, refl);
  query = is_query Seat;
  newest = newest_made;
  shows = λ db all was. (made_schema was.has_marks, was.contains, loads Seat was.has_marks);
}

pub standing_ours : IsOurTable forms.standing.cmp forms.standing
standing_ours = record {
  keys = record { rows = λ a b. two_parts _ _ _ _ (whole_key a.0.0 b.0.0) (text_key a.0.1 b.0.1) };
  puts = λ k x. puts Standing (pos k.0) k.1;
  loads = (10, lit< tt, refl);
  query = is_query Standing;
  newest = λ db all was. was;
  shows = λ db all was. (store_schema, was, loads Standing);
}

-- the text that loads the version
pub office_loads : lists.Contains load_texts load_office
office_loads = (0, lit< tt, refl)
