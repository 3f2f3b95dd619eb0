-- A register that goes out line by line.
use Rattle.std.proofs.Common.{◌≡◌, ◌⊎◌, ℕ, ◌+◌, ◌≤◌, ◌<◌, Result, Ok, Err, OnOk, OnErr, IfErr, List, [], ◌∷◌, ◌++◌}
use Rattle.std.proofs.Common.{length, drop, Option, Some}
use Rattle.std.proofs.Common.{refl, ap, sym, subst, ◌∙◌, inl, inr, arith, append_assoc, append-nil, drop-drop}
use Rattle.std.specs.List.{flat_map}
use Rattle.std.proofs.Math.Seq.{drop-append_seam}
use Rattle.std.proofs.lemmas.List.{length-append}
use Rattle.std.specs.Io.KnownBytes.{Appends}
use Rattle.std.proofs.KnownBytes.{Appends-trans}
use Rattle.exam_send.specs.Sending.{AppendsBeginning, AppendsPart}
use Rattle.exam_views.specs.Sources.{Gives}
use Rattle.exam_views.specs.declared.view.AppealRow.{AppealRow}
use Rattle.exam_types.specs.declared.refusal.Refusal.{Refusal}
use Rattle.exam_files.specs.declared.sheet_fault.SheetFault.{SheetFault}
use Rattle.exam_files.specs.declared.sheet_fault.SheetFault.TheVariants as faults
use Rattle.exam_files.specs.Registers.{AsksFor, BreaksOff, Streams, TakesFew, appeal_line, register_heading}
use Rattle.exam_files.specs.Registers.{register_text}

pub begins_part : (a b : Option (List ℕ)) (text : List ℕ) → AppendsPart a b text → AppendsBeginning a b text
begins_part a b text part = (part.0, part.1, part.2, part.4)

lines_append : (xs ys : List AppealRow)
    → flat_map appeal_line (xs ++ ys) ≡ flat_map appeal_line xs ++ flat_map appeal_line ys
lines_append [] ys = refl
lines_append (x ∷ xs) ys =
    ap (λ t. appeal_line x ++ t) (lines_append xs ys)
    ∙ sym (append_assoc (appeal_line x) (flat_map appeal_line xs) (flat_map appeal_line ys))

pub begins_longer : (a b : Option (List ℕ)) (text more : List ℕ) → AppendsBeginning a b text
    → AppendsBeginning a b (text ++ more)
begins_longer a b text more part =
    (part.0, part.1 ++ more, ap (λ l. l ++ more) part.2 ∙ append_assoc part.0 part.1 more, part.3)

-- a text that was sent, or in part
pub streamed : {W : Type 0} (contents : W → Option (List ℕ)) (result : Result (Unit {0}) SheetFault) (old new : W)
    (sent text : List ℕ) → sent ≡ text
    → OnOk result (Appends (contents old) (contents new) sent)
    → OnErr result (AppendsPart (contents old) (contents new) sent) → Streams contents result old new text
streamed contents (Ok done) old new sent text is ok err = subst (Appends (contents old) (contents new)) is ok
streamed contents (Err fault) old new sent text is ok err =
    begins_part (contents old) (contents new) text (subst (AppendsPart (contents old) (contents new)) is err)

-- after a fault
pub fault_streams : {W : Type 0} (contents : W → Option (List ℕ)) (result : Result (Unit {0}) SheetFault)
    (fault : SheetFault) (old new : W) (text : List ℕ) → result ≡ Err fault
    → AppendsBeginning (contents old) (contents new) text → Streams contents result old new text
fault_streams contents result fault old new text is part = subst (λ r. Streams contents r old new text) (sym is) part

-- ---- how many rows were asked for

-- a fault after few rows, whichever it is
pub few_asked : (most : ℕ) (refuses : Refusal → Type 0) (old new : List AppealRow) (fault : SheetFault)
    → TakesFew most old new → AsksFor most refuses old new fault
few_asked most refuses old new faults.Write few = few
few_asked most refuses old new (faults.Refused e) few = inl few

-- the source gave one
pub one_given : (refuses : Refusal → Type 0) (row : AppealRow) (old new : List AppealRow) (fault : SheetFault)
    → old ≡ row ∷ new → AsksFor 1 refuses old new fault
one_given refuses row old new fault is = few_asked 1 refuses old new fault (1, omega arith, sym (ap (drop 1) is))

-- whether or not the line of that one went out
pub given_asked : (refuses : Refusal → Type 0) (row : AppealRow) (found : Option AppealRow) (old new : List AppealRow)
    (result : Result (Unit {0}) SheetFault) → found ≡ Some row
    → Gives found old new → IfErr result (AsksFor 1 refuses old new)
given_asked refuses row found old new (Ok done) is gives = tt
given_asked refuses row found old new (Err fault) is gives =
    one_given refuses row old new fault (subst (λ f. Gives f old new) is gives)

-- one more was asked for after so many
pub asked_on : (most i : ℕ) (refused refuses : Refusal → Type 0) → ((e : Refusal) → refused e → refuses e)
    → (old left new : List AppealRow) (fault : SheetFault) → i + 1 ≤ most → left ≡ drop i old
    → AsksFor 1 refused left new fault → AsksFor most refuses old new fault
asked_on most i refused refuses later old left new faults.Write room so_far (n, one, is) =
    (i + n, omega (arith, room, one), is ∙ ap (drop n) so_far ∙ drop-drop n i old)
asked_on most i refused refuses later old left new (faults.Refused e) room so_far (inl (n, one, is)) =
    inl (i + n, omega (arith, room, one), is ∙ ap (drop n) so_far ∙ drop-drop n i old)
asked_on most i refused refuses later old left new (faults.Refused e) room so_far (inr (told, why)) =
    inr (told, later e why)

-- why it breaks off, from an earlier source
pub breaks_on : (refused refuses : Refusal → Type 0) → ((e : Refusal) → refused e → refuses e)
    → (ended ends : Type 0) → (ended → ends) → (fault : SheetFault) → BreaksOff refused ended fault
    → BreaksOff refuses ends fault
breaks_on refused refuses later ended ends so faults.Write why = tt
breaks_on refused refuses later ended ends so (faults.Refused e) (inl short) = inl short
breaks_on refused refuses later ended ends so (faults.Refused e) (inr (inl why)) = inr (inl (why.0, later e why.1))
breaks_on refused refuses later ended ends so (faults.Refused e) (inr (inr none)) = inr (inr (none.0, so none.1))

pub fault_asked : (most : ℕ) (refuses : Refusal → Type 0) (old new : List AppealRow)
    (result : Result (Unit {0}) SheetFault) (fault : SheetFault) → result ≡ Err fault
    → AsksFor most refuses old new fault → IfErr result (AsksFor most refuses old new)
fault_asked most refuses old new result fault is asked =
    subst (λ r. IfErr r (AsksFor most refuses old new)) (sym is) asked

-- ---- the whole register

module _ (code : List ℕ) (count : ℕ) (all : List AppealRow) (old : Option (List ℕ)) where
  -- so many rows have come, and their lines went out after the heading
  pub record HasStreamed (i : ℕ) (left : List AppealRow) (now : Option (List ℕ)) : Type 0 where
    pub given : List AppealRow
    pub rows : all ≡ given ++ left
    pub many : length given ≡ i
    pub sent : Appends old now (register_heading code count ++ flat_map appeal_line given)

  pub none_streamed : (now : Option (List ℕ)) → Appends old now (register_heading code count) → HasStreamed 0 all now
  none_streamed now sent =
      record {
        given = [];
        rows = refl;
        many = refl;
        sent = subst (Appends old now) (sym (append-nil (register_heading code count))) sent;
      }

  pub one_streamed : (i : ℕ) (left after : List AppealRow) (now then : Option (List ℕ)) → HasStreamed i left now
      → (row : AppealRow) × (left ≡ row ∷ after) × Appends now then (appeal_line row) → HasStreamed (i + 1) after then
  one_streamed i left after now then so_far (row, is, line) =
      let many = so_far.many in
      let longer = length-append so_far.given (row ∷ []) in
      record {
        given = so_far.given ++ row ∷ [];
        rows = so_far.rows ∙ ap (λ rest. so_far.given ++ rest) is ∙ sym (append_assoc so_far.given (row ∷ []) after);
        many = omega (arith, many, longer);
        sent = subst (Appends old then)
            (append_assoc (register_heading code count) (flat_map appeal_line so_far.given) (appeal_line row)
            ∙ ap (λ t. register_heading code count ++ t)
            (ap (λ t. flat_map appeal_line so_far.given ++ t) (sym (append-nil (appeal_line row)))
            ∙ sym (lines_append so_far.given (row ∷ []))))
            (Appends-trans old now then (register_heading code count ++ flat_map appeal_line so_far.given)
            (appeal_line row) so_far.sent line);
      }

  whole : length all ≡ count → register_text code all ≡ register_heading code count ++ flat_map appeal_line all
  whole many = ap (λ n. register_heading code n ++ flat_map appeal_line all) many

  -- the heading went out in part
  pub heading_cut : (now : Option (List ℕ)) → length all ≡ count
      → AppendsBeginning old now (register_heading code count) → AppendsBeginning old now (register_text code all)
  heading_cut now many part =
      subst (AppendsBeginning old now) (sym (whole many))
      (begins_longer old now (register_heading code count) (flat_map appeal_line all) part)

  -- all have come
  pub all_streamed : (i : ℕ) (left : List AppealRow) (now : Option (List ℕ)) → length all ≡ count → count ≤ i
      → HasStreamed i left now → Appends old now (register_text code all)
  all_streamed i left now many end so_far =
      subst (Appends old now)
      (ap (λ rows. register_heading code count ++ flat_map appeal_line rows) (given_all left refl)
      ∙ sym (whole many)) so_far.sent
    where
      given_all : (rest : List AppealRow) → left ≡ rest → so_far.given ≡ all
      given_all [] is = sym (append-nil so_far.given) ∙ ap (λ rest. so_far.given ++ rest) (sym is) ∙ sym so_far.rows
      given_all (row ∷ rest) is =
          let few = so_far.many in
          let parted = length-append so_far.given left in
          let longer : length left ≡ length (row ∷ rest) = ap (λ (xs : List AppealRow). length xs) is in
          let rows : length all ≡ length (so_far.given ++ left) = ap (λ (xs : List AppealRow). length xs) so_far.rows in
          absurd (omega (arith, few, parted, longer, rows, many, end))

  -- those after them are still to come
  pub left_after : (i : ℕ) (left : List AppealRow) (now : Option (List ℕ)) → HasStreamed i left now → left ≡ drop i all
  left_after i left now so_far =
      sym (drop-append_seam so_far.given left) ∙ ap (λ n. drop n (so_far.given ++ left)) so_far.many
      ∙ ap (drop i) (sym so_far.rows)

  -- so many rows were there
  pub enough : (i : ℕ) (left : List AppealRow) (now : Option (List ℕ)) → count ≤ i → HasStreamed i left now
      → count ≤ length all
  enough i left now end so_far =
      let few = so_far.many in
      let parted = length-append so_far.given left in
      let rows : length all ≡ length (so_far.given ++ left) = ap (λ (xs : List AppealRow). length xs) so_far.rows in
      omega (arith, few, parted, rows, end)

  -- the source ended sooner
  pub few_came : (i : ℕ) (left : List AppealRow) (now : Option (List ℕ)) → i + 1 ≤ count → HasStreamed i left now
      → left ≡ [] → length all < count
  few_came i left now room so_far none =
      let few = so_far.many in
      let parted = length-append so_far.given left in
      let rows : length all ≡ length (so_far.given ++ left) = ap (λ (xs : List AppealRow). length xs) so_far.rows in
      let end : length left ≡ 0 = ap (λ (xs : List AppealRow). length xs) none in
      omega (arith, few, parted, rows, end, room)

  -- the next did not come, or its line went out in part
  pub cut_off : (i : ℕ) (left after : List AppealRow) (now then : Option (List ℕ)) → length all ≡ count
      → HasStreamed i left now
      → Appends now then [] ⊎ ((row : AppealRow) × (left ≡ row ∷ after) × AppendsBeginning now then (appeal_line row))
      → AppendsBeginning old then (register_text code all)
  cut_off i left after now then many so_far (inl none) = (
    register_heading code count ++ flat_map appeal_line so_far.given,
    flat_map appeal_line left,
    whole many ∙ ap (λ t. register_heading code count ++ t)
        (ap (flat_map appeal_line) so_far.rows ∙ lines_append so_far.given left)
        ∙ sym (append_assoc (register_heading code count) (flat_map appeal_line so_far.given)
        (flat_map appeal_line left)),
    subst (Appends old then) (append-nil (register_heading code count ++ flat_map appeal_line so_far.given))
        (Appends-trans old now then
        (register_heading code count ++ flat_map appeal_line so_far.given) [] so_far.sent none),
  )
  cut_off i left after now then many so_far (inr (row, is, part)) =
      let before : List ℕ = register_heading code count ++ flat_map appeal_line so_far.given in (
        before ++ part.0,
        part.1 ++ flat_map appeal_line after,
        whole many
            ∙ ap (λ t. register_heading code count ++ t)
            (ap (flat_map appeal_line) (so_far.rows ∙ ap (λ rest. so_far.given ++ rest) is)
            ∙ lines_append so_far.given (row ∷ after))
            ∙ sym (append_assoc (register_heading code count) (flat_map appeal_line so_far.given)
            (appeal_line row ++ flat_map appeal_line after))
            ∙ ap (λ t. before ++ t)
            (ap (λ l. l ++ flat_map appeal_line after) part.2
            ∙ append_assoc part.0 part.1 (flat_map appeal_line after))
            ∙ sym (append_assoc before part.0 (part.1 ++ flat_map appeal_line after)),
        Appends-trans old now then before part.0 so_far.sent part.3,
      )
