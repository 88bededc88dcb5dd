-- The migrated script says the same, and is migrated to itself.
use Rattle.std.proofs.Common.{◌≡◌, inl, inr, refl, sym, ap, ◌∙◌, subst, ℕ, suc, ◌+◌, arith, Bool, true, false, List, [], ◌∷◌, ◌++◌, length, replicate, Option, Some, None, Result, Ok, Err, append_assoc}
use Rattle.std.specs.Prelude.{nat_le, nat_lt, if◌then◌else◌, codes, chars, encode_utf8_all}
use Rattle.std.specs.Str.{IsUtf8}
use Rattle.std.proofs.lemmas.Str.{chars_from_encodes}
use Rattle.std.proofs.lemmas.Bool.{and_parts, and_from}
use Rattle.std.proofs.lemmas.Bool.Decides.{nat_tests}
use Rattle.campl_value.specs.Shown.{shown_text}
use Rattle.campl_tree.specs.declared.service.ServiceName.{ServiceName}
use Rattle.campl_service.specs.declared.entry.Version.{Version}
use Rattle.campl_service.specs.declared.entry.Version.TheVariants.{One, Two}
use Rattle.campl_service.specs.declared.entry.Entry.{Entry}
use Rattle.campl_service.specs.declared.fault.ScriptFault.TheVariants.{UnknownChannel, NoColon, LineTooLong, TooManyLines, BadEscape, OutOfMemory}
use Rattle.campl_service.specs.Scripts.{Lines}
use Rattle.campl_service.specs.Reading.{Said, Sayings, and_then, most_lines, judged_line, judged_lines, judged, lines_of, is_version_line, scripts_of, with_lines, place_of, place_of_any}
use Rattle.campl_service.specs.declared.limits.TheConstants.{SCRIPT_BYTES_MAX}
use Rattle.campl_service.specs.declared.fault.MigrateFault.{MigrateFault}
use Rattle.campl_service.specs.declared.fault.MigrateFault.TheVariants.{TooLong}
use Rattle.campl_service.specs.Migration.{Writing, name_of, rewritten, with_end, then_write, migrated_line, migrated_lines, migrated_behind, migrated, migration}
use Rattle.campl_migrate_laws.specs.Kept.{Same, SameScripts, begins_with_version, moved_by}
use Rattle.campl_migrate_laws.proofs.Pieces.{in_line, in_lines, lines_in_line, take_in_line, printed_in_line, written_line_found}
use Rattle.campl_migrate_laws.proofs.Unshown.{text_printed}
use Rattle.campl_migrate_laws.proofs.Said.{Speaks, View, viewed, outcome, line_says, new_line, same_name, new_speaks}

abbrev done : List ℕ → Writing
done cs = Ok cs

-- by how many a line's number grows
abbrev moves : Version → ℕ
moves One = 1
moves Two = 0

few_again : (v : Version) (n : ℕ) → nat_lt (most_lines v) n ≡ false → nat_lt (most_lines Two) (n + moves v) ≡ false
few_again One n h = grind (arith, nat_tests)
few_again Two n h = grind (arith, nat_tests)

-- ---- one line

-- the line that is written is found again, says the same, and is written again
record Again (v : Version) (n : ℕ) (line w : List ℕ) : Type 0 where
  found : (rest : List ℕ) → lines_of (w ++ 10 ∷ rest) ≡ w ∷ lines_of rest
  same : (place : List ℕ → Option ℕ) → Same (moves v) (judged_line v place n line) (judged_line Two place (n + moves v) w)
  again : migrated_line Two (n + moves v) w ≡ Ok (w ++ 10 ∷ [])

silent_again : (v : Version) (n : ℕ) → nat_lt (most_lines v) n ≡ false → Again v n [] []
silent_again One n few = record {
  found = λ rest. refl;
  same = λ place. rw (few, few_again One n few) refl;
  again = rw (few_again One n few) refl;
}
silent_again Two n few = record {
  found = λ rest. refl;
  same = λ place. rw (few, few_again Two n few) refl;
  again = rw (few_again Two n few) refl;
}

in_line_append : (xs ys : List ℕ) → in_line xs ≡ true → in_line ys ≡ true → in_line (xs ++ ys) ≡ true
in_line_append [] ys h k = k
in_line_append (x ∷ xs) ys h k = and_from _ (in_line (xs ++ ys)) (and_parts _ (in_line xs) h).0 (in_line_append xs ys (and_parts _ (in_line xs) h).1 k)

outcome_same : (o : Option ℕ) (by n : ℕ) (text : List ℕ) → Same by (outcome o n text) (outcome o (n + by) text)
outcome_same None by n text = refl
outcome_same (Some c) by n text = refl

loud_again : (v : Version) (n : ℕ) (line text : List ℕ) → in_line line ≡ true → Speaks v n line text → Again v n line (new_line line text)
loud_again v n line text one s =
    let new : Speaks Two (n + moves v) (new_line line text) text = new_speaks v n (n + moves v) line text s (few_again v n s.few) in
    let name : name_of (new_line line text) ≡ name_of line = same_name v n line text s in
    let named : in_line (name_of line) ≡ true = take_in_line _ line one in
    let whole : in_line (new_line line text) ≡ true = in_line_append (name_of line) (codes ": " ++ shown_text text) named (printed_in_line (codes ": " ++ shown_text text) (text_printed text)) in
    let known : place_of_any (name_of line) ≡ Some 0 = ap (λ b. if b then Some 0 else None) s.name in
    record {
      found = λ rest. written_line_found (name_of line) 58 (32 ∷ shown_text text) rest whole refl (text_printed text);
      same = λ place.
          subst (λ said. Same (moves v) said (judged_line Two place (n + moves v) (new_line line text))) (sym (line_says place v n line text s))
          (subst (λ said. Same (moves v) (outcome (place (name_of line)) n text) said) (sym (line_says place Two (n + moves v) (new_line line text) text new ∙ ap (λ x. outcome (place x) (n + moves v) text) name))
          (outcome_same (place (name_of line)) (moves v) n text));
      again =
          ap (with_end (name_of (new_line line text))) (line_says place_of_any Two (n + moves v) (new_line line text) text new)
          ∙ (ap (λ x. with_end x (outcome (place_of_any x) (n + moves v) text)) name ∙ ap (λ o. with_end (name_of line) (outcome o (n + moves v) text)) known);
    }

line_again_as : (v : Version) (n : ℕ) (line : List ℕ) (said : Option Entry) → in_line line ≡ true → View v n line said → Again v n line (rewritten (name_of line) said)
line_again_as v n line said one (inl (few, (none, is))) =
    subst (λ (s : Option Entry). Again v n line (rewritten (name_of line) s)) (sym is) (subst (λ (l : List ℕ). Again v n l []) (sym none) (silent_again v n few))
line_again_as v n line said one (inr (text, (s, is))) = subst (λ (s : Option Entry). Again v n line (rewritten (name_of line) s)) (sym is) (loud_again v n line text one s)

-- ---- all lines

record AllAgain (v : Version) (n : ℕ) (lines : Lines) (body : List ℕ) : Type 0 where
  same : (place : List ℕ → Option ℕ) → Same (moves v) (judged_lines v place n lines) (judged_lines Two place (n + moves v) (lines_of body))
  again : migrated_lines Two (n + moves v) (lines_of body) ≡ Ok body

both_written : (first rest : Writing) (body : List ℕ) → then_write first rest ≡ Ok body → (x : List ℕ) × ((y : List ℕ) × ((first ≡ Ok x) × ((rest ≡ Ok y) × (body ≡ x ++ y))))
both_written (Err fault) rest body h = absurd cc
both_written (Ok x) (Err fault) body h = absurd cc
both_written (Ok x) (Ok y) body h = (x, (y, (refl, (refl, cc))))

one_written : (name : List ℕ) (judged : Said) (x : List ℕ) → with_end name judged ≡ Ok x → (said : Option Entry) × ((judged ≡ Ok said) × (x ≡ rewritten name said ++ 10 ∷ []))
one_written name (Err fault) x h = absurd cc
one_written name (Ok said) x h = (said, (refl, cc))

then_same : (by : ℕ) (said : Option Entry) (b d : Sayings) → Same by b d → Same by (and_then (Ok said) b) (and_then (Ok said) d)
then_same by said (Ok more) d h = rw h refl
then_same by said (Err (UnknownChannel n)) d h = rw h refl
then_same by said (Err (NoColon n)) d h = absurd h
then_same by said (Err (LineTooLong n)) d h = absurd h
then_same by said (Err (TooManyLines n)) d h = absurd h
then_same by said (Err (BadEscape n)) d h = absurd h
then_same by said (Err OutOfMemory) d h = absurd h

both_same : (by : ℕ) (a c : Said) (b d : Sayings) → Same by a c → Same by b d → Same by (and_then a b) (and_then c d)
both_same by (Ok said) c b d h k = subst (λ x. Same by (and_then (Ok said) b) (and_then x d)) (sym h) (then_same by said b d k)
both_same by (Err (UnknownChannel n)) c b d h k = rw h refl
both_same by (Err (NoColon n)) c b d h k = absurd h
both_same by (Err (LineTooLong n)) c b d h k = absurd h
both_same by (Err (TooManyLines n)) c b d h k = absurd h
both_same by (Err (BadEscape n)) c b d h k = absurd h
both_same by (Err OutOfMemory) c b d h k = absurd h

-- one line and those behind it
more_again : (v : Version) (n : ℕ) (line w : List ℕ) (more : Lines) (behind : List ℕ) → Again v n line w → AllAgain v (suc n) more behind → AllAgain v n (line ∷ more) (w ++ 10 ∷ behind)
more_again v n line w more behind one rest =
    let next : suc n + moves v ≡ suc (n + moves v) = omega arith in
    let found : lines_of (w ++ 10 ∷ behind) ≡ w ∷ lines_of behind = one.found behind in
    let again : migrated_lines Two (suc (n + moves v)) (lines_of behind) ≡ Ok behind = subst (λ k. migrated_lines Two k (lines_of behind) ≡ Ok behind) next rest.again in
    record {
      same = λ place.
          subst (λ lines. Same (moves v) (judged_lines v place n (line ∷ more)) (judged_lines Two place (n + moves v) lines)) (sym found)
          (both_same (moves v) (judged_line v place n line) (judged_line Two place (n + moves v) w) (judged_lines v place (suc n) more) (judged_lines Two place (suc (n + moves v)) (lines_of behind)) (one.same place)
          (subst (λ k. Same (moves v) (judged_lines v place (suc n) more) (judged_lines Two place k (lines_of behind))) next (rest.same place)));
      again =
          ap (migrated_lines Two (n + moves v)) found
          ∙ (ap (λ first. then_write first (migrated_lines Two (suc (n + moves v)) (lines_of behind))) one.again
          ∙ (ap (then_write (Ok (w ++ 10 ∷ []))) again ∙ ap done (append_assoc w (10 ∷ []) behind)));
    }

all_again : (v : Version) (n : ℕ) (lines : Lines) (body : List ℕ) → in_lines lines ≡ true → migrated_lines v n lines ≡ Ok body → AllAgain v n lines body
all_again v n [] body h is =
    let none : body ≡ [] = cc in
    subst (AllAgain v n []) (sym none) (record { same = λ place. refl; again = refl })
all_again v n (line ∷ more) body h is = go (both_written (migrated_line v n line) (migrated_lines v (suc n) more) body is) (all_again v (suc n) more)
  where
    first : (x : List ℕ) → migrated_line v n line ≡ Ok x → (w : List ℕ) × (Again v n line w × (x ≡ w ++ 10 ∷ []))
    first x e = with_view (one_written (name_of line) (judged_line v place_of_any n line) x e)
      where
        with_view : (said : Option Entry) × ((judged_line v place_of_any n line ≡ Ok said) × (x ≡ rewritten (name_of line) said ++ 10 ∷ [])) → (w : List ℕ) × (Again v n line w × (x ≡ w ++ 10 ∷ []))
        with_view (said, (j, r)) = (rewritten (name_of line) said, (line_again_as v n line said (and_parts (in_line line) (in_lines more) h).0 (viewed v n line said j), r))

    joined : (x y : List ℕ) → body ≡ x ++ y → AllAgain v (suc n) more y → (w : List ℕ) × (Again v n line w × (x ≡ w ++ 10 ∷ [])) → AllAgain v n (line ∷ more) body
    joined x y b rest (w, (one, e)) =
        subst (AllAgain v n (line ∷ more)) (sym (b ∙ (ap (λ front. front ++ y) e ∙ append_assoc w (10 ∷ []) y))) (more_again v n line w more y one rest)

    go : (x : List ℕ) × ((y : List ℕ) × ((migrated_line v n line ≡ Ok x) × ((migrated_lines v (suc n) more ≡ Ok y) × (body ≡ x ++ y)))) → ((rest : List ℕ) → in_lines more ≡ true → migrated_lines v (suc n) more ≡ Ok rest → AllAgain v (suc n) more rest)
        → AllAgain v n (line ∷ more) body
    go (x, (y, (e, (r, b)))) behind = joined x y b (behind y (and_parts (in_line line) (in_lines more) h).1 r) (first x e)

-- ---- the whole script

record BehindAgain (lines : Lines) (body : List ℕ) : Type 0 where
  same : (place : List ℕ → Option ℕ) → Same (if begins_with_version lines then 0 else 1) (judged place lines) (judged_lines Two place 2 (lines_of body))
  again : migrated_lines Two 2 (lines_of body) ≡ Ok body

behind_again : (lines : Lines) (body : List ℕ) → in_lines lines ≡ true → migrated_behind lines ≡ Ok body → BehindAgain lines body
behind_again [] body h is =
    let none : body ≡ [] = cc in
    subst (BehindAgain []) (sym none) (record { same = λ place. refl; again = refl })
behind_again (line ∷ more) body h is = by_test (is_version_line line) refl is
  where
    by_test : (b : Bool) → is_version_line line ≡ b → (if b then migrated_lines Two 2 more else migrated_lines One 1 (line ∷ more)) ≡ Ok body → BehindAgain (line ∷ more) body
    by_test true e k =
        let all : AllAgain Two 2 more body = all_again Two 2 more body (and_parts (in_line line) (in_lines more) h).1 k in
        record { same = λ place. rw e (all.same place); again = all.again }
    by_test false e k =
        let all : AllAgain One 1 (line ∷ more) body = all_again One 1 (line ∷ more) body h k in
        record { same = λ place. rw e (all.same place); again = all.again }

put_together : (by : ℕ) (scripts : List Lines) (old new : Sayings) → Same by old new → SameScripts by (with_lines scripts old) (with_lines scripts new)
put_together by scripts (Ok said) new h = rw h refl
put_together by scripts (Err (UnknownChannel n)) new h = rw h refl
put_together by scripts (Err (NoColon n)) new h = absurd h
put_together by scripts (Err (LineTooLong n)) new h = absurd h
put_together by scripts (Err (TooManyLines n)) new h = absurd h
put_together by scripts (Err (BadEscape n)) new h = absurd h
put_together by scripts (Err OutOfMemory) new h = absurd h

abbrev version_line : List ℕ
version_line = codes "campl script 2\n"

-- the characters that were written
written : (characters new : List ℕ) → migrated characters ≡ Ok new → (body : List ℕ) × ((migrated_behind (lines_of characters) ≡ Ok body) × (new ≡ version_line ++ body))
written characters new h = go (both_written (Ok version_line) (migrated_behind (lines_of characters)) new h)
  where
    go : (x : List ℕ) × ((y : List ℕ) × ((◌≡◌ {A = Writing} (Ok version_line) (Ok x)) × ((migrated_behind (lines_of characters) ≡ Ok y) × (new ≡ x ++ y)))) → (body : List ℕ) × ((migrated_behind (lines_of characters) ≡ Ok body) × (new ≡ version_line ++ body))
    go (x, (y, (e, (r, b)))) =
        let first : version_line ≡ x = cc in
        (y, (r, b ∙ ap (λ front. front ++ y) (sym first)))

says_the_same_as : (names : List ServiceName) (characters body : List ℕ) → migrated_behind (lines_of characters) ≡ Ok body → SameScripts (moved_by characters) (scripts_of names characters) (scripts_of names (version_line ++ body))
says_the_same_as names characters body h =
    put_together (moved_by characters) (replicate (length names) []) (judged (place_of names) (lines_of characters)) (judged_lines Two (place_of names) 2 (lines_of body))
    ((behind_again (lines_of characters) body (lines_in_line characters) h).same (place_of names))

itself_again : (characters body : List ℕ) → migrated_behind (lines_of characters) ≡ Ok body → migrated (version_line ++ body) ≡ Ok (version_line ++ body)
itself_again characters body h = ap (then_write (Ok version_line)) (behind_again (lines_of characters) body (lines_in_line characters) h).again

-- ---- bytes

within_them : (b : Bool) (bytes result : List ℕ) → ◌≡◌ {A = Result (List ℕ) MigrateFault} (if b then Ok bytes else Err TooLong) (Ok result) → bytes ≡ result
within_them true bytes result h = cc
within_them false bytes result h = absurd cc

bytes_written : (w : Writing) (result : List ℕ) → migration w ≡ Ok result → (new : List ℕ) × ((w ≡ Ok new) × (encode_utf8_all new ≡ result))
bytes_written (Err fault) result h = absurd cc
bytes_written (Ok new) result h = (new, (refl, within_them (nat_le (length (encode_utf8_all new)) SCRIPT_BYTES_MAX) (encode_utf8_all new) result h))

-- the characters of the result are a version line and the lines behind it
result_is : (script result : List ℕ) → IsUtf8 result → migration (migrated (chars script)) ≡ Ok result → (body : List ℕ) × ((migrated_behind (lines_of (chars script)) ≡ Ok body) × (version_line ++ body ≡ chars result))
result_is script result utf8 h = go (bytes_written (migrated (chars script)) result h)
  where
    ends : (new : List ℕ) → encode_utf8_all new ≡ result → (body : List ℕ) × ((migrated_behind (lines_of (chars script)) ≡ Ok body) × (new ≡ version_line ++ body)) → (body : List ℕ) × ((migrated_behind (lines_of (chars script)) ≡ Ok body) × (version_line ++ body ≡ chars result))
    ends new e (body, (r, b)) = (body, (r, sym b ∙ chars_from_encodes new result utf8 e))

    go : (new : List ℕ) × ((migrated (chars script) ≡ Ok new) × (encode_utf8_all new ≡ result)) → (body : List ℕ) × ((migrated_behind (lines_of (chars script)) ≡ Ok body) × (version_line ++ body ≡ chars result))
    go (new, (w, e)) = ends new e (written (chars script) new w)

pub says_the_same : (names : List ServiceName) (script result : List ℕ) → IsUtf8 result → migration (migrated (chars script)) ≡ Ok result → SameScripts (moved_by (chars script)) (scripts_of names (chars script)) (scripts_of names (chars result))
says_the_same names script result utf8 h = go (result_is script result utf8 h)
  where
    go : (body : List ℕ) × ((migrated_behind (lines_of (chars script)) ≡ Ok body) × (version_line ++ body ≡ chars result)) → SameScripts (moved_by (chars script)) (scripts_of names (chars script)) (scripts_of names (chars result))
    go (body, (r, e)) = subst (λ cs. SameScripts (moved_by (chars script)) (scripts_of names (chars script)) (scripts_of names cs)) e (says_the_same_as names (chars script) body r)

pub stays_as_it_is : (script result : List ℕ) → IsUtf8 result → migration (migrated (chars script)) ≡ Ok result → migration (migrated (chars result)) ≡ Ok result
stays_as_it_is script result utf8 h = go (result_is script result utf8 h) (bytes_written (migrated (chars script)) result h)
  where
    go : (body : List ℕ) × ((migrated_behind (lines_of (chars script)) ≡ Ok body) × (version_line ++ body ≡ chars result)) → (new : List ℕ) × ((migrated (chars script) ≡ Ok new) × (encode_utf8_all new ≡ result)) → migration (migrated (chars result)) ≡ Ok result
    go (body, (r, e)) (new, (w, b)) =
        let as_before : migrated (chars result) ≡ Ok new = subst (λ cs. migrated cs ≡ Ok cs) e (itself_again (chars script) body r) ∙ ap done (sym (chars_from_encodes new result utf8 b)) in
        ap migration as_before ∙ (sym (ap migration w) ∙ h)
