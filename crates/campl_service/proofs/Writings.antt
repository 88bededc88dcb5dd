-- Writing lines one after another.
use Rattle.std.proofs.Common.{◌≡◌, refl, sym, ap, ◌∙◌, ℕ, suc, List, [], ◌∷◌, ◌++◌, append_assoc, subst, map}
use Rattle.std.specs.Prelude.{Ok, Err, codes, encode_utf8_all, chars}
use Rattle.std.specs.Str.{IsUtf8}
use Rattle.std.proofs.lemmas.Str.{encodes-append, encodes-chars}
use Rattle.campl_value.specs.Shown.{shown_text, shown_bytes}
use Rattle.campl_service.specs.declared.fault.ScriptFault.{ScriptFault}
use Rattle.std.specs.Str.Lines.{strip_carriage_return}
use Rattle.campl_service.specs.declared.entry.Version.{Version}
use Rattle.campl_service.specs.Reading.{pieces, lines_of}
use Rattle.campl_service.specs.Migration.{Writing, then_write, migrated_line, migrated_lines, migration, within}
use Rattle.campl_service.specs.Writing.{put_behind_bytes}

abbrev done : List ℕ → Writing
done bytes = Ok bytes

-- what is written first stands before the rest
pub first_written : (before now : List ℕ) (first rest : Writing) → put_behind_bytes before first ≡ Ok now → put_behind_bytes before (then_write first rest) ≡ put_behind_bytes now rest
first_written before now (Err fault) rest h = absurd cc
first_written before now (Ok first) (Err fault) h = refl
first_written before now (Ok first) (Ok rest) h =
    let is : before ++ encode_utf8_all first ≡ now = cc in
    ap done (ap (λ more. before ++ more) (encodes-append first rest) ∙ (sym (append_assoc before (encode_utf8_all first) (encode_utf8_all rest)) ∙ ap (λ front. front ++ encode_utf8_all rest) is))

-- where the first can't be written, all can't
pub first_refused : (before : List ℕ) (fault : ScriptFault) (first rest : Writing) → put_behind_bytes before first ≡ Err fault → put_behind_bytes before (then_write first rest) ≡ Err fault
first_refused before fault (Err other) rest h = h
first_refused before fault (Ok first) rest h = absurd cc

two_alone : encode_utf8_all (codes ": ") ≡ codes ": "
unfolding lib.Utf8.encode
two_alone = refl

-- a name, a colon, a space, a text and an end
pub entry_written : (old name new : List ℕ) (cs ts : List ℕ) → IsUtf8 name → chars name ≡ cs
    → new ≡ old ++ (name ++ (codes ": " ++ (shown_bytes ts ++ encode_utf8_all (10 ∷ []))))
    → new ≡ old ++ encode_utf8_all ((cs ++ (codes ": " ++ shown_text ts)) ++ 10 ∷ [])
entry_written old name new cs ts utf8 is e =
    let behind : encode_utf8_all ((codes ": " ++ shown_text ts) ++ 10 ∷ []) ≡ codes ": " ++ (shown_bytes ts ++ encode_utf8_all (10 ∷ [])) =
    encodes-append (codes ": ") (shown_text ts ++ 10 ∷ [])
    ∙ (ap (λ front. front ++ encode_utf8_all (shown_text ts ++ 10 ∷ [])) two_alone ∙ ap (λ more. codes ": " ++ more) (encodes-append (shown_text ts) (10 ∷ []))) in
    let front : encode_utf8_all cs ≡ name = ap encode_utf8_all (sym is) ∙ encodes-chars name utf8 in
    e
    ∙ sym (ap (λ more. old ++ more) (ap encode_utf8_all (append_assoc cs (codes ": " ++ shown_text ts) (10 ∷ []))
    ∙ (encodes-append cs ((codes ": " ++ shown_text ts) ++ 10 ∷ []) ∙ (ap (λ x. x ++ encode_utf8_all ((codes ": " ++ shown_text ts) ++ 10 ∷ [])) front ∙ ap (λ more. name ++ more) behind))))

version_alone : encode_utf8_all (codes "campl script 2\n") ≡ codes "campl script 2\n"
unfolding lib.Utf8.encode
version_alone = refl

-- behind the version line
pub all_written : (w : Writing) (bytes : List ℕ) → put_behind_bytes (codes "campl script 2\n") w ≡ Ok bytes → migration (then_write (Ok (codes "campl script 2\n")) w) ≡ within bytes
all_written (Err fault) bytes h = absurd cc
all_written (Ok more) bytes h =
    let is : codes "campl script 2\n" ++ encode_utf8_all more ≡ bytes = cc in
    ap within (encodes-append (codes "campl script 2\n") more ∙ (ap (λ front. front ++ encode_utf8_all more) version_alone ∙ is))

pub all_refused : (w : Writing) (fault : ScriptFault) → put_behind_bytes (codes "campl script 2\n") w ≡ Err fault → then_write (Ok (codes "campl script 2\n")) w ≡ Err fault
all_refused (Ok more) fault h = absurd cc
all_refused (Err other) fault h = h

-- a line that is written stands before those behind it
pub line_written : (before now piece rest behind line : List ℕ) (v : Version) (n m : ℕ) → pieces rest ≡ piece ∷ pieces behind → line ≡ strip_carriage_return piece → m ≡ suc n
    → put_behind_bytes before (migrated_line v n line) ≡ Ok now
    → put_behind_bytes now (migrated_lines v m (lines_of behind)) ≡ put_behind_bytes before (migrated_lines v n (lines_of rest))
line_written before now piece rest behind line v n m split is next h =
    let whole : put_behind_bytes before (migrated_lines v n (lines_of rest)) ≡ put_behind_bytes before (then_write (migrated_line v n (strip_carriage_return piece)) (migrated_lines v (suc n) (lines_of behind))) =
    ap (λ ps. put_behind_bytes before (migrated_lines v n (map strip_carriage_return ps))) split in
    let first : put_behind_bytes before (migrated_line v n (strip_carriage_return piece)) ≡ Ok now =
    subst (λ l. put_behind_bytes before (migrated_line v n l) ≡ Ok now) is h in
    ap (λ k. put_behind_bytes now (migrated_lines v k (lines_of behind))) next
    ∙ sym (whole ∙ first_written before now (migrated_line v n (strip_carriage_return piece)) (migrated_lines v (suc n) (lines_of behind)) first)
