-- The file of a name, after one was put.
use Rattle.std.proofs.Common.{◌≡◌, ℕ, Bool, true, false, List, [], ◌∷◌, ◌++◌, get_or, set, refl, sym, ◌∙◌, ap, arith, inl, inr, subst}
use Rattle.std.specs.Prelude.{◌≢◌, Option, None, Some, find, position, slice_get}
use Rattle.std.specs.List.{position_or_len}
use Rattle.std.specs.Option.{option_map, option_map_or, option_or}
use Rattle.std.specs.Str.{bytes_eq}
use Rattle.std.proofs.lemmas.Bool.{cases_Bool, both_ways}
use Rattle.std.proofs.lemmas.Option.{slice_get-get_or, slice_get_past, slice_get_cases}
use Rattle.std.proofs.lemmas.Slice.Eq.{bytes_eq-Decides}
use Rattle.std.proofs.lemmas.List.Folds.{find_at, find-set, find_past, find-append}
use Rattle.std.proofs.lemmas.List.Sums.{position_or_len_is}
use Rattle.std.proofs.lemmas.List.Quantifiers.{position-Some}
use Rattle.campl_text.specs.Shelved.{Held, Shelved, Puts, is_named, missed_of}

-- nothing is found where no place passes
find-None : (test : Held → Bool) (files : List Held) → position test files ≡ None → find test files ≡ None
find-None test files e = grind (arith, find_at, slice_get_past, slice_get_cases)

-- or with nothing
option_or-None : (found : Option Held) → option_or found None ≡ found
option_or-None None = refl
option_or-None (Some file) = refl

-- a file of another name fails the test
fails_apart : (file : Held) (name other : List ℕ) → file.name ≡ name → other ≢ name → is_named other file ≡ false
fails_apart file name other e apart =
    elim (cases_Bool (is_named other file)) [
      | inl found ↦ absurd (apart (sym ((bytes_eq-Decides file.name other).0 found) ∙ e))
      | inr lost ↦ lost
    ]

-- a file of the name passes it
passes : (file : Held) (name : List ℕ) → file.name ≡ name → is_named name file ≡ true
passes file name e = (bytes_eq-Decides file.name name).1 e

-- after a put, the file of the name is the new one, and that of any other name is what it was
pub record IsPut (files news : List Held) (name : List ℕ) (was : Option Held) (file : Held) : Type 0 where
  pub before : find (is_named name) files ≡ was
  pub after : find (is_named name) news ≡ Some file
  pub apart : (other : List ℕ) → other ≢ name → find (is_named other) news ≡ find (is_named other) files

-- a file put over the file of its name
pub over : (files : List Held) (place : ℕ) (was file : Held) (name : List ℕ) → position (is_named name) files ≡ Some place → was ≡ get_or files place was → file.name ≡ was.name → IsPut files (set files place file) name (Some was) file
over files place was file name e stood same_name =
    let p = position-Some (is_named name) files place was e in
    let named : is_named name was ≡ true = rw (← stood) at p.1 in
    let was_name : was.name ≡ name = (bytes_eq-Decides was.name name).0 named in
    let first : position_or_len (is_named name) files ≡ place = position_or_len_is (is_named name) files place was (omega (arith, p.0)) p.2 (λ _. p.1) in
    record {
      before = find_at (is_named name) files ∙ ap (λ i. slice_get files i) first ∙ slice_get-get_or files place was p.0 ∙ ap (λ f. Some f) (sym stood);
      after = find-set (is_named name) files place file (sym first) p.0 (passes file name (same_name ∙ was_name));
      apart = λ other differs. find_past (is_named other) files place file was (rw (← stood) (fails_apart was name other was_name differs)) (fails_apart file name other (same_name ∙ was_name) differs);
    }

-- a file put behind files of other names
pub behind : (files : List Held) (file : Held) (name : List ℕ) → position (is_named name) files ≡ None → file.name ≡ name → IsPut files (files ++ file ∷ []) name None file
behind files file name e its_name = let none = find-None (is_named name) files e in record {
  before = none;
  after =
      let test = passes file name its_name in
      find-append (is_named name) files (file ∷ []) ∙ rw (none, test) refl;
  apart = λ other differs.
      let test = fails_apart file name other its_name differs in
      find-append (is_named other) files (file ∷ []) ∙ rw test (option_or-None (find (is_named other) files));
}

-- a put, where the file has the name's misses and the bytes
pub puts : (old : Shelved) (news : List Held) (name bytes : List ℕ) (was : Option Held) (file : Held) → IsPut old.files news name was file → file.bytes ≡ bytes → option_map_or (λ f. f.missed) was old.missing ≡ file.missed → Puts old (record old { files = news }) name bytes
puts old news name bytes was file put holds misses = record {
  held = ap (λ o. option_map (λ f. f.bytes) o) put.after ∙ ap (λ b. Some b) holds;
  others = λ other differs. ap (λ o. option_map (λ f. f.bytes) o) (put.apart other differs);
  missed = λ other.
      elim (cases_Bool (bytes_eq other name)) [
        | inl found ↦
            let same : other ≡ name = (bytes_eq-Decides other name).0 found in
            let P : List ℕ → Type 0 = λ n. missed_of (record old { files = news }) n ≡ missed_of old n in
            subst P (sym same) (ap (λ o. option_map_or (λ f. f.missed) o old.missing) put.after ∙ sym misses ∙ sym (ap (λ o. option_map_or (λ f. f.missed) o old.missing) put.before))
        | inr lost ↦ ap (λ o. option_map_or (λ f. f.missed) o old.missing) (put.apart other (λ same. both_ways _ lost ((bytes_eq-Decides other name).1 same)))
      ];
  rest = refl;
}
