-- Lines that are put together, and found again.
use Rattle.std.proofs.Common.{◌≡◌, refl, ap, ◌∙◌, ℕ, zero, suc, ◌-◌, arith, Bool, true, false, List, [], ◌∷◌, ◌++◌, length, take}
use Rattle.std.specs.Prelude.{◌==◌, ◌&&◌, not, nat_le, if◌then◌else◌, map, slice_index}
use Rattle.std.specs.List.{list_all}
use Rattle.std.specs.Str.Lines.{strip_carriage_return}
use Rattle.std.proofs.lemmas.Bool.{and_parts, and_from}
use Rattle.std.proofs.lemmas.Bool.Decides.{nat_tests}
use Rattle.campl_service.specs.Scripts.{Lines}
use Rattle.campl_service.specs.Reading.{pieces, put_first, lines_of}
use Rattle.campl_service.proofs.Lines.{stays}

-- a line has no line feed
abbrev pub in_line : List ℕ → Bool
in_line cs = list_all stays cs

abbrev pub in_lines : Lines → Bool
in_lines lines = list_all in_line lines

-- ---- no line has a line feed

first_in_line : (c : ℕ) (ps : Lines) → stays c ≡ true → in_lines ps ≡ true → in_lines (put_first c ps) ≡ true
first_in_line c [] h all = and_from (stays c && true) true (and_from (stays c) true h refl) refl
first_in_line c (p ∷ ps) h all =
    and_from (stays c && in_line p) (in_lines ps) (and_from (stays c) (in_line p) h (and_parts (in_line p) (in_lines ps) all).0) (and_parts (in_line p) (in_lines ps) all).1

piece_in_line : (b : Bool) (c : ℕ) (ps : Lines) → stays c ≡ not b → in_lines ps ≡ true → in_lines (if b then [] ∷ ps else put_first c ps) ≡ true
piece_in_line true c ps h all = all
piece_in_line false c ps h all = first_in_line c ps h all

pieces_in_line : (cs : List ℕ) → in_lines (pieces cs) ≡ true
pieces_in_line [] = refl
pieces_in_line (c ∷ cs) = piece_in_line (c == 10) c (pieces cs) refl (pieces_in_line cs)

pub take_in_line : (n : ℕ) (cs : List ℕ) → in_line cs ≡ true → in_line (take n cs) ≡ true
take_in_line zero cs h = refl
take_in_line (suc n) [] h = refl
take_in_line (suc n) (c ∷ cs) h = and_from (stays c) (in_line (take n cs)) (and_parts (stays c) (in_line cs) h).0 (take_in_line n cs (and_parts (stays c) (in_line cs) h).1)

stripped_in_line : (b : Bool) (cs : List ℕ) → in_line cs ≡ true → in_line (if b then take (length cs - 1) cs else cs) ≡ true
stripped_in_line true cs h = take_in_line (length cs - 1) cs h
stripped_in_line false cs h = h

all_stripped : (ps : Lines) → in_lines ps ≡ true → in_lines (map strip_carriage_return ps) ≡ true
all_stripped [] h = refl
all_stripped (p ∷ ps) h =
    and_from (in_line (strip_carriage_return p)) (in_lines (map strip_carriage_return ps)) (stripped_in_line (slice_index p (length p - 1) == 13) p (and_parts (in_line p) (in_lines ps) h).0) (all_stripped ps (and_parts (in_line p) (in_lines ps) h).1)

pub lines_in_line : (cs : List ℕ) → in_lines (lines_of cs) ≡ true
lines_in_line cs = all_stripped (pieces cs) (pieces_in_line cs)

-- ---- a line before its end

not_false : (b : Bool) → not b ≡ true → b ≡ false
not_false true h = cc h
not_false false h = refl

line_found : (w rest : List ℕ) → in_line w ≡ true → pieces (w ++ 10 ∷ rest) ≡ w ∷ pieces rest
line_found [] rest h = refl
line_found (c ∷ cs) rest h = rw (not_false (c == 10) (and_parts (stays c) (in_line cs) h).0) (ap (put_first c) (line_found cs rest (and_parts (stays c) (in_line cs) h).1))

-- ---- what is printed ends with no carriage return

abbrev pub printed : ℕ → Bool
printed c = nat_le 32 c

abbrev pub all_printed : List ℕ → Bool
all_printed cs = list_all printed cs

one_stays : (c : ℕ) → printed c ≡ true → stays c ≡ true
one_stays c h = grind (arith, nat_tests)

pub printed_in_line : (cs : List ℕ) → all_printed cs ≡ true → in_line cs ≡ true
printed_in_line [] h = refl
printed_in_line (c ∷ cs) h = and_from (stays c) (in_line cs) (one_stays c (and_parts (printed c) (all_printed cs) h).0) (printed_in_line cs (and_parts (printed c) (all_printed cs) h).1)

last_printed : (c : ℕ) (cs : List ℕ) → printed c ≡ true → all_printed cs ≡ true → printed (slice_index (c ∷ cs) (length cs)) ≡ true
last_printed c [] h all = h
last_printed c (d ∷ ds) h all = last_printed d ds (and_parts (printed d) (all_printed ds) all).0 (and_parts (printed d) (all_printed ds) all).1

grows : (xs : List ℕ) (c : ℕ) (cs : List ℕ) → length (xs ++ c ∷ cs) ≡ suc (length (xs ++ c ∷ cs) - 1)
grows [] c cs = omega arith
grows (x ∷ xs) c cs = omega arith

last_of : (xs : List ℕ) (c : ℕ) (cs : List ℕ) → slice_index (xs ++ c ∷ cs) (length (xs ++ c ∷ cs) - 1) ≡ slice_index (c ∷ cs) (length cs)
last_of [] c cs = ap (slice_index (c ∷ cs)) (omega arith)
last_of (x ∷ xs) c cs =
    let before : length (x ∷ (xs ++ c ∷ cs)) - 1 ≡ suc (length (xs ++ c ∷ cs) - 1) = omega (arith, grows xs c cs) in
    ap (slice_index (x ∷ (xs ++ c ∷ cs))) before ∙ last_of xs c cs

no_return : (c : ℕ) → printed c ≡ true → (c == 13) ≡ false
no_return c h = grind (arith, nat_tests)

not_stripped : (xs : List ℕ) (c : ℕ) (cs : List ℕ) → printed c ≡ true → all_printed cs ≡ true → strip_carriage_return (xs ++ c ∷ cs) ≡ xs ++ c ∷ cs
not_stripped xs c cs h all =
    let last : printed (slice_index (xs ++ c ∷ cs) (length (xs ++ c ∷ cs) - 1)) ≡ true = ap printed (last_of xs c cs) ∙ last_printed c cs h all in
    rw (no_return (slice_index (xs ++ c ∷ cs) (length (xs ++ c ∷ cs) - 1)) last) refl

-- ---- both together

-- a line whose end is printed is found again as it is
pub written_line_found : (xs : List ℕ) (c : ℕ) (cs rest : List ℕ) → in_line (xs ++ c ∷ cs) ≡ true → printed c ≡ true → all_printed cs ≡ true → lines_of ((xs ++ c ∷ cs) ++ 10 ∷ rest) ≡ (xs ++ c ∷ cs) ∷ lines_of rest
written_line_found xs c cs rest one h all =
    ap (map strip_carriage_return) (line_found (xs ++ c ∷ cs) rest one) ∙ ap (λ line. line ∷ lines_of rest) (not_stripped xs c cs h all)
