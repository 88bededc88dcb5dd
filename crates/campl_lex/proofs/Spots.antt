-- Spots behind parts of a text.
use Rattle.std.proofs.Common.{◌≡◌, ℕ, zero, suc, ◌+◌, ◌<◌, ◌≤◌, Bool, true, false, cond, eqb, List, [], ◌∷◌, ◌++◌, length, take, drop, get_or, refl}
use Rattle.std.proofs.Common.{sym, ap, ◌∙◌, arith, length-append}
use Rattle.std.specs.Str.{chars, IsUtf8}
use Rattle.std.proofs.lemmas.List.{at_drop_more}
use Rattle.std.proofs.lemmas.Str.{length-encode, len_utf8_bounds, encodes-chars}
use lib.Utf8.{encode, encodes}
use Rattle.campl_tree.specs.declared.place.Place.{Place}
use Rattle.campl_lex.specs.Spot.{after, place_past, bytes}

pub length_le_bytes : (cs : List ℕ) → length cs ≤ bytes cs
length_le_bytes [] = omega arith
length_le_bytes (c ∷ cs) = let h : length cs ≤ bytes cs = length_le_bytes cs in omega (arith, len_utf8_bounds c)

pub bytes_split : (n : ℕ) (cs : List ℕ) → bytes (take n cs) + bytes (drop n cs) ≡ bytes cs
bytes_split zero cs = omega arith
bytes_split (suc n) [] = refl
bytes_split (suc n) (c ∷ cs) = let h : bytes (take n cs) + bytes (drop n cs) ≡ bytes cs = bytes_split n cs in omega arith

pub bytes-append : (xs ys : List ℕ) → bytes (xs ++ ys) ≡ bytes xs + bytes ys
bytes-append [] ys = omega arith
bytes-append (x ∷ xs) ys = let h : bytes (xs ++ ys) ≡ bytes xs + bytes ys = bytes-append xs ys in omega arith

pub bytes-encodes : (cs : List ℕ) → bytes cs ≡ length (encodes cs)
bytes-encodes [] = refl
bytes-encodes (c ∷ cs) =
    let h : bytes cs ≡ length (encodes cs) = bytes-encodes cs in
    let e : length (encode c ++ encodes cs) ≡ length (encode c) + length (encodes cs) = length-append (encode c) (encodes cs) in
    omega (arith, length-encode c)

pub bytes-chars : (bs : List ℕ) → IsUtf8 bs → bytes (chars bs) ≡ length bs
bytes-chars bs u = bytes-encodes (chars bs) ∙ ap length (encodes-chars bs u)

pub line_after : (p : Place) (c : ℕ) → (after p c).line ≤ p.line + 1
line_after p c = by (eqb c 10)
  where
    by : (b : Bool) → (cond {A = Place} b (record { line = p.line + 1; column = 1 }) (record { line = p.line; column = p.column + 1 })).line ≤ p.line + 1
    by true = omega arith
    by false = omega arith

pub column_after : (p : Place) (c : ℕ) → (after p c).column ≤ p.column + 1
column_after p c = by (eqb c 10)
  where
    by : (b : Bool) → (cond {A = Place} b (record { line = p.line + 1; column = 1 }) (record { line = p.line; column = p.column + 1 })).column ≤ p.column + 1
    by true = omega arith
    by false = omega arith

pub line_past : (p : Place) (cs : List ℕ) → (place_past p cs).line ≤ p.line + length cs
line_past p [] = omega arith
line_past p (c ∷ cs) =
    let h : (place_past (after p c) cs).line ≤ (after p c).line + length cs = line_past (after p c) cs in
    let k : (after p c).line ≤ p.line + 1 = line_after p c in
    omega arith

pub column_past : (p : Place) (cs : List ℕ) → (place_past p cs).column ≤ p.column + length cs
column_past p [] = omega arith
column_past p (c ∷ cs) =
    let h : (place_past (after p c) cs).column ≤ (after p c).column + length cs = column_past (after p c) cs in
    let k : (after p c).column ≤ p.column + 1 = column_after p c in
    omega arith

pub place_turn : (p : Place) (cs : List ℕ) (n c : ℕ) → (n < length cs) × (c ≡ get_or cs n c) → place_past p (drop n cs) ≡ place_past (after p c) (drop (n + 1) cs)
place_turn p cs n c h = at_drop_more (place_past p) cs n c h.0 ∙ ap (λ x. place_past (after p x) (drop (n + 1) cs)) (sym h.1)
