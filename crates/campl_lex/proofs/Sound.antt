-- What stands at the front of a text is what the function says.
use Rattle.std.proofs.Common.{◌≡◌, ℕ, suc, ◌+◌, Bool, true, false, not, ◌&&◌, ◌==◌, eqb, List, [], ◌∷◌, length, take, drop, None, refl, sym, ap}
use Rattle.std.proofs.Common.{subst, arith}
use Rattle.std.specs.List.{prefix_len}
use Rattle.std.specs.Char.{is_ascii_digit}
use Rattle.std.proofs.lemmas.Bool.Decides.{nat_tests}
use Rattle.std.proofs.lemmas.List.{length-take-le}
use Rattle.std.proofs.lemmas.List.Sums.{prefix_len-le-length}
use Rattle.campl_tree.specs.declared.place.Place.{Place}
use Rattle.campl_lex.specs.declared.fault.LexFault.TheVariants.{Tab}
use Rattle.campl_lex.specs.Spelling.{begins_name, goes_on}
use Rattle.campl_lex.specs.Tokens.{is_white, begins_comment, begins_with, ends_line, is_quote, IsBlank, IsSpelling, IsLongest, IsWithinLimits}
use Rattle.campl_lex.specs.Tokens.{IsToken, Offends}
use Rattle.campl_lex.specs.Tokens as says
use Rattle.campl_lex.specs.Reading.{piece}
use Rattle.campl_lex.proofs.Runs.{run_passes, run_stops}
use Rattle.campl_lex.proofs.Pieces.{piece_tab, piece_white, piece_comment, piece_name, piece_number, piece_literal, piece_symbol}
use Rattle.campl_lex.proofs.Stands.{apart, Front, Stands}
use Rattle.campl_lex.proofs.Stands.{run_split, run_size, sound_name, sound_number, sound_symbol}
use Rattle.campl_lex.proofs.SoundLiteral.{sound_literal, stays}

ends_from : (rest : List ℕ) → ((y : ℕ) (ys : List ℕ) → rest ≡ y ∷ ys → stays y ≡ false) → ends_line rest ≡ true
ends_from [] h = refl
ends_from (y ∷ ys) h = by (eqb y 10) refl (h y ys refl)
  where
    by : (b : Bool) → eqb y 10 ≡ b → not (y == 10) ≡ false → (y == 10) ≡ true
    by true e k = e
    by false e k = apart (not (y == 10)) (ap not e) k

sound_comment : (c : ℕ) (cs : List ℕ) → begins_comment (c ∷ cs) ≡ true → Front (c ∷ cs) None (prefix_len stays cs + 1)
sound_comment c [] h = absurd (by (c == 45) h)
  where
    by : (b : Bool) → (b && false) ≡ true → ⊥
    by true h = cc
    by false h = cc
sound_comment c (d ∷ ds) h = by (c == 45) refl (d == 45) refl h
  where
    by : (a : Bool) → (c == 45) ≡ a → (b : Bool) → (d == 45) ≡ b → (a && b) ≡ true → Front (c ∷ d ∷ ds) None (prefix_len stays (d ∷ ds) + 1)
    by true e true f h =
        let one : c ≡ 45 = grind (arith, nat_tests) in
        let two : d ≡ 45 = grind (arith, nat_tests) in
        let n = prefix_len stays ds in
        let size : length (take n ds) ≡ n = length-take-le n ds (prefix_len-le-length stays ds) in
        let run : prefix_len stays (45 ∷ ds) ≡ 1 + n = refl in
        let total : suc (suc (length (take n ds))) ≡ prefix_len stays (45 ∷ ds) + 1 = omega arith in
        subst (λ x. Front (x ∷ d ∷ ds) None (prefix_len stays (d ∷ ds) + 1)) (sym one)
        (subst (λ x. Front (45 ∷ x ∷ ds) None (prefix_len stays (x ∷ ds) + 1)) (sym two) (
          45 ∷ 45 ∷ take n ds,
          drop n ds,
          ap (λ t. 45 ∷ 45 ∷ t) (run_split stays ds),
          total,
          says.comment (take n ds) (drop n ds) (run_passes stays ds) (ends_from (drop n ds) (run_stops stays ds)),
        ))
    by true e false f h = cc
    by false e b f h = cc

pub sound : (p : Place) (c : ℕ) (cs : List ℕ) → Stands p (c ∷ cs) (piece p (c ∷ cs))
sound p c cs = by (c == 9) refl (is_white c cs) refl (begins_comment (c ∷ cs)) refl (begins_name c) refl (is_ascii_digit c) refl (is_quote c) refl
  where
    by : (t : Bool) → (c == 9) ≡ t → (w : Bool) → is_white c cs ≡ w → (m : Bool) → begins_comment (c ∷ cs) ≡ m → (n : Bool) → begins_name c ≡ n
        → (d : Bool) → is_ascii_digit c ≡ d → (q : Bool) → is_quote c ≡ q → Stands p (c ∷ cs) (piece p (c ∷ cs))
    by true t w e m f n g d h q i =
        let same : c ≡ 9 = grind (arith, nat_tests) in
        subst (Stands p (c ∷ cs)) (sym (piece_tab p c cs t)) (subst (λ x. Offends p (x ∷ cs) (Tab p)) (sym same) (says.tab cs))
    by false t true e m f n g d h q i = subst (Stands p (c ∷ cs)) (sym (piece_white p c cs t e)) (c ∷ [], cs, refl, refl, says.white c cs e)
    by false t false e true f n g d h q i = subst (Stands p (c ∷ cs)) (sym (piece_comment p c cs t e f)) (sound_comment c cs f)
    by false t false e false f true g d h q i =
        subst (Stands p (c ∷ cs)) (sym (piece_name p c cs t e f g))
        (sound_name p c cs (take (prefix_len goes_on cs) cs) (drop (prefix_len goes_on cs) cs) (run_split goes_on cs) (run_passes goes_on cs) (run_size goes_on cs) f g)
    by false t false e false f false g true h q i =
        subst (Stands p (c ∷ cs)) (sym (piece_number p c cs t e f g h))
        (sound_number p c cs (take (prefix_len is_ascii_digit cs) cs) (drop (prefix_len is_ascii_digit cs) cs) (run_split is_ascii_digit cs) (run_passes is_ascii_digit cs) (run_size is_ascii_digit cs) f h)
    by false t false e false f false g false h true i = subst (Stands p (c ∷ cs)) (sym (piece_literal p c cs t e f g h i)) (sound_literal p c cs i)
    by false t false e false f false g false h false i = subst (Stands p (c ∷ cs)) (sym (piece_symbol p c cs t e f g h i)) (sound_symbol p c cs t e f g h i)
