-- The tokens that are read are slices of the source's bytes.
use Rattle.std.proofs.Common.{◌≡◌, ℕ, ◌+◌, ◌-◌, List, [], ◌∷◌, ◌++◌, take, drop, Result, Ok, Err, refl, sym, ap, ◌∙◌, subst, arith}
use Rattle.std.specs.List.{All}
use Rattle.std.specs.Str.{encode_utf8_all}
use Rattle.std.proofs.lemmas.List.{take_at, drop_at, drop-drop}
use Rattle.std.proofs.lemmas.Str.{encodes-append}
use Rattle.campl_lex.specs.declared.token.Token.{Token}
use Rattle.campl_lex.specs.declared.spot.Spot.{Spot}
use Rattle.campl_lex.specs.declared.fault.LexFault.{LexFault}
use Rattle.campl_lex.specs.Spot.{bytes}
use Rattle.campl_lex.specs.Tokens.{Lexes, token, IsToken, IsSlice}
use Rattle.campl_lex.specs.Tokens as says
use Rattle.campl_lex.specs.Layout.{adds}
use Rattle.campl_lex.proofs.Spots.{bytes-encodes}
use Rattle.campl_lex.proofs.Written.{all_more, all_none}

module _ (source : List ℕ) (at : ℕ) (w rest : List ℕ) (here : drop at source ≡ encode_utf8_all (w ++ rest)) where
  split : drop at source ≡ encode_utf8_all w ++ encode_utf8_all rest
  split = here ∙ encodes-append w rest

  behind : drop (at + bytes w) source ≡ encode_utf8_all rest
  behind =
      sym (drop-drop (bytes w) at source)
      ∙ ap (drop (bytes w)) split
      ∙ drop_at (encode_utf8_all w) (encode_utf8_all rest) (bytes w) (sym (bytes-encodes w))

  front : take (at + bytes w - at) (drop at source) ≡ encode_utf8_all w
  front =
      ap (λ n. take n (drop at source)) (let e : at + bytes w - at ≡ bytes w = omega arith in e)
      ∙ ap (take (bytes w)) split
      ∙ take_at (encode_utf8_all w) (encode_utf8_all rest) (bytes w) (sym (bytes-encodes w))

joined : (source : List ℕ) (t : Token) (r : Result (List Token) LexFault) (ts : List Token) → IsSlice source t → adds (t ∷ []) r ≡ Ok ts
    → ((us : List Token) → r ≡ Ok us → All (IsSlice source) us) → All (IsSlice source) ts
joined source t (Ok us) ts here e more = let h : t ∷ us ≡ ts = cc in subst (All (IsSlice source)) h (all_more (IsSlice source) t us here (more us refl))
joined source t (Err fault) ts here e more = cc

pub cut : (source : List ℕ) {s : Spot} {text : List ℕ} {r : Result (List Token) LexFault} → Lexes s text r → drop s.at source ≡ encode_utf8_all text
    → (ts : List Token) → r ≡ Ok ts → All (IsSlice source) ts
cut source says.ends h ts e = subst (All (IsSlice source)) (let f : [] ≡ ts = cc in f) (all_none (IsSlice source))
cut source (says.skips {s} w rest {r} b d) h ts e = cut source d (behind source s.at w rest h) ts e
cut source (says.takes {s} w rest {r} t d) h ts e =
    let here : IsSlice source (token s w) = record { letters = w; spelling = t.longest.spelled; bytes_are = front source s.at w rest h; kind_is = refl } in
    joined source (token s w) r ts here e (cut source d (behind source s.at w rest h))
cut source (says.fails o) h ts e = cc
