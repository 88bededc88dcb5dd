-- The bytes of a text, one character after another.
use Rattle.std.proofs.Common.{◌≡◌, ℕ, suc, ◌+◌, ◌<◌, List, [], ◌∷◌, ◌++◌, length, take, slice_index_or, encode_utf8, encode_utf8_all, ap, sym, ◌∙◌, arith}
use Rattle.std.proofs.lemmas.Str.{encodes-append}
use Rattle.std.proofs.lemmas.List.{append-nil}
use Rattle.std.proofs.Math.Seq.{take-suc}

-- one character more
pub encodes_one_more : (cs : List ℕ) (i c : ℕ) → i < length cs → slice_index_or cs i c ≡ c
    → encode_utf8_all (take i cs) ++ encode_utf8 c ≡ encode_utf8_all (take (i + 1) cs)
encodes_one_more cs i c within here =
    ap (λ b. encode_utf8_all (take i cs) ++ b) (sym (append-nil (encode_utf8 c)))
    ∙ sym (encodes-append (take i cs) (c ∷ []))
    ∙ ap (λ x. encode_utf8_all (take i cs ++ x ∷ [])) (sym here)
    ∙ ap encode_utf8_all (sym (take-suc cs i c within))
    ∙ ap (λ n. encode_utf8_all (take n cs)) (let e : suc i ≡ i + 1 = omega arith in e)
