-- Characters in front of a value, and what a text is by its characters.
use Rattle.std.proofs.Common.{◌≡◌, refl, ap, ◌∙◌, sym, ℕ, List, [], ◌∷◌, ◌++◌, map, Option, None, Some, option_map, append_assoc}
use Rattle.std.specs.Prelude.{IsSome, unwrap_or}
use Rattle.campl_value.specs.Tree.{Tree, Int, Char, Truth, Nil, Cell, Pair, Built}
use Rattle.campl_value.specs.List.{in_front, items_of, letters, appended}
use Rattle.campl_value.specs.Text.{chars_of, text_of}

-- a text after more letters, which are read behind those that are read already
pub read_on : (read cs : List ℕ) (rest behind : Tree) (whole : Option (List ℕ)) → rest ≡ letters cs behind
    → option_map (λ more. read ++ more) (chars_of rest) ≡ whole → option_map (λ more. (read ++ cs) ++ more) (chars_of behind) ≡ whole
read_on read cs rest behind whole e h = regroup (chars_of behind) ∙ ap (option_map (λ more. read ++ more)) (sym (chars_of_letters cs behind) ∙ sym (ap chars_of e)) ∙ h
  where
    regroup : (o : Option (List ℕ)) → option_map (λ more. (read ++ cs) ++ more) o ≡ option_map (λ more. read ++ more) (option_map (λ more. cs ++ more) o)
    regroup None = refl
    regroup (Some ds) = ap Some (append_assoc read cs ds)

    same_option : (o : Option (List ℕ)) → o ≡ option_map (λ more. more) o
    same_option None = refl
    same_option (Some ds) = refl

    twice : (c : ℕ) (cs : List ℕ) (o : Option (List ℕ)) → option_map (λ more. c ∷ more) (option_map (λ more. cs ++ more) o) ≡ option_map (λ more. c ∷ (cs ++ more)) o
    twice c cs None = refl
    twice c cs (Some ds) = refl

    chars_of_letters : (cs : List ℕ) (behind : Tree) → chars_of (letters cs behind) ≡ option_map (λ more. cs ++ more) (chars_of behind)
    chars_of_letters [] behind = same_option (chars_of behind)
    chars_of_letters (c ∷ cs) behind = ap (option_map (λ more. c ∷ more)) (chars_of_letters cs behind) ∙ twice c cs (chars_of behind)

-- the items of a text are its characters
items_of_text : (t : Tree) (cs : List ℕ) → chars_of t ≡ Some cs → items_of t ≡ Some (map Char cs)
items_of_text Nil [] e = refl
items_of_text Nil (d ∷ ds) e = cc
items_of_text (Cell (Char c) rest) cs e = behind (chars_of rest) (λ ds h. items_of_text rest ds h) e
  where
    one_list : {xs ys : List ℕ} → Some xs ≡ Some ys → xs ≡ ys
    one_list k = cc

    behind : (o : Option (List ℕ)) → ((ds : List ℕ) → o ≡ Some ds → items_of rest ≡ Some (map Char ds))
        → option_map (λ more. c ∷ more) o ≡ Some cs → items_of (Cell (Char c) rest) ≡ Some (map Char cs)
    behind None h k = cc
    behind (Some ds) h k = rw (h ds refl) (ap Some (ap (map Char) (one_list k)))
items_of_text (Int n) cs e = cc
items_of_text (Char n) cs e = cc
items_of_text (Truth n) cs e = cc
items_of_text (Pair a b) cs e = cc
items_of_text (Built c parts) cs e = cc
items_of_text (Cell (Int n) rest) cs e = cc
items_of_text (Cell (Truth n) rest) cs e = cc
items_of_text (Cell Nil rest) cs e = cc
items_of_text (Cell (Cell a b) rest) cs e = cc
items_of_text (Cell (Pair a b) rest) cs e = cc
items_of_text (Cell (Built c parts) rest) cs e = cc

in_front_characters : (cs : List ℕ) (behind : Tree) → in_front (map Char cs) behind ≡ letters cs behind
in_front_characters [] behind = refl
in_front_characters (c ∷ cs) behind = ap (Cell (Char c)) (in_front_characters cs behind)

-- a text with a value behind it is that value behind its characters
pub appended_text : (t behind : Tree) (cs : List ℕ) → chars_of t ≡ Some cs → appended t behind ≡ Some (letters cs behind)
appended_text t behind cs e = rw (items_of_text t cs e) (ap Some (in_front_characters cs behind))

-- a text is the list of its characters
text_of_chars : (t : Tree) (cs : List ℕ) → chars_of t ≡ Some cs → t ≡ text_of cs
text_of_chars Nil [] e = refl
text_of_chars Nil (d ∷ ds) e = cc
text_of_chars (Cell (Char c) rest) cs e = behind (chars_of rest) (λ ds h. text_of_chars rest ds h) e
  where
    one_list : {xs ys : List ℕ} → Some xs ≡ Some ys → xs ≡ ys
    one_list k = cc

    behind : (o : Option (List ℕ)) → ((ds : List ℕ) → o ≡ Some ds → rest ≡ text_of ds)
        → option_map (λ more. c ∷ more) o ≡ Some cs → Cell (Char c) rest ≡ text_of cs
    behind None h k = cc
    behind (Some ds) h k = ap (Cell (Char c)) (h ds refl) ∙ ap text_of (one_list k)
text_of_chars (Int n) cs e = cc
text_of_chars (Char n) cs e = cc
text_of_chars (Truth n) cs e = cc
text_of_chars (Pair a b) cs e = cc
text_of_chars (Built c parts) cs e = cc
text_of_chars (Cell (Int n) rest) cs e = cc
text_of_chars (Cell (Truth n) rest) cs e = cc
text_of_chars (Cell Nil rest) cs e = cc
text_of_chars (Cell (Cell a b) rest) cs e = cc
text_of_chars (Cell (Pair a b) rest) cs e = cc
text_of_chars (Cell (Built c parts) rest) cs e = cc

-- the same of whatever is a text
pub text_of_its_chars : (t : Tree) → IsSome (chars_of t) → t ≡ text_of (unwrap_or (chars_of t) [])
text_of_its_chars t h = go (chars_of t) h (λ cs e. text_of_chars t cs e)
  where
    go : (o : Option (List ℕ)) → IsSome o → ((cs : List ℕ) → o ≡ Some cs → t ≡ text_of cs) → t ≡ text_of (unwrap_or o [])
    go None k f = absurd cc
    go (Some cs) k f = f cs refl
