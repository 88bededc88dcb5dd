-- The words that write parts, and these put into their slots one after another.
use Rattle.std.proofs.Common.{◌≡◌, ◌≢◌, ℕ, zero, suc, ◌<◌, Bool, true, false, not, ◌&&◌, List, [], ◌∷◌, ◌++◌, map, take, length, Option, Some, None, option_map, if◌then◌else◌, codes, refl, sym, ap, subst, ◌∙◌, arith, ne_eqb, eq-eqb, eqb, lt-ltb, ltb-true, eqb-true, true≢false, get_or}
use Rattle.std.specs.Prelude.{option_and_then, nat_lt, All}
use Rattle.std.specs.Str.{bytes_eq}
use Rattle.std.specs.List.{position_or_len, before_first, after_first}
use Rattle.std.proofs.lemmas.Slice.Eq.{bytes_eq-Decides}
use Rattle.std.proofs.lemmas.List.Sums.{split_at_first, passes_at_first}
use Rattle.std.proofs.lemmas.List.Elements.{All-nil, All-cons}
use Rattle.std.proofs.lemmas.Bool.{and_parts}
use Rattle.campl_orders.specs.Orders.{Part, Given, IsValue, operand, option_word, Writes, nothing, an_operand, apart, joined, operands_alone}
use Rattle.campl_orders.specs.Reading.{fills, gathered, is_equals, is_value, met, met_apart, met_joined, met_word, option_named, put, put_new}
use Rattle.campl_orders.specs.declared.found.Slot.{Slot}
use Rattle.campl_orders.specs.declared.found.Slot.TheVariants.{Operand, Script, Steps, Workers}
use Rattle.campl_orders.specs.declared.reader.State.{State}
use Rattle.campl_orders.specs.declared.reader.State.TheVariants.{Open, Awaits, Closed}

abbrev pub put_all : List Part → Given → Option Given
put_all [] g = Some g
put_all (p ∷ parts) g = option_and_then (put_all parts) (put p.0 p.1 g)

-- ---- values

pub value-passes : (word : List ℕ) → IsValue word → is_value word ≡ true
value-passes [] v = absurd (v.0 refl)
value-passes (c ∷ cs) v = rw (ne_eqb (length (c ∷ cs)) 0 (λ i. omega arith), ne_eqb c 45 v.1) refl

pub passes-value : (word : List ℕ) → is_value word ≡ true → IsValue word
passes-value [] e = absurd (let no : ⊥ = cc in no)
passes-value (c ∷ cs) e = (λ i. let no : ⊥ = cc in no, λ i. true≢false (sym (and_parts (not (eqb (length (c ∷ cs)) 0)) (not (eqb c 45)) e).1 ∙ ap not (eq-eqb c 45 i)))

-- ---- what a word is met as

-- a word that begins otherwise is no word that begins with a hyphen
begins : (c : ℕ) (cs front : List ℕ) → c ≢ 45 → bytes_eq (c ∷ cs) (45 ∷ front) ≡ false
begins c cs front n = ap (λ b. b && bytes_eq cs front) (ne_eqb c 45 n)

choose : (a b c : Bool) → a ≡ false → b ≡ false → c ≡ false → ◌≡◌ {A = Option Slot} (if a then Some Script else (if b then Some Steps else (if c then Some Workers else None))) None
choose a b c i j k = rw (i, j, k) refl

unnamed : (c : ℕ) (cs : List ℕ) → c ≢ 45 → option_named (c ∷ cs) ≡ None
unnamed c cs n = choose _ _ _ (begins c cs (codes "-script") n) (begins c cs (codes "-steps") n) (begins c cs (codes "-workers") n)

unnamed-front : (c : ℕ) (cs : List ℕ) → c ≢ 45 → (k : ℕ) → option_named (take k (c ∷ cs)) ≡ None
unnamed-front c cs n zero = refl
unnamed-front c cs n (suc k) = unnamed c (take k cs) n

either-way : (t : Bool) (a b : Option Slot) (word : List ℕ) (g : Given) → a ≡ None → b ≡ None → (if t then met_joined a word g else met_apart b word g) ≡ fills Operand word Open g
either-way true a b word g i j = ap (λ o. met_joined o word g) i
either-way false a b word g i j = ap (λ o. met_apart o word g) j

pub operand-met : (word : List ℕ) → IsValue word → (g : Given) → met word g ≡ fills Operand word Open g
operand-met [] v g = absurd (v.0 refl)
operand-met (c ∷ cs) v g =
    ap (λ b. if b then Some (g, Closed) else met_word (c ∷ cs) g) (begins c cs (codes "-") v.1)
    ∙ either-way _ _ _ (c ∷ cs) g (unnamed-front c cs v.1 _) (unnamed c cs v.1)

pub apart-met : (x : Slot) → x ≢ Operand → (g : Given) → met (option_word x) g ≡ Some (g, Awaits x)
apart-met Operand n g = absurd (n refl)
apart-met Script n g = refl
apart-met Steps n g = refl
apart-met Workers n g = refl

if-true : {A : Type 0} (b : Bool) (x y : A) → b ≡ true → (if b then x else y) ≡ x
if-true b x y e = rw e refl

within : (k : ℕ) (word : List ℕ) → k < length word → nat_lt k (length word) ≡ true
within k word l = lt-ltb k (length word) l

pub joined-met : (x : Slot) → x ≢ Operand → (value : List ℕ) (g : Given) → met (option_word x ++ (61 ∷ value)) g ≡ fills x value Open g
joined-met Operand n value g = absurd (n refl)
joined-met Script n value g = if-true _ _ _ (within 8 (codes "--script" ++ (61 ∷ value)) (omega arith))
joined-met Steps n value g = if-true _ _ _ (within 7 (codes "--steps" ++ (61 ∷ value)) (omega arith))
joined-met Workers n value g = if-true _ _ _ (within 9 (codes "--workers" ++ (61 ∷ value)) (omega arith))

-- ---- from parts to slots

spread : (s : State) (words : List (List ℕ)) (parts : List Part) (m : Option Given) → ((g : Given) → gathered g s words ≡ put_all parts g)
    → option_and_then (λ (p : Given × State). gathered p.0 p.1 words) (option_map (λ after. (after, s)) m) ≡ option_and_then (put_all parts) m
spread s words parts None h = refl
spread s words parts (Some g) h = h g

closed-puts : (words : List (List ℕ)) (g : Given) → gathered g Closed words ≡ put_all (map operand words) g
closed-puts [] g = refl
closed-puts (word ∷ words) g = spread Closed words (map operand words) (put Operand word g) (closed-puts words)

-- reading words is putting the parts that they write
pub written-puts : {words : List (List ℕ)} {parts : List Part} → Writes words parts → (g : Given) → gathered g Open words ≡ put_all parts g
written-puts nothing g = refl
written-puts (an_operand word v {words} {parts} d) g = ap (option_and_then (λ (p : Given × State). gathered p.0 p.1 words)) (operand-met word v g) ∙ spread Open words parts (put Operand word g) (written-puts d)
written-puts (apart x n value v {words} {parts} d) g =
    ap (option_and_then (λ (p : Given × State). gathered p.0 p.1 (value ∷ words))) (apart-met x n g) ∙ spread Open words parts (put x value g) (written-puts d)
written-puts (joined x n value v {words} {parts} d) g = ap (option_and_then (λ (p : Given × State). gathered p.0 p.1 words)) (joined-met x n value g) ∙ spread Open words parts (put x value g) (written-puts d)
written-puts (operands_alone words all) g = closed-puts words g

-- ---- from slots to parts

-- the words in this state write these parts
abbrev pub Behind : State → List (List ℕ) → List Part → Type 0
Behind Open words parts = Writes words parts
Behind (Awaits x) words parts = (value : List ℕ) × (rest : List (List ℕ)) × (more : List Part) × (words ≡ value ∷ rest) × IsValue value × Writes rest more × (parts ≡ (x, value) ∷ more)
Behind Closed words parts = All IsValue words × (parts ≡ map operand words)

pub record Read (s : State) (words : List (List ℕ)) (g last : Given) : Type 0 where
  pub parts : List Part
  pub behind : Behind s words parts
  pub puts : put_all parts g ≡ Some last

pub record Filled (x : Slot) (value : List ℕ) (s : State) (g : Given) (words : List (List ℕ)) (last : Given) : Type 0 where
  pub after : Given
  pub puts : put x value g ≡ Some after
  pub fine : IsValue value
  pub rest : gathered after s words ≡ Some last

is-value : (x : Slot) (value : List ℕ) (g after : Given) → put x value g ≡ Some after → is_value value ≡ true
is-value x value g after = by (is_value value)
  where
    by : (b : Bool) → (if b then put_new x value g else None) ≡ Some after → b ≡ true
    by true e = refl
    by false e = absurd (let no : ⊥ = cc in no)

fill-back : (x : Slot) (value : List ℕ) (s : State) (g : Given) (words : List (List ℕ)) (last : Given)
    → option_and_then (λ (p : Given × State). gathered p.0 p.1 words) (fills x value s g) ≡ Some last → Filled x value s g words last
fill-back x value s g words last e = by (put x value g) refl e
  where
    by : (m : Option Given) → put x value g ≡ m → option_and_then (λ (p : Given × State). gathered p.0 p.1 words) (option_map (λ after. (after, s)) m) ≡ Some last → Filled x value s g words last
    by None i e = absurd (let no : ⊥ = cc in no)
    by (Some after) i e = record { after = after; puts = i; fine = passes-value value (is-value x value g after i); rest = e }

-- one part more
more-puts : (x : Slot) (value : List ℕ) (parts : List Part) (g after last : Given) → put x value g ≡ Some after → put_all parts after ≡ Some last → put_all ((x, value) ∷ parts) g ≡ Some last
more-puts x value parts g after last i j = ap (option_and_then (put_all parts)) i ∙ j

found : (word : List ℕ) (y x : Slot) → word ≡ option_word y → y ≢ Operand → Some y ≡ Some x → (word ≡ option_word x) × (x ≢ Operand)
found word y x w n h = let same : y ≡ x = cc in subst (λ z. (word ≡ option_word z) × (z ≢ Operand)) same (w, n)

-- a word that names an option is as that is written
named-word : (word : List ℕ) (x : Slot) → option_named word ≡ Some x → (word ≡ option_word x) × (x ≢ Operand)
named-word word x e = by (bytes_eq word (codes "--script")) (bytes_eq word (codes "--steps")) (bytes_eq word (codes "--workers")) refl refl refl e
  where
    by : (a b c : Bool) → bytes_eq word (codes "--script") ≡ a → bytes_eq word (codes "--steps") ≡ b → bytes_eq word (codes "--workers") ≡ c
        → (if a then Some Script else (if b then Some Steps else (if c then Some Workers else None))) ≡ Some x → (word ≡ option_word x) × (x ≢ Operand)
    by true b c i j k e = found word Script x ((bytes_eq-Decides word (codes "--script")).0 i) (λ n. let no : ⊥ = cc in no) e
    by false true c i j k e = found word Steps x ((bytes_eq-Decides word (codes "--steps")).0 j) (λ n. let no : ⊥ = cc in no) e
    by false false true i j k e = found word Workers x ((bytes_eq-Decides word (codes "--workers")).0 k) (λ n. let no : ⊥ = cc in no) e
    by false false false i j k e = absurd (let no : ⊥ = cc in no)

-- a word with an equals sign is what stands before it, the sign, and what stands behind
cut : (word : List ℕ) → nat_lt (position_or_len is_equals word) (length word) ≡ true → word ≡ before_first is_equals word ++ (61 ∷ after_first is_equals word)
cut word t =
    let inside : position_or_len is_equals word < length word = ltb-true _ _ t in
    let sign : get_or word (position_or_len is_equals word) 0 ≡ 61 = eqb-true _ 61 (passes_at_first is_equals word 0 inside) in
    split_at_first is_equals word 0 inside ∙ ap (λ c. before_first is_equals word ++ (c ∷ after_first is_equals word)) sign

module _ (word : List ℕ) (words : List (List ℕ)) (g last : Given) (ih : (s : State) (g : Given) → gathered g s words ≡ Some last → Read s words g last) where
  operand-back : option_and_then (λ (p : Given × State). gathered p.0 p.1 words) (fills Operand word Open g) ≡ Some last → Read Open (word ∷ words) g last
  operand-back e =
      let f = fill-back Operand word Open g words last e in
      let r = ih Open f.after f.rest in
      record { parts = (Operand, word) ∷ r.parts; behind = an_operand word f.fine r.behind; puts = more-puts Operand word r.parts g f.after last f.puts r.puts }

  apart-back : (o : Option Slot) → option_named word ≡ o → option_and_then (λ (p : Given × State). gathered p.0 p.1 words) (met_apart o word g) ≡ Some last → Read Open (word ∷ words) g last
  apart-back None i e = operand-back e
  apart-back (Some x) i e =
      let n = named-word word x i in
      let r = ih (Awaits x) g e in
      let (value, rest, more, is, fine, d, parts) = r.behind in
      let written : Writes (option_word x ∷ (value ∷ rest)) ((x, value) ∷ more) = apart x n.1 value fine d in
      let first : Writes (word ∷ (value ∷ rest)) ((x, value) ∷ more) = subst (λ w. Writes (w ∷ (value ∷ rest)) ((x, value) ∷ more)) (sym n.0) written in
      record {
        parts = r.parts;
        behind = subst (λ p. Writes (word ∷ words) p) (sym parts) (subst (λ w. Writes (word ∷ w) ((x, value) ∷ more)) (sym is) first);
        puts = r.puts;
      }

  joined-back : nat_lt (position_or_len is_equals word) (length word) ≡ true → (o : Option Slot) → option_named (before_first is_equals word) ≡ o
      → option_and_then (λ (p : Given × State). gathered p.0 p.1 words) (met_joined o word g) ≡ Some last → Read Open (word ∷ words) g last
  joined-back t None i e = operand-back e
  joined-back t (Some x) i e =
      let n = named-word (before_first is_equals word) x i in
      let value = after_first is_equals word in
      let f = fill-back x value Open g words last e in
      let r = ih Open f.after f.rest in
      let is : option_word x ++ (61 ∷ value) ≡ word = sym (cut word t ∙ ap (λ w. w ++ (61 ∷ value)) n.0) in
      record {
        parts = (x, value) ∷ r.parts;
        behind = subst (λ w. Writes (w ∷ words) ((x, value) ∷ r.parts)) is (joined x n.1 value f.fine r.behind);
        puts = more-puts x value r.parts g f.after last f.puts r.puts;
      }

  word-back : (t : Bool) → nat_lt (position_or_len is_equals word) (length word) ≡ t
      → option_and_then (λ (p : Given × State). gathered p.0 p.1 words) (if t then met_joined (option_named (before_first is_equals word)) word g else met_apart (option_named word) word g) ≡ Some last
      → Read Open (word ∷ words) g last
  word-back true i e = joined-back i _ refl e
  word-back false i e = apart-back _ refl e

  open-back : (b : Bool) → bytes_eq word (codes "--") ≡ b → option_and_then (λ (p : Given × State). gathered p.0 p.1 words) (if b then Some (g, Closed) else met_word word g) ≡ Some last
      → Read Open (word ∷ words) g last
  open-back true i e =
      let r = ih Closed g e in
      let is : codes "--" ≡ word = sym ((bytes_eq-Decides word (codes "--")).0 i) in
      record {
        parts = r.parts;
        behind = subst (λ p. Writes (word ∷ words) p) (sym r.behind.1) (subst (λ w. Writes (w ∷ words) (map operand words)) is (operands_alone words r.behind.0));
        puts = r.puts;
      }
  open-back false i e = word-back _ refl e

-- where the words are read, they write parts that can be put
pub read-back : (words : List (List ℕ)) (s : State) (g last : Given) → gathered g s words ≡ Some last → Read s words g last
read-back [] Open g last e = record { parts = []; behind = nothing; puts = e }
read-back [] (Awaits x) g last e = absurd (let no : ⊥ = cc in no)
read-back [] Closed g last e = record { parts = []; behind = (All-nil IsValue, refl); puts = e }
read-back (word ∷ words) Open g last e = open-back word words g last (λ s h. read-back words s h last) _ refl e
read-back (word ∷ words) (Awaits x) g last e =
    let f = fill-back x word Open g words last e in
    let r = read-back words Open f.after last f.rest in
    record { parts = (x, word) ∷ r.parts; behind = (word, words, r.parts, refl, f.fine, r.behind, refl); puts = more-puts x word r.parts g f.after last f.puts r.puts }
read-back (word ∷ words) Closed g last e =
    let f = fill-back Operand word Closed g words last e in
    let r = read-back words Closed f.after last f.rest in
    record {
      parts = (Operand, word) ∷ r.parts;
      behind = (All-cons IsValue word words f.fine r.behind.0, ap (λ l. operand word ∷ l) r.behind.1);
      puts = more-puts Operand word r.parts g f.after last f.puts r.puts;
    }
