-- The lines that are printed are those of the meaning.
use Rattle.std.proofs.Common.{◌≡◌, refl, sym, ap, ap₂, ◌∙◌, ℕ, suc, ◌+◌, ◌<◌, ◌≤◌, Bool, true, false, List, [], ◌∷◌, ◌++◌, Option, Some, None, if◌then◌else◌, codes, length, get_or, drop, slice_get, append_assoc, add-one, arith}
use Rattle.std.proofs.lemmas.List.{append-nil, drop_more}
use Rattle.std.specs.Fmt.{decimal}
use Rattle.campl_tree.specs.declared.service.ServiceName.{ServiceName}
use Rattle.campl_machine.specs.Names.{End, Service}
use Rattle.campl_types.specs.Names.{Name}
use Rattle.campl_types.specs.World.{World}
use Rattle.campl_types.specs.Run.{services_of}
use Rattle.campl_service.specs.Output.{end_of_line, transcript_lines}
use Rattle.campl_service.specs.Services.{want}
use Rattle.campl_meaning.specs.States.{State, Runs, Serves}
use Rattle.campl_meaning.specs.Reductions.{Configuration}
use Rattle.campl_meaning.specs.Ends.{transcript_in, transcript_of}
use Rattle.campl_meaning.specs.Output.{all_lines, asked_names, ending_words, output_of, spelled}
use Rattle.campl_turns.specs.Endings.{service_state}
use Rattle.campl_parts.specs.declared.part.Life.{Life}
use Rattle.campl_parts.specs.declared.part.Life.TheVariants as l
use Rattle.campl_parts.specs.declared.part.ProcPart.{ProcPart}
use Rattle.campl_parts.specs.Views.{life_of}
use Rattle.campl_run.specs.declared.ended.Ended.{Ended}
use Rattle.campl_run.specs.declared.ended.Ended.TheVariants as v
use Rattle.campl_run.specs.Runs.{ending_of}
use Rattle.campl_run.specs.Printed.{asked_from, ending_told, is_asked, is_spent, led, led_names, lines_from, lines_of, printed, serving_in, serving_of, transcript_told}

-- Names with commas between them

-- The meaning's, and whether a state was asked, as functions that can be named here. Theirs are private there, and compute to the same.

abbrev joined_names : List Name → List ℕ
joined_names [] = []
joined_names (x ∷ []) = spelled x
joined_names (x ∷ (y ∷ ys)) = spelled x ++ (codes ", " ++ joined_names (y ∷ ys))

abbrev asked_state : Option State → Bool
asked_state None = false
asked_state (Some (Runs r)) = false
asked_state (Some (Serves s)) = is_spent (want s.serving)

joined-led : (x : Name) (xs : List Name) → joined_names (x ∷ xs) ≡ spelled x ++ led_names false xs
joined-led x [] = sym (append-nil (spelled x))
joined-led x (y ∷ ys) = ap (λ z. spelled x ++ (codes ", " ++ z)) (joined-led y ys)

all-led : (xs : List Name) → led_names true xs ≡ joined_names xs
all-led [] = refl
all-led (x ∷ xs) = sym (joined-led x xs)

words-told : (ended : Ended) (asked : List Name) → ending_told ended asked ≡ ending_words (ending_of ended) asked
words-told v.Finished asked = refl
words-told v.Awaiting asked = ap (λ z. codes "awaiting " ++ z) (all-led asked)
words-told v.OutOfSteps asked = refl
words-told v.Broken asked = refl

-- The next name of a loop over the services

-- the first of what is left of the names
next-asked : (i : ℕ) (x : ServiceName) (names : List ServiceName) (ps : List ProcPart) → i < length names → x ≡ get_or names i x
    → asked_from i (drop i names) ps ≡ asked_from i (x ∷ drop (i + 1) names) ps
next-asked i x names ps l is = ap (λ xs. asked_from i xs ps) (drop_more names i x l ∙ ap (λ y. y ∷ drop (i + 1) names) (sym is))

pub asked-next : (o o2 whole : List ℕ) (first first2 asked : Bool) (i : ℕ) (x : ServiceName) (names : List ServiceName) (ps : List ProcPart) → i < length names → x ≡ get_or names i x
    → o ++ led_names first (asked_from i (drop i names) ps) ≡ whole → asked ≡ is_asked (serving_of (slice_get ps (i + 1))) → asked ≡ true → o2 ≡ o ++ led first (spelled x.name) → first2 ≡ false
    → o2 ++ led_names first2 (asked_from (i + 1) (drop (i + 1) names) ps) ≡ whole
asked-next o o2 whole first first2 asked i x names ps l is kept told so more second =
    let rest = asked_from (i + 1) (drop (i + 1) names) ps in
    let names_are : asked_from i (drop i names) ps ≡ x.name ∷ rest =
    next-asked i x names ps l is ∙ ap (λ (b : Bool). if b then x.name ∷ rest else rest) (sym told ∙ so) in
    ap (λ b. o2 ++ led_names b rest) second ∙ (ap (λ z. z ++ led_names false rest) more ∙ (append_assoc o (led first (spelled x.name)) (led_names false rest)
    ∙ (ap (λ ns. o ++ led_names first ns) (sym names_are) ∙ kept)))

pub asked-skipped : (o o2 whole : List ℕ) (first first2 asked : Bool) (i : ℕ) (x : ServiceName) (names : List ServiceName) (ps : List ProcPart) → i < length names → x ≡ get_or names i x
    → o ++ led_names first (asked_from i (drop i names) ps) ≡ whole → asked ≡ is_asked (serving_of (slice_get ps (i + 1))) → asked ≡ false → o2 ≡ o → first2 ≡ first
    → o2 ++ led_names first2 (asked_from (i + 1) (drop (i + 1) names) ps) ≡ whole
asked-skipped o o2 whole first first2 asked i x names ps l is kept told so same same_first =
    let rest = asked_from (i + 1) (drop (i + 1) names) ps in
    let names_are : asked_from i (drop i names) ps ≡ rest =
    next-asked i x names ps l is ∙ ap (λ (b : Bool). if b then x.name ∷ rest else rest) (sym told ∙ so) in
    ap₂ (λ z b. z ++ led_names b rest) same same_first ∙ (ap (λ ns. o ++ led_names first ns) (sym names_are) ∙ kept)

-- What the source has at a service's name

transcript-same : (name : ℕ → End) (life : Life) → transcript_in (service_state name (life_of life)) ≡ transcript_told (serving_in life)
transcript-same name l.Ended = refl
transcript-same name (l.Runs r) = refl
transcript-same name (l.Serves x service) = refl

asked-same : (name : ℕ → End) (life : Life) → asked_state (service_state name (life_of life)) ≡ is_asked (serving_in life)
asked-same name l.Ended = refl
asked-same name (l.Runs r) = refl
asked-same name (l.Serves x service) = refl

-- these processes have from the second on what the source has at the services from the n-th on, so many
abbrev pub HaveServices : (ℕ → End) → List ProcPart → Configuration → (n count : ℕ) → Type 0
HaveServices name ps c n count = (k : ℕ) → n ≤ k → k < n + count → (p : ProcPart) × (slice_get ps (k + 1) ≡ Some p) × (c.nodes (Service k) ≡ service_state name (life_of p.life))

module _ (name : ℕ → End) (ps : List ProcPart) (c : Configuration) where
  lines-same : (n : ℕ) (xs : List ServiceName) → HaveServices name ps c n (length xs) → lines_from n xs ps ≡ all_lines n xs c
  lines-same n [] have = refl
  lines-same n (x ∷ xs) have =
      let (p, there, node) = have n (omega arith) (omega arith) in
      let transcripts : transcript_told (serving_of (slice_get ps (n + 1))) ≡ transcript_of n c =
      ap (λ o. transcript_told (serving_of o)) there ∙ (sym (transcript-same name p.life) ∙ ap transcript_in (sym node)) in
      let lines : lines_of x.name (serving_of (slice_get ps (n + 1))) ≡ codes "channel " ++ (spelled x.name ++ (end_of_line ++ transcript_lines (transcript_of n c))) =
      ap (λ z. codes "channel " ++ z) (append_assoc (spelled x.name) end_of_line (transcript_lines (transcript_told (serving_of (slice_get ps (n + 1))))))
      ∙ ap (λ t. codes "channel " ++ (spelled x.name ++ (end_of_line ++ transcript_lines t))) transcripts in
      let rest : lines_from (n + 1) xs ps ≡ all_lines (suc n) xs c =
      ap (λ k. lines_from k xs ps) (add-one n) ∙ lines-same (suc n) xs (λ k a b. have k (omega (arith, a)) (omega (arith, b))) in
      ap₂ (λ a b. a ++ b) lines rest

  names-same : (n : ℕ) (xs : List ServiceName) → HaveServices name ps c n (length xs) → asked_from n xs ps ≡ asked_names n xs c
  names-same n [] have = refl
  names-same n (x ∷ xs) have =
      let (p, there, node) = have n (omega arith) (omega arith) in
      let asked : is_asked (serving_of (slice_get ps (n + 1))) ≡ asked_state (c.nodes (Service n)) =
      ap (λ o. is_asked (serving_of o)) there ∙ (sym (asked-same name p.life) ∙ ap asked_state (sym node)) in
      let rest : asked_from (n + 1) xs ps ≡ asked_names (suc n) xs c =
      ap (λ k. asked_from k xs ps) (add-one n) ∙ names-same (suc n) xs (λ k a b. have k (omega (arith, a)) (omega (arith, b))) in
      ap₂ (λ (b : Bool) (ns : List Name). if b then x.name ∷ ns else ns) asked rest

  pub output-told : (w : World) (names : List ServiceName) (ended : Ended) (steps : ℕ) → names ≡ services_of w → HaveServices name ps c 0 (length (services_of w))
      → printed names ps ended steps ≡ output_of w c (ending_of ended) steps
  output-told w names ended steps named have =
      let xs = services_of w in
      let words : ending_told ended (asked_from 0 xs ps) ≡ ending_words (ending_of ended) (asked_names 0 xs c) =
      words-told ended (asked_from 0 xs ps) ∙ ap (ending_words (ending_of ended)) (names-same 0 xs have) in
      ap (λ ns. printed ns ps ended steps) named
      ∙ ap₂ (λ a b. a ++ (b ++ (codes " after " ++ (decimal steps ++ (codes " steps" ++ end_of_line))))) (lines-same 0 xs have) words
