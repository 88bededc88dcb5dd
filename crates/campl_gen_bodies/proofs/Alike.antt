-- What is made of a body is the same for each number that is at least its size, and for channels whose numbers are the same.
use Rattle.std.proofs.Common.{◌≡◌, ◌∙◌, refl, ap, ℕ, zero, suc, ◌+◌, ◌≤◌, false, not, List, [], ◌∷◌, ◌++◌, Some, None, length, arith}
use Rattle.campl_tree.specs.declared.service.Side.{Side}
use Rattle.campl_tree.specs.Plain.Process as b
use Rattle.campl_tree.specs.Plain.Process.{Body, HcaseRows, Branches, CaseRows, Parts, Link, Header}
use Rattle.campl_types.specs.World.{World}
use Rattle.campl_types.specs.Matching.{number_of}
use Rattle.campl_types.specs.Patterns.{bound_in}
use Rattle.campl_types.specs.Free.{is_free}
use Rattle.campl_types.specs.Linear.{body_rows}
use Rattle.campl_peel.specs.Numbered.{part_at, picked, last_first, add_part}
use Rattle.campl_peel.specs.Plugging.{stands_in, side_in, links_to, without_link}
use Rattle.campl_peel.specs.Terms.{those}
use Rattle.campl_code.specs.Instructions as i
use Rattle.campl_code.specs.Instructions.{Instr}
use Rattle.campl_code.specs.Numbers.{Numbers, numbered}
use Rattle.campl_code.specs.Compiled.{decision_for}
use Rattle.campl_code.specs.Generated.{or_zero, code_of, code_of_all}
use Rattle.campl_code.specs.CaseDecisions.{cases_in, decisions_of, decisions_of_all}
use Rattle.campl_code_bodies.specs.Bodies.{Channels, without, binds}
use Rattle.campl_code_bodies.specs.BodyCode.{Made, Maker, prefixed, alone, joined, number, all_numbers, process_number, hcase_made, hcase_starts, start_of, listed, count_hcase, race_made, race_starts, case_made, case_starts, link_name, peels_made, link_code, command_made, body_made}
use Rattle.campl_code_bodies.specs.BodySizes.{body_size, hcase_size, race_size, cases_size, parts_size}
use Rattle.campl_gen_channels.specs.Numbers.{NumbersAlike}
use Rattle.campl_gen_channels.proofs.Alike.{alike-more, alike-without, alike-those, same-number, same-numbers}
use Rattle.campl_gen_bodies.specs.Making.{whole}

-- Makers

-- two makers make the same of bodies up to a size
abbrev pub Alike : ℕ → Maker → Maker → Type 0
Alike k make other =
    (body : Body) → body_size body ≤ k → (base dec free : ℕ) (ns : Numbers) (next : ℕ) (cs ds : Channels) → NumbersAlike cs ds
    → make body base dec free ns next cs ≡ other body base dec free ns next ds

-- each part's body is at most this large
abbrev pub AllFit : ℕ → Parts → Type 0
AllFit k b.no_parts = Unit {0}
AllFit k (b.part_then h body parts) = (body_size body ≤ k) × AllFit k parts

pub all-fit : (k : ℕ) (parts : Parts) → parts_size parts ≤ k → AllFit k parts
all-fit k b.no_parts l = tt
all-fit k (b.part_then h body parts) l = (omega (arith, l), all-fit k parts (omega (arith, l)))

pub part-fits : (k : ℕ) (parts : Parts) (p : ℕ) (rest : Parts) → AllFit k parts → AllFit k rest → AllFit k (add_part (part_at parts p) rest)
part-fits k b.no_parts p rest a r = r
part-fits k (b.part_then h body parts) zero rest a r = r
part-fits k (b.part_then h body parts) (suc zero) rest a r = (a.0, r)
part-fits k (b.part_then h body parts) (suc (suc p)) rest a r = part-fits k parts (suc p) rest a.1 r

pub picked-fit : (k : ℕ) (parts : Parts) (ps : List ℕ) → AllFit k parts → AllFit k (picked parts ps)
picked-fit k parts [] a = tt
picked-fit k parts (p ∷ ps) a = part-fits k parts p (picked parts ps) a (picked-fit k parts ps a)

no-size : (body : Body) → body_size body ≤ 0 → ⊥
no-size (b.Then a rest) l = omega (arith, l)
no-size (b.Halt at x) l = omega (arith, l)
no-size (b.Hcase at x rows) l = omega (arith, l)
no-size (b.Fork at x y left z right) l = omega (arith, l)
no-size (b.Plug at links parts) l = omega (arith, l)
no-size (b.Race at rows) l = omega (arith, l)
no-size (b.Case at a rows) l = omega (arith, l)
no-size (b.Identity at x negated y) l = omega (arith, l)
no-size (b.Call at x args inputs outputs) l = omega (arith, l)

module _ (w : World) (k : ℕ) (make other : Maker) (h : Alike k make other) where
  pub hcase-alike : (rows : HcaseRows) → hcase_size rows ≤ k → (base dec free : ℕ) (ns : Numbers) (next : ℕ) (cs ds : Channels) → NumbersAlike cs ds
      → hcase_made make rows base dec free ns next cs ≡ hcase_made other rows base dec free ns next ds
  hcase-alike b.no_hcase_rows l base dec free ns next cs ds same = refl
  hcase-alike (b.hcase_row_then c body rows) l base dec free ns next cs ds same =
      let m = other body base dec free ns next ds in
      ap (λ (n : Made). joined n (hcase_made make rows (base + length n.code) (dec + length n.decisions) free ns next cs)) (h body (omega (arith, l)) base dec free ns next cs ds same)
      ∙ ap (joined m) (hcase-alike rows (omega (arith, l)) (base + length m.code) (dec + length m.decisions) free ns next cs ds same)

  pub hcase-starts-alike : (rows : HcaseRows) → hcase_size rows ≤ k → (base dec free : ℕ) (ns : Numbers) (next : ℕ) (cs ds : Channels) → NumbersAlike cs ds
      → hcase_starts make rows base dec free ns next cs ≡ hcase_starts other rows base dec free ns next ds
  hcase-starts-alike b.no_hcase_rows l base dec free ns next cs ds same = refl
  hcase-starts-alike (b.hcase_row_then c body rows) l base dec free ns next cs ds same =
      let m = other body base dec free ns next ds in
      ap (λ (n : Made). (c.name, base) ∷ hcase_starts make rows (base + length n.code) (dec + length n.decisions) free ns next cs) (h body (omega (arith, l)) base dec free ns next cs ds same)
      ∙ ap (λ t. (c.name, base) ∷ t) (hcase-starts-alike rows (omega (arith, l)) (base + length m.code) (dec + length m.decisions) free ns next cs ds same)

  pub race-alike : (rows : Branches) → race_size rows ≤ k → (base dec free : ℕ) (ns : Numbers) (next : ℕ) (cs ds : Channels) → NumbersAlike cs ds
      → race_made make rows base dec free ns next cs ≡ race_made other rows base dec free ns next ds
  race-alike b.no_branches l base dec free ns next cs ds same = refl
  race-alike (b.branch_then x body rows) l base dec free ns next cs ds same =
      let m = other body base dec free ns next ds in
      ap (λ (n : Made). joined n (race_made make rows (base + length n.code) (dec + length n.decisions) free ns next cs)) (h body (omega (arith, l)) base dec free ns next cs ds same)
      ∙ ap (joined m) (race-alike rows (omega (arith, l)) (base + length m.code) (dec + length m.decisions) free ns next cs ds same)

  pub race-starts-alike : (rows : Branches) → race_size rows ≤ k → (base dec free : ℕ) (ns : Numbers) (next : ℕ) (cs ds : Channels) → NumbersAlike cs ds
      → race_starts make rows base dec free ns next cs ≡ race_starts other rows base dec free ns next ds
  race-starts-alike b.no_branches l base dec free ns next cs ds same = refl
  race-starts-alike (b.branch_then x body rows) l base dec free ns next cs ds same =
      let m = other body base dec free ns next ds in
      ap (λ (n : Made). base ∷ race_starts make rows (base + length n.code) (dec + length n.decisions) free ns next cs) (h body (omega (arith, l)) base dec free ns next cs ds same)
      ∙ ap (λ t. base ∷ t) (race-starts-alike rows (omega (arith, l)) (base + length m.code) (dec + length m.decisions) free ns next cs ds same)

  pub case-alike : (rows : CaseRows) → cases_size rows ≤ k → (base dec free : ℕ) (ns : Numbers) (next : ℕ) (cs ds : Channels) → NumbersAlike cs ds
      → case_made make rows base dec free ns next cs ≡ case_made other rows base dec free ns next ds
  case-alike b.no_case_rows l base dec free ns next cs ds same = refl
  case-alike (b.case_row_then q body rows) l base dec free ns next cs ds same =
      let m = other body base dec (free + length (bound_in q)) (numbered free (bound_in q) ns) next ds in
      ap (λ (n : Made). joined n (case_made make rows (base + length n.code) (dec + length n.decisions) free ns next cs))
      (h body (omega (arith, l)) base dec (free + length (bound_in q)) (numbered free (bound_in q) ns) next cs ds same)
      ∙ ap (joined m) (case-alike rows (omega (arith, l)) (base + length m.code) (dec + length m.decisions) free ns next cs ds same)

  pub case-starts-alike : (rows : CaseRows) → cases_size rows ≤ k → (base dec free : ℕ) (ns : Numbers) (next : ℕ) (cs ds : Channels) → NumbersAlike cs ds
      → case_starts make rows base dec free ns next cs ≡ case_starts other rows base dec free ns next ds
  case-starts-alike b.no_case_rows l base dec free ns next cs ds same = refl
  case-starts-alike (b.case_row_then q body rows) l base dec free ns next cs ds same =
      let m = other body base dec (free + length (bound_in q)) (numbered free (bound_in q) ns) next ds in
      ap (λ (n : Made). base ∷ case_starts make rows (base + length n.code) (dec + length n.decisions) free ns next cs)
      (h body (omega (arith, l)) base dec (free + length (bound_in q)) (numbered free (bound_in q) ns) next cs ds same)
      ∙ ap (λ t. base ∷ t) (case-starts-alike rows (omega (arith, l)) (base + length m.code) (dec + length m.decisions) free ns next cs ds same)

  -- a peel, the rest, and the child
  abbrev peel-made : (n : ℕ) (side : Side) (base dec : ℕ) (rest : Made) (child : ℕ → ℕ → Made) → Made
  peel-made n side base dec rest child =
      let to = base + 1 + length rest.code in
      let c = child to (dec + length rest.decisions) in
      record { code = i.Peel n side to ∷ (rest.code ++ c.code); decisions = rest.decisions ++ c.decisions }

  pub peels-alike : (links : List Link) (parts : Parts) → AllFit k parts → (base dec free : ℕ) (ns : Numbers) (next : ℕ) (cs ds : Channels) → NumbersAlike cs ds
      → peels_made make links parts base dec free ns next cs ≡ peels_made other links parts base dec free ns next ds
  peels-alike links b.no_parts l base dec free ns next cs ds same = refl
  peels-alike links (b.part_then g body b.no_parts) l base dec free ns next cs ds same = h body l.0 base dec free ns next cs ds same
  peels-alike links (b.part_then g body (b.part_then f c parts)) l base dec free ns next cs ds same =
      let x = link_name (links_to (b.part_then f c parts) g links) in
      let rest : Channels → Maker → Made = λ es m. peels_made m (without_link x links) (b.part_then f c parts) (base + 1) dec free ns (suc next) ((x, next) ∷ those (λ y. not (stands_in g y)) es) in
      let child : Channels → Maker → ℕ → ℕ → Made = λ es m to d. m body to d free ns (suc next) ((x, next) ∷ those (stands_in g) es) in
      let r : rest cs make ≡ rest ds other =
      peels-alike (without_link x links) (b.part_then f c parts) l.1 (base + 1) dec free ns (suc next) ((x, next) ∷ those (λ y. not (stands_in g y)) cs) ((x, next) ∷ those (λ y. not (stands_in g y)) ds)
      (alike-more x next (those (λ y. not (stands_in g y)) cs) (those (λ y. not (stands_in g y)) ds) (alike-those (λ y. not (stands_in g y)) cs ds same)) in
      let to = base + 1 + length (rest ds other).code in
      let d = dec + length (rest ds other).decisions in
      ap (λ (m : Made). peel-made next (side_in g x) base dec m (child cs make)) r
      ∙ ap (λ (m : Made). record { code = i.Peel next (side_in g x) to ∷ ((rest ds other).code ++ m.code); decisions = (rest ds other).decisions ++ m.decisions })
      (h body l.0 to d free ns (suc next) ((x, next) ∷ those (stands_in g) cs) ((x, next) ∷ those (stands_in g) ds) (alike-more x next (those (stands_in g) cs) (those (stands_in g) ds) (alike-those (stands_in g) cs ds same)))

  abbrev fork-made : (n m l base dec : ℕ) → Made → (ℕ → ℕ → Made) → Made
  fork-made n m l base dec first second =
      let to = base + 1 + length first.code in
      let r = second to (dec + length first.decisions) in
      record { code = i.Fork n m l to ∷ (first.code ++ r.code); decisions = first.decisions ++ r.decisions }

  command-alike : (body : Body) → body_size body ≤ suc k → (base dec free : ℕ) (ns : Numbers) (next : ℕ) (cs ds : Channels) → NumbersAlike cs ds
      → command_made w make body base dec free ns next cs ≡ command_made w other body base dec free ns next ds
  command-alike (b.Then (b.Put at a x) rest) l base dec free ns next cs ds same =
      let z = code_of w false a base dec free ns in
      ap (λ n. prefixed (z ++ i.Put n ∷ []) (decisions_of w a) (make rest (base + length z + 1) (dec + cases_in a) free ns next cs)) (same-number x.name cs ds same)
      ∙ ap (prefixed (z ++ i.Put (number x.name ds) ∷ []) (decisions_of w a)) (h rest (omega (arith, l)) (base + length z + 1) (dec + cases_in a) free ns next cs ds same)
  command-alike (b.Then (b.Get at v x) rest) l base dec free ns next cs ds same =
      ap (λ n. prefixed (i.Get n free ∷ []) [] (make rest (base + 1) dec (suc free) (binds v free ns) next cs)) (same-number x.name cs ds same)
      ∙ ap (prefixed (i.Get (number x.name ds) free ∷ []) []) (h rest (omega (arith, l)) (base + 1) dec (suc free) (binds v free ns) next cs ds same)
  command-alike (b.Then (b.Hput at c x) rest) l base dec free ns next cs ds same =
      ap (λ n. prefixed (i.Pick n (or_zero (number_of w c.name)) ∷ []) [] (make rest (base + 1) dec free ns next cs)) (same-number x.name cs ds same)
      ∙ ap (prefixed (i.Pick (number x.name ds) (or_zero (number_of w c.name)) ∷ []) []) (h rest (omega (arith, l)) (base + 1) dec free ns next cs ds same)
  command-alike (b.Then (b.Split at x y z) rest) l base dec free ns next cs ds same =
      let inner : Channels → Channels = λ es. (z.name, suc next) ∷ (y.name, next) ∷ without x.name es in
      ap (λ n. prefixed (i.Split n next (suc next) ∷ []) [] (make rest (base + 1) dec free ns (suc (suc next)) (inner cs))) (same-number x.name cs ds same)
      ∙ ap (prefixed (i.Split (number x.name ds) next (suc next) ∷ []) [])
      (h rest (omega (arith, l)) (base + 1) dec free ns (suc (suc next)) (inner cs) (inner ds)
      (alike-more z.name (suc next) ((y.name, next) ∷ without x.name cs) ((y.name, next) ∷ without x.name ds) (alike-more y.name next (without x.name cs) (without x.name ds) (alike-without x.name cs ds same))))
  command-alike (b.Then (b.Close at x) rest) l base dec free ns next cs ds same =
      ap (λ n. prefixed (i.Close n ∷ []) [] (make rest (base + 1) dec free ns next (without x.name cs))) (same-number x.name cs ds same)
      ∙ ap (prefixed (i.Close (number x.name ds) ∷ []) []) (h rest (omega (arith, l)) (base + 1) dec free ns next (without x.name cs) (without x.name ds) (alike-without x.name cs ds same))
  command-alike (b.Halt at None) l base dec free ns next cs ds same = refl
  command-alike (b.Halt at (Some x)) l base dec free ns next cs ds same = ap (λ n. alone (i.Halt (Some n) ∷ []) []) (same-number x.name cs ds same)
  command-alike (b.Hcase at x rows) l base dec free ns next cs ds same =
      let count = count_hcase w rows in
      ap (λ n. prefixed (i.Offer n (listed (start_of w (hcase_starts make rows (base + 1) dec free ns next cs)) 0 count) ∷ []) [] (hcase_made make rows (base + 1) dec free ns next cs)) (same-number x.name cs ds same)
      ∙ ap (λ t. prefixed (i.Offer (number x.name ds) (listed (start_of w t) 0 count) ∷ []) [] (hcase_made make rows (base + 1) dec free ns next cs)) (hcase-starts-alike rows (omega (arith, l)) (base + 1) dec free ns next cs ds same)
      ∙ ap (prefixed (i.Offer (number x.name ds) (listed (start_of w (hcase_starts other rows (base + 1) dec free ns next ds)) 0 count) ∷ []) []) (hcase-alike rows (omega (arith, l)) (base + 1) dec free ns next cs ds same)
  command-alike (b.Fork at x y left z right) l base dec free ns next cs ds same =
      let inner : Channels → Channels = λ es. (y.name, next) ∷ those (λ c. is_free c left) (without x.name es) in
      let outer : Channels → Channels = λ es. (z.name, suc next) ∷ those (λ c. not (is_free c left)) (without x.name es) in
      let first = other left (base + 1) dec free ns (suc (suc next)) (inner ds) in
      let to = base + 1 + length first.code in
      ap (λ n. fork-made n next (suc next) base dec (make left (base + 1) dec free ns (suc (suc next)) (inner cs)) (λ q d. make right q d free ns (suc (suc next)) (outer cs))) (same-number x.name cs ds same)
      ∙ ap (λ m. fork-made (number x.name ds) next (suc next) base dec m (λ q d. make right q d free ns (suc (suc next)) (outer cs)))
      (h left (omega (arith, l)) (base + 1) dec free ns (suc (suc next)) (inner cs) (inner ds)
      (alike-more y.name next (those (λ c. is_free c left) (without x.name cs)) (those (λ c. is_free c left) (without x.name ds)) (alike-those (λ c. is_free c left) (without x.name cs) (without x.name ds) (alike-without x.name cs ds same))))
      ∙ ap (λ (r : Made). record { code = i.Fork (number x.name ds) next (suc next) to ∷ (first.code ++ r.code); decisions = first.decisions ++ r.decisions })
      (h right (omega (arith, l)) to (dec + length first.decisions) free ns (suc (suc next)) (outer cs) (outer ds)
      (alike-more z.name (suc next) (those (λ c. not (is_free c left)) (without x.name cs)) (those (λ c. not (is_free c left)) (without x.name ds)) (alike-those (λ c. not (is_free c left)) (without x.name cs) (without x.name ds) (alike-without x.name cs ds same))))
  command-alike (b.Plug at links parts) l base dec free ns next cs ds same =
      peels-alike links (last_first links parts) (picked-fit k parts _ (all-fit k parts (omega (arith, l)))) base dec free ns next cs ds same
  command-alike (b.Race at rows) l base dec free ns next cs ds same =
      ap (λ t. prefixed (i.Race t ∷ []) [] (race_made make rows (base + 1) dec free ns next cs)) (race-starts-alike rows (omega (arith, l)) (base + 1) dec free ns next cs ds same)
      ∙ ap (prefixed (i.Race (race_starts other rows (base + 1) dec free ns next ds) ∷ []) []) (race-alike rows (omega (arith, l)) (base + 1) dec free ns next cs ds same)
  command-alike (b.Case at a rows) l base dec free ns next cs ds same =
      let z = code_of w false a base dec free ns in
      let m = dec + cases_in a in
      let q = base + length z + 1 in
      let decisions = decisions_of w a ++ decision_for w 1 (body_rows rows) ∷ [] in
      ap (λ t. prefixed (z ++ i.Case m free t ∷ []) decisions (case_made make rows q (m + 1) free ns next cs)) (case-starts-alike rows (omega (arith, l)) q (m + 1) free ns next cs ds same)
      ∙ ap (prefixed (z ++ i.Case m free (case_starts other rows q (m + 1) free ns next ds) ∷ []) decisions) (case-alike rows (omega (arith, l)) q (m + 1) free ns next cs ds same)
  command-alike (b.Identity at x negated y) l base dec free ns next cs ds same =
      ap (λ n. alone (link_code negated n (number y.name cs) ∷ []) []) (same-number x cs ds same) ∙ ap (λ n. alone (link_code negated (number x ds) n ∷ []) []) (same-number y.name cs ds same)
  command-alike (b.Call at x args inputs outputs) l base dec free ns next cs ds same =
      ap (λ ns'. alone (code_of_all w args base dec free ns ++ i.Go (or_zero (process_number w x)) (ns' ++ all_numbers outputs cs) ∷ []) (decisions_of_all w args)) (same-numbers inputs cs ds same)
      ∙ ap (λ ns'. alone (code_of_all w args base dec free ns ++ i.Go (or_zero (process_number w x)) (all_numbers inputs ds ++ ns') ∷ []) (decisions_of_all w args)) (same-numbers outputs cs ds same)

pub alike : (w : World) (k n m : ℕ) → k ≤ n → k ≤ m → Alike k (body_made w n) (body_made w m)
alike w zero n m l r body fits base dec free ns next cs ds same = absurd (no-size body fits)
alike w (suc k) zero m l r body fits base dec free ns next cs ds same = absurd (let none : ⊥ = omega (arith, l) in none)
alike w (suc k) (suc n) zero l r body fits base dec free ns next cs ds same = absurd (let none : ⊥ = omega (arith, r) in none)
alike w (suc k) (suc n) (suc m) l r body fits base dec free ns next cs ds same =
    command-alike w k (body_made w n) (body_made w m) (alike w k n m (omega (arith, l)) (omega (arith, r))) body fits base dec free ns next cs ds same

-- with any number that is large enough as with the body's size
pub whole-alike : (w : World) (k : ℕ) → Alike k (body_made w k) (whole w)
whole-alike w k body fits base dec free ns next cs ds same = alike w (body_size body) k (body_size body) fits (omega arith) body (omega arith) base dec free ns next cs ds same

pub whole-same : (w : World) (body : Body) (base dec free : ℕ) (ns : Numbers) (next : ℕ) (cs ds : Channels) → NumbersAlike cs ds → whole w body base dec free ns next cs ≡ whole w body base dec free ns next ds
whole-same w body base dec free ns next cs ds same = alike w (body_size body) (body_size body) (body_size body) (omega arith) (omega arith) body (omega arith) base dec free ns next cs ds same
