-- The rows of a typed `hcase` have the numbers of the constructors.
use Rattle.std.proofs.Common.{◌≡◌, ◌∙◌, ◌≤◌, ◌&&◌, ◌||◌, refl, sym, ap, subst, arith, ℕ, zero, suc, max, Bool, true, false, not, [], ◌∷◌, Option, Some, None, if◌then◌else◌, length, slice_get, eqb-true, true≢false}
use Rattle.std.specs.Prelude.{IsTrue}
use Rattle.std.proofs.lemmas.Option.{slice_get_within}
use Rattle.campl_tree.specs.declared.place.Ident.{Ident}
use Rattle.campl_tree.specs.declared.service.Side.{Side}
use Rattle.campl_tree.specs.Plain.ChanType.{ChanType}
use Rattle.campl_tree.specs.Plain.Process as b
use Rattle.campl_tree.specs.Plain.Process.{Body, HcaseRows}
use Rattle.campl_tree.specs.Plain.Decl.{Program}
use Rattle.campl_types.specs.Names.{Name, same_name, found, is_among, are_distinct}
use Rattle.campl_types.proofs.Names.{same-is, same-itself}
use Rattle.campl_types.specs.Matching.{number_of, is_number}
use Rattle.campl_types.specs.WellDeclared.{IsWellDeclared}
use Rattle.campl_types.specs.World.{World, world_of}
use Rattle.campl_types.specs.Polarity.{Choices}
use Rattle.campl_types.specs.Fits.{Vars}
use Rattle.campl_types.specs.Held.{Held}
use Rattle.campl_types.specs.Linear.{HasEachOnce, RowsAreWellFormed, row_names}
use Rattle.campl_types.specs.Matching.{row_picked}
use Rattle.campl_code.specs.Generated.{or_zero}
use Rattle.campl_code_bodies.specs.BodyCode.{count_hcase}
use Rattle.campl_types.proofs.Choices.{AreChoices, choice-number}
use Rattle.campl_types.proofs.DeclaredOnce.{protocols-are-known, coprotocols-are-known}
use Rattle.campl_types.proofs.EachOnce.{each-one, one-row}

-- what is found stands somewhere
found-at : (cs : Choices) (k : Name) (y : ChanType) → found k cs ≡ Some y → (n : ℕ) × (slice_get cs n ≡ Some (k, y))
found-at [] k y i = absurd (cc i)
found-at (c ∷ cs) k y i = go (same_name k c.0) refl i (found-at cs k y)
  where
    go : (t : Bool) → same_name k c.0 ≡ t → (if t then Some c.1 else found k cs) ≡ Some y → (found k cs ≡ Some y → (n : ℕ) × (slice_get cs n ≡ Some (k, y))) → (n : ℕ) × (slice_get (c ∷ cs) n ≡ Some (k, y))
    go true e j later = let q : c.1 ≡ y = cc j in let x : c.0 ≡ k = sym (same-is k c.0 e) in (0, (λ t. Some (x t, q t)))
    go false e j later = let (n, at) = later j in (suc n, at)

drop-second : (a c d g : Bool) → IsTrue (not (a || c) && (not d && g)) → (a ≡ false) × IsTrue (not c && g)
drop-second true c d g h = absurd (true≢false (sym h))
drop-second false true d g h = absurd (true≢false (sym h))
drop-second false false true g h = absurd (true≢false (sym h))
drop-second false false false g h = (refl, h)

max-most : (a c n : ℕ) → a ≤ n → c ≤ n → max a c ≤ n
max-most a c n h k = grind arith

past : (cs : Choices) (m : ℕ) → slice_get cs m ≡ None → length cs ≤ m
past [] m h = omega arith
past (c ∷ cs) zero h = absurd (cc h)
past (c ∷ cs) (suc m) h = omega (arith, past cs m h)

module _ (source : Program) (good : IsWellDeclared source) (cs : Choices) (are : AreChoices (world_of source) cs) where
  abbrev w : World
  w = world_of source

  number : (n : ℕ) (k : Name) (y : ChanType) → slice_get cs n ≡ Some (k, y) → number_of w k ≡ Some n
  number = choice-number w (protocols-are-known source good) (coprotocols-are-known source good) cs are

  -- a choice's place is its number
  pub placed : (k : Name) (y : ChanType) → found k cs ≡ Some y → (n : ℕ) × (slice_get cs n ≡ Some (k, y)) × (number_of w k ≡ Some n)
  placed k y h =
      let r = found-at cs k y h in
      (r.0, r.1, number r.0 k y r.1)

  -- no later row has the number of this one
  pub later-none : (vs : Vars) (held : Held) (x : Name) (s : Side) (k : Ident) (first : Body) (y : ChanType) (m : ℕ) (rows : HcaseRows) → found k.name cs ≡ Some y → number_of w k.name ≡ Some m → HasEachOnce (b.hcase_row_then k first rows) [] → RowsAreWellFormed w vs held x s cs rows → row_picked w m rows ≡ None
  later-none vs held x s k first y m b.no_hcase_rows f is once well = refl
  later-none vs held x s k first y m (b.hcase_row_then k2 body rows) f is once well = go (drop-second (same_name k.name k2.name) (is_among k.name (row_names rows)) (is_among k2.name (row_names rows)) (are_distinct (row_names rows)) once.0).0 (is_number (number_of w k2.name) m) refl (later-none vs held x s k first y m rows f is ((drop-second (same_name k.name k2.name) (is_among k.name (row_names rows)) (is_among k2.name (row_names rows)) (are_distinct (row_names rows)) once.0).1, refl) well.3)
    where
      go : same_name k.name k2.name ≡ false → (t : Bool) → is_number (number_of w k2.name) m ≡ t → row_picked w m rows ≡ None → (if t then Some body else row_picked w m rows) ≡ None
      go apart false h later = later
      go apart true h later =
          let p = placed k.name y f in
          let q = placed k2.name well.0 well.1 in
          let qm : q.0 ≡ m = eqb-true q.0 m (sym (ap (λ o. is_number o m) q.2) ∙ h) in
          let pm : p.0 ≡ m = cc (sym p.2 ∙ is) in
          let one : slice_get cs m ≡ Some (k.name, y) = subst (λ n. slice_get cs n ≡ Some (k.name, y)) pm p.1 in
          let two : slice_get cs m ≡ Some (k2.name, well.0) = subst (λ n. slice_get cs n ≡ Some (k2.name, well.0)) qm q.1 in
          let pair : ◌≡◌ {A = Name × ChanType} (k.name, y) (k2.name, well.0) = cc (sym one ∙ two) in
          let same : k.name ≡ k2.name = ap (λ (p : Name × ChanType). p.0) pair in
          absurd (true≢false (sym (subst (λ (z : Name). same_name k.name z ≡ true) same (same-itself k.name)) ∙ apart))

  -- the numbers are below the number of choices
  count-below : (vs : Vars) (held : Held) (x : Name) (s : Side) (rows : HcaseRows) → RowsAreWellFormed w vs held x s cs rows → count_hcase w rows ≤ length cs
  count-below vs held x s b.no_hcase_rows well = omega arith
  count-below vs held x s (b.hcase_row_then k body rows) well =
      let p = placed k.name well.0 well.1 in
      let first : or_zero (number_of w k.name) ≡ p.0 = ap or_zero p.2 in
      max-most (suc (or_zero (number_of w k.name))) (count_hcase w rows) (length cs) (omega (arith, first, slice_get_within cs p.0 (k.name, well.0) p.1)) (count-below vs held x s rows well.3)

  -- where no row has a number, there is no constructor with it
  pub none-above : (vs : Vars) (held : Held) (x : Name) (s : Side) (rows : HcaseRows) → HasEachOnce rows cs → RowsAreWellFormed w vs held x s cs rows → (m : ℕ) → row_picked w m rows ≡ None → count_hcase w rows ≤ m
  none-above vs held x s rows once well m none = by (slice_get cs m) refl
    where
      by : (o : Option (Name × ChanType)) → slice_get cs m ≡ o → count_hcase w rows ≤ m
      by (Some c) h =
          let r = one-row w m c.0 c.1 rows (number m c.0 c.1 h) (each-one rows cs m c.0 c.1 once h) in
          absurd (cc (sym r.1 ∙ none))
      by None h = omega (arith, count-below vs held x s rows well, past cs m h)
