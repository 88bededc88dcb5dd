-- In a well declared source the type variables of a constructor's parts are parameters of its data type.
use Rattle.std.proofs.Common.{◌≡◌, ◌∙◌, ◌⊎◌, inl, inr, refl, sym, ap, subst, ℕ, zero, suc, Bool, true, false, List, [], ◌∷◌, Some, None, slice_get, true≢false}
use Rattle.campl_tree.specs.Plain.SeqType.{SeqType, SeqTypes, no_types, type_then}
use Rattle.campl_tree.specs.Plain.SeqType as s
use Rattle.campl_tree.specs.Plain.Decl.{Program, Data, DataDecl, DataConstructor}
use Rattle.campl_types.specs.declared.fault.NameFault.{NameFault}
use Rattle.campl_types.specs.Names.{same_name, is_among, Within}
use Rattle.campl_types.specs.Substitution.{variables_of, variables_of_all}
use Rattle.campl_types.specs.Known.{Heading, in_seq, in_seqs, each, in_decl}
use Rattle.campl_types.specs.Values.{PartsAreKnown}
use Rattle.campl_types.specs.WellDeclared.{IsWellDeclared}
use Rattle.campl_types.specs.World.{World, world_of, names_of, variables_of_list, OfData}
use Rattle.campl_types.proofs.Names.{same-is}
use Rattle.campl_types.proofs.Truth.{or-split}
use Rattle.campl_types.proofs.Among.{within-both}
use Rattle.campl_types.proofs.Listed.{IsIn}
use Rattle.campl_types.proofs.DeclaredOnce.{no-first, no-second, once-declared, uses-known, types-are-known, declared-of}

mutual
  known-variables : (w : World) (h : Heading) (t : SeqType) → in_seq w h t ≡ [] → Within (variables_of t) h.parameters
  known-variables w h s.Int i x j = absurd (true≢false (sym j))
  known-variables w h s.Char i x j = absurd (true≢false (sym j))
  known-variables w h s.Bool i x j = absurd (true≢false (sym j))
  known-variables w h (s.List t) i x j = known-variables w h t i x j
  known-variables w h (s.Pair t u) i x j =
      within-both (variables_of t) (variables_of u) h.parameters (known-variables w h t (no-first (in_seq w h t) (in_seq w h u) i)) (known-variables w h u (no-second (in_seq w h t) (in_seq w h u) i)) x j
  known-variables w h (s.Named at y ts) i x j = all-known-variables w h ts (no-second _ (in_seqs w h ts) i) x j
  known-variables w h (s.Variable at y) i x j = go (is_among y h.parameters) refl
    where
      go : (b : Bool) → is_among y h.parameters ≡ b → is_among x h.parameters ≡ true
      go true e = own (or-split (same_name x y) false j)
        where
          own : (same_name x y ≡ true) ⊎ (false ≡ true) → is_among x h.parameters ≡ true
          own (inl k) = subst (λ z. is_among z h.parameters ≡ true) (sym (same-is x y k)) e
          own (inr k) = absurd (true≢false (sym k))
      go false e = absurd (cc (rw e at i))

  all-known-variables : (w : World) (h : Heading) (ts : SeqTypes) → in_seqs w h ts ≡ [] → Within (variables_of_all ts) h.parameters
  all-known-variables w h no_types i x j = absurd (true≢false (sym j))
  all-known-variables w h (type_then t ts) i x j =
      within-both (variables_of t) (variables_of_all ts) h.parameters (known-variables w h t (no-first (in_seq w h t) (in_seqs w h ts) i)) (all-known-variables w h ts (no-second (in_seq w h t) (in_seqs w h ts) i)) x j

listed-variables : (w : World) (h : Heading) (ts : List SeqType) → each (in_seq w h) ts ≡ [] → Within (variables_of_list ts) h.parameters
listed-variables w h [] i x j = absurd (true≢false (sym j))
listed-variables w h (t ∷ ts) i x j =
    within-both (variables_of t) (variables_of_list ts) h.parameters (known-variables w h t (no-first (in_seq w h t) (each (in_seq w h) ts) i)) (listed-variables w h ts (no-second (in_seq w h t) (each (in_seq w h) ts) i)) x j

-- what is judged of each is judged of one
pub each-none : {A : Type 0} (f : A → List NameFault) (xs : List A) (x : A) → each f xs ≡ [] → IsIn x xs → f x ≡ []
each-none f [] x i m = absurd m
each-none f (y ∷ ys) x i (inl m) = ap f m ∙ no-first (f y) (each f ys) i
each-none f (y ∷ ys) x i (inr m) = each-none f ys x (no-second (f y) (each f ys) i) m

at-place : {A : Type 0} (xs : List A) (n : ℕ) (x : A) → slice_get xs n ≡ Some x → IsIn x xs
at-place [] n x i = absurd (cc i)
at-place (y ∷ ys) zero x i = let e : x ≡ y = cc i in inl e
at-place (y ∷ ys) (suc n) x i = inr (at-place ys n x i)

-- no data type is of the prelude
of-source : (source : Program) (d : DataDecl) → IsIn (Data d) (world_of source) → IsIn (Data d) source
of-source source d (inl i) = absurd (cc i)
of-source source d (inr (inl i)) = absurd (cc i)
of-source source d (inr (inr i)) = i

-- so in each well declared source
pub parts-are-known : (source : Program) → IsWellDeclared source → PartsAreKnown (world_of source)
parts-are-known source i x d n k j =
    let w : World = world_of source in
    let there : IsIn (Data d) source = of-source source d (declared-of w (once-declared source i) x (OfData d n k) j) in
    let lines = each-none (in_decl w) source (Data d) (uses-known source i) there in
    let line : IsIn k d.constructors = at-place d.constructors n k (types-are-known source i x d n k j).1 in
    let heading : Heading = record { parameters = names_of d.parameters; local = None } in
    listed-variables w heading k.parts (each-none (λ (c : DataConstructor). each (in_seq w heading) c.parts) d.constructors k lines line)
