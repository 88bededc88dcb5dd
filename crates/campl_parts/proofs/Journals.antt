-- A journal's entries stay as it grows.
use Rattle.std.proofs.Common.{◌≡◌, ◌<◌, ◌+◌, ℕ, zero, suc, List, [], ◌∷◌, ◌++◌, Option, Some, None, refl, sym, ap, ◌∙◌, arith, get_or, length, option_map, slice_get, subst}
use Rattle.std.proofs.lemmas.List.{length-append, map-append}
use Rattle.std.proofs.lemmas.List.Sums.{sum_by-append, sum_by-cons}
use Rattle.std.proofs.Math.ListN.{get_or-append}
use Rattle.std.proofs.Math.Seq.{get_or-append_seam}
use Rattle.std.proofs.lemmas.Option.{slice_get-get_or, slice_get-map}
use Rattle.campl_parts.specs.declared.entry.Entry.{Entry}
use Rattle.campl_parts.specs.declared.entry.Kind.TheVariants as kind
use Rattle.campl_parts.specs.declared.journal.Brief.{Brief}
use Rattle.campl_parts.specs.declared.journal.Brief.TheVariants as b
use Rattle.campl_parts.specs.declared.journal.Stored.{Stored}
use Rattle.campl_parts.specs.declared.journal.Stored.TheVariants as s
use Rattle.campl_parts.specs.Entries.{simple}
use Rattle.campl_parts.specs.Journal.{AreKept, IsKept, brief_entry, entries_of, stored_entry, weight_of}

-- the weight of one more
pub weight-on : (entries : List Entry) (entry : Entry) → weight_of (entries ++ entry ∷ []) ≡ weight_of entries + entry.weight
weight-on entries entry =
    let a = sum_by-append (λ (e : Entry). e.weight) entries (entry ∷ []) in
    let b = sum_by-cons (λ (e : Entry). e.weight) entry [] in
    omega (arith, a, b)

-- a step that is told briefly weighs one
brief-weight : (p : ℕ) (brief : Brief) → (brief_entry p brief).weight ≡ 1
brief-weight p (b.Put end value) = refl
brief-weight p (b.Get end value) = refl
brief-weight p (b.Pick end n) = refl
brief-weight p (b.Offer end n) = refl
brief-weight p b.Case = refl
brief-weight p b.Call = refl

pub weight-brief : (entries : List Entry) (p : ℕ) (brief : Brief) → weight_of (entries ++ brief_entry p brief ∷ []) ≡ weight_of entries + 1
weight-brief entries p brief = let one = brief-weight p brief in let on = weight-on entries (brief_entry p brief) in omega (arith, on, one)

-- one that is there is kept
kept-at : (full : List Entry) (stored : List Stored) (at : ℕ) (one : Stored) → AreKept full stored → slice_get stored at ≡ Some one → IsKept full one
kept-at full [] at one h e = absurd (cc e)
kept-at full (x ∷ stored) zero one h e = let same : x ≡ one = cc e in subst (IsKept full) same h.0
kept-at full (x ∷ stored) (suc at) one h e = kept-at full stored at one h.1 e

-- the entry that is kept at a place
pub brief-at : (full : List Entry) (stored : List Stored) (at : ℕ) (one : Stored) → slice_get stored at ≡ Some one → slice_get (entries_of full stored) at ≡ Some (stored_entry full one)
brief-at full stored at one e = slice_get-map (stored_entry full) stored at ∙ ap (option_map (stored_entry full)) e

pub full-at : (full : List Entry) (stored : List Stored) (at place : ℕ) (entry : Entry) → AreKept full stored → slice_get stored at ≡ Some (s.Full place) → slice_get full place ≡ Some entry → slice_get (entries_of full stored) at ≡ Some entry
full-at full stored at place entry h e f = brief-at full stored at (s.Full place) e ∙ (sym (slice_get-get_or full place (simple 0 kind.Work None None) (kept-at full stored at (s.Full place) h e)) ∙ f)

pub full-there : (full : List Entry) (stored : List Stored) (at place : ℕ) → AreKept full stored → slice_get stored at ≡ Some (s.Full place) → slice_get full place ≡ None → ⊥
full-there full stored at place h e f = cc (sym f ∙ slice_get-get_or full place (simple 0 kind.Work None None) (kept-at full stored at (s.Full place) h e))

-- one more at the end
pub kept-on : (full : List Entry) (stored : List Stored) (one : Stored) → AreKept full stored → IsKept full one → AreKept full (stored ++ one ∷ [])
kept-on full [] one h k = (k, tt)
kept-on full (x ∷ stored) one h k = (h.0, kept-on full stored one h.1 k)

pub entries-on : (full : List Entry) (stored : List Stored) (one : Stored) → entries_of full (stored ++ one ∷ []) ≡ entries_of full stored ++ stored_entry full one ∷ []
entries-on full stored one = map-append (stored_entry full) stored (one ∷ [])

module _ (full : List Entry) (e : Entry) where
  -- one full entry more
  one-kept : (one : Stored) → IsKept full one → IsKept (full ++ e ∷ []) one
  one-kept (s.Brief p brief) h = tt
  one-kept (s.Full place) h = let l = length-append full (e ∷ []) in omega (arith, l, h)

  pub kept-more : (stored : List Stored) → AreKept full stored → AreKept (full ++ e ∷ []) stored
  kept-more [] h = tt
  kept-more (one ∷ stored) h = (one-kept one h.0, kept-more stored h.1)

  one-same : (one : Stored) → IsKept full one → stored_entry (full ++ e ∷ []) one ≡ stored_entry full one
  one-same (s.Brief p brief) h = refl
  one-same (s.Full place) h = get_or-append full (e ∷ []) (simple 0 kind.Work None None) place h

  entries-same : (stored : List Stored) → AreKept full stored → entries_of (full ++ e ∷ []) stored ≡ entries_of full stored
  entries-same [] h = refl
  entries-same (one ∷ stored) h = (λ i. one-same one h.0 i ∷ entries-same stored h.1 i)

  pub kept-full : (stored : List Stored) → AreKept full stored → AreKept (full ++ e ∷ []) (stored ++ s.Full (length full) ∷ [])
  kept-full stored h = kept-on (full ++ e ∷ []) stored (s.Full (length full)) (kept-more stored h) (let l = length-append full (e ∷ []) in omega (arith, l))

  pub entries-full : (stored : List Stored) → AreKept full stored → entries_of (full ++ e ∷ []) (stored ++ s.Full (length full) ∷ []) ≡ entries_of full stored ++ e ∷ []
  entries-full stored h = entries-on (full ++ e ∷ []) stored (s.Full (length full)) ∙ (λ i. entries-same stored h i ++ get_or-append_seam full e [] (simple 0 kind.Work None None) i ∷ [])
