use Rattle.std.proofs.Common.{◌≡◌, ◌∷◌, [], ◌++◌, ◌+◌, List, length, ap, subst, sym, ◌∙◌, arith}
use Rattle.campl_parts.specs.declared.entry.Entry.{Entry}
use Rattle.campl_parts.specs.declared.journal.Stored.{Stored}
use Rattle.campl_parts.specs.declared.journal.Stored.TheVariants.{Full}
use Rattle.campl_parts.specs.Journal.{AreKept, entries_of, weight_of}
use Rattle.campl_parts.proofs.Journals.{entries-full, kept-full, weight-on}
use Rattle.campl_parts.proofs.journal.Journal.record.Goals as goal

abbrev grown : (c : goal.After-push_reserved-2) → entries_of c.push_reserved.new.self.items c.push_reserved-2.new.self.items ≡ entries_of c.self.inside.full.items c.self.inside.stored.items ++ c.args.entry ∷ []
grown c =
    let full = c.self.inside.full.items in
    let stored = c.self.inside.stored.items in
    let there = c.len-place.ensures ∙ c.self.inside.full.ok.0 in
    (λ i. entries_of (c.push_reserved.ensures.items i) (c.push_reserved-2.ensures.items i)) ∙
    ((λ i. entries_of (full ++ c.args.entry ∷ []) (stored ++ Full (there i) ∷ [])) ∙ entries-full full c.args.entry stored c.self.invariant.0)

pub invariant_of-self : goal.invariant_of-self
invariant_of-self c =
    let full = c.self.inside.full.items in
    let stored = c.self.inside.stored.items in
    let there = c.len-place.ensures ∙ c.self.inside.full.ok.0 in (
      subst (λ (l : List Stored). AreKept c.push_reserved.new.self.items l) (sym c.push_reserved-2.ensures.items)
          (subst (λ (f : List Entry). AreKept f (stored ++ Full c.len-place.result ∷ [])) (sym c.push_reserved.ensures.items)
          (subst (λ n. AreKept (full ++ c.args.entry ∷ []) (stored ++ Full n ∷ [])) (sym there) (kept-full full c.args.entry stored c.self.invariant.0))),
      (λ i. c.self.invariant.1 i + c.from.ensures i) ∙ sym (ap weight_of (grown c) ∙ weight-on (entries_of full stored) c.args.entry),
    )

pub returns : goal.returns
returns c = grown c ∙ ap (λ l. l ++ c.args.entry ∷ []) (ap (λ j. j.entries) c.self.view_is)
