use Rattle.std.proofs.Common.{◌≡◌, List, Some, ap, slice_get, subst, sym, ◌∙◌, arith}
use Rattle.std.proofs.lemmas.Option.{slice_get-get_or, slice_get_past}
use Rattle.campl_parts.specs.declared.entry.Entry.{Entry}
use Rattle.campl_parts.specs.declared.journal.Stored.{Stored}
use Rattle.campl_parts.specs.declared.journal.Stored.TheVariants.{Full}
use Rattle.campl_parts.proofs.Journals.{full-at, full-there}
use Rattle.campl_parts.proofs.journal.Journal.entry.Goals as goal

pub returns-in-None-get : goal.returns-in-None-get
returns-in-None-get c =
    let l = c.in-Some-Full.ensures.lookup.3 in
    let there : slice_get c.self.inside.stored.items c.args.at ≡ Some (Full c.in-Some-Full.place) =
    ap (λ (l : List Stored). slice_get l c.args.at) (sym c.deref.ensures.value) ∙ (slice_get-get_or c.deref.result.now c.args.at c.in-Some-Full.field-0.now l.0 ∙ ap Some (sym (l.1 c.in-Some-Full.field-0.now) ∙ c.in-Some-Full.field-0-is)) in
    absurd (full-there c.self.inside.full.items c.self.inside.stored.items c.args.at c.in-Some-Full.place c.self.invariant.0 there
    (ap (λ (l : List Entry). slice_get l c.in-Some-Full.place) (sym c.deref-in-Some-Full.ensures.value) ∙ slice_get_past c.deref-in-Some-Full.result.now c.in-Some-Full.place c.in-None-get.ensures.lookup.3))

pub returns-in-Ok-copy : goal.returns-in-Ok-copy
returns-in-Ok-copy c =
    let l = c.in-Some-Full.ensures.lookup.3 in
    let m = c.in-Some.ensures.lookup.3 in
    let there : slice_get c.self.inside.stored.items c.args.at ≡ Some (Full c.in-Some-Full.place) =
    ap (λ (l : List Stored). slice_get l c.args.at) (sym c.deref.ensures.value) ∙ (slice_get-get_or c.deref.result.now c.args.at c.in-Some-Full.field-0.now l.0 ∙ ap Some (sym (l.1 c.in-Some-Full.field-0.now) ∙ c.in-Some-Full.field-0-is)) in
    let is : slice_get c.self.inside.full.items c.in-Some-Full.place ≡ Some c.in-Some.entry.now =
    ap (λ (l : List Entry). slice_get l c.in-Some-Full.place) (sym c.deref-in-Some-Full.ensures.value) ∙ (slice_get-get_or c.deref-in-Some-Full.result.now c.in-Some-Full.place c.in-Some.entry.now m.0 ∙ ap Some (sym (m.1 c.in-Some.entry.now))) in
    ap Some c.in-Ok-copy.ensures ∙ (sym (full-at c.self.inside.full.items c.self.inside.stored.items c.args.at c.in-Some-Full.place c.in-Some.entry.now c.self.invariant.0 there is) ∙ ap (λ j. slice_get j.entries c.args.at) c.self.view_is)
