use Rattle.std.proofs.Common.{◌≡◌, ◌+◌, ap, subst, sym, ◌∙◌, arith}
use Rattle.campl_parts.specs.declared.journal.Stored.TheVariants.{Brief}
use Rattle.campl_parts.specs.Journal.{AreKept, entries_of, weight_of}
use Rattle.campl_parts.proofs.Journals.{entries-on, kept-on, weight-brief}
use Rattle.campl_parts.proofs.journal.Journal.note.Goals as goal

pub invariant_of-self : goal.invariant_of-self
invariant_of-self c =
    let full = c.self.inside.full.items in
    let stored = c.self.inside.stored.items in
    let one = Brief c.args.process c.args.brief in
    let items = c.push_reserved.ensures.items in
    let weight = c.self.invariant.1 in
    let more : weight_of (entries_of full c.push_reserved.new.self.items) ≡ weight_of (entries_of full stored) + 1 =
    ap (λ l. weight_of (entries_of full l)) items ∙ (ap weight_of (entries-on full stored one) ∙ weight-brief (entries_of full stored) c.args.process c.args.brief) in
    (subst (λ l. AreKept full l) (sym items) (kept-on full stored one c.self.invariant.0 tt), ap (λ n. n + 1) weight ∙ sym more)
