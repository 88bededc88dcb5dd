-- Where ends stand when a node gives up some of its own.
use Rattle.std.proofs.Common.{◌≡◌, ◌≢◌, ◌⊎◌, ◌∙◌, inl, inr, refl, sym, ap, Bool, true, false, ◌&&◌, not, List, None, true≢false, if◌then◌else◌}
use Rattle.campl_machine.specs.Names.{TellsApart, End, Who, same_end, same_who}
use Rattle.campl_machine.specs.Graph.{NoCycle}
use Rattle.campl_machine.proofs.Same.{same_end-is, same_end-refl, same_who-is, same_who-refl}
use Rattle.campl_machine.proofs.Shapes.{gives-up-forest}
use Rattle.campl_machine.proofs.Updates.{split}
use Rattle.campl_tree.specs.Plain.Decl.{Program}
use Rattle.campl_meaning.specs.States.{Message}
use Rattle.campl_meaning.specs.Reductions.{Configuration}
use Rattle.campl_meaning.specs.Apart.{Place, At, In, Gone, owes_pair, node_of, graph}
use Rattle.campl_meaning.specs.Lawful.{Lawful}
use Rattle.campl_meaning.proofs.Pairs.{pair-or-none}

pub ends-apart : TellsApart same_end
ends-apart = record { is = same_end-is; own = same_end-refl }

abbrev is_at : Who → Place → Bool
is_at who (At v) = same_who who v
is_at who (In z) = false
is_at who Gone = false

is-at : (who : Who) (a : Place) → is_at who a ≡ true → a ≡ At who
is-at who (At v) i = ap At (sym (same_who-is who v i))
is-at who (In z) i = absurd (cc i)
is-at who Gone i = absurd (cc i)

-- each end stays where it was, but for those of `who` that aren't kept
abbrev pub leaving : Who → (End → Bool) → (End → Place) → End → Place
leaving who kept place e = if is_at who (place e) && not (kept e) then Gone else place e

module _ (who : Who) (kept : End → Bool) (place : End → Place) (e : End) where
  -- so an end stays, or is given up
  pub sorts : ((leaving who kept place e ≡ place e) × (place e ≡ At who → kept e ≡ true)) ⊎ ((leaving who kept place e ≡ Gone) × (place e ≡ At who) × (kept e ≡ false))
  sorts = elim (split (is_at who (place e))) [
    | inl i ↦ elim (split (kept e)) [
      | inl k ↦ inl (rw (i, k) refl, λ j. k)
      | inr k ↦ inr (rw (i, k) refl, is-at who (place e) i, k)
    ]
    | inr i ↦ inl (rw i refl, λ j. absurd (true≢false (sym (same_who-refl who) ∙ (sym (ap (is_at who) j) ∙ i))))
  ]

  pub stays-put : place e ≢ At who → leaving who kept place e ≡ place e
  stays-put n = elim sorts [ inl (k, j) ↦ k | inr (k, j, h) ↦ absurd (n j) ]

  pub stays-kept : kept e ≡ true → leaving who kept place e ≡ place e
  stays-kept t = elim sorts [ inl (k, j) ↦ k | inr (k, j, h) ↦ absurd (true≢false (sym t ∙ h)) ]

  pub goes-unkept : place e ≡ At who → kept e ≡ false → leaving who kept place e ≡ Gone
  goes-unkept i t = elim sorts [ inl (k, j) ↦ absurd (true≢false (sym (j i) ∙ t)) | inr (k, j, h) ↦ k ]

  -- what is somewhere now was there
  pub was-put : (a : Place) → leaving who kept place e ≡ a → a ≢ Gone → place e ≡ a
  was-put a i n = elim sorts [ inl (k, j) ↦ sym k ∙ i | inr (k, j, h) ↦ absurd (n (sym i ∙ k)) ]

  pub was-gone : leaving who kept place e ≡ Gone → (place e ≡ Gone) ⊎ ((place e ≡ At who) × (kept e ≡ false))
  was-gone i = elim sorts [ inl (k, j) ↦ inl (sym k ∙ i) | inr (k, j, h) ↦ inr (j, h) ]

module _ (source : Program) (c : Configuration) (l : Lawful source c) where
  -- an end at a node owes no pair
  pub no-pair : (who : Who) (e : End) → l.place e ≡ At who → owes_pair (c.owed e) ≡ false
  no-pair who e at = elim (pair-or-none (c.owed e)) [
    | inl i ↦ i
    | inr h ↦ absurd (let g : l.place e ≡ Gone = (l.pairs.given_up e h.one h.other h.before h.after h.is).0 in cc (g, at))
  ]

  -- so no cycle comes where ends are given up
  pub leaving-forest : (d : Configuration) (who : Who) (kept : End → Bool) → d.partner ≡ c.partner → ((e : End) → owes_pair (d.owed e) ≡ owes_pair (c.owed e)) → NoCycle (graph d (leaving who kept l.place))
  leaving-forest d who kept partners owes = gives-up-forest same_end ends-apart (graph c l.place) (graph d (leaving who kept l.place)) (record { partners = partners; others = others }) l.apart.forest
    where
      node : (a : Place) (e : End) (ms ns : List Message) → owes_pair ms ≡ owes_pair ns → node_of a e ms ≡ node_of a e ns
      node (At v) e ms ns i = refl
      node (In z) e ms ns i = refl
      node Gone e ms ns i = rw i refl

      others : (e : End) → ((graph d (leaving who kept l.place)).at e ≡ (graph c l.place).at e) ⊎ ((graph d (leaving who kept l.place)).at e ≡ None)
      others e = elim (sorts who kept l.place e) [
        | inl (k, j) ↦ inl (ap (λ z. node_of z e (d.owed e)) k ∙ node (l.place e) e (d.owed e) (c.owed e) (owes e))
        | inr (k, j, h) ↦ inr (rw (k, owes e ∙ no-pair who e j) refl)
      ]
